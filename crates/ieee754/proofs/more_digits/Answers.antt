-- The step's laws at the numbers of the code: nothing overflows, and the corrected quotient gives the root.
use Rattle.std.proofs.Common.{arith}
use Rattle.ieee754.proofs.Step.{rest_fits, root_fits, digit_le, left_fits, square_fits, less, keep}
use Rattle.ieee754.proofs.more_digits.Goals as goal

pub overflow_mul-t-2 : goal.overflow_mul-t-2
overflow_mul-t-2 c = omega (arith, rest_fits c.requires.root c.requires.room)

pub overflow_add-t : goal.overflow_add-t
overflow_add-t c = omega (arith, rest_fits c.requires.root c.requires.room, c.requires.room)

pub overflow_mul-n : goal.overflow_mul-n
overflow_mul-n c = omega (arith, root_fits c.requires.root c.requires.room)

pub overflow_add-n : goal.overflow_add-n
overflow_add-n c = omega (arith, root_fits c.requires.root c.requires.room, digit_le c.requires.root c.requires.room)

pub overflow_mul-u : goal.overflow_mul-u
overflow_mul-u c = omega (arith, left_fits c.requires.root c.requires.room)

pub overflow_add-u : goal.overflow_add-u
overflow_add-u c = omega (arith, left_fits c.requires.root c.requires.room)

pub overflow_mul-q : goal.overflow_mul-q
overflow_mul-q c = omega (arith, square_fits c.requires.root c.requires.room)

pub overflow_sub-result : goal.overflow_sub-result
overflow_sub-result c = omega (arith, (less c.requires.root c.requires.room c.if-u-b.true).0)

pub returns-then-u-b : goal.returns-then-u-b
returns-then-u-b c = (less c.requires.root c.requires.room c.if-u-b.true).1

pub returns-else-u-b : goal.returns-else-u-b
returns-else-u-b c = keep c.requires.root c.requires.room c.if-u-b.false
