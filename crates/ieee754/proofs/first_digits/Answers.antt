use Rattle.std.proofs.Common.{◌+◌, lt_of_lt_of_le, lt_of_le_of_lt, mul-le-mul, arith, lit<}
use Rattle.ieee754.proofs.first_digits.Goals as goal

pub overflow_mul-middle : goal.overflow_mul-middle
overflow_mul-middle c = record { fits = lt_of_le_of_lt (mul-le-mul {n₂ = 256} {m₂ = 256} (omega arith) (omega arith)) (lit< tt) }

pub loop-low-preserved-then-middle-n : goal.loop-low-preserved-then-middle-n
loop-low-preserved-then-middle-n c = (omega arith, omega arith, c.if-middle-n.true, c.loop-low.invariant.3)

pub loop-low-preserved : goal.loop-low-preserved
loop-low-preserved c = (omega arith, omega arith, c.loop-low.invariant.2, c.if-middle-n.false)

pub returns : goal.returns
returns c = (c.loop-low.invariant.2, lt_of_lt_of_le c.loop-low.invariant.3 (mul-le-mul {n₂ = c.loop-low.low + 1} {m₂ = c.loop-low.low + 1} (omega arith) (omega arith)))
