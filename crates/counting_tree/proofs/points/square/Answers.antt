-- The difference and its square, in 64 bits.
use native.Mathlib.Omega.{arith}
use Rattle.counting_tree.proofs.Counts.{squared_of}
use Rattle.counting_tree.proofs.points.square.Goals as goal

pub overflow_cast-result : goal.overflow_cast-result
overflow_cast-result c =
    let q = squared_of c.args.a c.args.b c.ranges.a c.ranges.b in
    (q.natural, record { fits = omega (arith, q.small) })

pub returns : goal.returns
returns c =
    let q = squared_of c.args.a c.args.b c.ranges.a c.ranges.b in
    record { value = q.value; bound = q.small }
