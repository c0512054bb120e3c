-- Both tests of the difference.
use mathlib.Core.Path.{refl, ap}
use mathlib.Core.Bool.{true, false}
use native.Mathlib.Omega.{arith}
use lib.Ieee.{binary64, of_int}
use mir.Facts.{to_z-of_z}
use Rattle.counting_tree.proofs.Near.{off_is}
use Rattle.counting_tree.proofs.points.off.Goals as goal

pub returns-then-d-reach : goal.returns-then-d-reach
returns-then-d-reach c = record { value = off_is c.args.reach c.args.centre _ c.args.x (ap (of_int binary64) (to_z-of_z c.ranges.x)) true _ c.if-d-reach.true refl; bound = omega arith }

pub returns-then-reach-d : goal.returns-then-reach-d
returns-then-reach-d c = record { value = off_is c.args.reach c.args.centre _ c.args.x (ap (of_int binary64) (to_z-of_z c.ranges.x)) false true c.if-d-reach.false c.if-reach-d.true; bound = omega arith }

pub returns : goal.returns
returns c = record { value = off_is c.args.reach c.args.centre _ c.args.x (ap (of_int binary64) (to_z-of_z c.ranges.x)) false false c.if-d-reach.false c.if-reach-d.false; bound = omega arith }
