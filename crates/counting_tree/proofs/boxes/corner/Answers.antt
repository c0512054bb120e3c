-- Coordinate by coordinate, as the bits of the corner's number say.
use mathlib.Core.Bool.{true, false}
use native.Mathlib.Omega.{arith}
use borrow.Author.Tests.{eq-eqb, ne_eqb}
use lib.ListN.{take}
use Rattle.counting_tree.proofs.Arrays.{corner_step, corner_done}
use Rattle.counting_tree.proofs.boxes.corner.Goals as goal
use Rattle.counting_tree.proofs.boxes.corner.Goals.{then-bits-eq0, else-bits-eq0}

pub loop-c-preserved : goal.loop-c-preserved
loop-c-preserved c =
    let step = corner_step (take c.args.channels c.args.centre) c.args.e c.args.k c.loop-c.c-items c.loop-c.c-index c.loop-c.bits (omega arith) c.loop-c.invariant in
    elim c.if-bits-eq0.branch [ then-bits-eq0 w ↦ rw w.c-is (step true (eq-eqb _ _ w.if-bits-eq0.true)) | else-bits-eq0 w ↦ rw w.c-is (step false (ne_eqb _ _ w.if-bits-eq0.false)) ]

pub returns : goal.returns
returns c = corner_done c.args.channels c.args.centre c.args.e c.args.k c.loop-c.c-items c.loop-c.c-index c.loop-c.bits c.loop-c.auto.c-items (omega arith) (omega arith) c.loop-c.invariant
