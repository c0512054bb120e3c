-- Channel by channel, from 0.0 on.
use mathlib.Core.Path.{refl, ◌∙◌}
use native.Mathlib.Omega.{arith}
use lib.Ieee.{of_bits, of_int}
use Rattle.counting_tree.proofs.Arrays.{sum_step, sum_past, sum_done}
use Rattle.counting_tree.proofs.boxes.square_sum.Goals as goal
use Rattle.counting_tree.proofs.boxes.square_sum.Goals.{then-k-channels, else-k-channels}

pub loop-k-init : goal.loop-k-init
unfolding of_bits of_int
loop-k-init c = refl

pub loop-k-preserved : goal.loop-k-preserved
loop-k-preserved c = elim c.if-k-channels.branch [
  | then-k-channels w ↦ rw w.sum-is (sum_step c.args.channels c.args.q c.args.p c.requires c.well_formed.0.1.0.1 c.well_formed.1.0.1.0.1 c.loop-k.sum c.loop-k.k w.if-k-channels.true) ∙ c.loop-k.invariant
  | else-k-channels w ↦ rw w.sum-is (sum_past c.args.channels c.args.q c.args.p c.requires c.well_formed.0.1.0.1 c.well_formed.1.0.1.0.1 c.loop-k.sum c.loop-k.k w.if-k-channels.false) ∙ c.loop-k.invariant
]

pub returns : goal.returns
returns c = sum_done c.args.channels c.args.q c.args.p c.requires c.well_formed.0.1.0.1 c.well_formed.1.0.1.0.1 c.loop-k.sum c.loop-k.k (omega arith) ∙ c.loop-k.invariant
