-- Channel by channel.
use mathlib.Core.Path.{ap₂, ◌∙◌}
use native.Mathlib.Omega.{arith}
use lib.IntN.{pos}
use lib.ListN.{get_or, take}
use lib.Ieee.{Float, binary64, of_bits, of_int, add}
use Rattle.hyperparams.specs.Params.{float}
use Rattle.counting_tree.specs.Domain.{Count}
use Rattle.counting_tree.specs.Frames.{Frame}
use Rattle.counting_tree.specs.NearBox.{reach, near_box}
use Rattle.counting_tree.proofs.Near.{offs_more, offs_past, offs_all}
use Rattle.counting_tree.proofs.run.Frames.near_box.Goals as goal
use Rattle.counting_tree.proofs.run.Frames.near_box.Goals.{then-k-self, else-k-self}

pub loop-k-preserved : goal.loop-k-preserved
loop-k-preserved c =
    let few = c.args.self.now.ready.settings.scale.most in
    let long = c.well_formed.1.0.1.1.0.1.0.1 in
    elim c.if-k-self.branch [
      | then-k-self w ↦
          let h : Count (get_or c.frame-frame.result.now c.loop-k.k (pos 0)) = omega arith in
          rw w.far-is (offs_more c.args.place.centre few long c.frame-frame.ensures.long c.loop-k.invariant w.if-k-self.true h w.off-far.result w.off-far.ensures.value w.off-far.ensures.bound)
      | else-k-self w ↦ rw w.far-is (offs_past c.args.place.centre few long c.frame-frame.ensures.long c.loop-k.invariant w.if-k-self.false)
    ]

pub returns : goal.returns
unfolding of_bits of_int reach
returns c =
    let few = c.args.self.now.ready.settings.scale.most in
    offs_all c.args.place.centre few c.well_formed.1.0.1.1.0.1.0.1 c.frame-frame.ensures.long c.loop-k.invariant (omega arith)
    ∙ ap₂ (λ (x : Float) (xs : Frame). near_box (add binary64 x (float 1)) (take c.args.self.now.v.channels c.args.place.centre) xs) c.half_side-reach.ensures c.frame-frame.ensures.value
