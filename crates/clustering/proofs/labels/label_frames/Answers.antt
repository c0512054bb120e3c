use Rattle.std.proofs.Common.{arith, ◌∙◌}
use Rattle.lists.proofs.LoopLaws.{fill_step, fill_end}
use Rattle.lists.proofs.WordLaws.{over_all}
use Rattle.lists.specs.ListLaws.{length_numbers}
use Rattle.clustering.proofs.Clearing.{again_on}
use Rattle.clustering.proofs.labels.label_frames.Goals as goal

pub loop-i-preserved : goal.loop-i-preserved
loop-i-preserved c = (
  fill_step c.loop-i.invariant.0 c.loop-i-test.true _ _ (omega arith) (c.label.ensures ∙ c.label_frame-found.ensures.label),
  fill_step c.loop-i.invariant.1 c.loop-i-test.true _ _ (omega arith) (c.kind.ensures ∙ c.label_frame-found.ensures.kind),
  again_on c.loop-i.invariant.2 c.label_frame-found.ensures.list,
)

pub returns : goal.returns
returns c = record {
  labels = fill_end c.loop-i.invariant.0 c.loop-i-test.false ∙ over_all _ _ (length_numbers _ _ ∙ omega (arith, c.requires.sizes.0));
  kinds = fill_end c.loop-i.invariant.1 c.loop-i-test.false ∙ over_all _ _ (length_numbers _ _ ∙ omega (arith, c.requires.sizes.1));
  list = c.loop-i.invariant.2;
}
