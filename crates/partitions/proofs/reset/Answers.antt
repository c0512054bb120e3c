use mathlib.Core.Path.{refl, sym, ◌∙◌}
use native.Mathlib.Nat.{zero-add}
use native.Mathlib.Omega.{arith}
use Rattle.lists.specs.ListLaws.{length_numbers}
use Rattle.lists.proofs.WordLaws.{over_all}
use Rattle.lists.proofs.LoopLaws.{fill_step, fill_length, fill_end}
use Rattle.partitions.proofs.reset.Goals as goal

pub loop-c-preserved : goal.loop-c-preserved
loop-c-preserved c = fill_step c.loop-c.invariant (omega (arith, fill_length c.loop-c.invariant)) _ _ (sym (zero-add _)) refl

pub returns : goal.returns
returns c = fill_end c.loop-c.invariant (omega (arith, fill_length c.loop-c.invariant)) ∙ over_all _ _ (length_numbers _ _)
