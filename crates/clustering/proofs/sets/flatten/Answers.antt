use mathlib.Core.Path.{refl, ◌∙◌}
use native.Mathlib.Omega.{arith}
use Rattle.lists.specs.ListLaws.{length_numbers}
use Rattle.lists.proofs.WordLaws.{over_all}
use Rattle.lists.proofs.LoopLaws.{fill_length, fill_end}
use Rattle.clustering.proofs.Flat.{leader_low, flat_step}
use Rattle.clustering.proofs.sets.flatten.Goals as goal

pub bounds-leaders-leaders : goal.bounds-leaders-leaders
bounds-leaders-leaders c = omega (arith, leader_low c.requires c.loop-c.invariant)

pub loop-c-preserved : goal.loop-c-preserved
loop-c-preserved c = flat_step c.requires c.loop-c.invariant (omega (arith, fill_length c.loop-c.invariant)) _ refl

pub returns : goal.returns
returns c = fill_end c.loop-c.invariant (omega (arith, fill_length c.loop-c.invariant)) ∙ over_all _ _ (length_numbers _ _)
