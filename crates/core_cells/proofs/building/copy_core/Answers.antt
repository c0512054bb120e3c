use mathlib.Core.Path.{sym, ◌∙◌}
use native.Mathlib.Omega.{arith}
use Rattle.lists.specs.OrderLaws.{below_at}
use Rattle.core_cells.proofs.Gathering.{gathering_low, gathering_hit, gathering_miss}
use Rattle.core_cells.proofs.building.copy_core.Goals as goal
use Rattle.core_cells.proofs.building.copy_core.Goals.{then-is_core, else-is_core}

pub is_core-requires : goal.is_core-requires
is_core-requires c = (below_at c.args.n c.args.frames.now c.loop-i.i-index c.requires.0 c.loop-i-test.true, c.requires.1)

pub bounds-gathered-m : goal.bounds-gathered-m
bounds-gathered-m c = omega (arith, gathering_low c.loop-i.invariant c.requires.2 (omega (arith, c.loop-i-test.true)), c.requires.2, c.loop-i.auto.gathered, c.loop-i-test.true)

pub loop-i-preserved : goal.loop-i-preserved
loop-i-preserved c = elim c.if-is_core.branch [
  | then-is_core w ↦ rw (w.gathered-is, w.m-is) (gathering_hit c.loop-i.invariant c.requires.2 c.loop-i-test.true (sym w.if-is_core.true ∙ c.is_core.ensures))
  | else-is_core w ↦ rw (w.gathered-is, w.m-is) (gathering_miss c.loop-i.invariant c.requires.2 c.loop-i-test.true (sym w.if-is_core.false ∙ c.is_core.ensures))
]
