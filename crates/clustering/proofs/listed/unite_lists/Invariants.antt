-- `unite_lists` meets its contract: the leaders stand for the sets that the pairs of the cells below `from` leave.
use Prim.Native.Nat.{◌-◌}
use Rattle.clustering.specs.Regions.{ClearAgain}
use Rattle.clustering.proofs.Stages.{Stages}
use Rattle.clustering.proofs.listed.unite_lists.Given as goal

abbrev pub invariant-loop-from : goal.invariant-loop-from
invariant-loop-from l = record {
  stages : Stages l.cells.core.grid l.initial.leaders l.leaders l.from;
  list : ClearAgain l.initial.list l.list;
}

abbrev pub decreases-loop-from : goal.decreases-loop-from
decreases-loop-from l = l.k - l.from
