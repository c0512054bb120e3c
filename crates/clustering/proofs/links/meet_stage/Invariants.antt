-- `meet_stage` meets its contract: the pairs of the cells from c on, met from the leaders that stand now, leave what all of them leave of those at first.
use mathlib.Core.Path.{◌≡◌}
use Rattle.clustering.specs.Regions.{ClearAgain}
use Rattle.clustering.proofs.ByLists.{Rows}
use Rattle.clustering.proofs.links.meet_stage.Given as goal

abbrev pub invariant-loop-c : goal.invariant-loop-c
invariant-loop-c g l = record {
  rows : Rows l.cells.core.grid (g.L.Links.linked l.links) l.marks l.fn.stage.start l.fn.stage.end l.c-iterator.start l.initial.leaders l.leaders;
  end : l.c-iterator.end ≡ l.fn.stage.end;
  list : ClearAgain l.initial.list l.list;
}
