-- `unite_close_cells` meets its contract: the turns that are left, from the leaders that stand now, leave what all of them leave of those at first.
use Rattle.clustering.proofs.Closing.{Turns}
use Rattle.clustering.proofs.close.unite_close_cells.Given as goal

abbrev pub invariant-loop-q : goal.invariant-loop-q
invariant-loop-q l = Turns l.cells.core.grid l.sorted l.initial.leaders l.leaders l.q
