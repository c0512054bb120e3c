-- `copy_core` meets its contract: the loop's invariant is `Gathering`.
use Rattle.core_cells.proofs.Gathering.{Gathering}
use Rattle.core_cells.proofs.building.copy_core.Given as goal

abbrev pub invariant-loop-i : goal.invariant-loop-i
invariant-loop-i l = Gathering l.words l.n l.frames l.initial.gathered l.gathered l.m l.i-index
