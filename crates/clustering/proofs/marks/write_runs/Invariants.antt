-- `write_runs` meets its contract: the runs from place p on are written.
use Rattle.clustering.proofs.Marking.{Writing, marks}
use Rattle.clustering.proofs.marks.write_runs.Given as goal

abbrev pub invariant-loop-p : goal.invariant-loop-p
invariant-loop-p l = Writing (marks l.marks l.cells) l.initial.runs l.runs l.p l.mark l.run
