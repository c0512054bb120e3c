-- A column of counts is filled.
use lib.ListN.{length}
use Rattle.lists.proofs.LoopLaws.{Fill}
use Rattle.desk.specs.Desk.{count_at}
use Rattle.desk.proofs.input.read_points.Given as goal

abbrev pub invariant-loop-i : goal.invariant-loop-i
invariant-loop-i l = Fill (count_at l.input l.d) l.initial.points 0 (length l.initial.points) l.points l.i
