-- The coordinates before c are the corner's.
use Rattle.counting_tree.proofs.Arrays.{Cornered}
use Rattle.counting_tree.proofs.boxes.corner.Given as goal

abbrev pub invariant-loop-c : goal.invariant-loop-c
invariant-loop-c l = Cornered l.initial.c-items l.e l.k l.c-items l.c-index l.bits
