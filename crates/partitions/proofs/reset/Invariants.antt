-- The words before c hold their own numbers.
use lib.ListN.{length}
use Rattle.lists.proofs.LoopLaws.{Fill}
use Rattle.partitions.proofs.reset.Given as goal

abbrev pub invariant-loop-c : goal.invariant-loop-c
invariant-loop-c l = Fill (λ i. i) l.initial.leaders 0 (length l.initial.leaders) l.leaders l.c
