-- The words before the ith are copied.
use lib.ListN.{length, get_or}
use Rattle.lists.proofs.LoopLaws.{Fill}
use Rattle.lists.proofs.copy.Given as goal

abbrev pub invariant-loop-i : goal.invariant-loop-i
invariant-loop-i l = Fill (λ j. get_or l.from j 0) l.initial.words 0 (length l.from) l.words l.i
