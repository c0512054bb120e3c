-- The words before the ith are copied.
use Prim.Native.Nat.{◌+◌}
use lib.ListN.{get_or}
use Rattle.lists.proofs.LoopLaws.{Fill}
use Rattle.lists.proofs.copy_words.Given as goal

abbrev pub invariant-loop-i : goal.invariant-loop-i
invariant-loop-i l = Fill (λ j. get_or l.initial.work (l.from + j) 0) l.initial.work l.to l.m l.work l.i
