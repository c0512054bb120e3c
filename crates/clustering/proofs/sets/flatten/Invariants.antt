-- `flatten` meets its contract: the words before c hold roots.
use lib.ListN.{length}
use Rattle.lists.proofs.LoopLaws.{Fill}
use Rattle.partitions.specs.Leaders.{root}
use Rattle.clustering.proofs.sets.flatten.Given as goal

abbrev pub invariant-loop-c : goal.invariant-loop-c
invariant-loop-c l = Fill (root l.initial.leaders) l.initial.leaders 0 (length l.initial.leaders) l.leaders l.c
