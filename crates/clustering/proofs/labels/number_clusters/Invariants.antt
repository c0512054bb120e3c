-- `number_clusters` meets its contract: the words of the cells before c hold the numbers of their clusters.
use lib.ListN.{length}
use Rattle.clustering.proofs.Numbered.{core_in, Numbered}
use Rattle.clustering.proofs.labels.number_clusters.Given as goal

abbrev pub invariant-loop-c : goal.invariant-loop-c
invariant-loop-c l = Numbered (core_in l.trees) l.leaders l.initial.cluster_of (length l.trees) l.cluster_of l.m l.c
