-- `find`: the cell number falls.
use Rattle.partitions.proofs.+find.Given as goal

abbrev pub decreases-find : goal.decreases-find
decreases-find l = l.c
