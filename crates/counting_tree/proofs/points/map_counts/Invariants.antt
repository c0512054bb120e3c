-- What f gives of the counts below k.
use Prim.Native.Nat.{◌-◌}
use lib.ListN.{length}
use Rattle.counting_tree.specs.Arrays.{Placed}
use Rattle.counting_tree.proofs.points.map_counts.Given as goal

abbrev pub invariant-loop-k : goal.invariant-loop-k
invariant-loop-k g l = Placed (goal.F-post g l.f) l.frame l.fn.rest l.row (l.k - (l.k - length l.frame))
