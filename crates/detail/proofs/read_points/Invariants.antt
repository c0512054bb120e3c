-- No more counts are read than there is room for.
use Rattle.std.proofs.Common.{◌≡◌, ◌≤◌, length}
use Rattle.detail.proofs.read_points.Given as goal

abbrev pub invariant-loop-rest : goal.invariant-loop-rest
invariant-loop-rest l = (l.counts ≤ length l.points) × (length l.points ≡ length l.initial.points)

abbrev pub decreases-loop-rest : goal.decreases-loop-rest
decreases-loop-rest l = length l.rest
