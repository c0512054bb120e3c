-- The lines of the frames passed are laid.
use Prim.Native.Nat.{◌-◌}
use Rattle.desk.proofs.Printing.{Laid}
use Rattle.desk.proofs.output.put_frames.Given as goal

abbrev pub invariant-loop-i : goal.invariant-loop-i
invariant-loop-i l = Laid l.kinds l.labels l.initial.output l.n l.output l.i

abbrev pub decreases-loop-i : goal.decreases-loop-i
decreases-loop-i l = l.n - l.i
