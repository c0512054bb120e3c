-- The kinds so far stand first.
use Rattle.std.proofs.Common.{◌≡◌, ◌*◌}
use Rattle.lists.specs.Words.{over, part}
use Rattle.appx_dbscan.proofs.copy_kinds.Given as goal

abbrev pub invariant-loop-i : goal.invariant-loop-i
invariant-loop-i l = l.kinds ≡ over l.initial.kinds 0 (part l.work (9 * l.n) l.i)
