-- The row's number without its lowest bits.
use Prim.Native.Nat.{◌≤◌}
use Rattle.std.proofs.Common.{◌≡◌}
use Rattle.blocks.proofs.Edges.{own_from}
use Rattle.blocks.proofs.own_row.Given as goal

abbrev pub invariant-loop-k : goal.invariant-loop-k
invariant-loop-k l = (1 ≤ l.k) × (l.row ≡ own_from l.width l.fn.first l.frame l.k)
