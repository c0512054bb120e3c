-- The invariant is the sum over the buckets before b, which is at most the square of where they end.
use Prim.Native.Nat.{◌*◌}
use Rattle.cells_grid.proofs.SharedBuckets.{Shared}
use Rattle.cells_grid.proofs.pairs.sparse.Given as goal

abbrev pub invariant-loop-b : goal.invariant-loop-b
invariant-loop-b l = Shared l.sorted (2 * l.n) l.n l.sum l.b
