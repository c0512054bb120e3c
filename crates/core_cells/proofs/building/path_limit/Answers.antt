-- `path_limit` meets its contract.
use mathlib.Core.Path.{◌≡◌}
use Prim.Native.Nat.{ℕ, ◌+◌, ◌*◌, ◌/◌, ◌<◌, ◌≤◌}
use native.Mathlib.Omega.{arith}
use borrow.Author.Tests.{le-leb, lt-leb}
use Rattle.core_cells.specs.Forest.{path_limit}
use Rattle.core_cells.proofs.building.path_limit.Goals as goal
use Rattle.core_cells.proofs.building.path_limit.Goals.{then-s-eq0-via-then-s-eq0, then-s-eq0-via-else-s-eq0+then-k-le1, then-s-eq0-via-else-s-eq0+else-k-le1+then-k-n}

one_level : (s n k : ℕ) → s ≡ 0 → 4096 ≡ path_limit (1 + s) n k
unfolding path_limit
one_level s n k e = rw (le-leb (1 + s) 1 (omega arith))

one_cell : (s n k : ℕ) → 0 < s → k ≤ 1 → 4096 ≡ path_limit (1 + s) n k
unfolding path_limit
one_cell s n k l h = rw (lt-leb (1 + s) 1 (omega arith), le-leb k 1 h)

large : (s n k : ℕ) → 0 < s → 1 < k → k ≤ n / 16 → 4096 ≡ path_limit (1 + s) n k
unfolding path_limit
large s n k l h p = rw (lt-leb (1 + s) 1 (omega arith), lt-leb k 1 h, le-leb (16 * k) n (omega arith))

more : (s n k : ℕ) → 0 < s → 1 < k → n / 16 < k → 64 ≡ path_limit (1 + s) n k
unfolding path_limit
more s n k l h p = rw (lt-leb (1 + s) 1 (omega arith), lt-leb k 1 h, lt-leb (16 * k) n (omega arith))

pub returns-then-s-eq0 : goal.returns-then-s-eq0
returns-then-s-eq0 c = elim c.then-s-eq0.branch [
  | then-s-eq0-via-then-s-eq0 w ↦ one_level _ _ _ w.if-s-eq0.true
  | then-s-eq0-via-else-s-eq0+then-k-le1 w ↦ one_cell _ _ _ (omega (arith, w.if-s-eq0.false)) w.if-k-le1.true
  | then-s-eq0-via-else-s-eq0+else-k-le1+then-k-n w ↦ large _ _ _ (omega (arith, w.if-s-eq0.false)) (omega (arith, w.if-k-le1.false)) w.if-k-n.true
]

pub returns : goal.returns
returns c = more _ _ _ (omega (arith, c.if-s-eq0.false)) (omega (arith, c.if-k-le1.false)) (omega (arith, c.if-k-n.false))
