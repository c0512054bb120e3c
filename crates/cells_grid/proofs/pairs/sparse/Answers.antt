use mathlib.Core.Path.{ap}
use Prim.Native.Nat.{ℕ, ◌*◌}
use native.Mathlib.Omega.{arith}
use lib.Dec.{leb}
use Rattle.cells_grid.proofs.SharedBuckets.{shared_none, shared_start, shared_low, shared_fits, shared_next, shared_end}
use Rattle.cells_grid.proofs.pairs.sparse.Goals as goal

pub returns-then-n-eq0 : goal.returns-then-n-eq0
returns-then-n-eq0 c = shared_none c.args.sorted.now (2 * c.args.n) c.args.n c.if-n-eq0.true

pub loop-b-init : goal.loop-b-init
loop-b-init c = shared_start c.requires.n_bound.0 c.requires.by_index (omega (arith, c.if-n-eq0.false)) c.square-sum.ensures

pub overflow_sub-sorted : goal.overflow_sub-sorted
overflow_sub-sorted c = shared_low c.requires.n_bound.0 c.requires.by_index c.loop-b.invariant c.loop-b-test.true

pub overflow_add-sum : goal.overflow_add-sum
overflow_add-sum c = omega (arith, shared_fits c.requires.n_bound.0 c.requires.by_index c.loop-b.invariant c.loop-b-test.true c.square-sum-in-loop-b.ensures)

pub loop-b-preserved : goal.loop-b-preserved
loop-b-preserved c = shared_next c.requires.n_bound.0 c.requires.by_index c.loop-b.invariant c.loop-b-test.true c.square-sum-in-loop-b.ensures

pub returns : goal.returns
returns c = ap (λ (z : ℕ). leb z (4 * c.args.n)) (shared_end c.loop-b.invariant (omega (arith, c.loop-b-test.false)))
