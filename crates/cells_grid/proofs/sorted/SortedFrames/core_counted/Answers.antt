-- A frame is core if its cell is dense, else by the count of its neighbours and itself.
use native.Mathlib.Omega.{arith}
use Rattle.cells_grid.proofs.PairLaws.{others_few}
use Rattle.cells_grid.proofs.Core.{core_dense, core_counted}
use Rattle.cells_grid.proofs.sorted.SortedFrames.core_counted.Goals as goal

pub returns-then-in_dense : goal.returns-then-in_dense
returns-then-in_dense c = core_dense _ _ c.in_dense.ensures c.if-in_dense.true

pub returns-else-in_dense : goal.returns-else-in_dense
returns-else-in_dense c = let f = c.args.self.now.grid.frames in core_counted f.ready c.args.i c.in_dense.ensures c.if-in_dense.false f.counts c.requires.0 c.requires.1

pub overflow_add-result : goal.overflow_add-result
overflow_add-result c = let f = c.args.self.now.grid.frames in omega (arith, f.ready.few, c.requires.1, others_few f.v f.n f.points.now c.args.i)
