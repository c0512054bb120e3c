-- A frame is core if its cell is dense, else if its listed cells are crowded.
use Rattle.cells_grid.proofs.Core.{core_dense, core_sparse}
use Rattle.cells_grid.proofs.sorted.SortedFrames.core_frame.Goals as goal

pub returns-then-in_dense : goal.returns-then-in_dense
returns-then-in_dense c = core_dense _ _ c.in_dense.ensures c.if-in_dense.true

pub returns-else-in_dense : goal.returns-else-in_dense
returns-else-in_dense c = core_sparse c.args.self.now.grid.frames.ready c.args.i c.in_dense.ensures c.if-in_dense.false c.is_crowded.ensures
