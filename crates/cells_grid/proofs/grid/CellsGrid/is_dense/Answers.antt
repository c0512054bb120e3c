use Rattle.cells_grid.proofs.Held.{dense_is}
use Rattle.cells_grid.proofs.grid.CellsGrid.is_dense.Goals as goal

pub returns : goal.returns
returns c = dense_is c.args.self.now c.args.c c.frames_of.ensures
