-- The core cells end where the last bucket does.
use native.Mathlib.Omega.{arith}
use Rattle.cells_grid.proofs.SortedHeld.{core_end, core_held}
use Rattle.cells_grid.proofs.sorted_cells.SortedCells.core_cells.Goals as goal

pub slice_bounds-result-end : goal.slice_bounds-result-end
slice_bounds-result-end c = core_end c.args.self.now (omega (arith, c.saturating_sub.ensures)) c.begins.ensures

pub returns : goal.returns
returns c = core_held c.args.self.now (omega (arith, c.saturating_sub.ensures)) c.begins.ensures
