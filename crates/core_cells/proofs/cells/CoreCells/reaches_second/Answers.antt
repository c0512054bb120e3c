use mathlib.Core.Path.{◌∙◌}
use Rattle.cells_grid.specs.Cells.{node}
use Rattle.core_cells.proofs.Reaching.{told_count}
use Rattle.core_cells.proofs.cells.CoreCells.reaches_second.Goals as goal

pub returns-in-Some : goal.returns-in-Some
unfolding node
returns-in-Some c = c.is_some.ensures ∙ told_count c.args.self.now c.requires.0 c.requires.1 (c.approximate_range_counting.ensures _ c.in-Some.ensures.tree)
