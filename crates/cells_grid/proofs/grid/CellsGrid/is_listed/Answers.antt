use mathlib.Core.Path.{◌∙◌}
use Rattle.cells_grid.proofs.Held.{listed_is}
use Rattle.cells_grid.proofs.grid.CellsGrid.is_listed.Goals as goal

pub returns : goal.returns
returns c = c.near_cells.ensures ∙ listed_is c.args.self.now c.requires.0 c.requires.1 c.first_of.ensures.value c.first_of-2.ensures.value
