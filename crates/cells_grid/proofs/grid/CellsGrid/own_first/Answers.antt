use Rattle.cells_grid.proofs.Held.{own_first_is}
use Rattle.cells_grid.proofs.grid.CellsGrid.own_first.Goals as goal

pub returns-clause-value : goal.returns-clause-value
returns-clause-value c = own_first_is c.args.self.now c.requires c.cell_of.ensures.value c.first_of.ensures.value
