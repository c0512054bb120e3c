use Rattle.cells_grid.proofs.RowsAround.{own_is}
use Rattle.cells_grid.proofs.around.Around.own_row.Goals as goal

pub returns-clause-value : goal.returns-clause-value
returns-clause-value c = own_is c.args.self.now c.width-width.ensures c.own_row.ensures.value
