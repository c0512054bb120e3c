-- The row is that of the edges.
use native.Mathlib.Omega.{arith}
use Rattle.cells_grid.proofs.RowsAround.{multiple, row_is}
use Rattle.cells_grid.proofs.around.Around.has.Goals as goal

pub in_row-requires : goal.in_row-requires
in_row-requires c = (c.requires, omega (arith, c.width-width.ensures), omega (arith, c.width-width.ensures, c.args.self.now.few), c.args.self.now.small, λ q h. multiple c.args.self.now c.width-width.ensures q)

pub returns : goal.returns
returns c = row_is c.args.self.now c.width-width.ensures c.args.m c.args.j c.in_row.ensures
