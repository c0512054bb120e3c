use native.Mathlib.Omega.{arith}
use Rattle.cells_grid.proofs.Held.{room, own_is, own_low}
use Rattle.cells_grid.proofs.grid.CellsGrid.cell_of.Goals as goal

pub word-requires : goal.word-requires
word-requires c = omega (arith, c.requires, room c.args.self.now)

pub returns : goal.returns
returns c = record { value = own_is c.args.self.now c.requires c.word.ensures; bound = own_low c.args.self.now c.requires c.word.ensures }
