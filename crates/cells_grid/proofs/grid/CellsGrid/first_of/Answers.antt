use native.Mathlib.Omega.{arith}
use Rattle.cells_grid.proofs.Held.{few, room, first_is, first_low}
use Rattle.cells_grid.proofs.grid.CellsGrid.first_of.Goals as goal

pub word-requires : goal.word-requires
word-requires c = omega (arith, c.requires, few c.args.self.now, room c.args.self.now)

pub returns : goal.returns
returns c = record { value = first_is c.args.self.now c.requires c.word.ensures; bound = first_low c.args.self.now c.requires c.word.ensures }
