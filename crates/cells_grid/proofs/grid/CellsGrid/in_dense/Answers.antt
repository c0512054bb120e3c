use mathlib.Core.Path.{◌∙◌}
use native.Mathlib.Omega.{arith}
use borrow.Author.Tests.{tests}
use Rattle.cells_grid.proofs.Held.{dense_own}
use Rattle.cells_grid.proofs.grid.CellsGrid.in_dense.Goals as goal

pub returns : goal.returns
returns c = let e = c.is_dense.ensures ∙ dense_own c.args.self.now c.requires c.cell_of.ensures.value in grind (arith, tests)
