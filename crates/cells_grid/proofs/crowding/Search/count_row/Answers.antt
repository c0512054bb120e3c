-- The two stretches of the row.
use native.Mathlib.Omega.{arith}
use Rattle.cells_grid.proofs.NeighbourSearch.{stretch_low, rest_low, row_sum}
use Rattle.cells_grid.proofs.crowding.Search.count_row.Goals as goal

pub count_stretch-more-requires : goal.count_stretch-more-requires
count_stretch-more-requires c = (c.requires.1, stretch_low c.args.self.now.around c.args.m c.row.result.0.now c.row.result.1.now c.row.ensures)

pub returns-then-more-self : goal.returns-then-more-self
returns-then-more-self c = omega (arith, c.count_stretch-more.ensures, c.if-more-self.true, row_sum c.args.self.now.around c.args.m c.row.result.0.now c.row.result.1.now c.row.ensures)

pub count_stretch-requires : goal.count_stretch-requires
count_stretch-requires c = (omega (arith, c.if-more-self.false), rest_low c.args.self.now.around c.args.m c.row.result.0.now c.row.result.1.now c.row.ensures)

pub returns : goal.returns
returns c = omega (arith, c.count_stretch.ensures, c.count_stretch-more.ensures, c.if-more-self.false, row_sum c.args.self.now.around c.args.m c.row.result.0.now c.row.result.1.now c.row.ensures)
