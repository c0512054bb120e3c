-- The number first, then the distance, then the row.
use native.Mathlib.Omega.{arith}
use Rattle.cells_grid.proofs.CellSearch.{first_long, first_low, found_before, found_near, found_far}
use Rattle.cells_grid.proofs.listing.Search.finds.Goals as goal

pub returns-then-d-after : goal.returns-then-d-after
returns-then-d-after c = found_before c.args.self.now c.requires c.args.after c.args.r c.if-d-after.true

pub bounds-self-d : goal.bounds-self-d
bounds-self-d c = omega (arith, c.requires, first_long c.args.self.now)

pub near_cells-requires : goal.near_cells-requires
near_cells-requires c = (c.args.self.now.around.inside, first_low c.args.self.now c.requires)

pub has-requires : goal.has-requires
has-requires c = first_low c.args.self.now c.requires

pub returns-then-near_cells : goal.returns-then-near_cells
returns-then-near_cells c = found_near c.args.self.now c.requires c.args.after c.args.r (omega (arith, c.if-d-after.false)) c.near_cells.ensures c.if-near_cells.true c.has.ensures

pub returns-else-near_cells : goal.returns-else-near_cells
returns-else-near_cells c = found_far c.args.self.now c.requires c.args.after c.args.r (omega (arith, c.if-d-after.false)) c.near_cells.ensures c.if-near_cells.false
