-- Where marked cells are given, each cell has a mark, and each place a run.
use mathlib.Core.Path.{subst}
use native.Mathlib.Omega.{arith}
use Rattle.cells_grid.specs.Passing.{Passes}
use Rattle.cells_grid.proofs.CellSearch.{most, place_low}
use Rattle.cells_grid.proofs.listing.Search.passed_at.Goals as goal

pub offset_bounds-passed-d : goal.offset_bounds-passed-d
offset_bounds-passed-d c = omega (arith, c.requires.1, place_low c.args.self.now c.args.p c.requires.0, most c.args.self.now)

pub bounds-passed-d : goal.bounds-passed-d
bounds-passed-d c =
    let P = subst (Passes c.args.self.now.places.now) c.in-Some.is c.args.self.now.runs in
    omega (arith, P.0, c.requires.1, place_low c.args.self.now c.args.p c.requires.0)
