-- The stretch of the row, and its rest.
use native.Mathlib.Omega.{arith}
use Rattle.cells_grid.proofs.CellSearch.{ends_long, most, long, row_high, row_is}
use Rattle.cells_grid.proofs.Searching.{in_two, first_room, second_room, both_listed}
use Rattle.cells_grid.proofs.listing.Search.list_row.Goals as goal

pub overflow_sub-self : goal.overflow_sub-self
overflow_sub-self c = let s = c.args.self.now in omega (arith, s.some, long s, ends_long s)

pub stretch-s-requires : goal.stretch-s-requires
stretch-s-requires c = let s = c.args.self.now in (c.requires.row, omega (arith, s.some, long s, ends_long s), omega (arith, long s, ends_long s, most s), omega (arith, s.some, long s, ends_long s))

pub list_stretch-more-requires : goal.list_stretch-more-requires
list_stretch-more-requires c =
    let s = c.args.self.now in
    ((row_high s c.args.after c.args.r c.stretch-s.ensures).0, first_room (in_two s.passed (row_is s c.args.after c.args.r c.stretch-s.ensures) c.requires.room))

pub list_stretch-requires : goal.list_stretch-requires
list_stretch-requires c =
    let s = c.args.self.now in
    ((row_high s c.args.after c.args.r c.stretch-s.ensures).1, second_room (in_two s.passed (row_is s c.args.after c.args.r c.stretch-s.ensures) c.requires.room) c.list_stretch-more.ensures.value c.list_stretch-more.ensures.list)

pub returns : goal.returns
returns c =
    let s = c.args.self.now in
    let z = both_listed (in_two s.passed (row_is s c.args.after c.args.r c.stretch-s.ensures) c.requires.room) c.list_stretch-more.ensures.value c.list_stretch-more.ensures.list c.list_stretch.ensures.value c.list_stretch.ensures.list in
    record { value = z.0; list = z.1 }
