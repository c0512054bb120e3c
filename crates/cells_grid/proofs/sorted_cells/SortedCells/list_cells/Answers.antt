-- All rows, and no cell is passed.
use Prim.Native.Nat.{ℕ, ◌-◌, ◌^◌, ◌≤◌}
use mathlib.Core.Path.{◌≡◌, ap, ◌∙◌}
use native.Mathlib.Omega.{arith}
use lib.ListN.{length}
use Rattle.std.specs.Prelude.{Option}
use Rattle.lists.specs.Words.{over}
use Rattle.counting_tree.specs.declared.run.Frames.{Frames}
use Rattle.cells_grid.specs.Listing.{list_from}
use Rattle.cells_grid.specs.Passing.{left_of}
use Rattle.cells_grid.specs.declared.listing.Passed.{Passed}
use Rattle.cells_grid.proofs.CellSearch.{into_search, of_search}
use Rattle.cells_grid.proofs.Gathering.{all_rows, all_few}
use Rattle.cells_grid.proofs.sorted_cells.SortedCells.list_cells.Goals as goal

pub list_rows-requires-clause-room : goal.list_rows-requires-clause-room
list_rows-requires-clause-room c =
    let g = c.args.self.now.grid in
    into_search (λ (f : Frames) (i : ℕ) (o : Option Passed). length (list_from f.v f.n f.points.now i 0 0 (2 ^ (f.v.channels - 1) - 0)) ≤ length c.args.list.now) c.new.result c.new.ensures
    (omega (arith, all_few g.frames.ready (omega (arith, c.requires.0, g.arranged.count)) c.first_of.ensures.value, c.requires.1, g.arranged.count))

pub returns : goal.returns
returns c =
    let g = c.args.self.now.grid in
    let x = c.list_rows.result in
    let u = c.list_rows.new.list in
    let z = of_search (λ (f : Frames) (i : ℕ) (o : Option Passed). let L = left_of o (list_from f.v f.n f.points.now i 0 0 (2 ^ (f.v.channels - 1) - 0)) in (x ≡ length L) × (u ≡ over c.args.list.now 0 L)) c.new.result c.new.ensures (c.list_rows.ensures.value, c.list_rows.ensures.list) in
    let e = all_rows g.frames.ready (omega (arith, c.requires.0, g.arranged.count)) c.first_of.ensures.value in
    record { value = z.0 ∙ ap length e; list = z.1 ∙ ap (over c.args.list.now 0) e }
