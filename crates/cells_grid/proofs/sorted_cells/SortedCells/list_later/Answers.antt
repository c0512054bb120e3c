-- The rows from the own one on.
use Prim.Native.Nat.{ℕ, ◌+◌, ◌-◌, ◌^◌, ◌≤◌}
use mathlib.Core.Path.{◌≡◌, ap, ◌∙◌}
use native.Mathlib.Omega.{arith}
use lib.ListN.{length}
use Rattle.std.specs.Prelude.{Option}
use Rattle.lists.specs.Words.{over}
use Rattle.counting_tree.specs.declared.run.Frames.{Frames}
use Rattle.blocks.specs.Blocks.{own_row}
use Rattle.cells_grid.specs.Listing.{reach_of, unmarked, list_from}
use Rattle.cells_grid.specs.Passing.{left_of}
use Rattle.cells_grid.specs.declared.listing.Passed.{Passed}
use Rattle.cells_grid.proofs.CellSearch.{own_is, into_search, of_search}
use Rattle.cells_grid.proofs.Gathering.{later_rows, later_few}
use Rattle.cells_grid.proofs.sorted_cells.SortedCells.list_later.Goals as goal

pub list_rows-requires-clause-room : goal.list_rows-requires-clause-room
list_rows-requires-clause-room c =
    let g = c.args.self.now.grid in
    let s = c.new-search.result in
    let start = c.own_row.result in
    let own = of_search (λ (f : Frames) (i : ℕ) (o : Option Passed). start ≡ own_row (reach_of f.v) f.v f.n f.points.now i) s c.new-search.ensures (own_is s c.own_row.ensures.value) in
    into_search (λ (f : Frames) (i : ℕ) (o : Option Passed). length (list_from f.v f.n f.points.now i (c.args.c + 1) start (2 ^ (f.v.channels - 1) - start)) ≤ length c.args.list.now) s c.new-search.ensures
    (omega (arith, later_few g.frames.ready (omega (arith, c.requires.cell.0, g.arranged.count)) c.first_of.ensures.value own, c.requires.cell.1, g.arranged.count))

pub returns : goal.returns
returns c =
    let g = c.args.self.now.grid in
    let s = c.new-search.result in
    let start = c.own_row.result in
    let x = c.list_rows.result in
    let u = c.list_rows.new.list in
    let own = of_search (λ (f : Frames) (i : ℕ) (o : Option Passed). start ≡ own_row (reach_of f.v) f.v f.n f.points.now i) s c.new-search.ensures (own_is s c.own_row.ensures.value) in
    let z = of_search (λ (f : Frames) (i : ℕ) (o : Option Passed). let L = left_of o (list_from f.v f.n f.points.now i (c.args.c + 1) start (2 ^ (f.v.channels - 1) - start)) in (x ≡ length L) × (u ≡ over c.args.list.now 0 L)) s c.new-search.ensures (c.list_rows.ensures.value, c.list_rows.ensures.list) in
    let e = ap (unmarked c.args.marks.now c.args.mark) (later_rows g.frames.ready (omega (arith, c.requires.cell.0, g.arranged.count)) c.first_of.ensures.value own) in
    record { value = z.0 ∙ ap length e; list = z.1 ∙ ap (over c.args.list.now 0) e }
