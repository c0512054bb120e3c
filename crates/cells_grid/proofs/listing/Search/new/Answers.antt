-- The facts of the cells that are searched.
use mathlib.Core.Path.{sym, ap, ◌∙◌}
use native.Mathlib.Omega.{arith}
use lib.ListN.{length}
use Rattle.counting_tree.specs.declared.run.Frames.{Frames}
use Rattle.counting_tree.specs.Given.{geometry}
use Rattle.cells_grid.specs.Cells.{cells}
use Rattle.cells_grid.specs.Listing.{reach_of, cell_ends, cell_places}
use Rattle.cells_grid.proofs.Held.{few, room}
use Rattle.cells_grid.proofs.CellSearch.{firsts_of}
use Rattle.cells_grid.proofs.SortedLaws.{places_length}
use Rattle.cells_grid.proofs.listing.Search.new.Goals as goal

pub invariant_of-result : goal.invariant_of-result
invariant_of-result c =
    let s = c.args.cells.now in
    let z = c.new-around.ensures in
    record {
      reach_is = z.2 ∙ c.reach.ensures ∙ ap (λ (f : Frames). reach_of f.v) (sym z.0);
      firsts_are = firsts_of s.grid ∙ ap (λ (f : Frames). cells (geometry f)) (sym z.0);
      ended = s.ended ∙ ap (λ (f : Frames). cell_ends f.v f.n f.points.now) (sym z.0);
      placed = s.placed ∙ ap (λ (f : Frames). cell_places f.v f.n f.points.now) (sym z.0);
      some = omega (arith, c.requires.1, ap length s.placed, places_length s.grid.frames.ready, s.grid.arranged.count);
      runs = c.requires.2;
    }

pub slice_bounds-result-end : goal.slice_bounds-result-end
slice_bounds-result-end c = omega (arith, few c.args.cells.now.grid, room c.args.cells.now.grid)
