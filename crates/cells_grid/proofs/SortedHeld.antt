-- The core cells that stand sorted in slices.
use mathlib.Core.Path.{◌≡◌, sym, ap, ap₂, ◌∙◌}
use mathlib.Core.List.{List}
use Prim.Native.Nat.{ℕ, ◌-◌, ◌*◌}
use native.Mathlib.Omega.{arith}
use lib.ListN.{length, take}
use Rattle.std.proofs.Common.{length-take-le}
use Rattle.lists.specs.Sorting.{start_of, begin_in}
use Rattle.lists.proofs.SortLaws.{start_le}
use Rattle.counting_tree.specs.Given.{geometry}
use Rattle.cells_grid.specs.Cells.{cells}
use Rattle.cells_grid.specs.Listing.{cell_key, cell_ends, cell_places, sorted_core}
use Rattle.cells_grid.specs.declared.sorted_cells.SortedCells.{SortedCells}
use Rattle.cells_grid.proofs.SortedLaws.{places_length, ends_length}
use Rattle.cells_grid.proofs.SortedStretch.{begin_is}

module _ (s : SortedCells) where
  abbrev k : ℕ
  k = length (cells (geometry s.grid.frames))

  abbrev key : ℕ → ℕ
  key = cell_key s.grid.frames.v s.grid.frames.n s.grid.frames.points.now

  module _ {l x : ℕ} (e : l ≡ length s.ends.now - 1) (q : x ≡ begin_in s.ends.now 0 l) where
    end_is : x ≡ start_of key k (4 * k - 1)
    unfolding cell_ends cell_places
    end_is = q ∙ ap (begin_in s.ends.now 0) e ∙ ap₂ (λ (z : List ℕ) (m : ℕ). begin_in z 0 (m - 1)) s.ended (ap length s.ended ∙ ends_length s.grid.frames.ready) ∙ begin_is key k (4 * k) (places_length s.grid.frames.ready) (4 * k - 1) (omega arith)

    pub core_end : x ≡ length (take x s.places.now)
    core_end = sym (length-take-le x s.places.now (omega (arith, end_is, start_le key k (4 * k - 1), ap length s.placed, places_length s.grid.frames.ready)))

    pub core_held : take x s.places.now ≡ sorted_core s.grid.frames.v s.grid.frames.n s.grid.frames.points.now
    unfolding sorted_core
    core_held = ap₂ take end_is s.placed
