-- A cell in whose tree a frame has a count, and what the words hold of the cells.
use mathlib.Core.Path.{◌≡◌, refl, subst}
use mathlib.Core.Logic.{inl, inr}
use mathlib.Core.List.{List}
use Prim.Native.Nat.{ℕ, zero, suc, ◌+◌, ◌-◌, ◌*◌, ◌<◌, ◌≤◌}
use native.Mathlib.Omega.{arith}
use lib.Dec.{T, T_not}
use lib.ListN.{length, get_or}
use Rattle.lists.specs.Lists.{nonzero}
use Rattle.lists.specs.ListLaws.{T_false, T_or_not}
use Rattle.counting_tree.specs.Geometry.{Geometry}
use Rattle.counting_tree.specs.Given.{geometry}
use Rattle.counting_tree.specs.Ready.{at_frames}
use Rattle.cells_grid.specs.Cells.{members, core_cell, count}
use Rattle.cells_grid.specs.Arrangement.{cell_at}
use Rattle.cells_grid.specs.Places.{end_in}
use Rattle.cells_grid.specs.Ready.{ready_lawful}
use Rattle.cells_grid.specs.declared.grid.CellsGrid.{CellsGrid}
use Rattle.cells_grid.proofs.ArrangementLaws.{cell_size}
use Rattle.core_cells.specs.declared.cells.CoreCells.{CoreCells}
use Rattle.core_cells.specs.ForestLaws.{no_tree_node}
use Rattle.core_cells.proofs.Held as Core

-- a cell with a non-zero count is a core cell
pub counted_core : (g : Geometry) (i c : ℕ) → T (nonzero (count g i (cell_at g c))) → T (core_cell g (cell_at g c))
unfolding count
counted_core g i c t = elim (T_or_not (core_cell g (cell_at g c))) [
  | inl h ↦ h
  | inr f ↦ absurd (subst (λ (l : List ℕ). T (nonzero (length l))) (no_tree_node g c (T_false (core_cell g (cell_at g c)) (T_not (core_cell g (cell_at g c)) f)) i) t)
]

-- the words on the trees of all cells lie among the words
pub trees_inside : (s : CoreCells) → 5 * s.grid.frames.n + s.grid.k ≤ length s.grid.work.now
trees_inside s = go s.grid.k (λ c h. Core.slot s h)
  where
    go : (k : ℕ) → ((c : ℕ) → c < k → 5 * s.grid.frames.n + c < length s.grid.work.now) → 5 * s.grid.frames.n + k ≤ length s.grid.work.now
    go zero f = omega (arith, Core.room s)
    go (suc k) f = omega (arith, f k (omega arith))

-- a cell has as many frames as places
pub cell_count : (s : CellsGrid) {c : ℕ} → c < s.k
    → length (members (geometry s.frames) (cell_at (geometry s.frames) c)) ≡ end_in s.work.now s.frames.n s.k c - get_or s.work.now (2 * s.frames.n + c) 0
cell_count s {c} h = omega (arith, cell_size (geometry s.frames) (ready_lawful s.frames.ready) s.arranged s.frames.n (at_frames s.frames.v s.frames.n s.frames.points.now) c h refl refl)
