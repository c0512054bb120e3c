-- The core frames of a cell in the tree of another.
use mathlib.Core.Path.{◌≡◌, sym, ap, subst, ◌∙◌}
use mathlib.Core.Bool.{Bool, false}
use mathlib.Core.List.{List}
use Prim.Native.Nat.{ℕ}
use lib.Dec.{T}
use Rattle.lists.specs.Lists.{keep, any, In, nonzero}
use Rattle.lists.specs.ListLaws.{any_none}
use Rattle.counting_tree.specs.Geometry.{Geometry}
use Rattle.cells_grid.specs.Cells.{members, core, core_members, count}
use Rattle.cells_grid.specs.Arrangement.{cell_at}
use Rattle.clustering.specs.Clusters.{touches}

-- frame i has a non-zero count in the tree of cell d
abbrev pub hits : Geometry → ℕ → ℕ → Bool
hits g d i = nonzero (count g i (cell_at g d))

module _ (g : Geometry) (c d : ℕ) where
  -- cell c, of the frames xs, touches d exactly if a core frame among them has a count
  pub touch_all : {xs : List ℕ} → xs ≡ members g (cell_at g c) → {b : Bool} → b ≡ any (hits g d) (keep (core g) xs) → b ≡ touches g (cell_at g c) (cell_at g d)
  unfolding touches core_members
  touch_all ex e = e ∙ ap (λ (ys : List ℕ). any (hits g d) (keep (core g) ys)) ex

  -- no core frame of c has a count
  pub touch_none : ((i : ℕ) → In i (core_members g (cell_at g c)) → false ≡ hits g d i) → false ≡ touches g (cell_at g c) (cell_at g d)
  unfolding touches
  touch_none h = sym (any_none (hits g d) (core_members g (cell_at g c)) (λ i j t. subst T (sym (h i j)) t))
