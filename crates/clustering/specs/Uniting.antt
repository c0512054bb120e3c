-- Uniting the linked core cells by cell number: the pairs in the order in which they are tried, and the sets that the trials leave. Definitions only.
use Rattle.std.specs.Prelude.{Bool, ◌&&◌, ℕ, Some, Result, Ok, Err, length, slice_get}
use Rattle.std.proofs.Math.Bool.{cond}
use mathlib.Core.List.{List, [], ◌∷◌, map}
use Rattle.lists.specs.Lists.{numbers, keep, concat}
use Rattle.counting_tree.specs.Geometry.{Geometry}
use Rattle.cells_grid.specs.Cells.{cells, listed, core_cell}
use Rattle.cells_grid.specs.Arrangement.{cell_at}
use Rattle.partitions.specs.Trials.{Outcome, run, by_lowest}
use Rattle.clustering.specs.declared.uniting.Progress.{Progress}
use Rattle.clustering.specs.Clusters.{touches}

module _ (g : Geometry) where
  -- "A pair is a core cell and a core cell on its list, in that order."
  unfoldable pub pair_at : ℕ → ℕ → Bool
  unfolding core_cell listed cells
  pair_at c d = core_cell g (cell_at g c) && core_cell g (cell_at g d) && listed g (cell_at g c) (cell_at g d)

  -- the cells c and d, if they are a pair
  unfoldable pub one_pair : ℕ → ℕ → List (ℕ × ℕ)
  unfolding pair_at
  one_pair c d = cond (pair_at c d) ((c, d) ∷ []) []

  -- the pairs of c with the cells ds
  unfoldable pub pairs_with : ℕ → List ℕ → List (ℕ × ℕ)
  unfolding pair_at
  pairs_with c ds = map (λ d. (c, d)) (keep (pair_at c) ds)

  -- "Trials go through core cells in ascending number, and within one through its list"
  unfoldable pub pairs_of : List (ℕ × ℕ)
  unfolding pairs_with cells
  pairs_of = let all = numbers (length (cells g)) in concat (map (λ c. pairs_with c all) all)

  -- "One trial counts the first cell's core frames in the second's tree and unites the two sets if a count is non-zero."
  unfoldable pub touch_at : ℕ → ℕ → Bool
  unfolding touches cells
  touch_at c d = touches g (cell_at g c) (cell_at g d)

  -- what so many trials leave, from each cell by itself
  unfoldable pub uniting : ℕ → Outcome (ℕ → ℕ)
  unfolding run pairs_of touch_at
  uniting trials = run by_lowest touch_at trials 0 pairs_of (λ c. c)

  -- the lowest cell of each cell's set then
  unfoldable pub lowest_at : ℕ → ℕ → ℕ
  unfolding uniting
  lowest_at trials = (uniting trials).sets

-- the trials used, and the pair that still needs one, if one does
abbrev pub progress_of : {S : Type 0} → Outcome S → Progress
progress_of o = record { used = o.used; next = slice_get o.left 0 }

-- what trials tell that have used so many and left these pairs: how many they used, or, if a pair still needs one, where they ended
abbrev pub told : ℕ → List (ℕ × ℕ) → Result ℕ Progress
told used [] = Ok used
told used (p ∷ ps) = Err (record { used = used; next = Some p })

abbrev pub told_of : {S : Type 0} → Outcome S → Result ℕ Progress
told_of o = told o.used o.left
