-- Cells that can be united with no search: those that stand together among the sorted cells, and whose first frames are core frames nearer than t. Definitions only.
use Rattle.std.specs.Prelude.{Bool, ◌&&◌, ℕ, ◌-◌, ◌*◌, ◌/◌, ◌%◌, ℤ, get_or}
use Rattle.std.proofs.Math.Bool.{cond}
use mathlib.Core.List.{List, [], ◌∷◌, map}
use Rattle.std.proofs.Math.Dec.{ltb}
use Rattle.std.proofs.Math.ListN.{length}
use Rattle.lists.specs.Lists.{concat}
use Rattle.lists.specs.Words.{rest}
use Rattle.hyperparams.specs.declared.ValidParams.{ValidParams}
use Rattle.counting_tree.specs.Frames.{frames_in}
use Rattle.counting_tree.specs.Geometry.{Geometry, N}
use Rattle.counting_tree.specs.Ready.{geometry_at}
use Rattle.cells_grid.specs.Cells.{core}
use Rattle.cells_grid.specs.Arrangement.{cell_at}

-- with how many of those before it a sorted cell is taken. (Which pairs are taken first is free.)
abbrev pub back : ℕ
back = 8

-- the cells of turn q: each cell but the first eight, with each of the eight before it
abbrev pub later_at : List ℕ → ℕ → ℕ
later_at zs q = get_or zs (q / back) 0

abbrev pub earlier_at : List ℕ → ℕ → ℕ
earlier_at zs q = get_or zs (q / back - 1 - q % back) 0

module _ (v : ValidParams) (n : ℕ) (ps : List ℤ) where
  abbrev geo : Geometry
  geo = geometry_at v n ps

  -- whether the first frames of the cells c and d are core frames, and "nearer than t": N < t × t
  unfoldable pub close_at : ℕ → ℕ → Bool
  unfolding core
  close_at c d = ltb (N v (frames_in n v.channels ps) (cell_at geo c) (cell_at geo d)) (v.t * v.t) && (core geo (cell_at geo c) && core geo (cell_at geo d))

  -- the pair of c and d, if they are close
  unfoldable pub close_pair : ℕ → ℕ → List (ℕ × ℕ)
  unfolding close_at
  close_pair c d = cond (close_at c d) ((c, d) ∷ []) []

  -- the pairs of the turns qs
  unfoldable pub close_turns : List ℕ → List ℕ → List (ℕ × ℕ)
  unfolding close_pair
  close_turns zs qs = concat (map (λ q. close_pair (later_at zs q) (earlier_at zs q)) qs)

  -- the close pairs of the sorted cells zs
  unfoldable pub close_pairs : List ℕ → List (ℕ × ℕ)
  unfolding close_turns
  close_pairs zs = close_turns zs (rest (back * length zs) (back * back))
