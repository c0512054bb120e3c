-- Neighbours counted pair by pair: of two neighbours one finds the other in a row after its own, or in its own row as a later frame, and both counts rise. Definitions only.
use Rattle.std.specs.Prelude.{◌≡◌, Bool, not, ◌&&◌, cond, List, ◌++◌, map, ℕ, ◌+◌, ◌-◌, ◌*◌, ◌^◌, ◌<◌, ◌≤◌, ℤ, eqb, length, get_or, drop}
use Rattle.std.proofs.Math.Dec.{leb}
use Rattle.std.proofs.Math.ListN.{replicate}
use Rattle.lists.specs.Lists.{numbers, how_many, total, concat, Below}
use Rattle.lists.specs.Words.{column, rest}
use Rattle.lists.specs.Sorting.{begin_in}
use Rattle.hyperparams.specs.declared.ValidParams.{ValidParams}
use Rattle.counting_tree.specs.Ready.{geometry_at}
use Rattle.blocks.specs.Blocks.{same_nats, frame_at, row_of, row_around, found_in}
use Rattle.blocks.specs.BlockLaws.{which}
use Rattle.cells_grid.specs.Cells.{neighbour}
use Rattle.cells_grid.specs.Crowding.{itself, every}

-- n words, with as much added to each as its number stands among js
unfoldable pub raised : ℕ → List ℕ → List ℕ → List ℕ
raised n w js = column (λ x. get_or w x 0 + how_many (λ j. eqb x j) js) n

-- these are n words, and what they become fits a word
pub record Room (n : ℕ) (w : List ℕ) (js : List ℕ) : Type 0 where
  pub many : length w ≡ n
  pub below : Below n js
  pub small : (x : ℕ) → x < n → get_or w x 0 + how_many (λ j. eqb x j) js ≤ 65535

-- how many numbers have key b, by the words that say where those of each key end
unfoldable pub size_in : List ℕ → ℕ → ℕ → ℕ
unfolding begin_in
size_in w ends b = get_or w (ends + b) 0 - begin_in w ends b

-- the sum of the squares of these for the keys below `size`
unfoldable pub squares_in : List ℕ → ℕ → ℕ → ℕ
unfolding size_in
squares_in w ends size = total (λ b. size_in w ends b * size_in w ends b) (numbers size)

module _ (v : ValidParams) (n : ℕ) (ps : List ℤ) where
  -- the row around frame i in which frame j lies, if it lies within the tolerance
  abbrev pub row_for : ℕ → ℕ → ℕ
  row_for i j = which v.t (drop 1 (frame_at v.t v n ps i)) (drop 1 (frame_at v.t v n ps j))

  -- from which frame on frame i looks at row m: in its own row the frames after it count, in other rows all
  abbrev pub low_in : ℕ → ℕ → ℕ
  low_in i m = cond (eqb m (row_for i i)) (i + 1) 0

  -- whether frame j comes from `low` on, and is a neighbour of frame i in row m of those around it
  abbrev pub later_in : (i low m j : ℕ) → Bool
  later_in i low m j = same_nats (row_of v.t v n ps j) (row_around v.t v n ps i m) && (leb low j && neighbour (geometry_at v n ps) i j)

  -- those found in row m
  unfoldable pub later_row : (i low m : ℕ) → List ℕ
  unfolding found_in
  later_row i low m = found_in v.t v n ps (8 * n - 1) itself every n i (λ j. leb low j && neighbour (geometry_at v n ps) i j) m

  -- those found from frame i's own row on, row by row
  unfoldable pub later_of : ℕ → List ℕ
  unfolding later_row
  later_of i = concat (map (λ m. later_row i (low_in i m) m) (rest (2 ^ (v.channels - 1)) (row_for i i)))

  -- whose counts rise by frame i's search: each of these by 1, and frame i's by as many as there are
  unfoldable pub risen : ℕ → List ℕ
  unfolding later_of
  risen i = later_of i ++ replicate (length (later_of i)) i

  -- how many neighbours frame i has besides itself
  unfoldable pub others : ℕ → ℕ
  others i = how_many (λ j. neighbour (geometry_at v n ps) i j && not (eqb i j)) (numbers n)
