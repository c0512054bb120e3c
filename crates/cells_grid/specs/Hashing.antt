-- Cells by their indexes while frames are inserted: the bucket in which the indexes of a frame fall, and the words in which those of a cell stand. Definitions only.
use Rattle.std.specs.Prelude.{◌≡◌, Bool, Option, Some, None, ℕ, zero, suc, ◌+◌, ◌-◌, ◌*◌, ◌/◌, ◌%◌, ◌<◌, ℤ, pos, negsuc, get_or}
use Rattle.std.proofs.Math.Bool.{cond}
use mathlib.Core.List.{List, [], ◌∷◌, map}
use Rattle.lists.specs.Lists.{numbers, how_many}
use Rattle.lists.specs.Words.{over}
use Rattle.lists.specs.Buckets.{last_with, mix, hash_of, bucket, Bucketed}
use Rattle.hyperparams.specs.declared.ValidParams.{ValidParams}
use Rattle.counting_tree.specs.Frames.{frames_in}
use Rattle.counting_tree.specs.Grid.{side_at, indexes}
use Rattle.counting_tree.specs.Geometry.{frame}
use Rattle.counting_tree.specs.Arrays.{placed}
use Rattle.counting_tree.specs.Ready.{geometry_at}
use Rattle.cells_grid.specs.Cells.{is_cell, cell_number}
use Rattle.cells_grid.specs.Arrangement.{cell_at}
use Rattle.blocks.specs.Blocks.{same_nats}

-- an index as a number below 2^32, counted down from 2^32 for those below 0: so that a step of one is the same step on either side of 0
unfoldable pub natural : ℤ → ℕ
natural (pos a) = a % 2147483648
natural (negsuc a) = 4294967295 - a % 2147483648

-- ---- numbers below 2^32 in words: of each the lowest 16 binary digits, then the rest
abbrev pub two_words : List ℕ → List ℕ
two_words [] = []
two_words (x ∷ xs) = x % 65536 ∷ x / 65536 ∷ two_words xs

-- the number in the two words from `at` on
abbrev pub number_at : List ℕ → ℕ → ℕ
number_at w at = get_or w at 0 + 65536 * get_or w (at + 1) 0

-- the four numbers in the eight words from `at` on
abbrev pub numbers_at : List ℕ → ℕ → List ℕ
numbers_at w at = number_at w at ∷ number_at w (at + 2) ∷ number_at w (at + 4) ∷ number_at w (at + 6) ∷ []

-- one less than a number, if it isn't 0
abbrev pub less_one : ℕ → Option ℕ
less_one zero = None
less_one (suc c) = Some c

-- ---- n frames; from 16n on the words w hold the indexes of each cell
module _ (w : List ℕ) (n : ℕ) where
  -- whether cell c has the indexes `of`
  abbrev pub has_indexes : List ℕ → ℕ → Bool
  has_indexes of c = same_nats (numbers_at w (16 * n + 8 * c)) of

  -- the bucket, of n, of cell c
  abbrev pub bucket_in : ℕ → ℕ
  bucket_in c = bucket n (hash_of (numbers_at w (16 * n + 8 * c)))

  -- which of the first k cells has the indexes `of`
  abbrev pub cell_in : ℕ → List ℕ → Option ℕ
  cell_in k of = less_one (last_with (has_indexes of) k)

module _ (v : ValidParams) (n : ℕ) (ps : List ℤ) where
  -- frame i's indexes at the base side as numbers, zeros in the channels that are not used
  unfoldable pub naturals : ℕ → List ℕ
  unfolding natural side_at indexes placed
  naturals i = map natural (placed (indexes (side_at v.channels v.tolerance 0) (frame v (frames_in n v.channels ps) i)))

  -- the bucket, of n, of frame i's indexes
  unfoldable pub frame_bucket : ℕ → ℕ
  unfolding bucket mix naturals
  frame_bucket i = bucket n (hash_of (naturals i))

  -- the bucket of a cell is that of its first frame
  abbrev pub cell_bucket : ℕ → ℕ
  cell_bucket c = frame_bucket (cell_at (geometry_at v n ps) c)

  -- k cells begin before frame i; they are in their buckets, and from 16n on the words hold the indexes of each
  pub record Begun (i k : ℕ) (w : List ℕ) : Type 0 where
    pub count : k ≡ how_many (is_cell (geometry_at v n ps)) (numbers i)
    pub chains : Bucketed cell_bucket n k (10 * n) (11 * n) w
    pub indexed : (c : ℕ) → c < k → numbers_at w (16 * n + 8 * c) ≡ naturals (cell_at (geometry_at v n ps) c)

  -- the words w with cell k, if frame i begins it, put at the head of its bucket
  unfoldable pub chained : ℕ → ℕ → Bool → List ℕ → List ℕ
  unfolding frame_bucket
  chained i k new w = cond new (over (over w (11 * n + k) (get_or w (10 * n + frame_bucket i) 0 ∷ [])) (10 * n + frame_bucket i) ((k + 1) ∷ [])) w

  -- the words w with frame i inserted, where k cells begin before it: the indexes of the cell that it begins, if it begins one, its cell's number, the cell's first frame, the bucket
  unfoldable pub inserted : ℕ → ℕ → Bool → List ℕ → List ℕ
  unfolding chained naturals
  inserted i k new w =
      chained i k new (over (over (over w (16 * n + 8 * k) (cond new (two_words (naturals i)) [])) i (cell_number (geometry_at v n ps) i ∷ [])) (n + k) (cond new (i ∷ []) []))
