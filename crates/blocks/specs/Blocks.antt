-- Blocks of counts, the rows around a frame, and numbers sorted by the blocks of their frames. Definitions only.
-- A block begins at a multiple of its width in each channel. Counts at most `reach` from a count lie in one of two blocks of the width 2 × reach + 1.
-- Blocks that differ in channel 0 alone are a row: so 2^(channels − 1) rows are around a frame, and two blocks of each.
use Rattle.std.specs.Prelude.{Bool, true, false, ◌&&◌, List, [], ◌∷◌, ◌++◌, map, ℕ, suc, ◌+◌, ◌-◌, ◌*◌, ◌/◌, ◌%◌, ◌^◌, ℤ, pos, negsuc, leb, ltb, eqb, get_or, drop}
use Rattle.std.proofs.Math.Bool.{cond}
use Rattle.lists.specs.Lists.{keep, concat}
use Rattle.lists.specs.Words.{over, column}
use Rattle.lists.specs.Buckets.{hashes, bucket}
use Rattle.lists.specs.Sorting.{numbered, start_of, places_of, begin_in}
use Rattle.hyperparams.specs.declared.ValidParams.{ValidParams}
use Rattle.counting_tree.specs.Frames.{Frame, frames_in}
use Rattle.counting_tree.specs.Geometry.{frame}
use Rattle.blocks.specs.declared.Stretch.{Stretch}

-- a count + 2^15; 0 for what is below the signed 16-bit numbers
abbrev pub raise : ℤ → ℕ
raise (pos n) = n + 32768
raise (negsuc n) = 32768 - suc n

-- how wide the blocks are
abbrev pub width : ℕ → ℕ
width reach = 2 * reach + 1

-- where the block of width w begins that holds x
abbrev pub edge : ℕ → ℕ → ℕ
edge w x = x - x % w

-- where the blocks of width w begin that hold the raised counts of a frame less `down`
abbrev pub edges_of : ℕ → ℕ → Frame → List ℕ
edges_of w down f = map (λ c. edge w (raise c - down)) f

-- where the blocks begin that hold the raised counts of a frame
abbrev pub key_of : ℕ → Frame → List ℕ
key_of w f = map (λ c. edge w (raise c)) f

-- the edges es or, in the places whose bit of m is set, w later; the first has the lowest bit
abbrev pub shifted : ℕ → List ℕ → ℕ → List ℕ
shifted w [] m = []
shifted w (e ∷ es) m = (e + w * (m % 2)) ∷ shifted w es (m / 2)

-- 1 if a count lies in the second of two blocks of width w, the first of which begins at e, else 0
abbrev pub second : ℕ → ℕ → ℤ → ℕ
second w e c = cond (leb (e + w) (raise c)) 1 0

-- of the blocks that begin at es or w later, the number of the one that holds a frame
abbrev pub own_block : ℕ → List ℕ → Frame → ℕ
own_block w [] f = 0
own_block w (e ∷ es) [] = 0
own_block w (e ∷ es) (c ∷ f) = second w e c + 2 * own_block w es f

-- whether two lists of edges are the same
abbrev pub same_nats : List ℕ → List ℕ → Bool
same_nats [] [] = true
same_nats [] (y ∷ ys) = false
same_nats (x ∷ xs) [] = false
same_nats (x ∷ xs) (y ∷ ys) = eqb x y && same_nats xs ys

-- a number below 2^32, by the square of x and then after Fibonacci hashing: a hash that is a linear form in the edges would send the blocks of a grid to few buckets
unfoldable pub spread : ℕ → ℕ
spread x = x * x % hashes * 1640531527 / 65536 % hashes

-- the hash of a row: of its edges in the channels from 1 on, 0 for a channel that is not used
unfoldable pub row_hash : List ℕ → ℕ
unfolding spread
row_hash es = spread (get_or es 0 0 + 1) + spread (get_or es 1 0 + 65537) + spread (get_or es 2 0 + 131073)

-- of `size` buckets that of block a in a row with the hash h: the next block of the row has the next bucket
unfoldable pub bucket_at : ℕ → ℕ → ℕ → ℕ
unfolding bucket
bucket_at size h a = (bucket size (h % hashes) + a) % size

-- the bucket of a frame's block
unfoldable pub bucket_of : ℕ → ℕ → Frame → ℕ
unfolding bucket_at row_hash
bucket_of w size f = bucket_at size (row_hash (key_of w (drop 1 f))) (raise (get_or f 0 (pos 0)) / w)

-- where the numbers of bucket b and of the next one stand, by the words that say where those of each bucket end
unfoldable pub stretch_in : List ℕ → ℕ → ℕ → ℕ → Stretch
unfolding begin_in
stretch_in w ends b size = cond (ltb (b + 1) size)
    record { «from» = begin_in w ends b; to = begin_in w ends (b + 1 + 1); rest = 0 }
    record { «from» = begin_in w ends b; to = begin_in w ends (b + 1); rest = begin_in w ends 1 }

-- the words w with m numbers sorted by keys below `size`: from `ends` where those of each key end, from 14n the numbers
unfoldable pub sorted_by : (ℕ → ℕ) → (m size ends n : ℕ) → List ℕ → List ℕ
unfolding start_of places_of
sorted_by key m size ends n w = over (over w (14 * n) (places_of key m size)) ends (column (λ b. start_of key m (b + 1)) size)

-- n frames of the points
module _ (reach : ℕ) (v : ValidParams) (n : ℕ) (ps : List ℤ) where
  -- frame i
  abbrev pub frame_at : ℕ → Frame
  frame_at i = frame v (frames_in n v.channels ps) i

  -- the row of frame i: where its blocks begin in the channels from 1 on
  abbrev pub row_of : ℕ → List ℕ
  row_of i = key_of (width reach) (drop 1 (frame_at i))

  -- row r of those around frame i
  abbrev pub row_around : ℕ → ℕ → List ℕ
  row_around i r = shifted (width reach) (edges_of (width reach) reach (drop 1 (frame_at i))) r

  -- which of these frame i lies in itself
  unfoldable pub own_row : ℕ → ℕ
  own_row i = own_block (width reach) (edges_of (width reach) reach (drop 1 (frame_at i))) (drop 1 (frame_at i))

  -- ---- `size` buckets
  module _ (size : ℕ) where
    -- the first of the two buckets in which the blocks of row r around frame i fall
    unfoldable pub bucket_around : ℕ → ℕ → ℕ
    unfolding bucket_at row_hash
    bucket_around i r = bucket_at size (row_hash (row_around i r)) ((raise (get_or (frame_at i) 0 (pos 0)) - reach) / width reach)

    -- ---- numbers, of which x stands for frame `at x`, those that pass p by buckets
    module _ (at : ℕ → ℕ) (p : ℕ → Bool) where
      -- the bucket of number x, if it passes p; else one more
      unfoldable pub key_for : ℕ → ℕ
      unfolding bucket_of
      key_for x = cond (p x) (bucket_of (width reach) size (frame_at (at x))) size

      -- ---- m of them
      module _ (m : ℕ) where
        -- the numbers in bucket b and in the next one
        unfoldable pub pair_at : ℕ → List ℕ
        unfolding numbered key_for
        pair_at b = numbered key_for m b ++ numbered key_for m ((b + 1) % size)

        -- those that pass f in row r around frame i, as a search finds them
        unfoldable pub found_in : ℕ → (ℕ → Bool) → ℕ → List ℕ
        unfolding pair_at bucket_around
        found_in i f r = keep (λ x. same_nats (row_of (at x)) (row_around i r) && f x) (pair_at (bucket_around i r))

        -- those that pass f around frame i, row by row
        unfoldable pub found : ℕ → (ℕ → Bool) → List ℕ
        unfolding found_in
        found i f = concat (column (found_in i f) (2 ^ (v.channels - 1)))
