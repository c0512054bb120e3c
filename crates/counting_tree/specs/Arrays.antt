-- Frames, boxes and corners as they stand in arrays of four coordinates, of which the first up to the number of channels count. Definitions only.
use Rattle.std.specs.Prelude.{◌≡◌, ◌<◌, length, get_or, cond, List, [], ◌∷◌, ℕ, ◌/◌, ◌%◌, ◌^◌, eqb, ℤ, pos, take, replicate, Float}
use Rattle.std.specs.Float.{binary64}
use Rattle.std.specs.Float.Ieee.{add, sub}
use Rattle.lists.specs.Words.{over, column}
use Rattle.hyperparams.specs.Params.{float}
use Rattle.counting_tree.specs.Frames.{Frame}
use Rattle.counting_tree.specs.Domain.{Count}
use Rattle.counting_tree.specs.Grid.{centres}
use Rattle.counting_tree.specs.declared.Box.{Box}

-- a frame, and zeros after it
unfoldable pub placed : Frame → List ℤ
placed frame = over (replicate 4 (pos 0)) 0 frame

-- an array of four: what R relates to each of the first k counts of a frame, and z after them
pub record Placed {A : Type 0} (R : ℤ → A → Type 0) (frame : Frame) (z : A) (row : List A) (k : ℕ) : Type 0 where
  pub values : List A
  pub long : length values ≡ k
  pub each : (j : ℕ) → j < k → Count (get_or frame j (pos 0)) × R (get_or frame j (pos 0)) (get_or values j z)
  pub row_is : row ≡ over (replicate 4 z) 0 values

-- the box of a frame at a side; zeros after the centre
unfoldable pub box_of : ℕ → Float → List ℤ → Box
unfolding centres
box_of channels side frame = record { centre = over (replicate 4 (float 0)) 0 (centres side (take channels frame)); side = side }

-- corner k: coordinate i lies e below the centre's where bit i of k is 0, else e above it
unfoldable pub corner_of : List Float → Float → ℕ → List Float
unfolding add sub
corner_of [] e k = []
corner_of (c ∷ cs) e k = cond (eqb (k % 2) 0) (sub binary64 c e) (add binary64 c e) ∷ corner_of cs e (k / 2)

-- corner k as a row of four: the centre's coordinates after it
unfoldable pub row_of : ℕ → List Float → Float → ℕ → List Float
unfolding corner_of
row_of channels centre e k = over centre 0 (corner_of (take channels centre) e k)

-- the rows of the corners; zeros after them
unfoldable pub rows_of : ℕ → List Float → Float → List (List Float)
unfolding row_of
rows_of channels centre e = over (replicate 16 (replicate 4 (float 0))) 0 (column (row_of channels centre e) (2 ^ channels))
