-- Document 01, module 2: sides, indexes and centres; every rounded step literal. Definitions only.
use Rattle.std.specs.Prelude.{true, false, ◌&&◌, List, map, ℕ, zero, suc, ℤ, pos, negsuc, ◌+ℤ◌, Float}
use Rattle.std.specs.Float.{binary64}
use Rattle.std.specs.Float.Ieee.{add, sub, mul, div, neg, lt, le, of_int}
use Rattle.ieee754.specs.Root.{root}
use Rattle.ieee754.specs.Ceil.{ceil}
use Rattle.hyperparams.specs.Params.{float}
use Rattle.counting_tree.specs.Frames.{Frame}

-- "root(channels)"
unfoldable pub root_channels : ℕ → Float
unfolding root of_int
root_channels d = root (float d)

-- "side / 2"
unfoldable pub half : Float → Float
unfolding div of_int
half side = div binary64 side (float 2)

-- "Base side = t / root(channels)"; "each level halves the side"
unfoldable pub side_at : ℕ → Float → ℕ → Float
unfolding half root_channels div
side_at channels t zero = div binary64 t (root_channels channels)
side_at channels t (suc l) = half (side_at channels t l)

-- "Index of coordinate c, half = side / 2: 0 if −half ≤ c < half; else if c > 0 the ceiling of (c − half) / side; else −1 + the ceiling of (c + half) / side"
unfoldable pub index_at : Float → Float → Float → ℤ
unfolding le lt neg div sub add of_int ceil
index_at side h c =
    elim (le (neg h) c && lt c h) [
      | true ↦ pos 0
      | false ↦ elim (lt (float 0) c) [
        | true ↦ ceil (div binary64 (sub binary64 c h) side)
        | false ↦ negsuc 0 +ℤ ceil (div binary64 (add binary64 c h) side)
      ]
    ]

-- the index of a count at a side
unfoldable pub index : Float → ℤ → ℤ
unfolding index_at half of_int
index side c = index_at side (half side) (of_int binary64 c)

-- "Centre = index × side"
unfoldable pub centre : Float → ℤ → Float
unfolding mul of_int
centre side i = mul binary64 (of_int binary64 i) side

-- the indexes of a frame, and the centre of its box, channel by channel
unfoldable pub indexes : Float → Frame → List ℤ
unfolding index
indexes side xs = map (index side) xs

unfoldable pub centres : Float → Frame → List Float
unfolding centre indexes
centres side xs = map (centre side) (indexes side xs)
