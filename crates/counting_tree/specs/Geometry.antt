-- What cells, lists, core frames and clusters need of the frames and the settings. A frame is named by its number. Definitions only.
use Rattle.std.specs.Prelude.{Bool, true, false, ◌&&◌, List, [], ◌∷◌, ℕ, ◌+◌, ◌*◌, ◌^◌, ◌<◌, ℤ, pos, negsuc, leb, eqb, length, get_or, Float}
use Rattle.std.specs.Float.Ieee.{le}
use Rattle.hyperparams.specs.Params.{levels}
use Rattle.hyperparams.specs.declared.ValidParams.{ValidParams}
use Rattle.counting_tree.specs.Frames.{Frame, squared, floats}
use Rattle.counting_tree.specs.Grid.{side_at, indexes, centres}
use Rattle.counting_tree.specs.Box.{distance, intersection}
use Rattle.counting_tree.specs.declared.IntersectionType.{IntersectionType}

pub record Geometry : Type 0 where
  -- how many frames there are
  pub frames : ℕ
  -- `min_points`
  pub least : ℕ
  -- the levels below the root
  pub levels : ℕ
  -- frames i and j share a box of level l
  pub same : ℕ → ℕ → ℕ → Bool
  -- cells with the first frames c and d list each other
  pub near : ℕ → ℕ → Bool
  -- frames i and j lie at most t apart
  pub within : ℕ → ℕ → Bool
  -- how the box of level l in which frame x lies stands to frame q
  pub box : ℕ → ℕ → ℕ → IntersectionType

abbrev pub same_int : ℤ → ℤ → Bool
same_int (pos a) (pos b) = eqb a b
same_int (pos a) (negsuc b) = false
same_int (negsuc a) (pos b) = false
same_int (negsuc a) (negsuc b) = eqb a b

abbrev pub same_ints : List ℤ → List ℤ → Bool
same_ints [] [] = true
same_ints [] (y ∷ ys) = false
same_ints (x ∷ xs) [] = false
same_ints (x ∷ xs) (y ∷ ys) = same_int x y && same_ints xs ys

-- "at most 4 × t × t": the factor of the lists of document 01
abbrev pub short : ℕ
short = 4

module _ (v : ValidParams) (fs : List Frame) where
  -- frame number i
  abbrev pub frame : ℕ → Frame
  frame i = get_or fs i []

  -- "N the sum of squared differences" of frames i and j
  abbrev pub N : ℕ → ℕ → ℕ
  N i j = squared (frame i) (frame j)

  -- the side of level l
  unfoldable pub side : ℕ → Float
  unfolding side_at
  side l = side_at v.channels v.tolerance l

  -- "their indexes agree in each channel", at a side
  abbrev pub same_at : Float → ℕ → ℕ → Bool
  same_at s i j = same_ints (indexes s (frame i)) (indexes s (frame j))

  -- and at the side of level l
  unfoldable pub same_box : ℕ → ℕ → ℕ → Bool
  unfolding side indexes
  same_box l i j = same_at (side l) i j

  -- "frames within t": distance ≤ t
  unfoldable pub within : ℕ → ℕ → Bool
  unfolding distance le
  within i j = le (distance (floats (frame i)) (floats (frame j))) v.tolerance

  -- "Box against frame q": of the box of a side in which frame x lies
  abbrev pub box_at : Float → ℕ → ℕ → IntersectionType
  box_at s q x = intersection v.channels v.tolerance v.appx_tolerance s (centres s (frame x)) (floats (frame q))

  -- and of the box of level l
  unfoldable pub box : ℕ → ℕ → ℕ → IntersectionType
  unfolding intersection side centres
  box q l x = box_at (side l) q x

  -- "a sum of squared differences from its own of at most 4 × t × t", with the factor as a parameter
  unfoldable pub near : ℕ → ℕ → ℕ → Bool
  near factor c d = leb (N c d) (factor * (v.t * v.t))

  -- "nearer than t is N < t × t"
  abbrev pub Nearer : ℕ → ℕ → Type 0
  Nearer p q = N p q < v.t * v.t

  -- "The far reach is N × (4 to the power s) < (t × ((2 to the power s) + 1)) squared + (4 to the power s)."
  abbrev pub FarReach : ℕ → ℕ → Type 0
  FarReach p q = N p q * 4 ^ v.s < v.t * (2 ^ v.s + 1) * (v.t * (2 ^ v.s + 1)) + 4 ^ v.s

-- the geometry of document 01, with the factor of its lists as a parameter
unfoldable pub geometry_of : ℕ → ValidParams → List Frame → Geometry
unfolding same_box within box near
geometry_of factor v fs = record {
  frames = length fs;
  least = v.min_points;
  levels = levels v.s;
  same = same_box v fs;
  near = near v fs factor;
  within = within v fs;
  box = box v fs;
}
