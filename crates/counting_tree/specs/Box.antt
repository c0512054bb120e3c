-- Document 01, module 2: distance, and the test of a box against a frame; every rounded step literal. Definitions only.
use Rattle.std.specs.Prelude.{true, false, cond, List, [], ◌∷◌, ℕ, Float}
use Rattle.std.specs.Float.{binary64}
use Rattle.std.specs.Float.Ieee.{add, sub, mul, div, lt, le, of_int}
use Rattle.ieee754.specs.Root.{root}
use Rattle.hyperparams.specs.Params.{float}
use Rattle.counting_tree.specs.Grid.{root_channels, half}
use Rattle.counting_tree.specs.declared.IntersectionType.{IntersectionType}
use Rattle.counting_tree.specs.declared.IntersectionType.TheVariants.{Disjoint, FullyCovered, Intersecting}

-- "differences squared and added from channel 0 up, each operation rounded once"
unfoldable pub sum_from : Float → List Float → List Float → Float
unfolding add sub mul
sum_from a [] ps = a
sum_from a (q ∷ qs) [] = a
sum_from a (q ∷ qs) (p ∷ ps) = let d = sub binary64 q p in sum_from (add binary64 a (mul binary64 d d)) qs ps

-- "Distance: .., then the root."
unfoldable pub distance : List Float → List Float → Float
unfolding root sum_from of_int
distance qs ps = root (sum_from (float 0) qs ps)

-- each list twice, with x and with y before it
unfoldable pub both : Float → Float → List (List Float) → List (List Float)
both x y [] = []
both x y (l ∷ ls) = (x ∷ l) ∷ (y ∷ l) ∷ both x y ls

-- the corners in the source's order: bit i of a corner's number says whether channel i lies e above the centre or below it
unfoldable pub corners : List Float → Float → List (List Float)
unfolding add sub both
corners [] e = [] ∷ []
corners (c ∷ cs) e = both (sub binary64 c e) (add binary64 c e) (corners cs e)

-- "the farthest corner": the largest distance, from 0 up
unfoldable pub farthest_from : Float → List Float → List (List Float) → Float
unfolding distance lt
farthest_from far qs [] = far
farthest_from far qs (l ∷ ls) = let d = distance qs l in farthest_from (cond (lt far d) d far) qs ls

unfoldable pub farthest : List Float → List (List Float) → Float
unfolding farthest_from of_int
farthest qs ls = farthest_from (float 0) qs ls

-- "Box against frame q, with d the distance to the centre, h = (side × root(channels)) / 2, e = side / 2: d − h > t is Disjoint; else d + h ≤ extended tolerance is FullyCovered;
-- else d − e ≤ t is Intersecting; else FullyCovered if the farthest corner is strictly nearer than the extended tolerance; else Intersecting."
unfoldable pub intersection : ℕ → Float → Float → Float → List Float → List Float → IntersectionType
unfolding half distance root_channels corners farthest add sub mul div lt le of_int
intersection channels t appx side centre qs =
    let d = distance qs centre in
    let h = div binary64 (mul binary64 side (root_channels channels)) (float 2) in
    let e = half side in
    elim (lt t (sub binary64 d h)) [
      | true ↦ Disjoint
      | false ↦ elim (le (add binary64 d h) appx) [
        | true ↦ FullyCovered
        | false ↦ elim (le (sub binary64 d e) t) [
          | true ↦ Intersecting
          | false ↦ elim (lt (farthest qs (corners centre e)) appx) [ true ↦ FullyCovered | false ↦ Intersecting ]
        ]
      ]
    ]
