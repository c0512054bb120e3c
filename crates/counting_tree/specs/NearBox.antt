-- Whether a frame lies near a box: at most half the side and 1 from its centre in each channel; every rounded step literal. Definitions only.
use Rattle.std.specs.Prelude.{Bool, true, not, ◌&&◌, List, [], ◌∷◌, ℤ, Float}
use Rattle.std.specs.Float.{binary64}
use Rattle.std.specs.Float.Ieee.{add, sub, neg, lt, of_int}
use Rattle.hyperparams.specs.Params.{float}
use Rattle.counting_tree.specs.Frames.{Frame}
use Rattle.counting_tree.specs.Grid.{half}

-- half the side, and 1 for what the index, the centre and the difference are rounded by
unfoldable pub reach : Float → Float
unfolding half add of_int
reach side = add binary64 (half side) (float 1)

-- whether a count lies at most `most` from c
unfoldable pub close_to : Float → Float → ℤ → Bool
unfolding sub neg lt of_int
close_to most c x = let d = sub binary64 (of_int binary64 x) c in not (lt d (neg most)) && not (lt most d)

-- whether each count of a frame does so from its channel of cs
unfoldable pub near_box : Float → List Float → Frame → Bool
unfolding close_to
near_box most [] xs = true
near_box most (c ∷ cs) [] = true
near_box most (c ∷ cs) (x ∷ xs) = close_to most c x && near_box most cs xs
