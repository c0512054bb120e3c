-- Document 01, module 2: what the rounded sum of squares to the centre of a box tells with no root, where it is clear of a limit by 1. Definitions only.
use Rattle.std.specs.Prelude.{Bool, ◌&&◌, ◌||◌, Float}
use Rattle.std.specs.Float.{binary64}
use Rattle.std.specs.Float.Ieee.{add, sub, mul, lt, of_int}
use Rattle.hyperparams.specs.Params.{float}

-- The distance d is the root of the sum; h is half the diagonal, and e half the side.
-- d − h > t: (t + h)² + 1 < sum
unfoldable pub clearly_apart : Float → Float → Float → Bool
unfolding add mul lt of_int
clearly_apart t h sum =
    let far = add binary64 t h in
    lt (add binary64 (mul binary64 far far) (float 1)) sum

-- d is under t + a and over the extended tolerance less b: sum + 1 < (t + a)², and (extended tolerance − b)² + 1 < sum
unfoldable pub clearly_between : Float → Float → Float → Float → Float → Bool
unfolding add sub mul lt of_int
clearly_between t appx a b sum =
    let above = add binary64 t a in
    let below = sub binary64 appx b in
    lt (add binary64 sum (float 1)) (mul binary64 above above) && lt (add binary64 (mul binary64 below below) (float 1)) sum

-- d − e ≤ t, and d + h is over the extended tolerance; or d − h ≤ t, and d + e is over it: the farthest corner lies no nearer than d + e
unfoldable pub clearly_crossing : Float → Float → Float → Float → Float → Bool
unfolding clearly_between
clearly_crossing t appx h e sum = clearly_between t appx e h sum || clearly_between t appx h e sum
