-- Document 01, module 2: what whole numbers tell of a root box, from the rounded sum of squares to its centre and with no root. Definitions only.
use Rattle.std.specs.Prelude.{Bool, true, false, cond, ◌+◌, ◌*◌, ◌^◌, Float, Option, Some, None}
use Rattle.std.specs.Float.{binary64}
use Rattle.std.specs.Float.Ieee.{add, mul, le, of_int}
use Rattle.hyperparams.specs.Params.{float}
use Rattle.hyperparams.specs.declared.ValidParams.{ValidParams}

-- The distance d is the root of the sum, and half the diagonal h is t / 2 but for a rounding.
-- d − h > t: 4 × sum ≥ 9 × t² + 1, a margin of 1 / 4 in the square
abbrev pub beyond : ValidParams → Float → Bool
beyond v sum = le (float (9 * (v.t * v.t) + 1)) (mul binary64 sum (float 4))

-- d + h ≤ t × (1 + 1 / 2^s): (sum + 1) × 4 × 4^s ≤ (t × (2^s + 2))², a margin of 1 in the square
abbrev pub inside : ValidParams → Float → Bool
inside v sum =
    let two = 2 ^ v.s in
    let reach = v.t * (two + 2) in
    le (mul binary64 (add binary64 sum (float 1)) (float (4 * (two * two)))) (float (reach * reach))

-- false that it is Disjoint, true that it is FullyCovered, where the sum settles it
unfoldable pub settled_by : ValidParams → Float → Option Bool
unfolding add mul le of_int
settled_by v sum = cond (beyond v sum) (Some false) (cond (inside v sum) (Some true) None)
