-- "Root (IEEE): square root rounded to nearest; negative or NaN gives NaN, zero keeps its sign, infinity stays." Definitions only.
use Rattle.std.specs.Prelude.{ℕ, zero, suc, ◌+◌, ◌*◌, ◌/◌, ◌^◌, true, false, cond, nat_le, nat_lt, Float}
use Rattle.std.specs.Float.{nan, inf, fin, binary64}
use Rattle.std.specs.Float.Ieee.{size, round, up, down}

-- the largest s with s × s ≤ n, for n below 4 ^ k
unfoldable pub isqrt_at : ℕ → ℕ → ℕ
isqrt_at zero n = 0
isqrt_at (suc k) n = let s = 2 * isqrt_at k (n / 4) in cond (nat_le ((s + 1) * (s + 1)) n) (s + 1) s

-- the largest s with s × s ≤ n
unfoldable pub isqrt : ℕ → ℕ
unfolding isqrt_at size
isqrt n = isqrt_at ((size n + 1) / 2) n

-- The root of a / c, rounded to nearest. It is r / l, or lies strictly between r / l and (r + 1) / l: there the middle stands for it,
-- since no value of the format, and no middle of two, lies strictly between those two.
unfoldable pub root_of : ℕ → ℕ → Float
unfolding isqrt round
root_of a c =
    let l = c * 2 ^ 54 in
    let x = a * l * 2 ^ 54 in
    let r = isqrt x in
    round binary64 false (2 * r + cond (nat_lt (r * r) x) 1 0) (2 * l)

unfoldable pub root : Float → Float
unfolding root_of
root nan = nan
root (inf s) = cond s nan (inf s)
root (fin s zero e) = fin s zero e
root (fin true (suc m) e) = nan
root (fin false (suc m) e) = root_of (suc m * up e) (down e)
