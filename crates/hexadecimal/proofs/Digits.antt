-- One digit more.
use Rattle.std.proofs.Common.{◌≡◌, ℕ, ◌+◌, ◌*◌, ◌^◌, ◌<◌, ◌≤◌, List, arith, add-one, get_or}
use Rattle.std.proofs.Math.Nat.{pow-le-pow_right}
use Rattle.hexadecimal.specs.Hexadecimal.{digit_of, number}

pub one_more : (bs : List ℕ) (at i : ℕ) → number bs at (i + 1) ≡ 16 * number bs at i + digit_of (get_or bs (at + i) 0)
unfolding number
one_more bs at i = rw (add-one i)

pub below_more : (n i d : ℕ) → n < 16 ^ i → d < 16 → 16 * n + d < 16 ^ (i + 1)
below_more n i d b h = rw (add-one i) (omega (arith, b))

-- up to 16 digits fit 64 bits
pub fits : (n i k d : ℕ) → n < 16 ^ i → i < k → k ≤ 16 → d < 16 → 16 * n + d < 2 ^ 64
fits n i k d b l h s =
    let e : 16 ^ (i + 1) ≤ 16 ^ 16 = pow-le-pow_right {n = 16} (omega arith) {i = i + 1} {j = 16} (omega arith) in
    omega (arith, below_more n i d b s, e)
