-- The bits of a value of q * 2 ^ k units, q of 53 digits.
use Rattle.std.proofs.Common.{◌≡◌, ℕ, ◌+◌, ◌-◌, ◌*◌, ◌/◌, ◌^◌, ◌<◌, ◌≤◌, Bool, false, cond, ◌⊎◌, [], ◌∷◌, sym, ap, ◌∙◌, subst, ap₂, inl, inr, mul-le-mul_right, eq-or-lt_of_le, mul-lt-mul_of_pos_right, zero-add, mul-div_cancel, lit<, lit≤, pow_pos}
use lib.Ieee.{Float, nan, inf, fin, binary64, size, to_bits}
use Rattle.ring.proofs.Ring.{ringℕ, poly, done}
use Rattle.ieee754.specs.Value.{unit, mag, sign, Good, Is}
use Rattle.ieee754.specs.RootDigits.{dropped}

-- the bits of n units with the sign t, as `to_bits` puts them together
abbrev written : Bool → ℕ → ℕ
written t n = cond t (2 ^ 63) 0 + (size n - 53) * 2 ^ 52 + n / 2 ^ (size n - 53)

written_is : (q k : ℕ) → 2 ^ 52 ≤ q → q < 2 ^ 53 → written false (q * 2 ^ k) ≡ k * 2 ^ 52 + q
written_is q k lo hi = rw (dropped (q * 2 ^ k) k (mul-le-mul_right (2 ^ k) lo) (mul-lt-mul_of_pos_right hi (pow_pos k)), mul-div_cancel q (pow_pos k)) (ap (λ (n : ℕ). n + q) (zero-add (k * 2 ^ 52)))

-- where rounding carried into a 54th digit, the exponent's field is one higher
written_carry : (k : ℕ) → written false (2 ^ 53 * 2 ^ k) ≡ k * 2 ^ 52 + 2 ^ 53
written_carry k =
    ap (written false) (ringℕ (2 ^ k ∷ []) (search poly depth 30) done) ∙ written_is (2 ^ 52) (1 + k) (lit≤ tt) (lit< tt) ∙ ringℕ (k ∷ []) (search poly depth 30) done

both : (q k : ℕ) → 2 ^ 52 ≤ q → (q ≡ 2 ^ 53) ⊎ (q < 2 ^ 53) → written false (q * 2 ^ k) ≡ k * 2 ^ 52 + q
both q k lo (inl e) = subst (λ (p : ℕ). written false (p * 2 ^ k) ≡ k * 2 ^ 52 + p) (sym e) (written_carry k)
both q k lo (inr l) = written_is q k lo l

pub bits_are : (v : Float) (q k : ℕ) → Is v false (q * 2 ^ k) → 2 ^ 52 ≤ q → q ≤ 2 ^ 53 → to_bits binary64 v ≡ k * 2 ^ 52 + q
unfolding to_bits Good mag sign unit
bits_are nan q k i lo hi = absurd i.good
bits_are (inf s) q k i lo hi = absurd i.good
bits_are (fin t m e) q k i lo hi = ap₂ written i.sign_is i.mag_is ∙ both q k lo (eq-or-lt_of_le hi)
