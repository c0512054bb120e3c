-- The order of natural numbers: decided, and through squares and powers of two. `lib.Pow` has the other laws of powers.
-- Equations need none of these: `ringℕ` reads `2 ^ (a + b)`, `2 ^ suc a` and `2 ^ (2 * a)` with the atoms `2 ^ a` and `2 ^ b`.
use Rattle.std.specs.Prelude.{◌≡◌, ◌⊎◌, ℕ, ◌*◌, ◌-◌, ◌^◌, ◌≤◌, ◌<◌}
use Rattle.std.proofs.Common.{sym, ap, ◌∙◌, inl, inr, mul-le-mul, mul_assoc, lt_of_not-le, not-le_of_lt, sub-add_cancel, pow-add}
use Rattle.std.proofs.Math.Decide.{dec_lt}
use native.Mathlib.Omega.{arith, by_contra}
use Rattle.std.proofs.Math.Pow.{pow-lt}

pub lt_or_ge : (a b : ℕ) → (a < b) ⊎ (b ≤ a)
lt_or_ge a b = elim (dec_lt a b) [ yes h ↦ inl h | no h ↦ inr (omega arith) ]

-- squares keep and reflect the order
pub sq_mono : {a b : ℕ} → a ≤ b → a * a ≤ b * b
sq_mono h = mul-le-mul h h

pub sq_le_back : (a b : ℕ) → a * a ≤ b * b → a ≤ b
sq_le_back a b h = by_contra a b (λ k. omega (arith, sq_mono k))

pub sq_lt_back : (a b : ℕ) → a * a < b * b → a < b
sq_lt_back a b h = lt_of_not-le (λ k. not-le_of_lt h (sq_mono k))

-- the order of two powers is that of the exponents
pub exponent_le : (a b : ℕ) → 2 ^ a ≤ 2 ^ b → a ≤ b
exponent_le a b h = by_contra a b (λ k. not-le_of_lt (pow-lt k) h)

-- a number scaled by a power, scaled by a smaller one
pub align : (n : ℕ) {a b : ℕ} → a ≤ b → n * 2 ^ b ≡ n * 2 ^ (b - a) * 2 ^ a
align n {a} {b} h = ap (λ (x : ℕ). n * 2 ^ x) (sym (sub-add_cancel h)) ∙ ap (λ (x : ℕ). n * x) (pow-add 2 (b - a) a) ∙ sym (mul_assoc n (2 ^ (b - a)) (2 ^ a))
