-- A step to more digits of a whole root, for any base: one division, and at most one correction. What `more_digits` and `all_digits` need.
use Rattle.std.proofs.Common.{◌≡◌, ℕ, zero, suc, ◌+◌, ◌-◌, ◌*◌, ◌/◌, ◌%◌, ◌^◌, ◌<◌, ◌≤◌, [], ◌∷◌, pos, sym, ap, ◌∙◌, subst, le_trans, mul-le-mul_right, mod-lt, mul-le-mul, lt_of_mul-lt-mul_right, div-add-mod', arith}
use native.Mathlib.Nat.{div-div-eq-div-mul}
use Rattle.ring.proofs.Ring.{ringℕ, poly, done}
use Rattle.ring.proofs.Order.{equalℕ, diffℕ, ◌⊕◌, ◌⊙◌}
use Rattle.ieee754.specs.Steps.{Root, Room, root_from, root_below}

-- ---- h is s² and the rest r; r b + a divided by 2 s is q, and u is left
module _ (h s b a c r q u : ℕ) (M : Room s b a c) (e : h ≡ s * s + r) (d : r * b + a ≡ q * (2 * s) + u) where
  -- the quotient has no more digits than b, or is b
  quotient_le : r ≤ 2 * s → q ≤ b
  quotient_le R =
      let x : r * b ≤ 2 * s * b = mul-le-mul_right b R in
      let y : q < suc b = lt_of_mul-lt-mul_right (2 * s) (omega arith) in
      omega arith

  -- n = (s b + q)² + (u b + c - q²)
  sum : h * (b * b) + a * b + c + q * q ≡ (s * b + q) * (s * b + q) + u * b + c
  sum = equalℕ (h ∷ s ∷ b ∷ a ∷ c ∷ r ∷ q ∷ u ∷ []) (pos (b * b) ⊙ diffℕ e ⊕ pos b ⊙ diffℕ d) (search poly depth 30) done

  -- s b + q is never too small
  right : u < 2 * s → q * q ≤ u * b + c → Root (h * (b * b) + a * b + c) (s * b + q)
  right U k = omega (arith, sum, mul-le-mul_right b U)

-- and where it is too large, one less is right
one_less : (h s b a c r q u : ℕ) → Room s b a c → h ≡ s * s + r → r * b + a ≡ q * (2 * s) + u → q ≤ b → u * b + c < q * q → (0 < q) × Root (h * (b * b) + a * b + c) (s * b + q - 1)
one_less h s b a c r zero u M e d Q k = absurd (omega arith)
one_less h s b a c r (suc q) u M e d Q k =
    let x = sum h s b a c r (suc q) u M e d in
    let y : suc q * suc q ≤ b * (2 * s) = mul-le-mul Q (le_trans Q M.wide) in
    let p : s * b + suc q - 1 ≡ s * b + q = omega arith in
    (omega arith, subst (Root (h * (b * b) + a * b + c)) (sym p) (omega arith))

-- ---- as the program takes it
module _ {h s b a c : ℕ} (R : Root h s) (M : Room s b a c) where
  abbrev rest : ℕ
  rest = h - s * s

  abbrev quotient : ℕ
  quotient = (rest * b + a) / (2 * s)

  abbrev remainder : ℕ
  remainder = (rest * b + a) % (2 * s)

  rest_is : h ≡ s * s + rest
  rest_is = omega arith

  rest_le : rest ≤ 2 * s
  rest_le = omega arith

  division : rest * b + a ≡ quotient * (2 * s) + remainder
  division = sym (div-add-mod' (rest * b + a) (2 * s))

  remainder_lt : remainder < 2 * s
  remainder_lt = mod-lt (rest * b + a) (omega arith)

  pub digit_le : quotient ≤ b
  digit_le = quotient_le h s b a c rest quotient remainder M rest_is division rest_le

  pub rest_fits : rest * b ≤ 2 ^ 33 * 2 ^ 22
  rest_fits = mul-le-mul {n₂ = 2 ^ 33} (omega (arith, rest_le)) M.few

  pub root_fits : s * b ≤ 2 ^ 32 * 2 ^ 22
  root_fits = mul-le-mul {n₂ = 2 ^ 32} (omega arith) M.few

  pub left_fits : remainder * b ≤ 2 ^ 33 * 2 ^ 22
  left_fits = mul-le-mul {n₂ = 2 ^ 33} (omega (arith, remainder_lt)) M.few

  pub square_fits : quotient * quotient ≤ 2 ^ 22 * 2 ^ 22
  square_fits = mul-le-mul {n₂ = 2 ^ 22} {m₂ = 2 ^ 22} (omega (arith, digit_le)) (omega (arith, digit_le))

  pub keep : quotient * quotient ≤ remainder * b + c → Root (h * (b * b) + a * b + c) (s * b + quotient)
  keep = right h s b a c rest quotient remainder M rest_is division remainder_lt

  pub less : remainder * b + c < quotient * quotient → (0 < quotient) × Root (h * (b * b) + a * b + c) (s * b + quotient - 1)
  less = one_less h s b a c rest quotient remainder M rest_is division digit_le

-- ---- the steps from 8 digits to 16, 32 and 54: n lies between the squares of l and h
pub room : (l h : ℕ) {n s b a c : ℕ} → Root n s → (l * l ≤ n) × (n < h * h) × (h ≤ 2 ^ 32) × (b ≤ 2 ^ 22) × (b ≤ 2 * l) × (a < b) × (c < b) → Room s b a c
room l h {n} {s} R k =
    let x = root_from n s l R k.0 in
    let y = root_below n s h R k.1 in
    record { short = omega arith; few = omega arith; wide = omega arith; first = omega arith; second = omega arith }

-- m is its digits above, and two to the base b
pub joined : (b m s : ℕ) → Root (m / (b * b) * (b * b) + m / b % b * b + m % b) s → Root m s
joined b m s R = subst (λ (n : ℕ). Root n s) whole R
  where
    whole : m / (b * b) * (b * b) + m / b % b * b + m % b ≡ m
    whole =
        ap (λ (x : ℕ). x * (b * b) + m / b % b * b + m % b) (sym (div-div-eq-div-mul m b b))
        ∙ ringℕ (m / b / b ∷ m / b % b ∷ m % b ∷ b ∷ []) (search poly depth 30) done ∙ ap (λ (x : ℕ). x * b + m % b) (div-add-mod' (m / b) b) ∙ div-add-mod' m b
