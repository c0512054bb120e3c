-- A float below 2 ^ 40 in size, cut to an integer, against its ceiling: what `ceiling` needs.
use Rattle.std.proofs.Common.{◌≡◌, ℕ, zero, suc, ◌+◌, ◌-◌, ◌*◌, ◌/◌, ◌^◌, ◌<◌, ◌≤◌, Bool, true, false, ◌||◌, T, ltb, ℤ, pos, negsuc, ◌+ℤ◌, neg_ℤ, sym, refl, ap, ◌∙◌, subst, true≢false, mul-le-mul_right, div-lt_iff_lt-mul, add-mul, mul-lt-mul_of_pos_right, one-mul, le-div_iff_mul-le, mul-one, mul_right_comm, div-mul-le_self, arith, le→leb, lt→ltb, to_z-of_z, w64, SFits, to_z, of_z, ltb-false, ltb-true, le-ltb, lt-ltb}
use native.Mathlib.Nat.{lt-div-mul-add, min-eq_left}
use native.Mathlib.Decide.{dec_lt}
use lib.Signed.{mag}
use lib.Ieee.{Float, nan, inf, fin, binary64, up, down, lt, le, eq, of_int, round, to_signed, in_float}
use lib.Ieee.Exact.{HasValue}
use lib.Ieee.Back.{round_whole}
use lib.Ieee.Fits.{down_pos}
use Rattle.ieee754.specs.Ceil.{ceil}
use Rattle.ieee754.specs.Small.{Small}
use Rattle.ieee754.proofs.Signed.{mag_add}

or_l : (a b : Bool) → T a → T (a || b)
or_l true b t = tt
or_l false b t = absurd t

-- so it is in the range of an i64
pub low_63 : (x : Float) → Small x → T (le (fin true 1 (pos 63)) x)
unfolding lt le eq
low_63 nan z = z
low_63 (inf s) z = absurd z
low_63 (fin false m e) z = or_l (ltb 0 (2 ^ 63 * down e + m * up e * 1)) _ (lt→ltb 0 (2 ^ 63 * down e + m * up e * 1) (omega (arith, down_pos e)))
low_63 (fin true m e) z = or_l (ltb (m * up e * 1) (2 ^ 63 * down e)) _ (lt→ltb (m * up e * 1) (2 ^ 63 * down e) (omega arith))

pub high_63 : (x : Float) → Small x → T (lt x (fin false 1 (pos 63)))
unfolding lt
high_63 nan z = z
high_63 (inf s) z = absurd z
high_63 (fin false m e) z = lt→ltb (m * up e * 1) (2 ^ 63 * down e) (omega arith)
high_63 (fin true m e) z = lt→ltb 0 (m * up e * 1 + 2 ^ 63 * down e) (omega (arith, down_pos e))

module _ (m : ℕ) (e : ℤ) (z : m * up e < 2 ^ 40 * down e) where
  n_small : m * up e / down e < 2 ^ 40
  n_small = (div-lt_iff_lt-mul {k = down e} {x = m * up e} {y = 2 ^ 40} (down_pos e)).1 z

  cut_pos : to_signed 63 (fin false m e) ≡ pos (m * up e / down e)
  unfolding to_signed
  cut_pos = ap pos (min-eq_left (omega (arith, n_small)))

  cut_neg : to_signed 63 (fin true m e) ≡ neg_ℤ (pos (m * up e / down e))
  unfolding to_signed
  cut_neg = ap (λ (k : ℕ). neg_ℤ (pos k)) (min-eq_left {n = m * up e / down e} {m = 2 ^ 63} (omega (arith, n_small)))

-- the float of a whole number k against m * up e / down e, where both are positive and where both are negative
against : (y : Float) (k m : ℕ) (e : ℤ) → HasValue y false k 1 → lt y (fin false m e) ≡ ltb (k * down e) (m * up e)
unfolding lt
against nan k m e v = absurd v
against (inf s) k m e v = absurd v
against (fin true m' e') k m e v = absurd (true≢false v.0)
against (fin false m' e') k m e v = by (dec_lt (k * down e) (m * up e))
  where
    same : m' * up e' * down e ≡ k * down e * down e'
    same = ap (λ (a : ℕ). a * down e) (sym (mul-one (m' * up e')) ∙ v.1) ∙ mul_right_comm k (down e') (down e)

    by : Dec (k * down e < m * up e) → ltb (m' * up e' * down e) (m * up e * down e') ≡ ltb (k * down e) (m * up e)
    by (yes h) = lt-ltb _ _ (subst (λ (a : ℕ). a < m * up e * down e') (sym same) (mul-lt-mul_of_pos_right h (down_pos e'))) ∙ sym (lt-ltb _ _ h)
    by (no h) = le-ltb _ _ (subst (λ (a : ℕ). m * up e * down e' ≤ a) (sym same) (mul-le-mul_right {m = m * up e} {n = k * down e} (down e') (omega arith))) ∙ sym (le-ltb (k * down e) (m * up e) (omega arith))

-- a negative whole number that is cut towards 0 is not below
against_neg : (y : Float) (k m : ℕ) (e : ℤ) → HasValue y true k 1 → k * down e ≤ m * up e → lt y (fin true m e) ≡ false
unfolding lt
against_neg nan k m e v h = absurd v
against_neg (inf s) k m e v h = absurd v
against_neg (fin false m' e') k m e v h = absurd (true≢false (sym v.0))
against_neg (fin true m' e') k m e v h = le-ltb (m * up e * down e') (m' * up e' * down e) (subst (λ (a : ℕ). a ≤ m * up e * down e') (sym same) (mul-le-mul_right (down e') h))
  where
    same : m' * up e' * down e ≡ k * down e * down e'
    same = ap (λ (a : ℕ). a * down e) (sym (mul-one (m' * up e')) ∙ v.1) ∙ mul_right_comm k (down e') (down e)

not_below_neg : (y : Float) (k m : ℕ) (e : ℤ) → HasValue y false k 1 → lt y (fin true m e) ≡ false
unfolding lt
not_below_neg nan k m e v = absurd v
not_below_neg (inf s) k m e v = absurd v
not_below_neg (fin true m' e') k m e v = absurd (true≢false v.0)
not_below_neg (fin false m' e') k m e v = refl

-- the quotient rounded up
up_more : (N D : ℕ) → 0 < D → N / D * D < N → N / D + 1 ≡ (N + (D - 1)) / D
up_more N D p h =
    let q : ℕ = N / D in
    let one : (q + 1) * D ≡ q * D + D = add-mul q 1 D ∙ ap (λ (k : ℕ). q * D + k) (one-mul D) in
    let two : (q + 2) * D ≡ q * D + 2 * D = add-mul q 2 D in
    let lo : q + 1 ≤ (N + (D - 1)) / D = (le-div_iff_mul-le {k = D} {x = q + 1} {y = N + (D - 1)} p).1 (omega arith) in
    let hi : (N + (D - 1)) / D < q + 2 = (div-lt_iff_lt-mul {k = D} {x = N + (D - 1)} {y = q + 2} p).1 (omega (arith, lt-div-mul-add {a = N} {b = D} p)) in
    omega arith

up_same : (N D : ℕ) → 0 < D → N ≤ N / D * D → N / D ≡ (N + (D - 1)) / D
up_same N D p h =
    let q : ℕ = N / D in
    let one : (q + 1) * D ≡ q * D + D = add-mul q 1 D ∙ ap (λ (k : ℕ). q * D + k) (one-mul D) in
    let lo : q ≤ (N + (D - 1)) / D = (le-div_iff_mul-le {k = D} {x = q} {y = N + (D - 1)} p).1 (omega (arith, div-mul-le_self N D)) in
    let hi : (N + (D - 1)) / D < q + 1 = (div-lt_iff_lt-mul {k = D} {x = N + (D - 1)} {y = q + 1} p).1 (omega arith) in
    omega arith

-- the test that the machine makes: the cut's float against x
test_pos : (m : ℕ) (e : ℤ) (z : m * up e < 2 ^ 40 * down e) → lt (of_int binary64 (to_signed 63 (fin false m e))) (fin false m e) ≡ ltb (m * up e / down e * down e) (m * up e)
unfolding of_int
test_pos m e z =
    let n : ℕ = m * up e / down e in
    ap (λ (k : ℤ). lt (of_int binary64 k) (fin false m e)) (cut_pos m e z) ∙ against (round binary64 false n 1) n m e (round_whole binary64 false n (omega (arith, n_small m e z)))

neg_at : (k m : ℕ) (e : ℤ) → k ≤ 2 ^ 40 → k * down e ≤ m * up e → lt (of_int binary64 (neg_ℤ (pos k))) (fin true m e) ≡ false
unfolding of_int
neg_at zero m e s h = not_below_neg (round binary64 false 0 1) 0 m e (round_whole binary64 false 0 (omega arith))
neg_at (suc k) m e s h = against_neg (round binary64 true (suc k) 1) (suc k) m e (round_whole binary64 true (suc k) (omega arith)) h

test_neg : (m : ℕ) (e : ℤ) (z : m * up e < 2 ^ 40 * down e) → lt (of_int binary64 (to_signed 63 (fin true m e))) (fin true m e) ≡ false
test_neg m e z = ap (λ (k : ℤ). lt (of_int binary64 k) (fin true m e)) (cut_neg m e z) ∙ neg_at (m * up e / down e) m e (omega (arith, n_small m e z)) (div-mul-le_self (m * up e) (down e))

-- the cut and the ceiling, by that test
ceil_more : (x : Float) → Small x → lt (of_int binary64 (to_signed 63 x)) x ≡ true → to_signed 63 x +ℤ pos 1 ≡ ceil x
unfolding ceil
ceil_more nan z t = absurd z
ceil_more (inf s) z t = absurd z
ceil_more (fin false m e) z t =
    ap (λ (k : ℤ). k +ℤ pos 1) (cut_pos m e z) ∙ ap pos (up_more (m * up e) (down e) (down_pos e) (ltb-true (m * up e / down e * down e) (m * up e) (sym (test_pos m e z) ∙ t)))
ceil_more (fin true m e) z t = absurd (true≢false (sym t ∙ test_neg m e z))

ceil_same : (x : Float) → Small x → lt (of_int binary64 (to_signed 63 x)) x ≡ false → to_signed 63 x ≡ ceil x
unfolding ceil
ceil_same nan z t = absurd z
ceil_same (inf s) z t = absurd z
ceil_same (fin false m e) z t =
    cut_pos m e z ∙ ap pos (up_same (m * up e) (down e) (down_pos e) (ltb-false (m * up e / down e * down e) (m * up e) (sym (test_pos m e z) ∙ t)))
ceil_same (fin true m e) z t = cut_neg m e z

-- the size of the cut
mag_neg : (k : ℕ) → mag (neg_ℤ (pos k)) ≤ k
mag_neg zero = omega arith
mag_neg (suc k) = omega arith

cut_small : (x : Float) → Small x → mag (to_signed 63 x) ≤ 2 ^ 40
cut_small nan z = absurd z
cut_small (inf s) z = absurd z
cut_small (fin false m e) z = subst (λ (k : ℤ). mag k ≤ 2 ^ 40) (sym (cut_pos m e z)) (omega (arith, n_small m e z))
cut_small (fin true m e) z = subst (λ (k : ℤ). mag k ≤ 2 ^ 40) (sym (cut_neg m e z)) (omega (arith, n_small m e z, mag_neg (m * up e / down e)))

pub in_float_lem : (k : ℤ) → mag k < 2 ^ 53 → T (in_float binary64 k)
unfolding in_float
in_float_lem (pos n) h = le→leb n (2 ^ 53) (omega arith)
in_float_lem (negsuc n) h = lt→ltb n (2 ^ 53) (omega arith)

-- the size of the ceiling
pub ceil_small : (x : Float) → Small x → mag (ceil x) ≤ 2 ^ 40
unfolding ceil
ceil_small nan z = absurd z
ceil_small (inf s) z = absurd z
ceil_small (fin false m e) z = let h : (m * up e + (down e - 1)) / down e < 2 ^ 40 + 1 = (div-lt_iff_lt-mul {k = down e} {x = m * up e + (down e - 1)} {y = 2 ^ 40 + 1} (down_pos e)).1 (omega (arith, down_pos e)) in omega arith
ceil_small (fin true m e) z = omega (arith, n_small m e z, mag_neg (m * up e / down e))

-- ---- as the program has it: t is the cut, kept in 64 bits
module _ (x : Float) (t : ℤ) (z : Small x) (e : t ≡ to_signed 63 x) where
  small : mag t ≤ 2 ^ 40
  small = subst (λ (k : ℤ). mag k ≤ 2 ^ 40) (sym e) (cut_small x z)

  back : to_z w64 (of_z w64 t) ≡ t
  back = to_z-of_z {w = w64} (record { sfits = omega (arith, small) })

  pub cut_float : T (in_float binary64 (to_z w64 (of_z w64 t)))
  cut_float = rw back (in_float_lem t (omega (arith, small)))

  more : SFits w64 (t +ℤ pos 1)
  more = record { sfits = omega (arith, small, mag_add t (pos 1)) }

  pub more_fits : SFits w64 (to_z w64 (of_z w64 t) +ℤ pos 1)
  more_fits = rw back more

  pub is_more : lt (of_int binary64 (to_z w64 (of_z w64 t))) x ≡ true → to_z w64 (of_z w64 (to_z w64 (of_z w64 t) +ℤ pos 1)) ≡ ceil x
  is_more h = rw (back, to_z-of_z more, e) (ceil_more x z (ap (λ (k : ℤ). lt (of_int binary64 k) x) (sym (back ∙ e)) ∙ h))

  pub is_same : lt (of_int binary64 (to_z w64 (of_z w64 t))) x ≡ false → to_z w64 (of_z w64 t) ≡ ceil x
  is_same h = back ∙ e ∙ ceil_same x z (ap (λ (k : ℤ). lt (of_int binary64 k) x) (sym (back ∙ e)) ∙ h)
