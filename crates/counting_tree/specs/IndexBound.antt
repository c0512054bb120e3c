-- The index of a count is below 2 ^ 31 in size, at every side.
use Rattle.std.specs.Prelude.{◌≡◌, refl, Bool, true, false, ◌&&◌, ℕ, zero, suc, ◌+◌, ◌*◌, ◌^◌, ◌≤◌, ◌<◌, ℤ, pos, negsuc, nat_abs, neg_ℤ, ◌+ℤ◌, Float}
use Rattle.std.proofs.Common.{sym, subst, ◌∙◌, le_trans, lt_of_le_of_lt, le_of_mul-le-mul_right, mul-le-mul_right, mul-le-mul_left, add_comm, add-mul, arith, lit<, lit≤, le-ltb}
use Rattle.std.specs.Int.Signed as Signed
use Rattle.std.specs.Float.{binary64}
use Rattle.std.specs.Float.Ieee.{of_int, add, sub, div, neg, lt, le}
use Rattle.ieee754.specs.Value.{unit, unit_pos, mag, sign, Good, Is, close_twice}
use Rattle.ieee754.specs.Ops.{plus, minus, plus_pos, minus_pos, plus_neg, minus_neg, mag_parts, add_near, sub_near, div_near}
use Rattle.ieee754.specs.Abs.{approx_abs}
use Rattle.ieee754.specs.Ceil.{ceil}
use Rattle.hyperparams.specs.Params.{float}
use Rattle.counting_tree.specs.Grid.{index, half}
use Rattle.counting_tree.specs.Radius.{Side}
use Rattle.counting_tree.specs.InBox.{ceil_pos, ceil_neg, side_pos, coordinate_is, side_half, half_side, index_by, index_by_lem}

mag_from : (z : Float) (A B T : ℕ) → (plus z + B ≤ A + minus z + T) × (A + minus z ≤ plus z + B + T) → mag z ≤ A + B + T
mag_from z A B T h = go (sign z) refl
  where
    go : (s : Bool) → sign z ≡ s → mag z ≤ A + B + T
    go false e = let p = plus_pos z e in let m = minus_pos z e in omega arith
    go true e = let p = plus_neg z e in let m = minus_neg z e in omega arith

quotient_bound : (z side : Float) → Good z → Side side → mag z ≤ 98305 * unit → Good (div binary64 z side) × (mag (div binary64 z side) ≤ 7 * 2 ^ 28 * unit)
quotient_bound z side g s h =
    let P = side_pos side s in
    let q = div_near z side g s.good P (reach (mag z) (mag side) unit h s.low) in
    let t = close_twice (mag (div binary64 z side)) (mag z * unit) (mag side) q.close in
    (q.good, le_trans (le_of_mul-le-mul_right {k = mag side} (under (mag (div binary64 z side)) (mag z) (mag side) unit t h s.low) P) (last unit unit_pos))
  where
    reach : (Z S u : ℕ) → Z ≤ 98305 * u → u ≤ 2 ^ 13 * S → Z ≤ 2 ^ 100 * S
    reach Z S u a b = omega arith

    under : (Q Z S u : ℕ) → Q * S ≤ 2 * (Z * u) + S → Z ≤ 98305 * u → u ≤ 2 ^ 13 * S → Q * S ≤ (1610629120 * u + 1) * S
    under Q Z S u t a b = omega (arith, mul-le-mul_right u a, mul-le-mul_left u b)

    last : (u : ℕ) → 0 < u → 1610629120 * u + 1 ≤ 7 * 2 ^ 28 * u
    last u p = omega arith

-- the coordinate x = c, and h half the side
module _ (side h x : Float) (c : ℤ) (half_is : h ≡ half side) (e : x ≡ of_int binary64 c) (s : Side side) (b : nat_abs c ≤ 2 ^ 15) where
  x_is : Good x × (mag x ≤ 2 ^ 16 * unit)
  x_is = subst (λ (y : Float). Good y × (mag y ≤ 2 ^ 16 * unit)) (sym e) (coordinate_is c b)

  h_is : Is h false (side_half side s).part
  h_is = subst (λ (y : Float). Is y false (side_half side s).part) (sym half_is) (half_side side s (side_half side s))

  h_small : mag h ≤ 2 ^ 15 * unit
  h_small = go (mag h) (side_half side s).part (mag side) unit h_is.mag_is (side_half side s).twice s.high
    where
      go : (m p S u : ℕ) → m ≡ p → S ≡ 2 * p → S ≤ 2 ^ 16 * u → m ≤ 2 ^ 15 * u
      go m p S u a b c = omega arith

  room : 2 ^ 17 * unit + 2 ^ 52 ≤ 2 ^ 53 * unit
  room = go unit unit_pos
    where
      go : (u : ℕ) → 0 < u → 2 ^ 17 * u + 2 ^ 52 ≤ 2 ^ 53 * u
      go u p = omega arith

  bound : (a b c d m n u : ℕ) → m ≡ a + b → n ≡ c + d → m ≤ 2 ^ 16 * u → n ≤ 2 ^ 15 * u → (a + c ≤ b + d + 2 ^ 17 * u) × (b + d ≤ a + c + 2 ^ 17 * u)
  bound a b c d m n u e f h k = omega arith

  total : (a b c d m n u z : ℕ) → m ≡ a + b → n ≡ c + d → m ≤ 2 ^ 16 * u → n ≤ 2 ^ 15 * u → z ≤ a + c + (b + d) + u → z ≤ 98305 * u
  total a b c d m n u z e f h k l = omega arith

  pub above_bound : Good (div binary64 (sub binary64 x h) side) × (mag (div binary64 (sub binary64 x h) side) ≤ 7 * 2 ^ 28 * unit)
  above_bound =
      let k : mag h ≡ minus h + plus h = mag_parts h ∙ add_comm (plus h) (minus h) in
      let w = bound (plus x) (minus x) (minus h) (plus h) (mag x) (mag h) unit (mag_parts x) k x_is.1 h_small in
      let n = sub_near x h (2 ^ 17 * unit) x_is.0 h_is.good (mul-le-mul_right unit (lit≤ tt)) w.0 w.1 in
      let m = mag_from (sub binary64 x h) (plus x + minus h) (minus x + plus h) unit (approx_abs (sub binary64 x h) (plus x + minus h) (minus x + plus h) (2 ^ 17 * unit + 2 ^ 52) unit room n) in
      quotient_bound (sub binary64 x h) side n.good s (total (plus x) (minus x) (minus h) (plus h) (mag x) (mag h) unit (mag (sub binary64 x h)) (mag_parts x) k x_is.1 h_small m)

  pub below_bound : Good (div binary64 (add binary64 x h) side) × (mag (div binary64 (add binary64 x h) side) ≤ 7 * 2 ^ 28 * unit)
  below_bound =
      let w = bound (plus x) (minus x) (plus h) (minus h) (mag x) (mag h) unit (mag_parts x) (mag_parts h) x_is.1 h_small in
      let n = add_near x h (2 ^ 17 * unit) x_is.0 h_is.good (mul-le-mul_right unit (lit≤ tt)) w.0 w.1 in
      let m = mag_from (add binary64 x h) (plus x + plus h) (minus x + minus h) unit (approx_abs (add binary64 x h) (plus x + plus h) (minus x + minus h) (2 ^ 17 * unit + 2 ^ 52) unit room n) in
      quotient_bound (add binary64 x h) side n.good s (total (plus x) (minus x) (plus h) (minus h) (mag x) (mag h) unit (mag (add binary64 x h)) (mag_parts x) (mag_parts h) x_is.1 h_small m)

-- a ceiling is less than one above what it is of
ceiling_bound : (q : Float) (b : ℕ) → Good q × (mag q ≤ b * unit) → Signed.mag (ceil q) ≤ b + 1
ceiling_bound q b (g, h) = go (sign q) refl
  where
    under : (i M u : ℕ) → 0 < u → i * u ≤ M + u → M ≤ b * u → i ≤ b + 1
    under i M u p a h = le_of_mul-le-mul_right {k = u} (omega (arith, add-mul b 1 u)) p

    turn : (j : ℕ) → Signed.mag (neg_ℤ (pos j)) ≤ suc j
    turn zero = omega arith
    turn (suc j) = omega arith

    go : (s : Bool) → sign q ≡ s → Signed.mag (ceil q) ≤ b + 1
    go false e = let (i, r, l, m) = ceil_pos q g e in subst (λ (k : ℤ). Signed.mag k ≤ b + 1) (sym r) (under i (mag q) unit unit_pos m h)
    go true e = let (j, r, l, m) = ceil_neg q g e in subst (λ (k : ℤ). Signed.mag k ≤ b + 1) (sym r) (le_trans (turn j) (under (suc j) (mag q) unit unit_pos m h))

-- one less is at most one larger in size
less : (k : ℤ) → Signed.mag (negsuc 0 +ℤ k) ≤ Signed.mag k + 1
less (pos zero) = omega arith
less (pos (suc m)) = rw (le-ltb (suc m) 1 (omega arith)) (omega arith)
less (negsuc m) = omega arith

-- the index of a count is below 2 ^ 31 in size, at every side
pub index_small : (side : Float) (c : ℤ) → Side side → nat_abs c ≤ 2 ^ 15 → Signed.mag (index side c) < 2 ^ 31
unfolding index index_by
index_small side c s b =
    let x = of_int binary64 c in
    let h = half side in
    subst (λ (k : ℤ). Signed.mag k < 2 ^ 31) (sym (index_by_lem side h x))
    (go (le (neg h) x && lt x h) (lt (float 0) x) (ceiling_bound _ (7 * 2 ^ 28) (above_bound side h x c refl refl s b)) (ceiling_bound _ (7 * 2 ^ 28) (below_bound side h x c refl refl s b)))
  where
    go : (t u : Bool) → Signed.mag (ceil (div binary64 (sub binary64 (of_int binary64 c) (half side)) side)) ≤ 7 * 2 ^ 28 + 1 → Signed.mag (ceil (div binary64 (add binary64 (of_int binary64 c) (half side)) side)) ≤ 7 * 2 ^ 28 + 1
        → Signed.mag (index_by t u side (half side) (of_int binary64 c)) < 2 ^ 31
    go true u h k = lit< tt
    go false true h k = lt_of_le_of_lt h (lit< tt)
    go false false h k = lt_of_le_of_lt (less (ceil (div binary64 (add binary64 (of_int binary64 c) (half side)) side))) (room (Signed.mag (ceil (div binary64 (add binary64 (of_int binary64 c) (half side)) side))) k)
      where
        room : (n : ℕ) → n ≤ 7 * 2 ^ 28 + 1 → n + 1 < 2 ^ 31
        room n h = omega arith
