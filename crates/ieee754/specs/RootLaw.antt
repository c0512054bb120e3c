-- The rounded root against whole-number squares: where K² is at least, or at most, the square of the exact root in units, K is so of the rounded root, but for 2 ^ -50 of it and a unit.
use Rattle.std.specs.Prelude.{◌≡◌, ℕ, zero, suc, ◌+◌, ◌-◌, ◌*◌, ◌/◌, ◌^◌, ◌<◌, ◌≤◌, Bool, true, false, cond, not, T, [], ◌∷◌, ℤ, nat_le, nat_lt, refl, Float}
use Rattle.std.proofs.Common.{sym, ap, ◌∙◌, subst, true≢false, le_trans, le_of_eq, lt_of_le_of_lt, lt_of_lt_of_le, mul-le-mul, mul-le-mul_right, mul-pos, pow-suc, div-lt_iff_lt-mul, zero-lt-suc, le_of_mul-le-mul_right, zero-mul, arith, leb→le, lit<, lit≤, pow_pos, pow_mono}
use Rattle.std.proofs.Math.Nat.{le_of_mul-le-mul_left, zero-div}
use Rattle.std.proofs.Math.Dec.{nleb→lt}
use Rattle.std.specs.Float.{nan, inf, fin, binary64}
use Rattle.std.specs.Float.Ieee.{size, round, up, down}
use Rattle.std.specs.Float.Ieee.Digits.{size-lt}
use Rattle.std.specs.Float.Ieee.Fits.{up_pos, down_pos}
use Rattle.ieee754.specs.Steps.{Root}
use Rattle.ring.proofs.Ring.{pow_mul, poly, done}
use Rattle.ring.proofs.Order.{belowℕ, num, slackℕ, ◌⊞◌, ◌⊠◌}
use Rattle.ring.specs.Nat.{sq_le_back, sq_lt_back}
use Rattle.ieee754.specs.Value.{unit, unit_pos, mag, sign, Good, Rounded, round_near}
use Rattle.ieee754.specs.Root.{isqrt_at, isqrt, root_of, root}

-- ---- the whole root
isqrt_step : (n s : ℕ) → Root (n / 4) s → Root n (cond (nat_le ((2 * s + 1) * (2 * s + 1)) n) (2 * s + 1) (2 * s))
isqrt_step n s h = go (nat_le ((2 * s + 1) * (2 * s + 1)) n) (leb→le ((2 * s + 1) * (2 * s + 1)) n) (nleb→lt ((2 * s + 1) * (2 * s + 1)) n)
  where
    go : (b : Bool) → (T b → (2 * s + 1) * (2 * s + 1) ≤ n) → (T (not b) → n < (2 * s + 1) * (2 * s + 1)) → Root n (cond b (2 * s + 1) (2 * s))
    go true f g = (f tt, omega arith)
    go false f g = (omega arith, g tt)

isqrt_at_root : (k n : ℕ) → n < 4 ^ k → Root n (isqrt_at k n)
unfolding isqrt_at
isqrt_at_root zero n h = omega arith
isqrt_at_root (suc k) n h = isqrt_step n (isqrt_at k (n / 4)) (isqrt_at_root k (n / 4) ((div-lt_iff_lt-mul (zero-lt-suc 3)).1 (subst (λ (x : ℕ). n < x) (pow-suc 4 k) h)))

pub isqrt_root : (n : ℕ) → Root n (isqrt n)
unfolding isqrt
isqrt_root n = isqrt_at_root ((size n + 1) / 2) n (lt_of_lt_of_le (size-lt n) (le_trans (pow_mono (enough (size n))) (le_of_eq (pow_mul 2 ((size n + 1) / 2) 2))))
  where
    enough : (z : ℕ) → z ≤ (z + 1) / 2 * 2
    enough z = omega arith

-- ---- r / l, the whole root's fraction, against K / u for V = a u² / c
module _ (a c r u K P : ℕ) where
  whole_high : r * r ≤ a * (c * P) * P → a * u * u ≤ K * K * c → r * u ≤ K * (c * P)
  whole_high x h = sq_le_back (r * u) (K * (c * P)) (omega (arith, mul-le-mul_right (u * u) x, mul-le-mul_right (c * P * P) h))

  whole_low : a * (c * P) * P < (r + 1) * (r + 1) → K * K * c ≤ a * u * u → K * (c * P) ≤ (r + 1) * u
  whole_low x h = sq_le_back (K * (c * P)) ((r + 1) * u) (omega (arith, mul-le-mul_right (u * u) x, mul-le-mul_right (c * P * P) h))

-- ---- from the fraction F / (2 l) in units, F = (2 r + st) u
high_sum : (z l F kl u : ℕ) → 2 ^ 53 * (z * (2 * l)) ≤ 2 ^ 53 * F + F + 2 ^ 52 * (2 * l) → F ≤ 2 * kl + u → 2 ^ 54 * u ≤ kl → 2 ^ 50 * (z * l) ≤ 2 ^ 50 * kl + kl + 2 ^ 50 * l
high_sum z l F kl u c f s = le_of_mul-le-mul_left {k = 2 ^ 4}
    (belowℕ (z ∷ l ∷ F ∷ kl ∷ u ∷ []) (slackℕ c ⊞ num (2 ^ 53 + 1) ⊠ slackℕ f ⊞ slackℕ s ⊞ num (13 * kl + (2 ^ 53 - 1) * u + 2 ^ 53 * l)) (search poly depth 30) done) (lit< tt)

low_sum : (z l F kl u : ℕ) → 2 ^ 53 * F ≤ 2 ^ 53 * (z * (2 * l)) + F + 2 ^ 52 * (2 * l) → 2 * kl ≤ F + 2 * u → 2 ^ 55 * u ≤ F → 2 ^ 50 * kl ≤ 2 ^ 50 * (z * l) + z * l + 2 ^ 50 * l
low_sum z l F kl u c f s = le_of_mul-le-mul_left {k = 2 ^ 5 * (2 ^ 53 - 1)}
    (belowℕ (z ∷ l ∷ F ∷ kl ∷ u ∷ [])
    (num (2 ^ 54 + 1) ⊠ slackℕ c ⊞ num (2 ^ 53 - 1) ⊠ (num (2 ^ 54) ⊠ slackℕ f ⊞ slackℕ s)
    ⊞ num ((2 ^ 58 - 2 ^ 55 - 2 ^ 54 - 2 ^ 5) * (z * l) + (2 ^ 107 - 2 ^ 55 - 2 ^ 53) * l)) (search poly depth 30) done) (lit< tt)

-- ---- the rounded root of a / c
abbrev pub scale : ℕ → ℕ
scale c = c * 2 ^ 54

abbrev pub whole_of : ℕ → ℕ → ℕ
whole_of a c = isqrt (a * scale c * 2 ^ 54)

abbrev pub stick : ℕ → ℕ → ℕ
stick r x = cond (nat_lt (r * r) x) 1 0

pub root_of_is : (a c : ℕ) → root_of a c ≡ round binary64 false (2 * whole_of a c + stick (whole_of a c) (a * scale c * 2 ^ 54)) (2 * scale c)
unfolding root_of
root_of_is a c = refl

stick_le : (r x : ℕ) → stick r x ≤ 1
stick_le r x = go (nat_lt (r * r) x)
  where
    go : (b : Bool) → cond b 1 0 ≤ 1
    go true = lit≤ tt
    go false = lit≤ tt

-- it has 55 digits at least
whole_large : (a c : ℕ) → 0 < a → 0 < c → 2 ^ 54 ≤ whole_of a c
whole_large a c A C =
    let h = (isqrt_root (a * scale c * 2 ^ 54)).1 in
    let p : 1 * 1 ≤ a * c = mul-le-mul A C in
    let q : 2 ^ 54 < whole_of a c + 1 = sq_lt_back (2 ^ 54) (whole_of a c + 1) (lt_of_le_of_lt (big a c p) h) in
    omega arith
  where
    big : (a c : ℕ) → 1 * 1 ≤ a * c → 2 ^ 54 * 2 ^ 54 ≤ a * (c * 2 ^ 54) * 2 ^ 54
    big a c p = omega arith

module _ (a c : ℕ) (A : 0 < a) (C : 0 < c) (small : a ≤ 2 ^ 100 * c) where
  scale_pos : 0 < scale c
  scale_pos = mul-pos C (pow_pos 54)

  pub fits_in : 2 * whole_of a c + stick (whole_of a c) (a * scale c * 2 ^ 54) ≤ 2 ^ 100 * (2 * scale c)
  fits_in =
      let h : whole_of a c * 1 ≤ 2 ^ 50 * (c * 2 ^ 54) = whole_high a c (whole_of a c) 1 (2 ^ 50) (2 ^ 54) (isqrt_root (a * scale c * 2 ^ 54)).0 (unit_free a c small) in
      last (whole_of a c) (stick (whole_of a c) (a * scale c * 2 ^ 54)) (scale c) h (stick_le (whole_of a c) (a * scale c * 2 ^ 54)) scale_pos
    where
      unit_free : (a c : ℕ) → a ≤ 2 ^ 100 * c → a * 1 * 1 ≤ 2 ^ 50 * 2 ^ 50 * c
      unit_free a c h = omega arith

      last : (r s l : ℕ) → r * 1 ≤ 2 ^ 50 * l → s ≤ 1 → 0 < l → 2 * r + s ≤ 2 ^ 100 * (2 * l)
      last r s l h k p = omega arith

  root_of_near : Rounded (root_of a c) false ((2 * whole_of a c + stick (whole_of a c) (a * scale c * 2 ^ 54)) * unit) (2 * scale c)
  root_of_near =
      subst (λ (z : Float). Rounded z false ((2 * whole_of a c + stick (whole_of a c) (a * scale c * 2 ^ 54)) * unit) (2 * scale c)) (sym (root_of_is a c))
      (round_near false (2 * whole_of a c + stick (whole_of a c) (a * scale c * 2 ^ 54)) (2 * scale c) (mul-pos (zero-lt-suc 1) scale_pos) fits_in)

  root_of_high : (K : ℕ) → a * unit * unit ≤ K * K * c → 2 ^ 50 * mag (root_of a c) ≤ 2 ^ 50 * K + K + 2 ^ 50
  root_of_high K h =
      let r = whole_of a c in
      let l = scale c in
      let st = stick r (a * l * 2 ^ 54) in
      let z = mag (root_of a c) in
      let p : r * unit ≤ K * l = whole_high a c r unit K (2 ^ 54) (isqrt_root (a * l * 2 ^ 54)).0 h in
      let q : 2 ^ 54 * unit ≤ r * unit = mul-le-mul_right unit (whole_large a c A C) in
      let f : (2 * r + st) * unit ≤ 2 * (K * l) + unit = over r st (K * l) p (stick_le r (a * l * 2 ^ 54)) in
      le_of_mul-le-mul_right {k = l} (shape (2 ^ 50) z K l (high_sum z l ((2 * r + st) * unit) (K * l) unit root_of_near.close.0 f (le_trans q p))) scale_pos
    where
      over : (r s k : ℕ) → r * unit ≤ k → s ≤ 1 → (2 * r + s) * unit ≤ 2 * k + unit
      over r s k p i = let j : s * unit ≤ 1 * unit = mul-le-mul_right unit i in omega arith

      shape : (n z K l : ℕ) → n * (z * l) ≤ n * (K * l) + K * l + n * l → n * z * l ≤ (n * K + K + n) * l
      shape n z K l h = omega arith

  root_of_low : (K : ℕ) → K * K * c ≤ a * unit * unit → 2 ^ 50 * K ≤ 2 ^ 50 * mag (root_of a c) + mag (root_of a c) + 2 ^ 50
  root_of_low K h =
      let r = whole_of a c in
      let l = scale c in
      let st = stick r (a * l * 2 ^ 54) in
      let z = mag (root_of a c) in
      let p : K * l ≤ (r + 1) * unit = whole_low a c r unit K (2 ^ 54) (isqrt_root (a * l * 2 ^ 54)).1 h in
      let q : 2 ^ 54 * unit ≤ r * unit = mul-le-mul_right unit (whole_large a c A C) in
      let f : 2 * (K * l) ≤ (2 * r + st) * unit + 2 * unit = omega arith in
      let g : 2 ^ 55 * unit ≤ (2 * r + st) * unit = omega arith in
      le_of_mul-le-mul_right {k = l} (shape (2 ^ 50) z K l (low_sum z l ((2 * r + st) * unit) (K * l) unit root_of_near.close.1 f g)) scale_pos
    where
      shape : (n z K l : ℕ) → n * (K * l) ≤ n * (z * l) + z * l + n * l → n * K * l ≤ (n * z + z + n) * l
      shape n z K l h = omega arith

-- ---- the root of a value: V = mag x * unit is its square, in units
pub record Rooted (x z : Float) : Type 0 where
  pub good : Good z
  pub sign_is : sign z ≡ false
  pub high : (K : ℕ) → mag x * unit ≤ K * K → 2 ^ 50 * mag z ≤ 2 ^ 50 * K + K + 2 ^ 50
  pub low : (K : ℕ) → K * K ≤ mag x * unit → 2 ^ 50 * K ≤ 2 ^ 50 * mag z + mag z + 2 ^ 50

pub zero_mag : (t : Bool) (e : ℤ) → mag (fin t zero e) ≡ 0
unfolding mag
zero_mag t e = rw (zero-mul, zero-mul, zero-div)

pub reach : (a u M c K : ℕ) → 0 < u → a * u ≡ M * c → M ≤ K * u → a ≤ K * c
reach a u M c K U g b = le_of_mul-le-mul_right {k = u} (omega (arith, mul-le-mul_right c b)) U

lift_high : (a u M c K : ℕ) → a * u ≡ M * c → M * u ≤ K * K → a * u * u ≤ K * K * c
lift_high a u M c K g h = omega (arith, mul-le-mul_right c h, ap (λ (z : ℕ). z * u) g)

lift_low : (a u M c K : ℕ) → a * u ≡ M * c → K * K ≤ M * u → K * K * c ≤ a * u * u
lift_low a u M c K g h = omega (arith, mul-le-mul_right c h, ap (λ (z : ℕ). z * u) g)

no_side : (K n u : ℕ) → n ≡ 0 → K * K ≤ n * u → K ≤ 0
no_side K n u e h = sq_le_back K 0 (le_trans h (le_of_eq (ap (λ (z : ℕ). z * u) e ∙ zero-mul u)))

pub root_near : (x : Float) → Good x → sign x ≡ false → mag x ≤ 2 ^ 100 * unit → Rooted x (root x)
unfolding root Good sign
root_near nan g s b = absurd g
root_near (inf t) g s b = absurd g
root_near (fin t zero e) g s b = record {
  good = g;
  sign_is = s;
  high = λ K h. zero_high (mag (fin t zero e)) K (zero_mag t e);
  low = λ K h. zero_low (mag (fin t zero e)) K (no_side K (mag (fin t zero e)) unit (zero_mag t e) h);
}
  where
    zero_high : (n K : ℕ) → n ≡ 0 → 2 ^ 50 * n ≤ 2 ^ 50 * K + K + 2 ^ 50
    zero_high n K e = omega arith

    zero_low : (n K : ℕ) → K ≤ 0 → 2 ^ 50 * K ≤ 2 ^ 50 * n + n + 2 ^ 50
    zero_low n K e = omega arith
root_near (fin true (suc m) e) g s b = absurd (true≢false s)
root_near (fin false (suc m) e) g s b =
    let a = suc m * up e in
    let c = down e in
    let A : 0 < a = mul-pos (zero-lt-suc m) (up_pos e) in
    let C : 0 < c = down_pos e in
    let M = mag (fin false (suc m) e) in
    let S : a ≤ 2 ^ 100 * c = reach a unit M c (2 ^ 100) unit_pos g b in
    let r = root_of_near a c A C S in
    record {
      good = r.good;
      sign_is = r.sign_is;
      high = λ K h. root_of_high a c A C S K (lift_high a unit M c K g h);
      low = λ K h. root_of_low a c A C S K (lift_low a unit M c K g h);
    }
