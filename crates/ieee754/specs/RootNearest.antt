-- The root is the nearest value: no number of units that the format holds lies nearer to the exact root, which is that of mag x * unit.
use Rattle.std.specs.Prelude.{◌≡◌, ℕ, zero, suc, ◌+◌, ◌-◌, ◌*◌, ◌/◌, ◌^◌, ◌<◌, ◌≤◌, true, false, T, ◌⊎◌, Float}
use Rattle.std.proofs.Common.{sym, ap, ◌∙◌, subst, inl, inr, true≢false, le_of_eq, le_of_lt, lt_of_le_of_lt, lt_of_lt_of_le, mul-le-mul_left, mul-le-mul_right, mul-pos, zero-mul, lt_of_mul-lt-mul_right, zero-lt-suc, div-lt_iff_lt-mul, le-div_iff_mul-le, div-mul-le_self, not-le_of_lt, lit≤, pow-add, pow_pos, pow_mono}
use Rattle.std.proofs.Math.Nat.{le_trans, lt-div-mul-add}
use native.Mathlib.Omega.{arith, by_contra}
use Rattle.std.specs.Float.{nan, inf, fin, binary64}
use Rattle.std.specs.Float.Ieee.{fits, down, size}
use Rattle.std.specs.Float.Ieee.Digits.{size-lt, size_reaches}
use Rattle.std.specs.Float.Ieee.Fits.{up_pos}
use Rattle.std.specs.Float.Ieee.Scale.{finite}
use Rattle.ring.specs.Nat.{sq_mono, lt_or_ge, align}
use Rattle.ieee754.specs.Value.{unit, unit_pos, mag, sign, Good}
use Rattle.ieee754.specs.Exact.{Rep, fits_good, fits_below}
use Rattle.ieee754.specs.Root.{isqrt, root}
use Rattle.ieee754.specs.RootLaw.{isqrt_root, zero_mag}
use Rattle.ieee754.specs.RootDigits.{root_digits}
use Rattle.ieee754.specs.Nearest.{Nearer}

-- ---- the 54 leading digits of r
record Leading (r : ℕ) : Type 0 where
  places : ℕ
  low : 2 ^ 53 ≤ r / 2 ^ places
  high : r / 2 ^ places < 2 ^ 54

leading : (r : ℕ) → 2 ^ 54 ≤ r → Leading r
leading r h = go (size r) (size-lt r) (size_reaches r)
  where
    go : (z : ℕ) → r < 2 ^ z → ((j : ℕ) → j < z → 2 ^ j ≤ r) → Leading r
    go z l f =
        let m : 54 ≤ z = by_contra 54 z (λ k. not-le_of_lt (lt_of_lt_of_le l (pow_mono (le_of_lt k))) h) in
        record {
          places = z - 54;
          low = (le-div_iff_mul-le (pow_pos (z - 54))).1 (le_trans (le_of_eq (sym (pow-add 2 53 (z - 54)))) (f (53 + (z - 54)) (omega arith)));
          high = (div-lt_iff_lt-mul (pow_pos (z - 54))).1 (lt_of_lt_of_le l (le_of_eq (ap (λ (n : ℕ). 2 ^ n) (back z m) ∙ pow-add 2 54 (z - 54))));
        }
      where
        back : (z : ℕ) → 54 ≤ z → z ≡ 54 + (z - 54)
        back z m = omega arith

-- ---- twice the root lies from s to s + 1 times 2 ^ k units: another value K, with the rounded root, lies on one side of that
-- K is a whole number of 2 ^ k units, or at most 2 ^ 52 of them
coarse_or_small : (k K : ℕ) → Rep K → ((j : ℕ) × (K ≡ j * 2 ^ k)) ⊎ (K ≤ 2 ^ 52 * 2 ^ k)
coarse_or_small k K r = elim (lt_or_ge r.places k) [
  | inl l ↦ inr (le_trans (le_of_eq r.is) (few r.digits (2 ^ r.places) (2 ^ k) r.few (le_trans (le_of_eq (sym (pow-add 2 1 r.places))) (pow_mono {i = 1 + r.places} (omega arith)))))
  | inr g ↦ inl (r.digits * 2 ^ (r.places - k), r.is ∙ align r.digits g)
]
  where
    few : (d p w : ℕ) → d < 2 ^ 53 → 2 * p ≤ w → d * p ≤ 2 ^ 52 * w
    few d p w b h = let x : d * p ≤ 2 ^ 53 * p = mul-le-mul_right p (le_of_lt b) in omega arith

module _ (s k K : ℕ) (lo : 2 ^ 53 ≤ s) (r : Rep K) where
  under : K < (s + 1) / 2 * 2 ^ k → K + (s + 1) / 2 * 2 ^ k ≤ s * 2 ^ k
  under h = elim (coarse_or_small k K r) [ inl p ↦ whole ((s + 1) / 2) p.0 (2 ^ k) p.1 (half s) (pow_pos k) h | inr l ↦ small ((s + 1) / 2) (2 ^ k) (fits s lo) l ]
    where
      half : (s : ℕ) → 2 * ((s + 1) / 2) ≤ s + 1
      half s = omega arith

      fits : (s : ℕ) → 2 ^ 53 ≤ s → 2 ^ 52 + (s + 1) / 2 ≤ s
      fits s h = omega arith

      whole : (q j w : ℕ) → K ≡ j * w → 2 * q ≤ s + 1 → 0 < w → K < q * w → K + q * w ≤ s * w
      whole q j w e h p l =
          let a : j < q = lt_of_mul-lt-mul_right w (lt_of_le_of_lt (le_of_eq (sym e)) l) in
          let b : (j + q) * w ≤ s * w = mul-le-mul_right w (omega arith) in
          omega arith

      small : (q w : ℕ) → 2 ^ 52 + q ≤ s → K ≤ 2 ^ 52 * w → K + q * w ≤ s * w
      small q w h l = let a : (2 ^ 52 + q) * w ≤ s * w = mul-le-mul_right w h in omega arith

  over : (s + 1) / 2 * 2 ^ k < K → (s + 1) * 2 ^ k ≤ K + (s + 1) / 2 * 2 ^ k
  over h = elim (coarse_or_small k K r) [ inl p ↦ whole ((s + 1) / 2) p.0 (2 ^ k) p.1 (half s) h | inr l ↦ absurd (small ((s + 1) / 2) (2 ^ k) (large s lo) l h) ]
    where
      half : (s : ℕ) → s ≤ 2 * ((s + 1) / 2)
      half s = omega arith

      large : (s : ℕ) → 2 ^ 53 ≤ s → 2 ^ 52 ≤ (s + 1) / 2
      large s h = omega arith

      whole : (q j w : ℕ) → K ≡ j * w → s ≤ 2 * q → q * w < K → (s + 1) * w ≤ K + q * w
      whole q j w e h l =
          let a : q < j = lt_of_mul-lt-mul_right w (lt_of_lt_of_le l (le_of_eq e)) in
          let b : (s + 1) * w ≤ (j + q) * w = mul-le-mul_right w (omega arith) in
          omega arith

      small : (q w : ℕ) → 2 ^ 52 ≤ q → K ≤ 2 ^ 52 * w → q * w < K → ⊥
      small q w h l m = let a : 2 ^ 52 * w ≤ q * w = mul-le-mul_right w h in omega arith

-- the rounded root z of x, and each other value K: the middle of the two is at most the exact root where K lies below z, and more than it where K lies above
pub record Placed (x z : Float) : Type 0 where
  pub good : Good z
  pub sign_is : sign z ≡ false
  pub below : (K : ℕ) → Rep K → K < mag z → (K + mag z) * (K + mag z) ≤ 4 * (mag x * unit)
  pub above : (K : ℕ) → Rep K → mag z < K → 4 * (mag x * unit) < (K + mag z) * (K + mag z)

pub root_placed : (x : Float) → T (fits binary64 x) → T (finite x) → sign x ≡ false → Placed x (root x)
unfolding root sign Good
root_placed nan f t p = absurd t
root_placed (inf q) f t p = absurd t
root_placed (fin q zero e) f t p =
    let z = zero_mag q e in
    record {
      good = (fits_good (fin q zero e) f t).0;
      sign_is = p;
      below = λ K r h. none (mag (fin q zero e)) K z h;
      above = λ K r h. more (mag (fin q zero e)) K z h;
    }
  where
    none : (m K : ℕ) → m ≡ 0 → K < m → (K + m) * (K + m) ≤ 4 * (m * unit)
    none m K z h = absurd (omega arith)

    more : (m K : ℕ) → m ≡ 0 → m < K → 4 * (m * unit) < (K + m) * (K + m)
    more m K z h =
        let a : 1 * 1 ≤ (K + m) * (K + m) = sq_mono {a = 1} (omega arith) in
        let b : 4 * (m * unit) ≡ 4 * (0 * unit) = ap (λ (n : ℕ). 4 * (n * unit)) z in
        omega arith
root_placed (fin true (suc n) e) f t p = absurd (true≢false p)
root_placed (fin false (suc n) e) f t p = go (leading R large)
  where
    x : Float
    x = fin false (suc n) e

    good : Good x × Rep (mag x)
    good = fits_good x f t

    v : ℕ
    v = mag x * unit

    R : ℕ
    R = isqrt (4 * v)

    positive : 0 < mag x
    positive = lt_of_mul-lt-mul_right (down e) (lt_of_le_of_lt (le_of_eq (zero-mul (down e))) (lt_of_lt_of_le (mul-pos (mul-pos (zero-lt-suc n) (up_pos e)) unit_pos) (le_of_eq good.0)))

    large : 2 ^ 54 ≤ R
    large = by_contra (2 ^ 54) R (λ l. not-le_of_lt (isqrt_root (4 * v)).1 (le_trans (sq_mono (next R l)) many))
      where
        next : (R : ℕ) → R < 2 ^ 54 → R + 1 ≤ 2 ^ 54
        next R l = omega arith

        many : 2 ^ 54 * 2 ^ 54 ≤ 4 * v
        many = unfold unit in le_trans (lit≤ tt) (mul-le-mul_left 4 (mul-le-mul_right {m = 1} unit positive))

    go : Leading R → Placed x (root x)
    go l =
        let k = l.places in
        let s = R / 2 ^ k in
        let a : s * 2 ^ k * (s * 2 ^ k) ≤ 4 * v = le_trans (sq_mono (div-mul-le_self R (2 ^ k))) (isqrt_root (4 * v)).0 in
        let b : 4 * v < (s + 1) * 2 ^ k * ((s + 1) * 2 ^ k) = lt_of_lt_of_le (isqrt_root (4 * v)).1 (sq_mono (step R s (2 ^ k) (lt-div-mul-add (pow_pos k)))) in
        let i = root_digits x s k good.0 p good.1 (fits_below x f t) l.low l.high a b in
        record {
          good = i.good;
          sign_is = i.sign_is;
          below = λ K r. subst (λ (z : ℕ). K < z → (K + z) * (K + z) ≤ 4 * v) (sym i.mag_is) (λ h. le_trans (sq_mono (under s k K l.low r h)) a);
          above = λ K r. subst (λ (z : ℕ). z < K → 4 * v < (K + z) * (K + z)) (sym i.mag_is) (λ h. lt_of_lt_of_le b (sq_mono (over s k K l.low r h)));
        }
      where
        step : (r s p : ℕ) → r < s * p + p → r + 1 ≤ (s + 1) * p
        step r s p h = omega arith

pub root_nearest : (x : Float) → T (fits binary64 x) → T (finite x) → sign x ≡ false → (K : ℕ) → Rep K → Nearer (mag x * unit) (mag (root x)) K
root_nearest x f t p K r = let w = root_placed x f t p in record { below = w.below K r; above = λ h. le_of_lt (w.above K r h) }
