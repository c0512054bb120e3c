-- The rounded root by its digits. In units, 4 V = 4 * mag x * unit is the square of twice the exact root. Where s, of 54 binary digits, is the whole root of 4 V / 4 ^ k,
-- the rounded root is (s + 1) / 2 * 2 ^ k units: no tie arises, since 4 V / 4 ^ k is even.
use Rattle.std.specs.Prelude.{◌≡◌, ℕ, zero, suc, ◌+◌, ◌-◌, ◌*◌, ◌/◌, ◌%◌, ◌^◌, ◌<◌, ◌≤◌, Bool, true, false, cond, not, T, ◌⊎◌, [], ◌∷◌, ℤ, pos, negsuc, ◌≢◌, nat_lt, refl, Float}
use Rattle.std.proofs.Common.{sym, ap, ◌∙◌, subst, inl, inr, true≢false, le_trans, le_of_eq, le_of_lt, lt_of_le_of_lt, lt_of_lt_of_le, mul-le-mul, mul-le-mul_left, mul-le-mul_right, mul-pos, zero-lt-suc, le_of_mul-le-mul_right, lt_of_mul-lt-mul_right, eq-or-lt_of_le, div-lt_iff_lt-mul, le-div_iff_mul-le, lt_of_not-le, not-le_of_lt, mul-lt-mul_of_pos_right, arith, nltb→le, lit<, pow-add, pow_pos, pow_mono}
use Rattle.std.proofs.Math.Nat.{mul-mul-mul_comm, eq_of_mul-eq-mul_right}
use Rattle.std.proofs.Math.Decide.{ℕ_discrete}
use Rattle.std.specs.Float.{nan, inf, fin}
use Rattle.std.specs.Float.Ieee.{up, down, size}
use Rattle.std.specs.Float.Ieee.Digits.{size-lt, size-le}
use Rattle.std.specs.Float.Ieee.Fits.{up_pos, down_pos}
use Rattle.std.specs.Float.Ieee.Order.{drop, kept}
use Rattle.std.specs.Float.Ieee.Nearest.{closest}
use Rattle.ring.proofs.Ring.{ringℕ, poly, done}
use Rattle.ring.proofs.Order.{belowℕ, equalℕ, num, slackℕ, ◌⊞◌, ◌⊠◌, nil, diffℕ, ◌⊙◌}
use Rattle.ring.specs.Nat.{sq_mono, sq_lt_back, exponent_le, align}
use Rattle.ieee754.specs.Near.{closest_half}
use Rattle.ieee754.specs.Value.{unit, unit_pos, mag, sign, Good, Is, round_kept}
use Rattle.ieee754.specs.Exact.{Rep}
use Rattle.ieee754.specs.Root.{root, root_of}
use Rattle.ieee754.specs.RootLaw.{isqrt_root, root_of_is, scale, whole_of, stick, zero_mag}

-- ---- s halves of u, and no whole number of u more: the closest whole number is (s + 1) / 2
closest_is : (n u s : ℕ) → 0 < u → s * u ≤ 2 * n → 2 * n < (s + 1) * u → (s % 2 ≡ 0) ⊎ (s * u < 2 * n) → closest n u ≡ (s + 1) / 2
closest_is n u s U lo hi odd = let h = closest_half n u U in sym (half_up (closest n u) (upper (closest n u) h.0) (lower (closest n u) h.1 odd))
  where
    half_up : (c : ℕ) → 2 * c ≤ s + 1 → s ≤ 2 * c → (s + 1) / 2 ≡ c
    half_up c a b = omega arith

    upper : (c : ℕ) → 2 * (c * u) ≤ 2 * n + u → 2 * c ≤ s + 1
    upper c h = let a : 2 * c < s + 2 = lt_of_mul-lt-mul_right u (omega arith) in omega arith

    lower : (c : ℕ) → 2 * n ≤ 2 * (c * u) + u → (s % 2 ≡ 0) ⊎ (s * u < 2 * n) → s ≤ 2 * c
    lower c h (inl e) = let a : s ≤ 2 * c + 1 = le_of_mul-le-mul_right {k = u} (omega arith) U in omega arith
    lower c h (inr l) = let a : s < 2 * c + 1 = lt_of_mul-lt-mul_right u (omega arith) in omega arith

-- ---- a number of 53 digits and k more
pub dropped : (n k : ℕ) → 2 ^ 52 * 2 ^ k ≤ n → n < 2 ^ 53 * 2 ^ k → size n - 53 ≡ k
dropped n k lo hi =
    let a : size n ≤ 53 + k = size-le n (53 + k) (lt_of_lt_of_le hi (le_of_eq (sym (pow-add 2 53 k)))) in
    let b : 52 + k < size n = lt_of_not-le (λ (g : size n ≤ 52 + k). not-le_of_lt (lt_of_lt_of_le (size-lt n) (pow_mono g)) (le_trans (le_of_eq (pow-add 2 52 k)) lo)) in
    last (size n) a b
  where
    last : (z : ℕ) → z ≤ 53 + k → 52 + k < z → z - 53 ≡ k
    last z a b = omega arith

kept_is : (n den s k : ℕ) → 0 < den → 2 ^ 53 ≤ s → s < 2 ^ 54 → s * (den * 2 ^ k) ≤ 2 * n → 2 * n < (s + 1) * (den * 2 ^ k) → (s % 2 ≡ 0) ⊎ (s * (den * 2 ^ k) < 2 * n)
    → kept 53 n den * 2 ^ drop 53 n den ≡ (s + 1) / 2 * 2 ^ k
kept_is n den s k D lo hi a b odd =
    ap (λ (j : ℕ). closest n (den * 2 ^ j) * 2 ^ j) (dropped (n / den) k ((le-div_iff_mul-le D).1 (under (2 ^ k) a)) ((div-lt_iff_lt-mul D).1 (over (2 ^ k) b)))
    ∙ ap (λ (c : ℕ). c * 2 ^ k) (closest_is n (den * 2 ^ k) s (mul-pos D (pow_pos k)) a b odd)
  where
    under : (w : ℕ) → s * (den * w) ≤ 2 * n → 2 ^ 52 * w * den ≤ n
    under w h = let p : 2 ^ 53 * (den * w) ≤ s * (den * w) = mul-le-mul_right (den * w) lo in omega arith

    over : (w : ℕ) → 2 * n < (s + 1) * (den * w) → n < 2 ^ 53 * w * den
    over w h = let p : suc s * (den * w) ≤ 2 ^ 54 * (den * w) = mul-le-mul_right (den * w) hi in omega arith

-- ---- the root of a / c, X = a l 2 ^ 54 as in `root_of`: s is the whole root of X / 4 ^ w
module _ (a c s k w : ℕ) where
  abbrev X : ℕ
  X = a * scale c * 2 ^ 54

  abbrev halves : ℕ
  halves = 2 * whole_of a c + stick (whole_of a c) X

  -- the number that is rounded lies between s 2 ^ (w + 1) and (s + 1) 2 ^ (w + 1)
  between_low : s * 2 ^ w * (s * 2 ^ w) ≤ X → 2 * (s * 2 ^ w) ≤ halves
  between_low h = go (s * 2 ^ w) (whole_of a c) (stick (whole_of a c) X) (sq_lt_back (s * 2 ^ w) (whole_of a c + 1) (lt_of_le_of_lt h (isqrt_root X).1))
    where
      go : (b r t : ℕ) → b < r + 1 → 2 * b ≤ 2 * r + t
      go b r t h = omega arith

  between_high : X < (s + 1) * 2 ^ w * ((s + 1) * 2 ^ w) → halves < 2 * ((s + 1) * 2 ^ w)
  between_high h = go ((s + 1) * 2 ^ w) (whole_of a c) (nat_lt (whole_of a c * whole_of a c) X) (sq_lt_back (whole_of a c) ((s + 1) * 2 ^ w) (lt_of_le_of_lt (isqrt_root X).0 h))
    where
      go : (b r : ℕ) (t : Bool) → r < b → 2 * r + cond t 1 0 < 2 * b
      go b r true h = omega arith
      go b r false h = omega arith

  between_odd : s * 2 ^ w * (s * 2 ^ w) < X → 2 * (s * 2 ^ w) < halves
  between_odd h =
      let r = whole_of a c in
      go (s * 2 ^ w) r (nat_lt (r * r) X) (sq_lt_back (s * 2 ^ w) (r + 1) (lt_of_lt_of_le h (le_of_lt (isqrt_root X).1))) (nltb→le (r * r) X) h
    where
      go : (b r : ℕ) (t : Bool) → b < r + 1 → (T (not t) → X ≤ r * r) → b * b < X → 2 * b < 2 * r + cond t 1 0
      go b r true h f g = omega arith
      go b r false h f g = let l : b < r = sq_lt_back b r (lt_of_lt_of_le g (f tt)) in omega arith

  fraction_digits : 0 < c → 2 ^ 53 ≤ s → s < 2 ^ 54 → scale c * 2 ^ k ≡ 2 * (unit * 2 ^ w)
      → s * 2 ^ w * (s * 2 ^ w) ≤ X → X < (s + 1) * 2 ^ w * ((s + 1) * 2 ^ w) → (s % 2 ≡ 0) ⊎ (s * 2 ^ w * (s * 2 ^ w) < X)
      → (s + 1) / 2 * 2 ^ k < 2 ^ 2098
      → Is (root_of a c) false ((s + 1) / 2 * 2 ^ k)
  fraction_digits C lo hi e x y odd b =
      subst (λ (z : Float). Is z false ((s + 1) / 2 * 2 ^ k)) (sym (root_of_is a c))
      (round_kept false halves (2 * scale c) ((s + 1) / 2 * 2 ^ k)
      (kept_is (halves * unit) (2 * scale c) s k (mul-pos (zero-lt-suc 1) (mul-pos C (pow_pos 54))) lo hi
      (le_trans (le_of_eq (form s)) (mul-le-mul_left 2 (mul-le-mul_right unit (between_low x))))
      (lt_of_lt_of_le (double (mul-lt-mul_of_pos_right (between_high y) unit_pos)) (le_of_eq (sym (form (s + 1)))))
      (strict odd)) b)
    where
      form : (t : ℕ) → t * (2 * scale c * 2 ^ k) ≡ 2 * (2 * (t * 2 ^ w) * unit)
      form t = equalℕ (t ∷ c ∷ unit ∷ 2 ^ k ∷ 2 ^ w ∷ []) (pos (2 * t) ⊙ diffℕ e) (search poly depth 30) done

      double : {m n : ℕ} → m < n → 2 * m < 2 * n
      double h = omega arith

      strict : (s % 2 ≡ 0) ⊎ (s * 2 ^ w * (s * 2 ^ w) < X) → (s % 2 ≡ 0) ⊎ (s * (2 * scale c * 2 ^ k) < 2 * (halves * unit))
      strict (inl z) = inl z
      strict (inr z) = inr (lt_of_le_of_lt (le_of_eq (form s)) (double (mul-lt-mul_of_pos_right (between_odd z) unit_pos)))

-- ---- the same in units: with l p = 2 u q, the squares of t p against 4 v are those of t q against X
module _ (p q l u v X : ℕ) (L : 0 < l) (U : 0 < u) (e : l * p ≡ 2 * (u * q)) (f : v * (l * l) ≡ X * (u * u)) where
  side : (t : ℕ) → t * p * (t * p) * (l * l) ≡ t * q * (t * q) * (4 * (u * u))
  side t = equalℕ (t ∷ p ∷ q ∷ l ∷ u ∷ []) (pos (t * t * (l * p + 2 * (u * q))) ⊙ diffℕ e) (search poly depth 30) done

  square : 4 * v * (l * l) ≡ X * (4 * (u * u))
  square = omega arith

  under : (t : ℕ) → t * p * (t * p) ≤ 4 * v → t * q * (t * q) ≤ X
  under t h = le_of_mul-le-mul_right {k = 4 * (u * u)} (le_trans (le_of_eq (sym (side t))) (le_trans (mul-le-mul_right (l * l) h) (le_of_eq square))) (mul-pos (zero-lt-suc 3) (mul-pos U U))

  strictly_under : (t : ℕ) → t * p * (t * p) < 4 * v → t * q * (t * q) < X
  strictly_under t h = lt_of_mul-lt-mul_right (4 * (u * u)) (lt_of_le_of_lt (le_of_eq (sym (side t))) (lt_of_lt_of_le (mul-lt-mul_of_pos_right h (mul-pos L L)) (le_of_eq square)))

  over : (t : ℕ) → 4 * v < t * p * (t * p) → X < t * q * (t * q)
  over t h = lt_of_mul-lt-mul_right (4 * (u * u)) (lt_of_le_of_lt (le_of_eq (sym square)) (lt_of_lt_of_le (mul-lt-mul_of_pos_right h (mul-pos L L)) (le_of_eq (side t))))

-- the denominator is a power of two, and 2 ^ k units are a whole number of its steps
down_power : (e : ℤ) → (g : ℕ) × (down e ≡ 2 ^ g)
down_power (pos k) = (0, refl)
down_power (negsuc k) = (suc k, refl)

deep : (a M g s k : ℕ) → 0 < a → a * 2 ^ 1074 ≡ M * 2 ^ g → s < 2 ^ 54 → 4 * (M * 2 ^ 1074) < (s + 1) * 2 ^ k * ((s + 1) * 2 ^ k) → 1021 ≤ k + g
deep a M g s k A e S h = omega (arith, exponent_le 2150 (108 + (k + k) + g) all)
  where
    all : 2 ^ 2150 ≤ 2 ^ (108 + (k + k) + g)
    all =
        belowℕ (a ∷ M ∷ s ∷ 2 ^ k ∷ 2 ^ g ∷ [])
        (slackℕ S ⊠ num ((2 ^ 54 + s + 1) * (2 ^ k * 2 ^ k * 2 ^ g)) ⊞ slackℕ (le_of_lt h) ⊠ num (2 ^ g) ⊞ nil (pos (4 * 2 ^ 1074) ⊙ diffℕ (sym e)) ⊞ num (4 * 2 ^ 2148) ⊠ slackℕ A)
        (search poly depth 30) done

-- ---- 4 V / 4 ^ k is an even whole number, so an odd s is not its root
odd_square : (s t : ℕ) → s % 2 ≡ 1 → s * s ≢ 2 * t
odd_square s t o e = go (s / 2) (subst (λ (n : ℕ). n * n ≡ 2 * t) (form s o) e)
  where
    form : (s : ℕ) → s % 2 ≡ 1 → s ≡ 2 * (s / 2) + 1
    form s o = omega arith

    go : (h : ℕ) → (2 * h + 1) * (2 * h + 1) ≢ 2 * t
    go h e = omega arith

pub four_square : (m f : ℕ) → 4 * (m * 2 ^ f * 2 ^ 1074) ≡ m * 2 ^ (f + 1076)
four_square m f = ringℕ (m ∷ 2 ^ f ∷ []) (search poly depth 30) done

no_tie : (m f s k : ℕ) → m < 2 ^ 53 → 2 ^ 53 ≤ s → s * 2 ^ k * (s * 2 ^ k) ≤ 4 * (m * 2 ^ f * 2 ^ 1074) → (s % 2 ≡ 0) ⊎ (s * 2 ^ k * (s * 2 ^ k) < 4 * (m * 2 ^ f * 2 ^ 1074))
no_tie m f s k b lo h = elim (ℕ_discrete (s % 2) 0) [ yes e ↦ inl e | no n ↦ inr (elim (eq-or-lt_of_le h) [ inl e ↦ absurd (clash n e) | inr l ↦ l ]) ]
  where
    P : ℕ
    P = 2 ^ k * 2 ^ k

    room : k + k + 1 ≤ f + 1076
    room = omega (
      arith,
      exponent_le (106 + (k + k)) (1129 + f)
          (belowℕ (m ∷ s ∷ 2 ^ f ∷ 2 ^ k ∷ []) (slackℕ (le_of_lt b) ⊠ num (2 ^ 1076 * 2 ^ f) ⊞ slackℕ h ⊞ slackℕ (sq_mono lo) ⊠ num (2 ^ k * 2 ^ k)) (search poly depth 30) done),
    )

    clash : (s % 2 ≢ 0) → s * 2 ^ k * (s * 2 ^ k) ≢ 4 * (m * 2 ^ f * 2 ^ 1074)
    clash n e =
        let j = f + 1076 - (k + k + 1) in
        let even : m * 2 ^ (f + 1076) ≡ 2 * (m * 2 ^ j) * P = align m room ∙ ringℕ (m ∷ 2 ^ j ∷ 2 ^ k ∷ []) (search poly depth 30) done in
        odd_square s (m * 2 ^ j) (odd s n)
        (eq_of_mul-eq-mul_right P (mul-pos (pow_pos k) (pow_pos k)) (s * s) (2 * (m * 2 ^ j)) (sym (mul-mul-mul_comm s (2 ^ k) s (2 ^ k)) ∙ e ∙ four_square m f ∙ even))
      where
        odd : (s : ℕ) → (s % 2 ≢ 0) → s % 2 ≡ 1
        odd s n = omega arith

-- ---- the root of x
pub root_digits : (x : Float) (s k : ℕ) → Good x → sign x ≡ false → Rep (mag x) → mag x < 2 ^ 2098 → 2 ^ 53 ≤ s → s < 2 ^ 54
    → s * 2 ^ k * (s * 2 ^ k) ≤ 4 * (mag x * unit) → 4 * (mag x * unit) < (s + 1) * 2 ^ k * ((s + 1) * 2 ^ k) → Is (root x) false ((s + 1) / 2 * 2 ^ k)
unfolding root Good sign unit
root_digits nan s k g p r t lo hi x y = absurd g
root_digits (inf q) s k g p r t lo hi x y = absurd g
root_digits (fin q zero e) s k g p r t lo hi x y = absurd (none (mag (fin q zero e)) (2 ^ 1074) (s * 2 ^ k) (zero_mag q e) (mul-pos (lt_of_lt_of_le (lit< tt) lo) (pow_pos k)) x)
  where
    none : (M u a : ℕ) → M ≡ 0 → 0 < a → a * a ≤ 4 * (M * u) → ⊥
    none M u a e p h =
        let i : 4 * (M * u) ≡ 4 * (0 * u) = ap (λ (n : ℕ). 4 * (n * u)) e in
        let j : 1 * 1 ≤ a * a = mul-le-mul p p in
        omega arith
root_digits (fin true (suc n) e) s k g p r t lo hi x y = absurd (true≢false p)
root_digits (fin false (suc n) e) s k g p r t lo hi x y = go (down_power e).0 (down_power e).1
  where
    a : ℕ
    a = suc n * up e

    M : ℕ
    M = mag (fin false (suc n) e)

    go : (i : ℕ) → down e ≡ 2 ^ i → Is (root_of a (down e)) false ((s + 1) / 2 * 2 ^ k)
    go i c =
        let d = deep a M i s k (mul-pos (zero-lt-suc n) (up_pos e)) (g ∙ ap (λ (z : ℕ). M * z) c) hi y in
        let w = k + i - 1021 in
        let l = scale (down e) in
        let X = a * l * 2 ^ 54 in
        let L : 0 < l = mul-pos (down_pos e) (pow_pos 54) in
        let scaled : l * 2 ^ k ≡ 2 * (2 ^ 1074 * 2 ^ w) = ap (λ (z : ℕ). z * 2 ^ 54 * 2 ^ k) c ∙ steps i w (places i d) in
        let area : M * 2 ^ 1074 * (l * l) ≡ X * (2 ^ 1074 * 2 ^ 1074) = areas M (2 ^ 1074) a (down e) (2 ^ 54) g in
        fraction_digits a (down e) s k w (down_pos e) lo hi scaled
        (under (2 ^ k) (2 ^ w) l (2 ^ 1074) (M * 2 ^ 1074) X L (pow_pos 1074) scaled area s x)
        (over (2 ^ k) (2 ^ w) l (2 ^ 1074) (M * 2 ^ 1074) X L (pow_pos 1074) scaled area (s + 1) y)
        (elim (no_tie r.digits r.places s k r.few lo (le_trans x (le_of_eq (ap (λ (z : ℕ). 4 * (z * 2 ^ 1074)) r.is)))) [
          | inl z ↦ inl z
          | inr z ↦ inr (strictly_under (2 ^ k) (2 ^ w) l (2 ^ 1074) (M * 2 ^ 1074) X L (pow_pos 1074) scaled area s (lt_of_lt_of_le z (le_of_eq (ap (λ (z : ℕ). 4 * (z * 2 ^ 1074)) (sym r.is)))))
        ])
        top
      where
        places : (i : ℕ) → 1021 ≤ k + i → i + 54 + k ≡ 1075 + (k + i - 1021)
        places i d = omega arith

        steps : (i w : ℕ) → i + 54 + k ≡ 1075 + w → 2 ^ i * 2 ^ 54 * 2 ^ k ≡ 2 * (2 ^ 1074 * 2 ^ w)
        steps i w e = ringℕ (2 ^ i ∷ 2 ^ k ∷ []) (search poly depth 30) done ∙ ap (λ (x : ℕ). 2 ^ x) e ∙ ringℕ (2 ^ w ∷ []) (search poly depth 30) done

        areas : (M u a c p : ℕ) → a * u ≡ M * c → M * u * (c * p * (c * p)) ≡ a * (c * p) * p * (u * u)
        areas M u a c p e = equalℕ (M ∷ u ∷ a ∷ c ∷ p ∷ []) (pos (c * p * p * u) ⊙ diffℕ (sym e)) (search poly depth 30) done

        top : (s + 1) / 2 * 2 ^ k < 2 ^ 2098
        top =
            let b : s * 2 ^ k < 2 ^ 2098 = sq_lt_back (s * 2 ^ k) (2 ^ 2098) (lt_of_le_of_lt x (lt_of_le_of_lt (mul-le-mul_left 4 (mul-le-mul_right (2 ^ 1074) (le_of_lt t))) (lit< tt))) in
            lt_of_le_of_lt (mul-le-mul_right (2 ^ k) (half s lo)) b
          where
            half : (s : ℕ) → 2 ^ 53 ≤ s → (s + 1) / 2 ≤ s
            half s h = omega arith
