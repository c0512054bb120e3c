-- The base side t / root(channels) and its halvings: each is a side for which the laws of boxes hold, and half its diagonal is t / 2 ^ (l + 1), but for 2 × 2 ^ -36.
use Rattle.std.specs.Prelude.{◌≡◌, Bool, false, [], ◌∷◌, pos, T, Float}
use Rattle.std.proofs.Common.{sym, ◌∙◌, le_trans, le_of_eq, lt_of_le_of_lt, mul-le-mul_right, mul-pos, lit<, pow_pos, pow_mono}
use Rattle.std.proofs.Math.Path.{ap, subst}
use Prim.Native.Nat.{ℕ, zero, suc, ◌+◌, ◌-◌, ◌*◌, ◌^◌, ◌≤◌, ◌<◌}
use Rattle.std.proofs.Math.Nat.{one-mul, le-suc, le_of_mul-le-mul_left}
use native.Mathlib.Omega.{arith}
use Rattle.std.specs.Float.Ieee.{binary64, unlike}
use Rattle.std.specs.Float.Ieee.Fits.{div-fits}
use Rattle.ring.proofs.Ring.{ringℕ, poly, done}
use Rattle.ring.proofs.Order.{belowℕ, num, slackℕ, ◌⊞◌, ◌⊠◌, nil, diffℕ, ◌⊕◌, ◌⊙◌}
use Rattle.ieee754.specs.Value.{unit, unit_pos, tiny, unit_tiny, tiny_large, speck, mag, sign, Good, Is, Rounded}
use Rattle.ieee754.specs.Ops.{div_near}
use Rattle.ieee754.specs.Exact.{Rep, rep_whole, fits_good, good_finite}
use Rattle.counting_tree.specs.Radius.{unit_speck, Side, rep_half, half_is, channels, radius, radius_is}
use Rattle.counting_tree.specs.Grid.{half, root_channels, side_at}

-- ---- numbers: S / u is T / r rounded; r is a root of 1 to 4
unit_square : (u t : ℕ) → u ≡ 2 ^ 36 * t → 2 ^ 60 ≤ t → 2 ^ 10 * u ≤ u * u
unit_square u t e l = mul-le-mul_right u (go u t e l)
  where
    go : (u t : ℕ) → u ≡ 2 ^ 36 * t → 2 ^ 60 ≤ t → 2 ^ 10 ≤ u
    go u t e l = omega arith

module _ (S T r u s : ℕ) (p : 0 < u) (big : 2 ^ 10 * u ≤ u * u) (h : r ≤ 3 * u) where
  side_high : u ≡ 2 ^ 48 * s → T ≤ 65535 * u → u ≤ r + s → 2 ^ 53 * (S * r) ≤ 2 ^ 53 * (T * u) + T * u + 2 ^ 52 * r → S ≤ 2 ^ 16 * u
  side_high e b l c = le_of_mul-le-mul_left {k = (2 ^ 53 - 2 ^ 5) * u}
      (belowℕ (S ∷ T ∷ r ∷ u ∷ s ∷ [])
      (slackℕ c ⊞ num (2 ^ 53 * S) ⊠ slackℕ l ⊞ num ((2 ^ 53 + 1) * u) ⊠ slackℕ b ⊞ num (2 ^ 52) ⊠ slackℕ h ⊞ num (3 * 2 ^ 42) ⊠ slackℕ big
      ⊞ num ((2 ^ 53 - 65535 - 3 * 2 ^ 42 - 2 ^ 21) * (u * u)) ⊞ nil (pos (2 ^ 5 * S) ⊙ diffℕ e)) (search poly depth 30) done) (mul-pos (lit< tt) p)

  side_low : u ≤ T → 2 ^ 53 * (T * u) ≤ 2 ^ 53 * (S * r) + T * u + 2 ^ 52 * r → u ≤ 4 * S
  side_low b c = le_of_mul-le-mul_left {k = 3 * 2 ^ 51 * u}
      (belowℕ (S ∷ T ∷ r ∷ u ∷ [])
      (slackℕ c ⊞ num (2 ^ 53 * S + 2 ^ 52) ⊠ slackℕ h ⊞ num ((2 ^ 53 - 1) * u) ⊠ slackℕ b ⊞ num (3 * 2 ^ 42) ⊠ slackℕ big
      ⊞ num ((2 ^ 53 - 1 - 3 * 2 ^ 42 - 3 * 2 ^ 51) * (u * u))) (search poly depth 30) done)
      (mul-pos (lit< tt) p)

-- ---- 1 to 4 channels, and a tolerance t that is τ, a whole number from 1 to 65,535
pub record Scale (d : ℕ) (t : Float) (τ : ℕ) : Type 0 where
  pub some : 0 < d
  pub most : d ≤ 4
  pub is : Is t false (τ * unit)
  pub low : 1 ≤ τ
  pub high : τ ≤ 65535

pub tolerance_low : {d : ℕ} {t : Float} {τ : ℕ} → Scale d t τ → unit ≤ mag t
tolerance_low S = le_trans (le_of_eq (sym (one-mul unit))) (le_trans (mul-le-mul_right unit S.low) (le_of_eq (sym S.is.mag_is)))

pub tolerance_high : {d : ℕ} {t : Float} {τ : ℕ} → Scale d t τ → mag t ≤ 65535 * unit
tolerance_high S = le_trans (le_of_eq S.is.mag_is) (mul-le-mul_right unit S.high)

pub tolerance_rep : {d : ℕ} {t : Float} {τ : ℕ} → Scale d t τ → Rep (mag t)
tolerance_rep {τ = τ} S = subst Rep (sym S.is.mag_is) (rep_whole τ (lt_of_le_of_lt S.high (lit< tt)))

-- a side 2 ^ l times smaller than the base side
pub record AtLevel (d : ℕ) (t : Float) (l : ℕ) : Type 0 where
  pub good : Good (side_at d t l)
  pub sign_is : sign (side_at d t l) ≡ false
  pub rep : Rep (mag (side_at d t l))
  pub scaled : 2 ^ l * mag (side_at d t l) ≡ mag (side_at d t 0)

module _ {d : ℕ} {t : Float} {τ : ℕ} (S : Scale d t τ) where
  root_pos : 0 < mag (root_channels d)
  root_pos = go (mag (root_channels d)) unit speck unit_pos unit_speck (channels d S.some S.most).large
    where
      go : (r u s : ℕ) → 0 < u → u ≡ 2 ^ 48 * s → u ≤ r + s → 0 < r
      go r u s p e l = omega arith

  base_near : Rounded (side_at d t 0) (unlike (sign t) (sign (root_channels d))) (mag t * unit) (mag (root_channels d))
  unfolding side_at
  base_near = div_near t (root_channels d) S.is.good (channels d S.some S.most).good root_pos (go (mag t) (mag (root_channels d)) unit speck unit_speck (tolerance_high S) (channels d S.some S.most).large)
    where
      go : (t r u s : ℕ) → u ≡ 2 ^ 48 * s → t ≤ 65535 * u → u ≤ r + s → t ≤ 2 ^ 100 * r
      go t r u s e h l = belowℕ (t ∷ r ∷ u ∷ s ∷ [])
          (slackℕ h ⊞ num 131070 ⊠ slackℕ l ⊞ num (65535 * (2 ^ 48 - 2) * s + (2 ^ 100 - 131070) * r) ⊞ nil (pos 65535 ⊙ diffℕ e)) (search poly depth 30) done

  base_high : mag (side_at d t 0) ≤ 2 ^ 16 * unit
  base_high = side_high (mag (side_at d t 0)) (mag t) (mag (root_channels d)) unit speck unit_pos (unit_square unit tiny unit_tiny tiny_large) (channels d S.some S.most).small unit_speck (tolerance_high S) (channels d S.some S.most).large base_near.close.0

  base_low : unit ≤ 4 * mag (side_at d t 0)
  base_low = side_low (mag (side_at d t 0)) (mag t) (mag (root_channels d)) unit speck unit_pos (unit_square unit tiny unit_tiny tiny_large) (channels d S.some S.most).small (tolerance_low S) base_near.close.1

  base : AtLevel d t 0
  unfolding side_at
  base = record {
    good = base_near.good;
    sign_is = base_near.sign_is ∙ ap (λ (q : Bool). unlike q (sign (root_channels d))) S.is.sign_is ∙ ap (unlike false) (channels d S.some S.most).sign_is;
    rep = (fits_good (side_at d t 0) (div-fits binary64 t (root_channels d)) (good_finite (side_at d t 0) base_near.good)).1;
    scaled = one-mul (mag (side_at d t 0));
  }

  level_large : (l S : ℕ) → l ≤ 11 → 2 ^ l * S ≡ mag (side_at d t 0) → (unit ≤ 2 ^ 13 * S) × (S ≤ 2 ^ 16 * unit) × (2 ^ 53 ≤ S)
  level_large l S h e = go (2 ^ l * S) S (mag (side_at d t 0)) unit tiny e (mul-le-mul_right S (pow_mono h)) (least l S (pow_pos l)) base_low base_high unit_tiny tiny_large
    where
      least : (l S : ℕ) → 0 < 2 ^ l → S ≤ 2 ^ l * S
      least l S q = le_trans (le_of_eq (sym (one-mul S))) (mul-le-mul_right S q)

      go : (x S B u t : ℕ) → x ≡ B → x ≤ 2 ^ 11 * S → S ≤ x → u ≤ 4 * B → B ≤ 2 ^ 16 * u → u ≡ 2 ^ 36 * t → 2 ^ 60 ≤ t → (u ≤ 2 ^ 13 * S) × (S ≤ 2 ^ 16 * u) × (2 ^ 53 ≤ S)
      go x S B u t a b c d e f g = omega arith

pub level : {d : ℕ} {t : Float} {τ : ℕ} → Scale d t τ → (l : ℕ) → l ≤ 11 → AtLevel d t l
unfolding side_at
level S zero h = base S
level {d} {t} S (suc l) h =
    let a = level S l (le_trans (le-suc l) h) in
    let k = level_large S l (mag (side_at d t l)) (le_trans (le-suc l) h) a.scaled in
    let f = rep_half (mag (side_at d t l)) a.rep k.2 in
    let i = half_is (side_at d t l) a.good f (small f.part (mag (side_at d t l)) unit f.twice k.1) in
    record {
      good = unfold half in i.good;
      sign_is = unfold half in i.sign_is ∙ a.sign_is;
      rep = unfold half in subst Rep (sym i.mag_is) f.rep;
      scaled = unfold half in ap (λ (n : ℕ). 2 ^ suc l * n) i.mag_is ∙ ringℕ (2 ^ l ∷ f.part ∷ []) (search poly depth 30) done ∙ ap (λ (n : ℕ). 2 ^ l * n) (sym f.twice) ∙ a.scaled;
    }
  where
    small : (q m u : ℕ) → m ≡ 2 * q → m ≤ 2 ^ 16 * u → q ≤ 2 ^ 100 * u
    small q m u a b = omega arith

-- every level's side is one of those for which the box lemma and the radius hold
pub level_side : {d : ℕ} {t : Float} {τ : ℕ} → Scale d t τ → (l : ℕ) → l ≤ 11 → Side (side_at d t l)
level_side {d} {t} S l h =
    let a = level S l h in
    let k = level_large S l (mag (side_at d t l)) h a.scaled in
    record { good = a.good; sign_is = a.sign_is; rep = a.rep; high = k.1; low = k.0 }

-- ---- 2 ^ l times the diagonal is t, but for 4 * 2 ^ -36
-- S the side at the level, S₀ the base side, T the tolerance, R = 2 ^ l, hh half the diagonal, r the root of the channels
product_high : (S S₀ T R hh r u t : ℕ) → 0 < u → u ≡ 2 ^ 36 * t → 2 ^ 60 ≤ t → R ≤ 2 ^ 11 → T ≤ 65535 * u → r ≤ 3 * u → R * S ≡ S₀
    → 2 ^ 53 * (S₀ * r) ≤ 2 ^ 53 * (T * u) + T * u + 2 ^ 52 * r → 2 ^ 53 * (2 * hh * u) ≤ 2 ^ 53 * (S * r) + S * r + 2 ^ 52 * u → R * (2 * hh) ≤ T + 4 * t
product_high S S₀ T R hh r u t p e l a b h s c d = le_of_mul-le-mul_left {k = 2 ^ 106 * u}
    (belowℕ (S ∷ S₀ ∷ T ∷ R ∷ hh ∷ r ∷ u ∷ t ∷ [])
    (num (2 ^ 53 * R) ⊠ slackℕ d ⊞ num (2 ^ 53 + 1) ⊠ slackℕ c ⊞ num ((2 ^ 54 + 1) * u) ⊠ slackℕ b ⊞ num ((2 ^ 53 + 1) * 2 ^ 52) ⊠ slackℕ h ⊞ num (2 ^ 105 * u) ⊠ slackℕ a ⊞ num (2 ^ 57 * u) ⊠ slackℕ l
    ⊞ num ((2 ^ 117 - 2 ^ 116 - 3 * (2 ^ 53 + 1) * 2 ^ 52) * u + (2 ^ 108 - (2 ^ 54 + 1) * 65535 * 2 ^ 36 - 2 ^ 57) * (t * u))
    ⊞ nil (pos (2 ^ 53 * (2 ^ 53 + 1) * r) ⊙ diffℕ (sym s) ⊕ pos ((2 ^ 54 + 1) * 65535 * u) ⊙ diffℕ (sym e))) (search poly depth 99 fits 9999) done) (mul-pos (lit< tt) p)

product_low : (S S₀ T R hh r u t : ℕ) → 0 < u → u ≡ 2 ^ 36 * t → 2 ^ 60 ≤ t → R ≤ 2 ^ 11 → T ≤ 65535 * u → r ≤ 3 * u → R * S ≡ S₀
    → 2 ^ 53 * (T * u) ≤ 2 ^ 53 * (S₀ * r) + T * u + 2 ^ 52 * r → 2 ^ 53 * (S * r) ≤ 2 ^ 53 * (2 * hh * u) + S * r + 2 ^ 52 * u → T ≤ R * (2 * hh) + 4 * t
product_low S S₀ T R hh r u t p e l a b h s c d = le_of_mul-le-mul_left {k = 2 ^ 106 * u}
    (belowℕ (S ∷ S₀ ∷ T ∷ R ∷ hh ∷ r ∷ u ∷ t ∷ [])
    (num (2 ^ 53 * R) ⊠ slackℕ d ⊞ num (2 ^ 53 - 1) ⊠ slackℕ c ⊞ num ((2 ^ 54 - 1) * u) ⊠ slackℕ b ⊞ num ((2 ^ 53 - 1) * 2 ^ 52) ⊠ slackℕ h ⊞ num (2 ^ 105 * u) ⊠ slackℕ a ⊞ num (2 ^ 57 * u) ⊠ slackℕ l
    ⊞ num ((2 ^ 117 - 2 ^ 116 - 3 * (2 ^ 53 - 1) * 2 ^ 52) * u + (2 ^ 108 - (2 ^ 54 - 1) * 65535 * 2 ^ 36 - 2 ^ 57) * (t * u))
    ⊞ nil (pos (2 ^ 53 * (2 ^ 53 - 1) * r) ⊙ diffℕ s ⊕ pos ((2 ^ 54 - 1) * 65535 * u) ⊙ diffℕ (sym e))) (search poly depth 99 fits 9999) done) (mul-pos (lit< tt) p)

pub radius_high : {d : ℕ} {t : Float} {τ : ℕ} → Scale d t τ → (l : ℕ) → l ≤ 11 → 2 ^ l * (2 * mag (radius d (side_at d t l))) ≤ mag t + 4 * tiny
radius_high {d} {t} S l h =
    let r = radius_is d (side_at d t l) S.some S.most (level_side S l h) in
    let c = channels d S.some S.most in
    product_high (mag (side_at d t l)) (mag (side_at d t 0)) (mag t) (2 ^ l) (mag (radius d (side_at d t l))) (mag (root_channels d)) unit tiny
    unit_pos unit_tiny tiny_large (pow_mono h) (tolerance_high S) c.small (level S l h).scaled (base_near S).close.0 r.product.0

pub radius_low : {d : ℕ} {t : Float} {τ : ℕ} → Scale d t τ → (l : ℕ) → l ≤ 11 → mag t ≤ 2 ^ l * (2 * mag (radius d (side_at d t l))) + 4 * tiny
radius_low {d} {t} S l h =
    let r = radius_is d (side_at d t l) S.some S.most (level_side S l h) in
    let c = channels d S.some S.most in
    product_low (mag (side_at d t l)) (mag (side_at d t 0)) (mag t) (2 ^ l) (mag (radius d (side_at d t l))) (mag (root_channels d)) unit tiny
    unit_pos unit_tiny tiny_large (pow_mono h) (tolerance_high S) c.small (level S l h).scaled (base_near S).close.1 r.product.1
