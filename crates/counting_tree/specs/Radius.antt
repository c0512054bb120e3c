-- The side of a box, its half, and half its diagonal, for 1 to 4 channels.
use Rattle.std.specs.Prelude.{◌≡◌, refl, Bool, true, false, [], ◌∷◌, ℕ, zero, suc, ◌+◌, ◌-◌, ◌*◌, ◌^◌, ◌≤◌, ◌<◌, pos, Float}
use Rattle.std.proofs.Common.{sym, ap, ◌∙◌, subst, one-mul, le_trans, le_of_eq, mul-le-mul_left, mul-le-mul_right, mul-pos, mul_assoc, mul-one, mul_left_comm, not-le_of_lt, le_of_lt, le_of_mul-le-mul_right, lit<, lit≤}
use Rattle.std.proofs.Math.Nat.{pow-succ', le_of_mul-le-mul_left}
use native.Mathlib.Omega.{arith, by_contra}
use Rattle.std.specs.Float.Ieee.{binary64, mul, div, of_int, unlike}
use Rattle.std.specs.Float.Ieee.Fits.{mul-fits}
use Rattle.ring.proofs.Ring.{ringℕ, poly, done}
use Rattle.ring.proofs.Order.{belowℕ, equalℕ, num, slackℕ, ◌⊞◌, ◌⊠◌, nil, diffℕ, ◌⊕◌, ◌⊙◌}
use Rattle.ieee754.specs.Value.{unit, unit_pos, tiny, unit_tiny, tiny_large, speck, tiny_speck, speck_large, mag, sign, Good, Is, Close, close_twice, Rounded}
use Rattle.ieee754.specs.Ops.{mul_near}
use Rattle.ieee754.specs.Exact.{Rep, div_exact, of_int_pos, fits_good, good_finite}
use Rattle.ieee754.specs.Root.{root}
use Rattle.ieee754.specs.RootLaw.{root_near}
use Rattle.hyperparams.specs.Params.{float}
use Rattle.counting_tree.specs.Grid.{root_channels}

-- ---- a large enough number that the format holds is even, and its half is one too
pub record Half (n : ℕ) : Type 0 where
  pub part : ℕ
  pub twice : n ≡ 2 * part
  pub rep : Rep part

pub rep_half : (n : ℕ) → Rep n → 2 ^ 53 ≤ n → Half n
rep_half n r h = go r.digits r.places r.few r.is
  where
    go : (q j : ℕ) → q < 2 ^ 53 → n ≡ q * 2 ^ j → Half n
    go q zero f e = absurd (not-le_of_lt f (le_trans h (le_of_eq (e ∙ mul-one q))))
    go q (suc j) f e = record { part = q * 2 ^ j; twice = e ∙ ap (λ (x : ℕ). q * x) (pow-succ' 2 j) ∙ mul_left_comm q 2 (2 ^ j); rep = record { digits = q; places = j; few = f; is = refl } }

pub unlike_false : (s : Bool) → unlike s false ≡ s
unlike_false true = refl
unlike_false false = refl

two_is : Is (float 2) false (2 * unit)
two_is = of_int_pos 2 (lit≤ tt)

pub half_is : (x : Float) → Good x → (h : Half (mag x)) → h.part ≤ 2 ^ 100 * unit → Is (div binary64 x (float 2)) (sign x) h.part
half_is x g h b =
    let t = two_is in
    let i = div_exact x (float 2) h.part g t.good (subst (λ (n : ℕ). 0 < n) (sym t.mag_is) (mul-pos (lit< tt) unit_pos))
    (ap (λ (n : ℕ). n * unit) h.twice ∙ ringℕ (h.part ∷ unit ∷ []) (search poly depth 30) done ∙ ap (λ (n : ℕ). h.part * n) (sym t.mag_is)) h.rep b in
    record { good = i.good; mag_is = i.mag_is; sign_is = i.sign_is ∙ ap (unlike (sign x)) t.sign_is ∙ unlike_false (sign x) }

-- ---- the root of the number of channels
pub unit_speck : unit ≡ 2 ^ 48 * speck
unit_speck = equalℕ (unit ∷ tiny ∷ speck ∷ []) (diffℕ unit_tiny ⊕ pos (2 ^ 36) ⊙ diffℕ tiny_speck) (search poly depth 30) done

pub record Channels (d : ℕ) : Type 0 where
  pub good : Good (root_channels d)
  pub sign_is : sign (root_channels d) ≡ false
  pub high : d * (unit * unit) ≤ (mag (root_channels d) + speck) * (mag (root_channels d) + speck)
  pub small : mag (root_channels d) ≤ 3 * unit
  pub large : unit ≤ mag (root_channels d) + speck

pub channels : (d : ℕ) → 0 < d → d ≤ 4 → Channels d
unfolding root_channels
channels d p b =
    let x = of_int_pos d (le_trans b (lit≤ tt)) in
    let r = root_near (of_int binary64 (pos d)) x.good x.sign_is (le_trans (le_of_eq x.mag_is) (mul-le-mul_right unit (le_trans b (lit≤ tt)))) in
    let ρ = mag (root (of_int binary64 (pos d))) in
    let area : mag (of_int binary64 (pos d)) * unit ≡ d * (unit * unit) = ap (λ (n : ℕ). n * unit) x.mag_is ∙ mul_assoc d unit unit in
    let s : ρ ≤ 3 * unit = small ρ unit unit_large (r.high (2 * unit) (le_trans (le_of_eq area) (le_trans (mul-le-mul_right (unit * unit) b) (le_of_eq (ringℕ (unit ∷ []) (search poly depth 30) done))))) in
    record {
      good = r.good;
      sign_is = r.sign_is;
      small = s;
      high = by_contra (d * (unit * unit)) ((ρ + speck) * (ρ + speck)) (λ f. too_far ρ unit speck unit_speck speck_large s (r.low (ρ + speck) (le_trans (le_of_lt f) (le_of_eq (sym area)))));
      large = large ρ unit speck unit_speck speck_large s (r.low unit (le_trans (le_of_eq (sym (one-mul (unit * unit)))) (le_trans (mul-le-mul_right (unit * unit) p) (le_of_eq (sym area)))));
    }
  where
    unit_large : 2 ^ 60 ≤ unit
    unit_large = omega (arith, unit_tiny, tiny_large)

    small : (r u : ℕ) → 2 ^ 60 ≤ u → 2 ^ 50 * r ≤ 2 ^ 50 * (2 * u) + 2 * u + 2 ^ 50 → r ≤ 3 * u
    small r u l h = omega arith

    too_far : (r u s : ℕ) → u ≡ 2 ^ 48 * s → 2 ^ 60 ≤ s → r ≤ 3 * u → 2 ^ 50 * (r + s) ≤ 2 ^ 50 * r + r + 2 ^ 50 → ⊥
    too_far r u s e l b h = omega arith

    large : (r u s : ℕ) → u ≡ 2 ^ 48 * s → 2 ^ 60 ≤ s → r ≤ 3 * u → 2 ^ 50 * u ≤ 2 ^ 50 * r + r + 2 ^ 50 → u ≤ r + s
    large r u s e l b h = le_of_mul-le-mul_left {k = 2 ^ 50}
        (belowℕ (r ∷ u ∷ s ∷ []) (slackℕ h ⊞ slackℕ b ⊞ num (2 ^ 48) ⊠ slackℕ l ⊞ num (2 ^ 108 - 2 ^ 50) ⊞ nil (pos 3 ⊙ diffℕ (sym e))) (search poly depth 30) done) (lit< tt)

-- ---- half the diagonal: side * root(channels) / 2
unfoldable pub radius : ℕ → Float → Float
radius d side = div binary64 (mul binary64 side (root_channels d)) (float 2)

-- S the side, H its half, P the rounded diagonal, hh its half, r the root of the channels
diagonal : (d S H P hh r u s t : ℕ) → u ≡ 2 ^ 36 * t → t ≡ 2 ^ 12 * s → 2 ^ 60 ≤ s → S ≡ 2 * H → P ≡ 2 * hh → S ≤ 2 ^ 16 * u → r ≤ 3 * u → Close P (S * r) u
    → H * (r + s) ≤ (hh + 10 * t) * u
diagonal d S H P hh r u s t e k l h p b c x =
    let T : 1 ≤ t = omega arith in
    le_of_mul-le-mul_left {k = 2 ^ 54}
    (belowℕ (S ∷ H ∷ P ∷ hh ∷ r ∷ u ∷ s ∷ t ∷ [])
    (slackℕ x.1 ⊞ slackℕ b ⊠ num (r + 2 ^ 53 * s) ⊞ num (2 ^ 16 * u) ⊠ slackℕ c ⊞ num (2 ^ 52 * u) ⊠ slackℕ T ⊞ num (2 ^ 54 * (t * u))
    ⊞ nil (pos (2 ^ 53 * u) ⊙ diffℕ (sym p) ⊕ pos (2 ^ 53 * (r + s)) ⊙ diffℕ h ⊕ pos (2 ^ 57 * u) ⊙ diffℕ k ⊕ pos (3 * 2 ^ 16 * u) ⊙ diffℕ (sym e)))
    (search poly depth 30) done) (lit< tt)

pub half_diagonal : (d H hh r u s t : ℕ) → 0 < u → d * (u * u) ≤ (r + s) * (r + s) → H * (r + s) ≤ (hh + 10 * t) * u → d * (H * H) ≤ (hh + 10 * t) * (hh + 10 * t)
half_diagonal d H hh r u s t p a b = le_of_mul-le-mul_right {k = u * u}
    (belowℕ (d ∷ H ∷ hh ∷ r ∷ u ∷ s ∷ t ∷ []) (num (H * H) ⊠ slackℕ a ⊞ slackℕ b ⊠ num ((hh + 10 * t) * u + H * (r + s))) (search poly depth 30) done) (mul-pos p p)

-- ---- a box's side: positive, at most 2 ^ 16, and at least 2 ^ -13
pub record Side (side : Float) : Type 0 where
  pub good : Good side
  pub sign_is : sign side ≡ false
  pub rep : Rep (mag side)
  pub high : mag side ≤ 2 ^ 16 * unit
  pub low : unit ≤ 2 ^ 13 * mag side

pub record Radius (d : ℕ) (side : Float) : Type 0 where
  pub good : Good (radius d side)
  pub sign_is : sign (radius d side) ≡ false
  pub covers : (H : ℕ) → mag side ≡ 2 * H → d * (H * H) ≤ (mag (radius d side) + 10 * tiny) * (mag (radius d side) + 10 * tiny)
  pub product : Close (2 * mag (radius d side)) (mag side * mag (root_channels d)) unit

half_speck : 2 * speck ≤ unit
half_speck = go unit tiny speck unit_tiny tiny_speck
  where
    go : (u t s : ℕ) → u ≡ 2 ^ 36 * t → t ≡ 2 ^ 12 * s → 2 * s ≤ u
    go u t s a b = omega arith

pub unit_large : 2 ^ 70 ≤ unit
unit_large = go unit tiny unit_tiny tiny_large
  where
    go : (u t : ℕ) → u ≡ 2 ^ 36 * t → 2 ^ 60 ≤ t → 2 ^ 70 ≤ u
    go u t a b = omega arith

wide : (S r u : ℕ) → S ≤ 2 ^ 16 * u → r ≤ 3 * u → S * r ≤ 2 ^ 18 * u * u
wide S r u a b = belowℕ (S ∷ r ∷ u ∷ []) (slackℕ a ⊠ num r ⊞ num (2 ^ 16 * u) ⊠ slackℕ b ⊞ num (2 ^ 16 * (u * u))) (search poly depth 30) done

least : (S r u s : ℕ) → u ≤ 2 ^ 13 * S → u ≤ r + s → 2 * s ≤ u → u * u ≤ 2 ^ 14 * (S * r)
least S r u s a b c = belowℕ (S ∷ r ∷ u ∷ s ∷ []) (slackℕ a ⊠ num (2 * r) ⊞ num u ⊠ (num 2 ⊠ slackℕ b ⊞ slackℕ c)) (search poly depth 30) done

product_large : (P n u : ℕ) → 0 < u → 2 ^ 70 ≤ u → Close P n u → u * u ≤ 2 ^ 14 * n → 2 ^ 53 ≤ P
product_large P n u p l c h =
    let a : n ≤ 2 * (P * u) + u = crude (P * u) n u c.1 in
    let b : u * u ≤ (2 ^ 15 * P + 2 ^ 14) * u = le_trans h (le_trans (mul-le-mul_left (2 ^ 14) a) (le_of_eq (ringℕ (P ∷ u ∷ []) (search poly depth 30) done))) in
    last P u l (le_of_mul-le-mul_right {k = u} b p)
  where
    crude : (x n u : ℕ) → 2 ^ 53 * n ≤ 2 ^ 53 * x + n + 2 ^ 52 * u → n ≤ 2 * x + u
    crude x n u h = omega arith

    last : (P u : ℕ) → 2 ^ 70 ≤ u → u ≤ 2 ^ 15 * P + 2 ^ 14 → 2 ^ 53 ≤ P
    last P u l h = omega arith

product_small : (P n u : ℕ) → 0 < u → Close P n u → n ≤ 2 ^ 18 * u * u → P ≤ 2 ^ 20 * u
product_small P n u p c h = le_of_mul-le-mul_right {k = u}
    (belowℕ (P ∷ n ∷ u ∷ []) (slackℕ (close_twice P n u c) ⊞ num 2 ⊠ slackℕ h ⊞ num u ⊠ slackℕ p ⊞ num ((2 ^ 19 - 1) * (u * u))) (search poly depth 30) done) p

-- the product side * root(channels)
module _ (d : ℕ) (side : Float) (p : 0 < d) (b : d ≤ 4) (s : Side side) where
  P : Float
  P = mul binary64 side (root_channels d)

  P_near : Rounded P (unlike (sign side) (sign (root_channels d))) (mag side * mag (root_channels d)) unit
  unfolding P
  P_near = mul_near side (root_channels d) s.good (channels d p b).good (le_trans (wide (mag side) (mag (root_channels d)) unit s.high (channels d p b).small) (mul-le-mul_right unit (mul-le-mul_right unit (lit≤ tt))))

  P_sign : sign P ≡ false
  P_sign = P_near.sign_is ∙ ap (λ (q : Bool). unlike q (sign (root_channels d))) s.sign_is ∙ ap (unlike false) (channels d p b).sign_is

  P_half : Half (mag P)
  unfolding P
  P_half = rep_half (mag P) (fits_good P (mul-fits binary64 side (root_channels d)) (good_finite P P_near.good)).1 (product_large (mag P) (mag side * mag (root_channels d)) unit unit_pos unit_large P_near.close (least (mag side) (mag (root_channels d)) unit speck s.low (channels d p b).large half_speck))

  part_small : P_half.part ≤ 2 ^ 100 * unit
  part_small = go P_half.part (mag P) unit P_half.twice (product_small (mag P) (mag side * mag (root_channels d)) unit unit_pos P_near.close (wide (mag side) (mag (root_channels d)) unit s.high (channels d p b).small))
    where
      go : (q m u : ℕ) → m ≡ 2 * q → m ≤ 2 ^ 20 * u → q ≤ 2 ^ 100 * u
      go q m u a b = omega arith

  h_is : Is (radius d side) (sign P) P_half.part
  unfolding P radius
  h_is = half_is P P_near.good P_half part_small

  h_twice : mag P ≡ 2 * mag (radius d side)
  h_twice = P_half.twice ∙ ap (λ (n : ℕ). 2 * n) (sym h_is.mag_is)

  pub radius_is : Radius d side
  radius_is = record {
    good = h_is.good;
    sign_is = h_is.sign_is ∙ P_sign;
    covers = λ H e. half_diagonal d H (mag (radius d side)) (mag (root_channels d)) unit speck tiny unit_pos (channels d p b).high
        (diagonal d (mag side) H (mag P) (mag (radius d side)) (mag (root_channels d)) unit speck tiny unit_tiny tiny_speck speck_large e h_twice s.high (channels d p b).small P_near.close);
    product = subst (λ (n : ℕ). Close n (mag side * mag (root_channels d)) unit) h_twice P_near.close;
  }
