-- The settings of an accepted run as numbers: the tolerance is t, the slack 1 / 2 ^ s and the extended tolerance t × (2 ^ s + 1) / 2 ^ s, each exact.
use Rattle.std.specs.Prelude.{◌≡◌, refl, Bool, true, false, ◌||◌, cond, [], ◌∷◌, ℕ, zero, suc, ◌+◌, ◌-◌, ◌*◌, ◌^◌, ◌≤◌, ◌<◌, pos, T, eqb, Float}
use Rattle.std.proofs.Common.{sym, ap, ◌∙◌, subst, le_trans, le_of_eq, lt_of_le_of_lt, lt_of_lt_of_le, mul-le-mul, mul-le-mul_right, mul-pos, one-mul, zero-mul, zero-lt-suc, arith, eqb→eq, lit<, lit≤, pow-add, pow_pos, pow_mono}
use Rattle.std.specs.Bool.{beq}
use Rattle.std.proofs.Math.Nat.{eq_of_mul-eq-mul_right}
use Rattle.std.specs.Float.{nan, inf, fin, binary64}
use Rattle.std.specs.Float.Ieee.{up, down, add, eq, round, unlike}
use Rattle.std.specs.Float.Ieee.Exact.{HasValue}
use Rattle.std.specs.Float.Ieee.Fits.{down_pos}
use Rattle.lists.specs.ListLaws.{and_left, and_right}
use Rattle.ring.proofs.Ring.{ringℕ, poly, done}
use Rattle.ring.proofs.Order.{belowℕ, equalℕ, num, slackℕ, ◌⊞◌, ◌⊠◌, diffℕ, ◌⊕◌, ◌⊙◌}
use Rattle.std.proofs.Props.{props}
use Rattle.ieee754.specs.Value.{unit, unit_pos, mag, sign, Good, Good_prop, Is, of_value}
use Rattle.ieee754.specs.Ops.{add_pos}
use Rattle.ieee754.specs.Exact.{Rep, whole_value, round_rep, mul_exact, div_exact, of_int_pos}
use Rattle.hyperparams.specs.declared.Params.{Params}
use Rattle.hyperparams.specs.declared.ValidParams.{ValidParams}
use Rattle.hyperparams.specs.Params.{float, good_tolerance, whole_tolerance, slack_at, slack_from, slack_power, appx_tolerance_of, valid_of}
use Rattle.hyperparams.specs.Tolerance.{good_holds}
use Rattle.hyperparams.specs.Accepted.{Accepted}
use Rattle.counting_tree.specs.Sides.{Scale}
use Rattle.counting_tree.specs.Tests.{Extended}

pub record Settings (v : ValidParams) : Type 0 where
  -- 1 to 4 channels; the tolerance is the whole number t, 1 to 65,535
  pub scale : Scale v.channels v.tolerance v.t
  pub power : v.s ≤ 10
  -- the extended tolerance is t × (2 ^ s + 1) / 2 ^ s
  pub good : Good v.appx_tolerance
  pub sign_is : sign v.appx_tolerance ≡ false
  pub high : mag v.appx_tolerance ≤ 2 ^ 17 * unit
  pub scaled : 2 ^ v.s * mag v.appx_tolerance ≡ v.t * (2 ^ v.s + 1) * unit

pub Settings_prop : (v : ValidParams) → IsProp (Settings v)
Settings_prop v = Prim.hlevel (props, Good_prop)

-- ---- the tolerance
whole_is : (x : Float) (t : ℕ) → HasValue x false t 1 → Is x false (t * unit)
whole_is x t h = of_value x false (t * unit) (whole_value x false t h)

-- ---- the slack
-- what equals a positive number is that number
equal_is : (x y : Float) (P : ℕ) → T (eq x y) → Is y false P → 0 < P → Is x false P
unfolding eq Good mag sign
equal_is nan y P h i p = absurd h
equal_is (inf s) nan P h i p = absurd h
equal_is (inf s) (inf t) P h i p = absurd i.good
equal_is (inf s) (fin t n d) P h i p = absurd h
equal_is (fin s m e) nan P h i p = absurd h
equal_is (fin s m e) (inf t) P h i p = absurd h
equal_is (fin s m e) (fin t n d) P h i p =
    let a = m * up e * down d in
    let b = n * up d * down e in
    let q : a ≡ b = eqb→eq a b (and_left (eqb a b) (beq s t || eqb a 0) h) in
    let g : n * up d * unit ≡ P * down d = i.good ∙ ap (λ (z : ℕ). z * down d) i.mag_is in
    let r = turn (m * up e) (n * up d) (down e) (down d) unit P (down_pos d) q g in
    of_value (fin s m e) false P (positive s t (m * up e) (down d) (down e) unit P (down_pos d) (down_pos e) p i.sign_is r (and_right (eqb a b) (beq s t || eqb a 0) h), r)
  where
    turn : (a b c d u P : ℕ) → 0 < d → a * d ≡ b * c → b * u ≡ P * d → a * u ≡ P * c
    turn a b c d u P q e g = eq_of_mul-eq-mul_right d q (a * u) (P * c) (equalℕ (a ∷ b ∷ c ∷ d ∷ u ∷ P ∷ []) (pos u ⊙ diffℕ e ⊕ pos c ⊙ diffℕ g) (search poly depth 30) done)

    positive : (s t : Bool) (a d c u P : ℕ) → 0 < d → 0 < c → 0 < P → t ≡ false → a * u ≡ P * c → T (beq s t || eqb (a * d) 0) → s ≡ false
    positive false t a d c u P k q p f r h = refl
    positive true true a d c u P k q p f r h = f
    positive true false a d c u P k q p f r h = absurd (none a d c u P k q p (eqb→eq (a * d) 0 h) r)
      where
        none : (a d c u P : ℕ) → 0 < d → 0 < c → 0 < P → a * d ≡ 0 → a * u ≡ P * c → ⊥
        none zero d c u P k q p e r = omega (arith, mul-pos p q, zero-mul u)
        none (suc a) d c u P k q p e r = omega (arith, mul-pos (zero-lt-suc a) k)

-- 2 ^ -s in units
abbrev part : ℕ → ℕ
part s = 2 ^ (1074 - s)

unit_part : (s : ℕ) → s ≤ 10 → unit ≡ 2 ^ s * part s
unfolding unit
unit_part s h = ap (λ (n : ℕ). 2 ^ n) (go s h) ∙ pow-add 2 s (1074 - s)
  where
    go : (s : ℕ) → s ≤ 10 → 1074 ≡ s + (1074 - s)
    go s h = omega arith

low_power : (s : ℕ) → s ≤ 10 → 2 ^ s ≤ 1024
low_power s h = pow_mono h

slack_is : (s : ℕ) → s ≤ 10 → Is (slack_at s) false (part s)
unfolding slack_at
slack_is s h =
    let o = of_int_pos 1 (lit≤ tt) in
    let w = of_int_pos (2 ^ s) (le_trans (low_power s h) (lit≤ tt)) in
    let i = div_exact (float 1) (float (2 ^ s)) (part s) o.good w.good (lt_of_lt_of_le (mul-pos (pow_pos s) unit_pos) (le_of_eq (sym w.mag_is)))
    (ap (λ (n : ℕ). n * unit) (o.mag_is ∙ one-mul unit) ∙ shape unit (2 ^ s) (part s) (unit_part s h) ∙ ap (λ (n : ℕ). part s * n) (sym w.mag_is))
    (record { digits = 1; places = 1074 - s; few = lit< tt; is = sym (one-mul (part s)) }) (room unit (2 ^ s) (part s) (unit_part s h) (pow_pos s)) in
    record { good = i.good; mag_is = i.mag_is; sign_is = i.sign_is ∙ ap (λ (b : Bool). unlike b (sign (float (2 ^ s)))) o.sign_is ∙ ap (unlike false) w.sign_is }
  where
    shape : (u a b : ℕ) → u ≡ a * b → u * u ≡ b * (a * u)
    shape u a b e = equalℕ (u ∷ a ∷ b ∷ []) (pos u ⊙ diffℕ e) (search poly depth 30) done

    room : (u a b : ℕ) → u ≡ a * b → 0 < a → b ≤ 2 ^ 100 * u
    room u a b e p = omega (arith, mul-le-mul_right b p)

slack_found : (k s : ℕ) (x : Float) → slack_from k s x < s + k → T (eq x (slack_at (slack_from k s x)))
slack_found zero s x h = absurd (omega arith)
slack_found (suc k) s x h = go (eq x (slack_at s)) refl (slack_found k (suc s) x) h
  where
    go : (b : Bool) → eq x (slack_at s) ≡ b → (slack_from k (suc s) x < suc s + k → T (eq x (slack_at (slack_from k (suc s) x)))) → cond b s (slack_from k (suc s) x) < s + suc k → T (eq x (slack_at (cond b s (slack_from k (suc s) x))))
    go true e r l = subst T (sym e) tt
    go false e r l = r (omega arith)

-- ---- the extended tolerance
twice : (a b u : ℕ) → u ≡ a * b → 0 < a → (a + 1) * b ≤ 2 * u
twice a b u e p = omega (arith, mul-le-mul_right b p)

one_plus : (x : Float) (s : ℕ) → s ≤ 10 → Is x false (part s) → Is (add binary64 (float 1) x) false ((2 ^ s + 1) * part s)
one_plus x s h i =
    let o = of_int_pos 1 (lit≤ tt) in
    let e : mag (float 1) + mag x ≡ (2 ^ s + 1) * part s =
    ap (λ (n : ℕ). n + mag x) (o.mag_is ∙ one-mul unit ∙ unit_part s h) ∙ ap (λ (n : ℕ). 2 ^ s * part s + n) i.mag_is ∙ ringℕ (2 ^ s ∷ part s ∷ []) (search poly depth 30) done in
    subst (λ (w : Float). Is w false ((2 ^ s + 1) * part s)) (sym (add_pos (float 1) x o.good i.good o.sign_is i.sign_is ∙ ap (λ (n : ℕ). round binary64 false n unit) e))
    (round_rep false ((2 ^ s + 1) * part s) (record { digits = 2 ^ s + 1; places = 1074 - s; few = few (2 ^ s) (low_power s h); is = refl }) (le_trans (twice (2 ^ s) (part s) unit (unit_part s h) (pow_pos s)) (mul-le-mul_right unit (lit≤ tt))))
  where
    few : (a : ℕ) → a ≤ 1024 → a + 1 < 2 ^ 53
    few a l = omega arith

digits_few : (t a : ℕ) → t ≤ 65535 → a ≤ 1024 → t * (a + 1) < 2 ^ 53
digits_few t a h k = lt_of_le_of_lt (mul-le-mul h (go a k)) (lit< tt)
  where
    go : (a : ℕ) → a ≤ 1024 → a + 1 ≤ 1025
    go a k = omega arith

pub settings_of_lem : (p : Params) → T (good_tolerance p.tolerance) → slack_power p.slack ≤ 10 → 1 ≤ p.channels → p.channels ≤ 4 → Settings (valid_of p)
unfolding slack_power appx_tolerance_of
settings_of_lem p h q some most =
    let t = whole_tolerance p.tolerance in
    let s = slack_power p.slack in
    let w = good_holds p.tolerance h in
    let is = whole_is p.tolerance t w.value in
    let i = equal_is p.slack (slack_at s) (part s) (slack_found 11 0 p.slack (lt_of_le_of_lt q (lit< tt))) (slack_is s q) (pow_pos (1074 - s)) in
    let j = one_plus p.slack s q i in
    let r : Rep (t * (2 ^ s + 1) * part s) = record { digits = t * (2 ^ s + 1); places = 1074 - s; few = digits_few t (2 ^ s) w.high (low_power s q); is = refl } in
    let b : t * (2 ^ s + 1) * part s ≤ 2 ^ 17 * unit = high t (2 ^ s) (part s) unit w.high (twice (2 ^ s) (part s) unit (unit_part s q) (pow_pos s)) in
    let x = mul_exact p.tolerance (add binary64 (float 1) p.slack) (t * (2 ^ s + 1) * part s) is.good j.good (product t (2 ^ s + 1) (part s) unit is.mag_is j.mag_is) r (le_trans b (mul-le-mul_right unit (lit≤ tt))) in
    record {
      scale = record { some = some; most = most; is = is; low = w.low; high = w.high };
      power = q;
      good = x.good;
      sign_is = x.sign_is ∙ ap (λ (z : Bool). unlike z (sign (add binary64 (float 1) p.slack))) is.sign_is ∙ ap (unlike false) j.sign_is;
      high = le_trans (le_of_eq x.mag_is) b;
      scaled = ap (λ (n : ℕ). 2 ^ s * n) x.mag_is ∙ scaled t (2 ^ s) (part s) unit (unit_part s q);
    }
  where
    high : (t a b u : ℕ) → t ≤ 65535 → (a + 1) * b ≤ 2 * u → t * (a + 1) * b ≤ 2 ^ 17 * u
    high t a b u h z = belowℕ (t ∷ a ∷ b ∷ u ∷ []) (num t ⊠ slackℕ z ⊞ num (2 * u) ⊠ slackℕ h ⊞ num (2 * u)) (search poly depth 30) done

    product : (t a b u : ℕ) {x y : ℕ} → x ≡ t * u → y ≡ a * b → x * y ≡ t * a * b * u
    product t a b u {x} {y} p q = equalℕ (t ∷ a ∷ b ∷ u ∷ x ∷ y ∷ []) (pos y ⊙ diffℕ p ⊕ pos (t * u) ⊙ diffℕ q) (search poly depth 30) done

    scaled : (t a b u : ℕ) → u ≡ a * b → a * (t * (a + 1) * b) ≡ t * (a + 1) * u
    scaled t a b u e = equalℕ (t ∷ a ∷ b ∷ u ∷ []) (pos (t * (a + 1)) ⊙ diffℕ (sym e)) (search poly depth 30) done

-- the extended tolerance is a number that the format holds
pub extended : {v : ValidParams} → Settings v → Extended v.appx_tolerance
extended {v} s = record {
  good = s.good;
  sign_is = s.sign_is;
  rep = record { digits = v.t * (2 ^ v.s + 1); places = 1074 - v.s; few = digits_few v.t (2 ^ v.s) s.scale.high (low_power v.s s.power); is = is (2 ^ v.s) (part v.s) v.t (mag v.appx_tolerance) unit (pow_pos v.s) (unit_part v.s s.power) s.scaled };
  high = s.high;
}
  where
    is : (a b t m u : ℕ) → 0 < a → u ≡ a * b → a * m ≡ t * (a + 1) * u → m ≡ t * (a + 1) * b
    is a b t m u p e q = eq_of_mul-eq-mul_right a p m (t * (a + 1) * b) (equalℕ (a ∷ b ∷ t ∷ m ∷ u ∷ []) (diffℕ q ⊕ pos (t * (a + 1)) ⊙ diffℕ e) (search poly depth 30) done)

-- every accepted run
pub settings_in : {p : Params} {v : ValidParams} {points labels kinds work : ℕ} → Accepted p v points labels kinds work → Settings v
settings_in {p} a = subst Settings (sym a.settings) (settings_of_lem p a.tolerance_fits a.low_power a.some_channels a.few_channels)
