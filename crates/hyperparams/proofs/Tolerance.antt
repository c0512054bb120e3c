-- What the tests of `whole_tolerance` say: above 0, below 65,536, and equal to its whole part.
use Rattle.std.specs.Prelude.{None, Some}
use Rattle.std.proofs.Common.{◌≡◌, ℕ, ◌+◌, ◌-◌, ◌*◌, ◌/◌, ◌^◌, ◌<◌, ◌≤◌, min, Bool, true, false, ◌||◌, T, eqb, ℤ, pos, sym, refl, ap, ◌∙◌, subst, le_trans, le_of_eq, le_of_suc-le-suc, mul-le-mul_right, div-lt_iff_lt-mul, mul-one, mul_right_comm, mul-div_cancel, arith, lit≤, le→leb, eqb→eq, ltb→lt, lt→ltb}
use mathlib.Core.Bool.{beq, false≢true}
use native.Mathlib.Nat.{min-eq_left, eq_of_mul-eq-mul_right}
use lib.Dec.{not_T}
use lib.Ieee.{Float, nan, inf, fin, binary64, up, down, lt, eq, of_int, in_float, to_unsigned}
use lib.Ieee.Back.{round_whole}
use lib.Ieee.Bits.{is_true, is_false}
use lib.Ieee.Exact.{HasValue}
use lib.Ieee.Positive.{first_pos}
use lib.Ieee.Fits.{and_i, and_l, eq→eqb, down_pos}
use Rattle.hyperparams.specs.Params.{good_tolerance, whole_tolerance, whole_tolerance_of}
use Rattle.hyperparams.specs.Tolerance.{Holds, good_holds, holds_good}

abbrev pub above : Float → Bool
above x = lt (fin false 0 (pos 0)) x

abbrev pub under : Float → Bool
under x = lt x (fin false 1 (pos 16))

-- the test of x against its whole part
abbrev pub uncut : Float → Bool
uncut x = eq (of_int binary64 (pos (to_unsigned 64 x))) x

-- ---- two floats of which one holds t are equal exactly if both do
eq_of : (y x : Float) (t : ℕ) → HasValue y false t 1 → HasValue x false t 1 → T (eq y x)
unfolding eq
eq_of nan _ t v w = elim v [ ]
eq_of (inf _) _ t v w = elim v [ ]
eq_of (fin false m e) nan t v w = elim w [ ]
eq_of (fin false m e) (inf _) t v w = elim w [ ]
eq_of (fin true m e) nan t v w = elim w [ ]
eq_of (fin true m e) (inf _) t v w = elim w [ ]
eq_of (fin true m e) (fin u n k) t v w = absurd (false≢true (sym v.0))
eq_of (fin false m e) (fin true n k) t v w = absurd (false≢true (sym w.0))
eq_of (fin false m e) (fin false n k) t v w =
    and_i (eqb (m * up e * down k) (n * up k * down e)) true
    (eq→eqb (ap (λ (a : ℕ). a * down k) (sym (mul-one (m * up e)) ∙ v.1) ∙ mul_right_comm t (down e) (down k) ∙ ap (λ (a : ℕ). a * down e) (sym w.1 ∙ mul-one (n * up k)))) tt

value_of : (y : Float) (m : ℕ) (e : ℤ) (t : ℕ) → HasValue y false t 1 → T (eq y (fin false m e)) → m * up e ≡ t * down e
unfolding eq
value_of nan m e t v h = elim v [ ]
value_of (inf _) m e t v h = elim v [ ]
value_of (fin s n k) m e t v h =
    let p : n * up k * down e ≡ m * up e * down k = eqb→eq (n * up k * down e) (m * up e * down k) (and_l (eqb (n * up k * down e) (m * up e * down k)) (beq s false || eqb (n * up k * down e) 0) h) in
    eq_of_mul-eq-mul_right (down k) (down_pos k) (m * up e) (t * down e)
    (sym p ∙ ap (λ (a : ℕ). a * down e) (sym (mul-one (n * up k)) ∙ v.1) ∙ mul_right_comm t (down k) (down e))

whole_value : (t : ℕ) → t ≤ 65535 → HasValue (of_int binary64 (pos t)) false t 1
unfolding of_int
whole_value t h = round_whole binary64 false t (le_trans h (lit≤ tt))

-- ---- what holds a number passes the tests
pub record Passes (x : Float) : Type 0 where
  pub is_above : T (above x)
  pub is_under : T (under x)
  pub is_uncut : T (uncut x)

pub passes : (x : Float) (t : ℕ) → Holds x t → Passes x
unfolding lt to_unsigned
passes nan t h = absurd h.value
passes (inf s) t h = absurd h.value
passes (fin true m e) t h = absurd (false≢true (sym h.value.0))
passes (fin false m e) t h =
    let d = down_pos e in
    let n : m * up e ≡ t * down e = sym (mul-one (m * up e)) ∙ h.value.1 in
    let k = mul-le-mul_right (down e) h.high in
    let j = mul-le-mul_right (down e) h.low in
    let q : min (m * up e / down e) (2 ^ 64 - 1) ≡ t = ap (λ (a : ℕ). min (a / down e) (2 ^ 64 - 1)) n ∙ ap (λ (a : ℕ). min a (2 ^ 64 - 1)) (mul-div_cancel t d) ∙ min-eq_left (le_trans h.high (lit≤ tt)) in
    record {
      is_above = lt→ltb (0 * down e) (m * up e * 1) (omega arith);
      is_under = lt→ltb (m * up e * 1) (65536 * down e) (omega arith);
      is_uncut = rw q (eq_of (of_int binary64 (pos t)) (fin false m e) t (whole_value t h.high) h.value);
    }

-- ---- between 0 and 65,536 there is a whole part, and what is equal to it holds a number
pub record Inside (x : Float) : Type 0 where
  pub over_minus_one : T (lt (fin true 1 (pos 0)) x)
  pub under_width : T (lt x (fin false 1 (pos 64)))
  pub small : to_unsigned 64 x ≤ 65535
  pub holds : T (uncut x) → Holds x (to_unsigned 64 x)

between : (x : Float) → T (above x) → T (under x) → Inside x
unfolding lt to_unsigned
between nan h k = absurd h
between (inf true) h k = absurd h
between (inf false) h k = absurd k
between (fin true m e) h k = absurd h
between (fin false m e) h k =
    let d = down_pos e in
    let p : 0 * down e < m * up e * 1 = ltb→lt (0 * down e) (m * up e * 1) h in
    let q : m * up e * 1 < 65536 * down e = ltb→lt (m * up e * 1) (65536 * down e) k in
    let v = m * up e / down e in
    let b : v ≤ 65535 = le_of_suc-le-suc ((div-lt_iff_lt-mul d).1 (omega arith)) in
    let c : min v (2 ^ 64 - 1) ≡ v = min-eq_left (le_trans b (lit≤ tt)) in
    record {
      over_minus_one = lt→ltb 0 (1 * down e + m * up e * 1) (omega arith);
      under_width = lt→ltb (m * up e * 1) (2 ^ 64 * down e) (omega arith);
      small = le_trans (le_of_eq c) b;
      holds = rw c (λ u.
          let n = value_of (of_int binary64 (pos v)) m e v (whole_value v b) u in
          record { value = (refl, mul-one (m * up e) ∙ n); low = first_pos v (down e) (omega arith); high = b });
    }

pub inside : (x : Float) → above x ≡ true → under x ≡ true → Inside x
inside x p q = between x (subst T (sym p) tt) (subst T (sym q) tt)

-- ---- the answer, with r for the whole part
pub in_float_lem : (x : Float) (r : ℕ) → r ≡ to_unsigned 64 x → Inside x → T (in_float binary64 (pos r))
unfolding in_float
in_float_lem x r e i = le→leb r (2 ^ 53) (le_trans (le_of_eq e) (le_trans i.small (lit≤ tt)))

pub found : (x : Float) (r : ℕ) → r ≡ to_unsigned 64 x → Inside x → eq (of_int binary64 (pos r)) x ≡ true → Some r ≡ whole_tolerance_of x
found x r e i t =
    let u : T (uncut x) = rw (← e, t) tt in
    let g = holds_good x (to_unsigned 64 x) (i.holds u) in
    rw (is_true (good_tolerance x) g.0, g.1) (ap Some e)

-- for a test that each such number passes
pub none : (x : Float) (test : Bool) → (Passes x → T test) → test ≡ false → None ≡ whole_tolerance_of x
none x test f e = rw (is_false (good_tolerance x) (not_T (good_tolerance x) (λ g. subst T e (f (passes x (whole_tolerance x) (good_holds x g))))))
