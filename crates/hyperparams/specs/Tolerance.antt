-- Document 01, "Tolerance t: an f64 holding a whole number, 1 to 65,535": a tolerance is good exactly if it holds such a number, and `whole_tolerance` is that number.
use Rattle.std.specs.Prelude.{◌≡◌, ℕ, ◌+◌, ◌*◌, ◌/◌, ◌%◌, ◌^◌, ◌≤◌, min, Bool, true, false, cond, ◌&&◌, T, ◌==◌, nat_le, nat_lt, refl, Float, None, Some}
use Rattle.std.proofs.Common.{sym, ap, ◌∙◌, suc-le-suc, le_trans, le_of_eq, le_of_suc-le-suc, mul-one, add-zero, div-add-mod', mul-div_cancel, ltb→lt, eqb→eq, le→leb, lt→ltb, lit≤}
use Rattle.std.proofs.lemmas.Bool.{false≢true}
use Rattle.std.proofs.lemmas.Option.{none-some, cond_some}
use Rattle.std.proofs.Math.Nat.{mul-mod_left, min-eq_left}
use Rattle.std.specs.Float.{nan, inf, fin, binary64}
use Rattle.std.specs.Float.Ieee.{up, down, whole}
use Rattle.std.specs.Float.Ieee.Exact.{HasValue}
use Rattle.std.specs.Float.Ieee.Fits.{and_i, and_l, and_r, down_pos}
use Rattle.hyperparams.specs.Params.{good_tolerance, whole_tolerance, whole_tolerance_of}

-- x is the whole number t, and t is in the domain
pub record Holds (x : Float) (t : ℕ) : Type 0 where
  pub value : HasValue x false t 1
  pub low : 1 ≤ t
  pub high : t ≤ 65535

pub good_holds : (x : Float) → T (good_tolerance x) → Holds x (whole_tolerance x)
unfolding good_tolerance whole_tolerance
good_holds nan h = absurd h
good_holds (inf s) h = absurd h
good_holds (fin true m e) h = absurd (and_r (whole binary64 (fin true m e)) false (and_l (whole binary64 (fin true m e) && false) (nat_lt 0 0) h))
good_holds (fin false m e) h =
    let n = m * up e in
    let v = n / down e in
    let w = whole binary64 (fin false m e) in
    let i = and_l (w && nat_lt v 65536) (nat_lt 0 (min v 65535)) h in
    let z = eqb→eq (n % down e) 0 (and_l (n % down e == 0) (nat_le v (2 ^ 53)) (and_l (n % down e == 0 && nat_le v (2 ^ 53)) true (and_l w (nat_lt v 65536) i))) in
    let b : v ≤ 65535 = le_of_suc-le-suc (ltb→lt v 65536 (and_r w (nat_lt v 65536) i)) in
    let k : min v 65535 ≡ v = min-eq_left b in
    record {
      value = (refl, mul-one n ∙ sym (div-add-mod' n (down e)) ∙ ap (λ (r : ℕ). v * down e + r) z ∙ add-zero (v * down e) ∙ ap (λ (q : ℕ). q * down e) (sym k));
      low = ltb→lt 0 (min v 65535) (and_r (w && nat_lt v 65536) (nat_lt 0 (min v 65535)) h);
      high = le_trans (le_of_eq k) b;
    }

pub holds_good : (x : Float) (t : ℕ) → Holds x t → T (good_tolerance x) × (whole_tolerance x ≡ t)
unfolding good_tolerance whole_tolerance
holds_good nan t h = absurd h.value
holds_good (inf s) t h = absurd h.value
holds_good (fin true m e) t h = absurd (false≢true (sym h.value.0))
holds_good (fin false m e) t h =
    let n : m * up e ≡ t * down e = sym (mul-one (m * up e)) ∙ h.value.1 in
    let q : m * up e / down e ≡ t = ap (λ (a : ℕ). a / down e) n ∙ mul-div_cancel t (down_pos e) in
    let r : m * up e % down e ≡ 0 = ap (λ (a : ℕ). a % down e) n ∙ mul-mod_left t (down e) in
    let k : min t 65535 ≡ t = min-eq_left h.high in (
      rw (q, r, k) (and_i (nat_le t (2 ^ 53) && true && nat_lt t 65536) (nat_lt 0 t)
          (and_i (nat_le t (2 ^ 53) && true) (nat_lt t 65536) (and_i (nat_le t (2 ^ 53)) true (le→leb t (2 ^ 53) (le_trans h.high (lit≤ tt))) tt) (lt→ltb t 65536 (suc-le-suc h.high))) (lt→ltb 0 t h.low)),
      rw (q, k),
    )

-- there is a number exactly where the tolerance is good
pub some_good : (x : Float) (t : ℕ) → whole_tolerance_of x ≡ Some t → (good_tolerance x ≡ true) × (whole_tolerance x ≡ t)
some_good x t e = cond_some (good_tolerance x) (whole_tolerance x) t e

pub cond_none : (b : Bool) (n : ℕ) → cond b (Some n) None ≡ None → b ≡ false
cond_none true n e = absurd (none-some n (sym e))
cond_none false n e = refl

pub none_good : (x : Float) → whole_tolerance_of x ≡ None → good_tolerance x ≡ false
none_good x e = cond_none (good_tolerance x) (whole_tolerance x) e
