-- The numbers of units that the format holds, `Rep`: where an operation is exact, and that rounding keeps their order.
use Rattle.std.specs.Prelude.{◌≡◌, ℕ, zero, suc, ◌+◌, ◌-◌, ◌*◌, ◌/◌, ◌%◌, ◌^◌, ◌<◌, ◌≤◌, Bool, true, false, ◌&&◌, T, [], ◌∷◌, pos, negsuc, ◌==◌, nat_le, nat_lt, refl, Float}
use Rattle.std.proofs.Common.{sym, ap, ◌∙◌, subst, lt_of_le_of_lt, lt_of_lt_of_le, mul-le-mul_right, mul-pos, mul_assoc, mul_right_comm, mul-one, mul-div_cancel, div-lt_iff_lt-mul, mul-lt-mul_of_pos_right, le_of_eq, zero-mul, arith, leb→le, ltb→lt, lit<, pow-add, pow_pos}
use Rattle.std.specs.Float.{nan, inf, fin, binary64}
use Rattle.std.specs.Float.Ieee.{up, down, round, fits, le, unlike, mul, div, of_int}
use Rattle.std.specs.Float.Ieee.Fits.{down_pos}
use Rattle.std.specs.Float.Ieee.Exact.{HasValue, round_exact}
use Rattle.std.specs.Float.Ieee.Back.{round_whole}
use Rattle.std.specs.Float.Ieee.Order.{round_mono}
use Rattle.std.specs.Float.Ieee.Scale.{round_same, finite}
use Rattle.ring.proofs.Ring.{ringℕ, poly, done}
use Rattle.ring.proofs.Order.{equalℕ, diffℕ, ◌⊙◌}
use Rattle.ring.specs.Nat.{exponent_le, align}
use Rattle.ieee754.specs.Value.{unit, unit_pos, mag, sign, Good, Is, of_value, round_near}
use Rattle.ieee754.specs.Ops.{plus, minus, plus_pos, minus_pos, plus_neg, SumOf, above, below, near_units, mul_of, div_of}
use Rattle.ieee754.specs.Compare.{le_is}

-- n has at most 53 binary digits before its zeros
pub record Rep (n : ℕ) : Type 0 where
  pub digits : ℕ
  pub places : ℕ
  pub few : digits < 2 ^ 53
  pub is : n ≡ digits * 2 ^ places

pub rep_whole : (k : ℕ) → k < 2 ^ 53 → Rep (k * unit)
unfolding unit
rep_whole k h = record { digits = k; places = 1074; few = h; is = refl }

pub round_same_rep : (s : Bool) (n : ℕ) → Rep n → n < 2 ^ 2098 → Is (round binary64 s n unit) s n
unfolding unit
round_same_rep s n r h =
    of_value (round binary64 s n unit) s n
    (round_exact binary64 s n unit r.digits r.places unit_pos r.few (subst (λ (x : ℕ). x < 2 ^ 2098) r.is h) (ap (λ (x : ℕ). x * 2 ^ 1074) r.is))

pub round_rep : (s : Bool) (n : ℕ) → Rep n → n ≤ 2 ^ 100 * unit → Is (round binary64 s n unit) s n
unfolding unit
round_rep s n r h = round_same_rep s n r (lt_of_le_of_lt h (lit< tt))

-- ---- order
pub positive_mag : (x y : Float) → Good x → Good y → sign x ≡ false → sign y ≡ false → T (le x y) → mag x ≤ mag y
positive_mag x y g k s t l =
    let h : plus x + minus y ≤ plus y + minus x = leb→le (plus x + minus y) (plus y + minus x) (subst T (le_is x y g k) l) in
    let a = plus_pos x s in
    let b = minus_pos x s in
    let c = plus_pos y t in
    let d = minus_pos y t in
    omega arith

-- a fraction no larger than a number that the format holds rounds to no more
pub round_le : (num den K : ℕ) → 0 < den → Rep K → K ≤ 2 ^ 100 * unit → num ≤ 2 ^ 100 * den → num * unit ≤ K * den → mag (round binary64 false num den) ≤ K
round_le num den K D r b n h =
    let x = round_near false num den D n in
    let y = round_rep false K r b in
    subst (λ (w : ℕ). mag (round binary64 false num den) ≤ w) y.mag_is
    (positive_mag (round binary64 false num den) (round binary64 false K unit) x.good y.good x.sign_is y.sign_is (round_mono binary64 num den K unit D unit_pos h))

-- ---- sums
-- z ≤ K if A - B is
pub sum_le : (z : Float) (A B K : ℕ) → SumOf z A B → Rep K → K ≤ 2 ^ 100 * unit → A ≤ B + K → B ≤ A + 2 ^ 100 * unit → plus z ≤ K + minus z
sum_le z A B K (above n e d) r b h i =
    let x = near_units false n (omega arith) in
    let m : mag z ≤ K = subst (λ (w : Float). mag w ≤ K) (sym e) (round_le n unit K unit_pos r b (omega arith) (mul-le-mul_right unit (omega arith))) in
    let p = plus_pos z (subst (λ (w : Float). sign w ≡ false) (sym e) x.sign_is) in
    omega arith
sum_le z A B K (below n e d) r b h i =
    let x = near_units true n (omega arith) in
    let p = plus_neg z (subst (λ (w : Float). sign w ≡ true) (sym e) x.sign_is) in
    omega arith

-- ---- products and quotients
pub mul_exact : (x y : Float) (n : ℕ) → Good x → Good y → mag x * mag y ≡ n * unit → Rep n → n ≤ 2 ^ 100 * unit → Is (mul binary64 x y) (unlike (sign x) (sign y)) n
mul_exact x y n g k h r b =
    let s = unlike (sign x) (sign y) in
    subst (λ (w : Float). Is w s n) (sym (mul_of x y g k ∙ round_same binary64 s (mag x * mag y) (unit * unit) n unit (mul-pos unit_pos unit_pos) unit_pos (ap (λ (w : ℕ). w * unit) h ∙ mul_assoc n unit unit)))
    (round_rep s n r b)

pub div_exact : (x y : Float) (n : ℕ) → Good x → Good y → 0 < mag y → mag x * unit ≡ n * mag y → Rep n → n ≤ 2 ^ 100 * unit → Is (div binary64 x y) (unlike (sign x) (sign y)) n
div_exact x y n g k p h r b =
    let s = unlike (sign x) (sign y) in
    subst (λ (w : Float). Is w s n) (sym (div_of x y g k p ∙ round_same binary64 s (mag x) (mag y) n unit p unit_pos h))
    (round_rep s n r b)

-- ---- whole numbers
pub whole_value : (x : Float) (s : Bool) (n : ℕ) → HasValue x s n 1 → HasValue x s (n * unit) unit
whole_value nan s n h = h
whole_value (inf t) s n h = h
whole_value (fin t m e) s n h = (h.0, equalℕ (m * up e ∷ n ∷ down e ∷ unit ∷ []) (pos unit ⊙ diffℕ h.1) (search poly depth 30) done)

pub of_int_pos : (n : ℕ) → n ≤ 2 ^ 53 → Is (of_int binary64 (pos n)) false (n * unit)
unfolding of_int
of_int_pos n h = of_value (round binary64 false n 1) false (n * unit) (whole_value (round binary64 false n 1) false n (round_whole binary64 false n h))

pub of_int_neg : (n : ℕ) → suc n ≤ 2 ^ 53 → Is (of_int binary64 (negsuc n)) true (suc n * unit)
unfolding of_int
of_int_neg n h = of_value (round binary64 true (suc n) 1) true (suc n * unit) (whole_value (round binary64 true (suc n) 1) true (suc n) (round_whole binary64 true (suc n) h))

pub good_finite : (x : Float) → Good x → T (finite x)
unfolding Good
good_finite nan g = absurd g
good_finite (inf s) g = absurd g
good_finite (fin s m e) g = tt

-- ---- every value of the format is such a number of units
tests : (a b c d : Bool) → T (a && b && c && d) → T b × T c × T d
tests true true true d h = (tt, tt, h)
tests false b c d h = absurd h
tests true false c d h = absurd h
tests true true false d h = absurd h

good_from : (a u d n : ℕ) → 0 < d → a * u ≡ n * d → Rep n → (a * u ≡ a * u / d * d) × Rep (a * u / d)
good_from a u d n D h r =
    let q : a * u / d ≡ n = ap (λ (z : ℕ). z / d) h ∙ mul-div_cancel n D in
    (h ∙ ap (λ (z : ℕ). z * d) (sym q), subst Rep (sym q) r)

pub fits_good : (x : Float) → T (fits binary64 x) → T (finite x) → Good x × Rep (mag x)
unfolding fits Good mag unit
fits_good nan f t = absurd t
fits_good (inf s) f t = absurd t
fits_good (fin s zero e) f t =
    good_from (0 * up e) unit (down e) 0 (down_pos e) (ap (λ (z : ℕ). z * unit) (zero-mul (up e)) ∙ zero-mul unit ∙ sym (zero-mul (down e))) (record { digits = 0; places = 0; few = lit< tt; is = refl })
fits_good (fin s (suc m) (pos k)) f t =
    let p = tests (suc m % 2 == 1) (nat_lt (suc m) (2 ^ 53)) (nat_le 1 (2 ^ 1074)) (nat_lt (suc m * 2 ^ k) (2 ^ 1024 * 1)) f in
    good_from (suc m * 2 ^ k) unit 1 (suc m * 2 ^ k * unit) (lit< tt) (sym (mul-one (suc m * 2 ^ k * unit)))
    (record { digits = suc m; places = k + 1074; few = ltb→lt (suc m) (2 ^ 53) p.0; is = mul_assoc (suc m) (2 ^ k) (2 ^ 1074) ∙ ap (λ (z : ℕ). suc m * z) (sym (pow-add 2 k 1074)) })
fits_good (fin s (suc m) (negsuc k)) f t =
    let p = tests (suc m % 2 == 1) (nat_lt (suc m) (2 ^ 53)) (nat_le (2 ^ suc k) (2 ^ 1074)) (nat_lt (suc m * 1) (2 ^ 1024 * 2 ^ suc k)) f in
    let l : suc k ≤ 1074 = exponent_le (suc k) 1074 (leb→le (2 ^ suc k) (2 ^ 1074) p.1) in
    good_from (suc m * 1) unit (2 ^ suc k) (suc m * 2 ^ (1074 - suc k)) (pow_pos (suc k))
    (ap (λ (z : ℕ). z * 2 ^ 1074) (mul-one (suc m)) ∙ align (suc m) l)
    (record { digits = suc m; places = 1074 - suc k; few = ltb→lt (suc m) (2 ^ 53) p.0; is = refl })

-- and is below the top of the format
pub fits_below : (x : Float) → T (fits binary64 x) → T (finite x) → mag x < 2 ^ 2098
unfolding fits mag unit
fits_below nan f t = absurd t
fits_below (inf s) f t = absurd t
fits_below (fin s zero e) f t = (div-lt_iff_lt-mul (down_pos e)).1 (lt_of_le_of_lt (le_of_eq (ringℕ (up e ∷ []) (search poly depth 30) done)) (mul-pos (pow_pos 2098) (down_pos e)))
fits_below (fin s (suc m) e) f t =
    let h = ltb→lt (suc m * up e) (2 ^ 1024 * down e) (tests (suc m % 2 == 1) (nat_lt (suc m) (2 ^ 53)) (nat_le (down e) (2 ^ 1074)) (nat_lt (suc m * up e) (2 ^ 1024 * down e)) f).2 in
    (div-lt_iff_lt-mul (down_pos e)).1 (lt_of_lt_of_le (mul-lt-mul_of_pos_right h (pow_pos 1074)) (le_of_eq (mul_right_comm (2 ^ 1024) (down e) (2 ^ 1074))))
