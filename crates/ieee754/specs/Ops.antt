-- What each operation on finite binary64 values comes to, in units: its error is at most 2 ^ -53 of its exact result, and half a unit.
-- A signed value is `plus` - `minus`, one of which is 0, so that every statement is one about natural numbers.
use Rattle.std.specs.Prelude.{◌≡◌, ℕ, ◌+◌, ◌-◌, ◌*◌, ◌^◌, ◌<◌, ◌≤◌, Bool, true, false, cond, not, T, ◌==◌, nat_lt, refl, Float}
use Rattle.std.proofs.Common.{sym, ap, ◌∙◌, subst, subst₂, true≢false, le_trans, le_of_eq, mul-le-mul_right, mul-pos, mul_assoc, mul_comm, one-mul, add-sub_of_le, le_of_mul-le-mul_right, mul-lt-mul_of_pos_right, le_of_lt, lt_irrefl, not-le_of_lt, arith, ltb→lt, nltb→le, eqb→eq}
use Rattle.std.proofs.Math.Nat.{eq_of_mul-eq-mul_right, mul-mul-mul_comm, mul-sub}
use Rattle.std.specs.Float.{nan, inf, fin, binary64}
use Rattle.std.specs.Float.Ieee.{up, down, round, neg, sum, add, sub, mul, div, unlike}
use Rattle.std.specs.Float.Ieee.Fits.{down_pos}
use Rattle.std.specs.Float.Ieee.Scale.{round_same}
use Rattle.std.specs.Float.Ieee.Positive.{first_pos}
use Rattle.ieee754.specs.Value.{unit, unit_pos, mag, sign, Good, Close, Rounded, round_near}

-- ---- signed values
unfoldable pub plus : Float → ℕ
plus x = cond (sign x) 0 (mag x)

unfoldable pub minus : Float → ℕ
minus x = cond (sign x) (mag x) 0

pub plus_pos : (x : Float) → sign x ≡ false → plus x ≡ mag x
unfolding plus
plus_pos x e = rw e

pub minus_pos : (x : Float) → sign x ≡ false → minus x ≡ 0
unfolding minus
minus_pos x e = rw e

pub plus_neg : (x : Float) → sign x ≡ true → plus x ≡ 0
unfolding plus
plus_neg x e = rw e

pub minus_neg : (x : Float) → sign x ≡ true → minus x ≡ mag x
unfolding minus
minus_neg x e = rw e

pub mag_parts : (x : Float) → mag x ≡ plus x + minus x
unfolding plus minus
mag_parts x = go (sign x)
  where
    go : (s : Bool) → mag x ≡ cond s 0 (mag x) + cond s (mag x) 0
    go true = omega arith
    go false = omega arith

-- z is A - B, but for e / 2 ^ 53
pub record Approx (z : Float) (A B e : ℕ) : Type 0 where
  pub good : Good z
  pub high : 2 ^ 53 * (plus z + B) ≤ 2 ^ 53 * (A + minus z) + e
  pub low : 2 ^ 53 * (A + minus z) ≤ 2 ^ 53 * (plus z + B) + e

-- ---- a factor that numerator and denominator have in common
close_cancel : (r n den k : ℕ) → 0 < k → Close r (n * k) (den * k) → Close r n den
close_cancel r n den k K c = (
  le_of_mul-le-mul_right {k = k} (omega arith) K,
  le_of_mul-le-mul_right {k = k} (omega arith) K,
)

pub close_one : (r n u : ℕ) → 0 < u → Close r (n * u) u → Close r n 1
close_one r n u U c = close_cancel r n 1 u U (subst (λ (d : ℕ). Close r (n * u) d) (sym (one-mul u)) c)

pub near_units : (s : Bool) (n : ℕ) → n ≤ 2 ^ 100 * unit → Rounded (round binary64 s n unit) s n 1
near_units s n h =
    let r = round_near s n unit unit_pos h in
    record { good = r.good; sign_is = r.sign_is; close = close_one (mag (round binary64 s n unit)) n unit unit_pos r.close }

-- z is A - B, rounded
pub data SumOf (z : Float) (A B : ℕ) : Type 0 where
  above : (n : ℕ) → z ≡ round binary64 false n unit → A ≡ B + n → SumOf z A B
  below : (n : ℕ) → z ≡ round binary64 true n unit → B ≡ A + n → SumOf z A B

up_approx : (z : Float) (A B n e : ℕ) → A ≡ B + n → n + 2 ^ 52 ≤ e → Rounded z false n 1 → Approx z A B e
up_approx z A B n e d h r =
    let p = plus_pos z r.sign_is in
    let q = minus_pos z r.sign_is in
    let c = r.close in
    record { good = r.good; high = omega arith; low = omega arith }

down_approx : (z : Float) (A B n e : ℕ) → B ≡ A + n → n + 2 ^ 52 ≤ e → Rounded z true n 1 → Approx z A B e
down_approx z A B n e d h r =
    let p = plus_neg z r.sign_is in
    let q = minus_neg z r.sign_is in
    let c = r.close in
    record { good = r.good; high = omega arith; low = omega arith }

pub sum_approx : (z : Float) (A B E : ℕ) → SumOf z A B → E ≤ 2 ^ 100 * unit → A ≤ B + E → B ≤ A + E → Approx z A B (E + 2 ^ 52)
sum_approx z A B E (above n e d) big i j = up_approx z A B n (E + 2 ^ 52) d (omega arith) (subst (λ (w : Float). Rounded w false n 1) (sym e) (near_units false n (omega arith)))
sum_approx z A B E (below n e d) big i j = down_approx z A B n (E + 2 ^ 52) d (omega arith) (subst (λ (w : Float). Rounded w true n 1) (sym e) (near_units true n (omega arith)))

-- ---- the sum
-- a / c and b / c are x and y units
diff : (a b c x y : ℕ) → a * unit ≡ x * c → b * unit ≡ y * c → (a - b) * unit ≡ (x - y) * c
diff a b c x y p q =
    mul_comm (a - b) unit
    ∙ mul-sub unit a b
    ∙ ap (λ (z : ℕ). z - unit * b) (mul_comm unit a ∙ p ∙ mul_comm x c)
    ∙ ap (λ (z : ℕ). c * x - z) (mul_comm unit b ∙ q ∙ mul_comm y c)
    ∙ sym (mul-sub c x y)
    ∙ mul_comm c (x - y)

module _ (a b c x y : ℕ) (C : 0 < c) (p : a * unit ≡ x * c) (q : b * unit ≡ y * c) where
  order : b ≤ a → y ≤ x
  order h = le_of_mul-le-mul_right {k = c} (omega (arith, mul-le-mul_right unit h)) C

  same_sign : (s : Bool) → round binary64 s (a + b) c ≡ round binary64 s (x + y) unit
  same_sign s = round_same binary64 s (a + b) c (x + y) unit C unit_pos (omega arith)

  other_sign : (s : Bool) → round binary64 s (a - b) c ≡ round binary64 s (x - y) unit
  other_sign s = round_same binary64 s (a - b) c (x - y) unit C unit_pos (diff a b c x y p q)

-- A - B is the exact sum
sum_of : (s t : Bool) (a b c x y A B : ℕ) → 0 < c → a * unit ≡ x * c → b * unit ≡ y * c
    → A ≡ cond s 0 x + cond t 0 y → B ≡ cond s x 0 + cond t y 0 → SumOf (sum binary64 s a t b c) A B
unfolding sum
sum_of false false a b c x y A B C p q i j = above (x + y) (same_sign a b c x y C p q false) (omega arith)
sum_of true true a b c x y A B C p q i j = below (x + y) (same_sign a b c x y C p q true) (omega arith)
sum_of false true a b c x y A B C p q i j = go (nat_lt a b) (ltb→lt a b) (nltb→le a b)
  where
    go : (u : Bool) → (T u → a < b) → (T (not u) → b ≤ a) → SumOf (cond u (round binary64 true (b - a) c) (round binary64 false (a - b) c)) A B
    go true f g =
        let o = add-sub_of_le (order b a c y x C q p (omega (arith, f tt))) in
        below (y - x) (other_sign b a c y x C q p true) (omega arith)
    go false f g =
        let o = add-sub_of_le (order a b c x y C p q (g tt)) in
        above (x - y) (other_sign a b c x y C p q false) (omega arith)
sum_of true false a b c x y A B C p q i j = go (nat_lt a b) (ltb→lt a b) (nltb→le a b)
  where
    -- an exact zero is +0
    at_zero : (v : Bool) → (T (not v) → a ≤ b) → b ≤ a → SumOf (round binary64 v (a - b) c) A B
    at_zero true f g =
        let o = add-sub_of_le (order a b c x y C p q g) in
        below (x - y) (other_sign a b c x y C p q true) (omega arith)
    at_zero false f g =
        let o = order a b c x y C p q g in
        let w = order b a c y x C q p (f tt) in
        above (x - y) (other_sign a b c x y C p q false) (omega arith)

    go : (u : Bool) → (T u → a < b) → (T (not u) → b ≤ a) → SumOf (cond u (round binary64 false (b - a) c) (round binary64 (nat_lt b a) (a - b) c)) A B
    go true f g =
        let o = add-sub_of_le (order b a c y x C q p (omega (arith, f tt))) in
        above (y - x) (other_sign b a c y x C q p false) (omega arith)
    go false f g = at_zero (nat_lt b a) (nltb→le b a) (g tt)

pub cross : (p u M dn dd : ℕ) → p * u ≡ M * dn → p * dd * u ≡ M * (dn * dd)
cross p u M dn dd g = omega (arith, ap (λ (z : ℕ). z * dd) g)

pub cross' : (p u M dn dd : ℕ) → p * u ≡ M * dn → p * dd * u ≡ M * (dd * dn)
cross' p u M dn dd g = omega (arith, ap (λ (z : ℕ). z * dd) g)

pub add_of : (x y : Float) → Good x → Good y → SumOf (add binary64 x y) (plus x + plus y) (minus x + minus y)
unfolding add Good plus minus sign
add_of nan y g k = absurd g
add_of (inf s) y g k = absurd g
add_of (fin s m e) nan g k = absurd k
add_of (fin s m e) (inf t) g k = absurd k
add_of (fin s m e) (fin t n d) g k =
    sum_of s t (m * up e * down d) (n * up d * down e) (down e * down d) (mag (fin s m e)) (mag (fin t n d)) (plus (fin s m e) + plus (fin t n d)) (minus (fin s m e) + minus (fin t n d))
    (mul-pos (down_pos e) (down_pos d)) (cross (m * up e) unit (mag (fin s m e)) (down e) (down d) g) (cross' (n * up d) unit (mag (fin t n d)) (down d) (down e) k) refl refl

-- of two values that are not negative
pub add_pos : (x y : Float) → Good x → Good y → sign x ≡ false → sign y ≡ false → add binary64 x y ≡ round binary64 false (mag x + mag y) unit
unfolding add sum Good sign
add_pos nan y g k s t = absurd g
add_pos (inf s) y g k p q = absurd g
add_pos (fin s m e) nan g k p q = absurd k
add_pos (fin s m e) (inf t) g k p q = absurd k
add_pos (fin true m e) (fin t n d) g k p q = absurd (true≢false p)
add_pos (fin false m e) (fin true n d) g k p q = absurd (true≢false q)
add_pos (fin false m e) (fin false n d) g k p q =
    same_sign (m * up e * down d) (n * up d * down e) (down e * down d) (mag (fin false m e)) (mag (fin false n d)) (mul-pos (down_pos e) (down_pos d))
    (cross (m * up e) unit (mag (fin false m e)) (down e) (down d) g) (cross' (n * up d) unit (mag (fin false n d)) (down d) (down e) k) false

-- of a value that is not negative, less a smaller one
pub sub_pos : (x y : Float) → Good x → Good y → sign x ≡ false → sign y ≡ false → mag y ≤ mag x → sub binary64 x y ≡ round binary64 false (mag x - mag y) unit
unfolding sub neg add sum Good sign
sub_pos nan y g k s t h = absurd g
sub_pos (inf s) y g k p q h = absurd g
sub_pos (fin s m e) nan g k p q h = absurd k
sub_pos (fin s m e) (inf t) g k p q h = absurd k
sub_pos (fin true m e) (fin t n d) g k p q h = absurd (true≢false p)
sub_pos (fin false m e) (fin true n d) g k p q h = absurd (true≢false q)
sub_pos (fin false m e) (fin false n d) g k p q h =
    go (nat_lt (m * up e * down d) (n * up d * down e)) (ltb→lt (m * up e * down d) (n * up d * down e))
  where
    i : m * up e * down d * unit ≡ mag (fin false m e) * (down e * down d)
    i = cross (m * up e) unit (mag (fin false m e)) (down e) (down d) g

    j : n * up d * down e * unit ≡ mag (fin false n d) * (down e * down d)
    j = cross' (n * up d) unit (mag (fin false n d)) (down d) (down e) k

    no_less : m * up e * down d < n * up d * down e → ⊥
    no_less l =
        not-le_of_lt (mul-lt-mul_of_pos_right l unit_pos)
        (le_trans (le_of_eq j) (le_trans (mul-le-mul_right (down e * down d) h) (le_of_eq (sym i))))

    go : (u : Bool) → (T u → m * up e * down d < n * up d * down e)
        → cond u (round binary64 true (n * up d * down e - m * up e * down d) (down e * down d)) (round binary64 false (m * up e * down d - n * up d * down e) (down e * down d)) ≡ round binary64 false (mag (fin false m e) - mag (fin false n d)) unit
    go true f = absurd (no_less (f tt))
    go false f = other_sign (m * up e * down d) (n * up d * down e) (down e * down d) (mag (fin false m e)) (mag (fin false n d)) (mul-pos (down_pos e) (down_pos d)) i j false

-- of a negative value and a smaller one that is not
pub add_neg : (x y : Float) → Good x → Good y → sign x ≡ true → sign y ≡ false → mag y < mag x → add binary64 x y ≡ round binary64 true (mag x - mag y) unit
unfolding add sum Good sign
add_neg nan y g k s t h = absurd g
add_neg (inf s) y g k p q h = absurd g
add_neg (fin s m e) nan g k p q h = absurd k
add_neg (fin s m e) (inf t) g k p q h = absurd k
add_neg (fin false m e) (fin t n d) g k p q h = absurd (true≢false (sym p))
add_neg (fin true m e) (fin true n d) g k p q h = absurd (true≢false q)
add_neg (fin true m e) (fin false n d) g k p q h =
    go (nat_lt (m * up e * down d) (n * up d * down e)) (ltb→lt (m * up e * down d) (n * up d * down e)) (nat_lt (n * up d * down e) (m * up e * down d)) (nltb→le (n * up d * down e) (m * up e * down d))
  where
    i : m * up e * down d * unit ≡ mag (fin true m e) * (down e * down d)
    i = cross (m * up e) unit (mag (fin true m e)) (down e) (down d) g

    j : n * up d * down e * unit ≡ mag (fin false n d) * (down e * down d)
    j = cross' (n * up d) unit (mag (fin false n d)) (down d) (down e) k

    no_less : m * up e * down d ≤ n * up d * down e → ⊥
    no_less l =
        not-le_of_lt (mul-lt-mul_of_pos_right h (mul-pos (down_pos e) (down_pos d)))
        (le_trans (le_of_eq (sym i)) (le_trans (mul-le-mul_right unit l) (le_of_eq j)))

    go : (u : Bool) → (T u → m * up e * down d < n * up d * down e) → (v : Bool) → (T (not v) → m * up e * down d ≤ n * up d * down e)
        → cond u (round binary64 false (n * up d * down e - m * up e * down d) (down e * down d)) (round binary64 v (m * up e * down d - n * up d * down e) (down e * down d)) ≡ round binary64 true (mag (fin true m e) - mag (fin false n d)) unit
    go true f v l = absurd (no_less (le_of_lt (f tt)))
    go false f false l = absurd (no_less (l tt))
    go false f true l = other_sign (m * up e * down d) (n * up d * down e) (down e * down d) (mag (fin true m e)) (mag (fin false n d)) (mul-pos (down_pos e) (down_pos d)) i j true

pub add_near : (x y : Float) (E : ℕ) → Good x → Good y → E ≤ 2 ^ 100 * unit → plus x + plus y ≤ minus x + minus y + E → minus x + minus y ≤ plus x + plus y + E
    → Approx (add binary64 x y) (plus x + plus y) (minus x + minus y) (E + 2 ^ 52)
add_near x y E g k big i j = sum_approx (add binary64 x y) (plus x + plus y) (minus x + minus y) E (add_of x y g k) big i j

-- ---- the negative, the difference
pub neg_good : (y : Float) → Good y → Good (neg y)
unfolding neg Good mag
neg_good nan g = g
neg_good (inf s) g = g
neg_good (fin s m e) g = g

pub neg_parts : (y : Float) → Good y → (plus (neg y) ≡ minus y) × (minus (neg y) ≡ plus y)
unfolding neg Good plus minus mag sign
neg_parts nan g = absurd g
neg_parts (inf s) g = absurd g
neg_parts (fin true m e) g = (refl, refl)
neg_parts (fin false m e) g = (refl, refl)

pub sub_of : (x y : Float) → Good x → Good y → SumOf (sub binary64 x y) (plus x + minus y) (minus x + plus y)
unfolding sub
sub_of x y g k =
    let n = neg_parts y k in
    subst₂ (λ (p q : ℕ). SumOf (add binary64 x (neg y)) (plus x + p) (minus x + q)) n.0 n.1 (add_of x (neg y) g (neg_good y k))

pub sub_near : (x y : Float) (E : ℕ) → Good x → Good y → E ≤ 2 ^ 100 * unit → plus x + minus y ≤ minus x + plus y + E → minus x + plus y ≤ plus x + minus y + E
    → Approx (sub binary64 x y) (plus x + minus y) (minus x + plus y) (E + 2 ^ 52)
sub_near x y E g k big i j = sum_approx (sub binary64 x y) (plus x + minus y) (minus x + plus y) E (sub_of x y g k) big i j

-- ---- the product
pub mul_of : (x y : Float) → Good x → Good y → mul binary64 x y ≡ round binary64 (unlike (sign x) (sign y)) (mag x * mag y) (unit * unit)
unfolding mul Good sign
mul_of nan y g k = absurd g
mul_of (inf s) y g k = absurd g
mul_of (fin s m e) nan g k = absurd k
mul_of (fin s m e) (inf t) g k = absurd k
mul_of (fin s m e) (fin t n d) g k =
    let x = mag (fin s m e) in
    let y = mag (fin t n d) in
    round_same binary64 (unlike s t) (m * up e * (n * up d)) (down e * down d) (x * y) (unit * unit) (mul-pos (down_pos e) (down_pos d)) (mul-pos unit_pos unit_pos)
    (mul-mul-mul_comm (m * up e) (n * up d) unit unit ∙ ap (λ (w : ℕ). w * (n * up d * unit)) g ∙ ap (λ (w : ℕ). x * down e * w) k ∙ mul-mul-mul_comm x (down e) y (down d))

pub mul_near : (x y : Float) → Good x → Good y → mag x * mag y ≤ 2 ^ 100 * unit * unit → Rounded (mul binary64 x y) (unlike (sign x) (sign y)) (mag x * mag y) unit
mul_near x y g k b =
    let s = unlike (sign x) (sign y) in
    let n = mag x * mag y in
    let z = round binary64 s n (unit * unit) in
    let r = round_near s n (unit * unit) (mul-pos unit_pos unit_pos) (subst (λ (w : ℕ). n ≤ w) (mul_assoc (2 ^ 100) unit unit) b) in
    subst (λ (w : Float). Rounded w s n unit) (sym (mul_of x y g k))
    (record { good = r.good; sign_is = r.sign_is; close = close_cancel (mag z) n unit unit unit_pos r.close })

-- ---- the quotient, by a value that is not zero
quotient : (a dd y x b de u : ℕ) → 0 < u → a * u ≡ x * de → b * u ≡ y * dd → a * dd * y ≡ x * (b * de)
quotient a dd y x b de u U g k =
    let p : a * u * (y * dd) ≡ x * de * (y * dd) = ap (λ (z : ℕ). z * (y * dd)) g in
    let q : x * de * (b * u) ≡ x * de * (y * dd) = ap (λ (z : ℕ). x * de * z) k in
    eq_of_mul-eq-mul_right u U (a * dd * y) (x * (b * de)) (omega arith)

pub div_of : (x y : Float) → Good x → Good y → 0 < mag y → div binary64 x y ≡ round binary64 (unlike (sign x) (sign y)) (mag x) (mag y)
unfolding div Good sign
div_of nan y g k p = absurd g
div_of (inf s) y g k p = absurd g
div_of (fin s m e) nan g k p = absurd k
div_of (fin s m e) (inf t) g k p = absurd k
div_of (fin s m e) (fin t n d) g k p = go (n == 0) (eqb→eq n 0)
  where
    numer : 0 < n * up d
    numer = first_pos (n * up d) unit (subst (λ (w : ℕ). 0 < w) (sym k) (mul-pos p (down_pos d)))

    go : (q : Bool) → (T q → n ≡ 0)
        → cond q (cond (m == 0) nan (inf (unlike s t))) (round binary64 (unlike s t) (m * up e * down d) (n * up d * down e)) ≡ round binary64 (unlike s t) (mag (fin s m e)) (mag (fin t n d))
    go true f = absurd (lt_irrefl 0 (subst (λ (w : ℕ). 0 < w) (f tt) (first_pos n (up d) numer)))
    go false f =
        let x = mag (fin s m e) in
        let y = mag (fin t n d) in
        round_same binary64 (unlike s t) (m * up e * down d) (n * up d * down e) x y (mul-pos numer (down_pos e)) p (quotient (m * up e) (down d) y x (n * up d) (down e) unit unit_pos g k)

pub div_near : (x y : Float) → Good x → Good y → 0 < mag y → mag x ≤ 2 ^ 100 * mag y → Rounded (div binary64 x y) (unlike (sign x) (sign y)) (mag x * unit) (mag y)
div_near x y g k p b =
    let s = unlike (sign x) (sign y) in
    subst (λ (w : Float). Rounded w s (mag x * unit) (mag y)) (sym (div_of x y g k p)) (round_near s (mag x) (mag y) p b)
