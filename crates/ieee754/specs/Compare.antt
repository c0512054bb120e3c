-- The comparisons of finite values, as ones of natural numbers.
use Rattle.std.specs.Prelude.{◌≡◌, ℕ, zero, suc, ◌+◌, ◌*◌, ◌<◌, ◌≤◌, Bool, true, false, cond, not, ◌&&◌, ◌||◌, ◌==◌, nat_le, nat_lt, refl, Float}
use Rattle.std.proofs.Common.{sym, ap, ◌∙◌, inl, inr, mul-lt-mul_of_pos_right, lt_of_mul-lt-mul_right, mul-pos, eq-or-lt_of_le, zero-mul, add-zero, zero-add, add_comm, le_of_lt, le_of_eq, arith, lt-ltb, le-ltb, le-leb, eq-eqb, ne_eqb}
use Rattle.std.proofs.Math.Bool.{and-false}
use Rattle.std.proofs.Math.Decide.{ℕ_discrete}
use Rattle.std.proofs.lemmas.Bool.{lt-leb}
use Rattle.std.specs.Float.{nan, inf, fin}
use Rattle.std.specs.Float.Ieee.{up, down, below, level, lt, le}
use Rattle.std.specs.Float.Ieee.Fits.{down_pos}
use Rattle.ring.specs.Nat.{lt_or_ge}
use Rattle.ieee754.specs.Value.{unit, unit_pos, mag, sign, Good}
use Rattle.ieee754.specs.Ops.{plus, minus, cross, cross'}

-- ---- a / c and b / c are x and y units
ltb_is : (a b c x y : ℕ) → 0 < c → a * unit ≡ x * c → b * unit ≡ y * c → nat_lt a b ≡ nat_lt x y
ltb_is a b c x y C p q = elim (lt_or_ge a b) [
  | inl h ↦ rw (lt-ltb a b h, lt-ltb x y (lt_of_mul-lt-mul_right c (omega (arith, mul-lt-mul_of_pos_right h unit_pos))))
  | inr h ↦ elim (lt_or_ge x y) [
    | inl k ↦ absurd (clash h (lt_of_mul-lt-mul_right unit (omega (arith, mul-lt-mul_of_pos_right k C))))
    | inr k ↦ rw (le-ltb a b h, le-ltb x y k)
  ]
]
  where
    clash : b ≤ a → a < b → ⊥
    clash h k = omega arith

module _ (a b c x y : ℕ) (C : 0 < c) (p : a * unit ≡ x * c) (q : b * unit ≡ y * c) where
  below_is : (s t : Bool) → below s a t b ≡ nat_lt (cond s 0 x + cond t y 0) (cond t 0 y + cond s x 0)
  below_is false false = rw (add-zero x, add-zero y) (ltb_is a b c x y C p q)
  below_is true true = rw (zero-add x, zero-add y) (ltb_is b a c y x C q p)
  below_is false true = sym (le-ltb (x + y) 0 (omega arith))
  below_is true false = rw (add_comm y x) (ltb_is 0 (a + b) c 0 (x + y) C (zero-mul unit ∙ sym (zero-mul c)) (omega arith))

-- ---- of finite values, x ≤ y is that y < x does not hold
by_order : (a b : ℕ) → (nat_lt a b || (a == b && true)) ≡ not (nat_lt b a)
by_order a b = elim (lt_or_ge a b) [
  | inl h ↦ rw (lt-ltb a b h, le-ltb b a (le_of_lt h))
  | inr h ↦ elim (eq-or-lt_of_le h) [ inl e ↦ rw (le-ltb a b h, eq-eqb a b (sym e), le-ltb b a (le_of_eq (sym e))) | inr l ↦ rw (le-ltb a b h, ne_eqb a b (λ e. omega arith), lt-ltb b a l) ]
]

eqb_comm : (a b : ℕ) → (a == b) ≡ (b == a)
eqb_comm a b = elim (ℕ_discrete a b) [ yes e ↦ rw (eq-eqb a b e, eq-eqb b a (sym e)) | no n ↦ rw (ne_eqb a b n, ne_eqb b a (λ e. n (sym e))) ]

le_not_lt : (s t : Bool) (a b : ℕ) → (below s a t b || level s a t b) ≡ not (below t b s a)
le_not_lt false false a b = by_order a b
le_not_lt true true a b = rw (eqb_comm a b) (by_order b a)
le_not_lt false true zero zero = refl
le_not_lt false true zero (suc b) = rw (ne_eqb 0 (suc b) (λ e. omega arith), lt-ltb 0 (suc b + 0) (omega arith))
le_not_lt false true (suc a) b = rw (ne_eqb (suc a) 0 (λ e. omega arith), and-false, lt-ltb 0 (b + suc a) (omega arith))
le_not_lt true false zero zero = refl
le_not_lt true false zero (suc b) = rw (lt-ltb 0 (0 + suc b) (omega arith))
le_not_lt true false (suc a) b = rw (lt-ltb 0 (suc a + b) (omega arith))

leb_not_ltb : (a b : ℕ) → nat_le a b ≡ not (nat_lt b a)
leb_not_ltb a b = elim (lt_or_ge b a) [ inl h ↦ rw (lt-leb a b h, lt-ltb b a h) | inr h ↦ rw (le-leb a b h, le-ltb b a h) ]

-- ---- the comparisons
pub lt_is : (x y : Float) → Good x → Good y → lt x y ≡ nat_lt (plus x + minus y) (plus y + minus x)
unfolding lt Good plus minus sign
lt_is nan y g k = absurd g
lt_is (inf s) y g k = absurd g
lt_is (fin s m e) nan g k = absurd k
lt_is (fin s m e) (inf t) g k = absurd k
lt_is (fin s m e) (fin t n d) g k =
    below_is (m * up e * down d) (n * up d * down e) (down e * down d) (mag (fin s m e)) (mag (fin t n d)) (mul-pos (down_pos e) (down_pos d))
    (cross (m * up e) unit (mag (fin s m e)) (down e) (down d) g) (cross' (n * up d) unit (mag (fin t n d)) (down d) (down e) k) s t

pub le_is : (x y : Float) → Good x → Good y → le x y ≡ nat_le (plus x + minus y) (plus y + minus x)
unfolding le Good plus minus sign
le_is nan y g k = absurd g
le_is (inf s) y g k = absurd g
le_is (fin s m e) nan g k = absurd k
le_is (fin s m e) (inf t) g k = absurd k
le_is (fin s m e) (fin t n d) g k =
    le_not_lt s t (m * up e * down d) (n * up d * down e)
    ∙ ap not (below_is (n * up d * down e) (m * up e * down d) (down d * down e) (mag (fin t n d)) (mag (fin s m e)) (mul-pos (down_pos d) (down_pos e))
    (cross (n * up d) unit (mag (fin t n d)) (down d) (down e) k) (cross' (m * up e) unit (mag (fin s m e)) (down e) (down d) g) t s)
    ∙ sym (leb_not_ltb (plus (fin s m e) + minus (fin t n d)) (plus (fin t n d) + minus (fin s m e)))
