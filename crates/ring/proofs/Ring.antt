-- The solver: an equation between polynomials over ℤ or ℕ is proved by computing.
--   `ring (a ∷ b ∷ []) (search poly depth 30) done` proves `(a +ℤ b) *ℤ (a -ℤ b) ≡ a *ℤ a -ℤ b *ℤ b`; `ringℕ` does the same over ℕ.
-- The list has the atoms: what the sides are polynomials in (variables, `pos n`, `length xs`, `2 ^ k`, calls), at most sixteen.
-- `search poly` reads the two sides; if it finds nothing, an atom is missing or a form is not read. Past some 200 operations
-- write `search poly depth 99 fits 9999`. `done` says that the difference of the sides computes to zero; if it is refused,
-- the message shows what is left: `more (pos 3) (0 ∷ 0 ∷ 1 ∷ []) none` is 3 a² b.
use Rattle.std.specs.Prelude.{◌≡◌, refl, List, [], ◌∷◌, Bool, true, cond, ℕ, zero, suc, ◌+◌, ◌*◌, ◌-◌, ◌^◌, ◌≤◌, eqb, ℤ, pos, negsuc, neg_ℤ, ◌+ℤ◌, ◌*ℤ◌, nat_abs}
use Rattle.std.proofs.Common.{sym, ap, ap₂, ◌∙◌, pow-suc, mul_comm, zero-mul, suc-mul, add-zero, sub-add_cancel, one-add, pow-add}
use Rattle.std.proofs.Math.Nat.{pow-zero, sub-zero}
use Rattle.std.proofs.Math.Dec.{leb-suc-zero}
use Rattle.std.proofs.Math.IntN.{sub_ℕ, pow, one, +ℤ_idr, +ℤ-neg_ℤ_cancel}
use Rattle.ring.specs.Int.{one_*ℤ, *ℤ_pos_one, minus_one_*ℤ, eq_of_sub}
use Rattle.ring.specs.Poly.{Poly, none, more, nth, total, plus, scale, times, power, tidy}
use Rattle.ring.proofs.PolyLaws.{plus_is, scale_is, times_is, power_is, tidy_is}

-- the difference, as an operation that does not compute, so that `search` meets it as it is written
infixl 6 ◌⊖◌
unfoldable pub ◌⊖◌ : ℤ → ℤ → ℤ
x ⊖ y = x +ℤ neg_ℤ y

-- `Term ρ x`: the number x, read as a polynomial in the atoms ρ. `same` reads x as a number that is equal to it, so one lemma adds a form
pub data Term (ρ : List ℤ) : ℤ → Type 0 where
  atom : (i : ℕ) → Term ρ (nth ρ i)
  int : (k : ℤ) → Term ρ k
  add : {x y : ℤ} → Term ρ x → Term ρ y → Term ρ (x +ℤ y)
  mul : {x y : ℤ} → Term ρ x → Term ρ y → Term ρ (x *ℤ y)
  neg : {x : ℤ} → Term ρ x → Term ρ (neg_ℤ x)
  raise : {x : ℤ} (n : ℕ) → Term ρ x → Term ρ (pow x n)
  same : {x y : ℤ} → x ≡ y → Term ρ y → Term ρ x

abbrev pub normal : {ρ : List ℤ} {x : ℤ} → Term ρ x → Poly
normal (atom i) = more (pos 1) (i ∷ []) none
normal (int k) = more k [] none
normal (add t u) = plus (normal t) (normal u)
normal (mul t u) = times (normal t) (normal u)
normal (neg t) = scale (negsuc 0) [] (normal t)
normal (raise n t) = power (normal t) n
normal (same e t) = normal t

normal_is : {ρ : List ℤ} {x : ℤ} (t : Term ρ x) → x ≡ total ρ (normal t)
normal_is {ρ} (atom i) = sym (+ℤ_idr (pos 1 *ℤ (nth ρ i *ℤ pos 1)) ∙ one_*ℤ (nth ρ i *ℤ pos 1) ∙ *ℤ_pos_one (nth ρ i))
normal_is (int k) = sym (+ℤ_idr (k *ℤ pos 1) ∙ *ℤ_pos_one k)
normal_is {ρ} (add t u) = ap₂ ◌+ℤ◌ (normal_is t) (normal_is u) ∙ sym (plus_is ρ (normal t) (normal u))
normal_is {ρ} (mul t u) = ap₂ ◌*ℤ◌ (normal_is t) (normal_is u) ∙ sym (times_is ρ (normal t) (normal u))
normal_is {ρ} (neg t) = ap neg_ℤ (normal_is t) ∙ sym (scale_is ρ (negsuc 0) [] (normal t) ∙ minus_one_*ℤ (total ρ (normal t)))
normal_is {ρ} (raise n t) = ap (λ x. pow x n) (normal_is t) ∙ sym (power_is ρ (normal t) n)
normal_is (same e t) = e ∙ normal_is t

-- ---- the solver
-- both sides, read
pub data Sides (ρ : List ℤ) (x y : ℤ) : Type 0 where
  sides : Term ρ x → Term ρ y → Sides ρ x y

-- the one side less the other, in normal form
abbrev pub rest : {ρ : List ℤ} {x y : ℤ} → Sides ρ x y → Poly
rest (sides t u) = tidy (normal (add t (neg u)))

-- nothing is left
pub data Left : Poly → Type 0 where
  done : Left none

left_is : (ρ : List ℤ) {p : Poly} → Left p → total ρ p ≡ pos 0
left_is ρ done = refl

pub ring : (ρ : List ℤ) {x y : ℤ} (s : Sides ρ x y) → Left (rest s) → x ≡ y
ring ρ {x} {y} (sides t u) h =
    eq_of_sub x y (normal_is (add t (neg u)) ∙ sym (tidy_is ρ (normal (add t (neg u)))) ∙ left_is ρ h)

abbrev pub ints : List ℕ → List ℤ
ints [] = []
ints (n ∷ ns) = pos n ∷ ints ns

pub ringℕ : (ρ : List ℕ) {x y : ℕ} (s : Sides (ints ρ) (pos x) (pos y)) → Left (rest s) → x ≡ y
ringℕ ρ s h = ap nat_abs (ring (ints ρ) s h)

-- ---- what `search poly` reads
-- a test that computes to true: `eqb n n` does if n is a numeral, and else not
pub data Known : Bool → Type 0 where
  known : Known true

pub ⊖_is : (x y : ℤ) → x ⊖ y ≡ x +ℤ neg_ℤ y
unfolding ◌⊖◌
⊖_is x y = refl

pub one_is : one ≡ pos 1
unfolding one
one_is = refl

pub subℕ_is : (m n : ℕ) → sub_ℕ m n ≡ pos m +ℤ neg_ℤ (pos n)
subℕ_is m zero = ap (λ (b : Bool). cond b (negsuc (zero - suc m)) (pos (m - zero))) (leb-suc-zero m) ∙ ap pos (sub-zero m ∙ sym (add-zero m))
subℕ_is m (suc n) = refl

pub monus : {m n : ℕ} → n ≤ m → pos (m - n) ≡ pos m +ℤ neg_ℤ (pos n)
monus {m} {n} h = sym (+ℤ-neg_ℤ_cancel (pos (m - n)) (pos n)) ∙ ap (λ (k : ℕ). pos k +ℤ neg_ℤ (pos n)) (sub-add_cancel h)

pub pos_pow : (n k : ℕ) → pos (n ^ k) ≡ pow (pos n) k
unfolding pow one
pos_pow n zero = ap pos (pow-zero n)
pos_pow n (suc k) = ap pos (pow-suc n k) ∙ ap (λ x. x *ℤ pos n) (pos_pow n k)

pub pow_mul : (n k a : ℕ) → n ^ (k * a) ≡ (n ^ a) ^ k
pow_mul n zero a = ap (λ (x : ℕ). n ^ x) (zero-mul a) ∙ pow-zero n ∙ sym (pow-zero (n ^ a))
pow_mul n (suc k) a = ap (λ (x : ℕ). n ^ x) (suc-mul k a) ∙ pow-add n (k * a) a ∙ ap (λ (x : ℕ). x * n ^ a) (pow_mul n k a) ∙ sym (pow-suc (n ^ a) k)

module _ {ρ : List ℤ} where
  -- numerals
  abbrev pub lit : {n : ℕ} → Known (eqb n n) → Term ρ (pos n)
  lit {n} k = int (pos n)

  abbrev pub lit⁻ : {n : ℕ} → Known (eqb n n) → Term ρ (negsuc n)
  lit⁻ {n} k = int (negsuc n)

  abbrev pub unit : Term ρ one
  unit = same one_is (int (pos 1))

  -- over ℤ, beside sums, products and negatives
  abbrev pub sub : {x y : ℤ} → Term ρ x → Term ρ y → Term ρ (x ⊖ y)
  sub {x} {y} t u = same (⊖_is x y) (add t (neg u))

  abbrev pub power_of : {x : ℤ} (k : ℕ) → Known (eqb k k) → Term ρ x → Term ρ (pow x k)
  power_of k n t = raise k t

  -- over ℕ
  abbrev pub add⁺ : {m n : ℕ} → Term ρ (pos m) → Term ρ (pos n) → Term ρ (pos (m + n))
  add⁺ t u = add t u

  abbrev pub mul⁺ : {m n : ℕ} → Term ρ (pos m) → Term ρ (pos n) → Term ρ (pos (m * n))
  mul⁺ t u = mul t u

  abbrev pub suc⁺ : {n : ℕ} → Term ρ (pos n) → Term ρ (pos (suc n))
  suc⁺ {n} t = same (ap pos (sym (one-add n))) (add (int (pos 1)) t)

  abbrev pub negsuc⁺ : {n : ℕ} → Term ρ (pos n) → Term ρ (negsuc n)
  negsuc⁺ t = neg (suc⁺ t)

  abbrev pub subℕ⁺ : (m n : ℕ) → Term ρ (pos m) → Term ρ (pos n) → Term ρ (sub_ℕ m n)
  subℕ⁺ m n t u = same (subℕ_is m n) (add t (neg u))

  -- where n ≤ m is a hypothesis
  abbrev pub sub⁺ : {m n : ℕ} → n ≤ m → Term ρ (pos m) → Term ρ (pos n) → Term ρ (pos (m - n))
  sub⁺ h t u = same (monus h) (add t (neg u))

  -- powers: the exponent is a numeral, a sum, a successor, or a multiple by a numeral
  abbrev pub pow⁺ : {n : ℕ} (k : ℕ) → Known (eqb k k) → Term ρ (pos n) → Term ρ (pos (n ^ k))
  pow⁺ {n} k e t = same (pos_pow n k) (raise k t)

  abbrev pub pow_add⁺ : (n a b : ℕ) → Term ρ (pos (n ^ a)) → Term ρ (pos (n ^ b)) → Term ρ (pos (n ^ (a + b)))
  pow_add⁺ n a b t u = same (ap pos (pow-add n a b)) (mul t u)

  abbrev pub pow_suc⁺ : (n a : ℕ) → Term ρ (pos (n ^ a)) → Term ρ (pos n) → Term ρ (pos (n ^ suc a))
  pow_suc⁺ n a t u = same (ap pos (pow-suc n a)) (mul t u)

  abbrev pub pow_mul⁺ : (n k a : ℕ) → Known (eqb k k) → Term ρ (pos (n ^ a)) → Term ρ (pos (n ^ (k * a)))
  pow_mul⁺ n k a e t = same (ap pos (pow_mul n k a) ∙ pos_pow (n ^ a) k) (raise k t)

  abbrev pub pow_mul⁺ʳ : (n k a : ℕ) → Known (eqb k k) → Term ρ (pos (n ^ a)) → Term ρ (pos (n ^ (a * k)))
  pow_mul⁺ʳ n k a e t = same (ap (λ (x : ℕ). pos (n ^ x)) (mul_comm a k)) (pow_mul⁺ n k a e t)

-- the atoms: a lemma for each place, so that `search` reads an atom in one step
abbrev pub a0 : {x : ℤ} {ρ : List ℤ} → Term (x ∷ ρ) x
a0 = atom 0

abbrev pub a1 : {x x0 : ℤ} {ρ : List ℤ} → Term (x0 ∷ x ∷ ρ) x
a1 = atom 1

abbrev pub a2 : {x x0 x1 : ℤ} {ρ : List ℤ} → Term (x0 ∷ x1 ∷ x ∷ ρ) x
a2 = atom 2

abbrev pub a3 : {x x0 x1 x2 : ℤ} {ρ : List ℤ} → Term (x0 ∷ x1 ∷ x2 ∷ x ∷ ρ) x
a3 = atom 3

abbrev pub a4 : {x x0 x1 x2 x3 : ℤ} {ρ : List ℤ} → Term (x0 ∷ x1 ∷ x2 ∷ x3 ∷ x ∷ ρ) x
a4 = atom 4

abbrev pub a5 : {x x0 x1 x2 x3 x4 : ℤ} {ρ : List ℤ} → Term (x0 ∷ x1 ∷ x2 ∷ x3 ∷ x4 ∷ x ∷ ρ) x
a5 = atom 5

abbrev pub a6 : {x x0 x1 x2 x3 x4 x5 : ℤ} {ρ : List ℤ} → Term (x0 ∷ x1 ∷ x2 ∷ x3 ∷ x4 ∷ x5 ∷ x ∷ ρ) x
a6 = atom 6

abbrev pub a7 : {x x0 x1 x2 x3 x4 x5 x6 : ℤ} {ρ : List ℤ} → Term (x0 ∷ x1 ∷ x2 ∷ x3 ∷ x4 ∷ x5 ∷ x6 ∷ x ∷ ρ) x
a7 = atom 7

abbrev pub a8 : {x x0 x1 x2 x3 x4 x5 x6 x7 : ℤ} {ρ : List ℤ} → Term (x0 ∷ x1 ∷ x2 ∷ x3 ∷ x4 ∷ x5 ∷ x6 ∷ x7 ∷ x ∷ ρ) x
a8 = atom 8

abbrev pub a9 : {x x0 x1 x2 x3 x4 x5 x6 x7 x8 : ℤ} {ρ : List ℤ} → Term (x0 ∷ x1 ∷ x2 ∷ x3 ∷ x4 ∷ x5 ∷ x6 ∷ x7 ∷ x8 ∷ x ∷ ρ) x
a9 = atom 9

abbrev pub a10 : {x x0 x1 x2 x3 x4 x5 x6 x7 x8 x9 : ℤ} {ρ : List ℤ} → Term (x0 ∷ x1 ∷ x2 ∷ x3 ∷ x4 ∷ x5 ∷ x6 ∷ x7 ∷ x8 ∷ x9 ∷ x ∷ ρ) x
a10 = atom 10

abbrev pub a11 : {x x0 x1 x2 x3 x4 x5 x6 x7 x8 x9 x10 : ℤ} {ρ : List ℤ} → Term (x0 ∷ x1 ∷ x2 ∷ x3 ∷ x4 ∷ x5 ∷ x6 ∷ x7 ∷ x8 ∷ x9 ∷ x10 ∷ x ∷ ρ) x
a11 = atom 11

abbrev pub a12 : {x x0 x1 x2 x3 x4 x5 x6 x7 x8 x9 x10 x11 : ℤ} {ρ : List ℤ} → Term (x0 ∷ x1 ∷ x2 ∷ x3 ∷ x4 ∷ x5 ∷ x6 ∷ x7 ∷ x8 ∷ x9 ∷ x10 ∷ x11 ∷ x ∷ ρ) x
a12 = atom 12

abbrev pub a13 : {x x0 x1 x2 x3 x4 x5 x6 x7 x8 x9 x10 x11 x12 : ℤ} {ρ : List ℤ} → Term (x0 ∷ x1 ∷ x2 ∷ x3 ∷ x4 ∷ x5 ∷ x6 ∷ x7 ∷ x8 ∷ x9 ∷ x10 ∷ x11 ∷ x12 ∷ x ∷ ρ) x
a13 = atom 13

abbrev pub a14 : {x x0 x1 x2 x3 x4 x5 x6 x7 x8 x9 x10 x11 x12 x13 : ℤ} {ρ : List ℤ} → Term (x0 ∷ x1 ∷ x2 ∷ x3 ∷ x4 ∷ x5 ∷ x6 ∷ x7 ∷ x8 ∷ x9 ∷ x10 ∷ x11 ∷ x12 ∷ x13 ∷ x ∷ ρ) x
a14 = atom 14

abbrev pub a15 : {x x0 x1 x2 x3 x4 x5 x6 x7 x8 x9 x10 x11 x12 x13 x14 : ℤ} {ρ : List ℤ} → Term (x0 ∷ x1 ∷ x2 ∷ x3 ∷ x4 ∷ x5 ∷ x6 ∷ x7 ∷ x8 ∷ x9 ∷ x10 ∷ x11 ∷ x12 ∷ x13 ∷ x14 ∷ x ∷ ρ) x
a15 = atom 15

pub ruleset poly = (sides, known, a0, a1, a2, a3, a4, a5, a6, a7, a8, a9, a10, a11, a12, a13, a14, a15, lit, lit⁻, unit, add, mul, sub, neg, power_of, add⁺, mul⁺, sub⁺, pow⁺, pow_add⁺, pow_mul⁺, pow_mul⁺ʳ, pow_suc⁺, suc⁺, negsuc⁺, subℕ⁺)
