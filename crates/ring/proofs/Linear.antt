-- `omega` for ℤ: an order or equation over ℤ that is linear, from others.
--   `linear ρ (search poly depth 30) (omega (arith, fact ρ h (search poly depth 30)))` proves a ≼ b from h.
-- Each atom z is z⁺ - z⁻, a difference of two natural numbers, and so is what `search poly` reads: `up` less `down`.
-- The statement is then one over ℕ, and `omega arith` proves it from facts in the same form.
use Rattle.std.specs.Prelude.{◌≡◌, List, [], ◌∷◌, ℕ, suc, ◌+◌, ◌*◌, ◌≤◌, ◌<◌, ℤ, pos, negsuc, neg_ℤ, ◌+ℤ◌, ◌*ℤ◌}
use Rattle.std.proofs.Common.{sym, ap, ap₂, ◌∙◌, le_antisymm, le_of_eq, arith}
use Rattle.std.proofs.Math.IntN.{pow}
use Rattle.ring.specs.Poly.{nth}
use Rattle.ring.proofs.Ring.{Term, atom, int, add, mul, neg, raise, same, Sides, sides, ring, poly, done, ◌⊖◌}
use Rattle.ring.proofs.Order.{◌≼◌, ◌≺◌, below, slack, slackℕ, ◌⊞◌, nil, diff, ◌⊕◌, le_of_pos_le, ≼_antisym, lt_of_add_one_le, add_one_le_of_lt, ≼_of_eq}

-- the positive and the negative part of a number
infixl 20 ◌⁺ ◌⁻
abbrev pub ◌⁺ : ℤ → ℕ
pos n ⁺ = n
negsuc n ⁺ = 0

abbrev pub ◌⁻ : ℤ → ℕ
pos n ⁻ = 0
negsuc n ⁻ = suc n

parts : (z : ℤ) → z ≡ pos (z ⁺) ⊖ pos (z ⁻)
parts (pos n) = ring (pos n ∷ []) (search poly depth 30) done
parts (negsuc n) = ring (pos n ∷ []) (search poly depth 30) done

abbrev halves : {ρ : List ℤ} {x : ℤ} → Term ρ x → ℕ × ℕ
halves {ρ} (atom i) = (nth ρ i ⁺, nth ρ i ⁻)
halves (int k) = (k ⁺, k ⁻)
halves (add t u) = ((halves t).0 + (halves u).0, (halves t).1 + (halves u).1)
halves (mul t u) = ((halves t).0 * (halves u).0 + (halves t).1 * (halves u).1, (halves t).0 * (halves u).1 + (halves t).1 * (halves u).0)
halves (neg t) = ((halves t).1, (halves t).0)
halves (raise {x} n t) = (pow x n ⁺, pow x n ⁻)
halves (same e t) = halves t

abbrev pub up : {ρ : List ℤ} {x : ℤ} → Term ρ x → ℕ
up t = (halves t).0

abbrev pub down : {ρ : List ℤ} {x : ℤ} → Term ρ x → ℕ
down t = (halves t).1

up_down : {ρ : List ℤ} {x : ℤ} (t : Term ρ x) → x ≡ pos (up t) ⊖ pos (down t)
up_down {ρ} (atom i) = parts (nth ρ i)
up_down (int k) = parts k
up_down (add t u) = ap₂ ◌+ℤ◌ (up_down t) (up_down u) ∙ sum (up t) (down t) (up u) (down u)
  where
    sum : (a b c d : ℕ) → (pos a ⊖ pos b) +ℤ (pos c ⊖ pos d) ≡ pos (a + c) ⊖ pos (b + d)
    sum a b c d = ring (pos a ∷ pos b ∷ pos c ∷ pos d ∷ []) (search poly depth 30) done
up_down (mul t u) = ap₂ ◌*ℤ◌ (up_down t) (up_down u) ∙ product (up t) (down t) (up u) (down u)
  where
    product : (a b c d : ℕ) → (pos a ⊖ pos b) *ℤ (pos c ⊖ pos d) ≡ pos (a * c + b * d) ⊖ pos (a * d + b * c)
    product a b c d = ring (pos a ∷ pos b ∷ pos c ∷ pos d ∷ []) (search poly depth 30) done
up_down (neg t) = ap neg_ℤ (up_down t) ∙ turn (up t) (down t)
  where
    turn : (a b : ℕ) → neg_ℤ (pos a ⊖ pos b) ≡ pos b ⊖ pos a
    turn a b = ring (pos a ∷ pos b ∷ []) (search poly depth 30) done
up_down (raise {x} n t) = parts (pow x n)
up_down (same e t) = e ∙ up_down t

-- ---- what a statement over ℤ says over ℕ
abbrev pub Le : {ρ : List ℤ} {x y : ℤ} → Sides ρ x y → Type 0
Le (sides t u) = up t + down u ≤ up u + down t

abbrev pub Lt : {ρ : List ℤ} {x y : ℤ} → Sides ρ x y → Type 0
Lt (sides t u) = up t + down u < up u + down t

abbrev pub Eq : {ρ : List ℤ} {x y : ℤ} → Sides ρ x y → Type 0
Eq (sides t u) = up t + down u ≡ up u + down t

-- ---- from ℕ to ℤ (`linear`) and from ℤ to ℕ (`fact`)
cross_le : {x y : ℤ} (a b c d : ℕ) → x ≡ pos a ⊖ pos b → y ≡ pos c ⊖ pos d → a + d ≤ c + b → x ≼ y
cross_le {x} {y} a b c d e f h = below (x ∷ y ∷ pos a ∷ pos b ∷ pos c ∷ pos d ∷ []) (slackℕ h ⊞ nil (diff f ⊕ diff (sym e))) (search poly depth 30) done

le_cross : {x y : ℤ} (a b c d : ℕ) → x ≡ pos a ⊖ pos b → y ≡ pos c ⊖ pos d → x ≼ y → a + d ≤ c + b
le_cross {x} {y} a b c d e f h = le_of_pos_le (below (x ∷ y ∷ pos a ∷ pos b ∷ pos c ∷ pos d ∷ []) (slack h ⊞ nil (diff (sym f) ⊕ diff e)) (search poly depth 30) done)

pub linear : (ρ : List ℤ) {x y : ℤ} (s : Sides ρ x y) → Le s → x ≼ y
linear ρ (sides t u) h = cross_le (up t) (down t) (up u) (down u) (up_down t) (up_down u) h

pub fact : (ρ : List ℤ) {x y : ℤ} → x ≼ y → (s : Sides ρ x y) → Le s
fact ρ h (sides t u) = le_cross (up t) (down t) (up u) (down u) (up_down t) (up_down u) h

pub linear_eq : (ρ : List ℤ) {x y : ℤ} (s : Sides ρ x y) → Eq s → x ≡ y
linear_eq ρ (sides t u) h = ≼_antisym (linear ρ (sides t u) (le_of_eq h)) (linear ρ (sides u t) (le_of_eq (sym h)))

pub fact_eq : (ρ : List ℤ) {x y : ℤ} → x ≡ y → (s : Sides ρ x y) → Eq s
fact_eq ρ e (sides t u) = le_antisymm (fact ρ (≼_of_eq e) (sides t u)) (fact ρ (≼_of_eq (sym e)) (sides u t))

pub linear_lt : (ρ : List ℤ) {x y : ℤ} (s : Sides ρ x y) → Lt s → x ≺ y
linear_lt ρ (sides t u) h = lt_of_add_one_le (linear ρ (sides (add t (int (pos 1))) u) (omega (arith, h)))

pub fact_lt : (ρ : List ℤ) {x y : ℤ} → x ≺ y → (s : Sides ρ x y) → Lt s
fact_lt ρ h (sides t u) = omega (arith, fact ρ (add_one_le_of_lt h) (sides (add t (int (pos 1))) u))
