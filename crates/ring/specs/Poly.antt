-- Polynomials over ℤ in a normal form: a sum of monomials in order, each a coefficient and the places of its factors in order.
-- Each operation is right whatever the order is (PolyLaws); the order only brings like terms together.
use Rattle.std.specs.Prelude.{List, [], ◌∷◌, Bool, true, false, eqb, ℤ, pos, negsuc, ◌+ℤ◌, ◌*ℤ◌}
use Prim.Native.Nat.{ℕ, zero, suc, compare, Ordering}

-- the atom at a place, zero past the end
abbrev pub nth : List ℤ → ℕ → ℤ
nth [] i = pos 0
nth (x ∷ ρ) zero = x
nth (x ∷ ρ) (suc i) = nth ρ i

-- the product of the atoms at the places of a monomial
abbrev pub mono : List ℤ → List ℕ → ℤ
mono ρ [] = pos 1
mono ρ (i ∷ m) = nth ρ i *ℤ mono ρ m

-- the first, second or third by a comparison
abbrev pub by_order : {A : Type 0} → Ordering → A → A → A → A
by_order Ordering.lt a b c = a
by_order Ordering.eq a b c = b
by_order Ordering.gt a b c = c

-- a monomial times an atom, and times a monomial
abbrev pub insert : ℕ → List ℕ → List ℕ
insert i [] = i ∷ []
insert i (j ∷ m) = let r = j ∷ insert i m in by_order (compare i j) (i ∷ j ∷ m) (i ∷ j ∷ m) r

abbrev pub join : List ℕ → List ℕ → List ℕ
join [] n = n
join (i ∷ m) n = insert i (join m n)

-- the lexicographic order: it is the same when both are multiplied by one monomial, so `scale` keeps a sum in order
abbrev pub order : List ℕ → List ℕ → Ordering
order [] [] = Ordering.eq
order [] (j ∷ n) = Ordering.gt
order (i ∷ m) [] = Ordering.lt
order (i ∷ m) (j ∷ n) = by_order (compare i j) Ordering.lt (order m n) Ordering.gt

-- a sum of monomials
pub data Poly : Type 0 where
  none : Poly
  more : ℤ → List ℕ → Poly → Poly

-- the value of a polynomial at the atoms
abbrev pub total : List ℤ → Poly → ℤ
total ρ none = pos 0
total ρ (more k m p) = k *ℤ mono ρ m +ℤ total ρ p

-- k m + p + q, where `rest` adds p
abbrev pub weave : ℤ → List ℕ → (Poly → Poly) → Poly → Poly
weave k m rest none = more k m (rest none)
weave k m rest (more j n q) =
    let below = more k m (rest (more j n q)) in
    let same = more (k +ℤ j) n (rest q) in
    let above = more j n (weave k m rest q) in
    by_order (order m n) below same above

abbrev pub plus : Poly → Poly → Poly
plus none q = q
plus (more k m p) q = weave k m (plus p) q

-- a polynomial times k m
abbrev pub scale : ℤ → List ℕ → Poly → Poly
scale k m none = none
scale k m (more j n p) = more (k *ℤ j) (join m n) (scale k m p)

abbrev pub times : Poly → Poly → Poly
times none q = none
times (more k m p) q = plus (scale k m q) (times p q)

abbrev pub power : Poly → ℕ → Poly
power p zero = more (pos 1) [] none
power p (suc n) = times (power p n) p

abbrev pub is_zero : ℤ → Bool
is_zero (pos n) = eqb n 0
is_zero (negsuc n) = false

abbrev pub keep : Bool → ℤ → List ℕ → Poly → Poly
keep true k m p = p
keep false k m p = more k m p

-- without the terms whose coefficient is zero
abbrev pub tidy : Poly → Poly
tidy none = none
tidy (more k m p) = keep (is_zero k) k m (tidy p)
