-- A worked example of each use of the crate.
use Rattle.std.specs.Prelude.{◌≡◌, refl, List, [], ◌∷◌, ℕ, suc, ◌+◌, ◌*◌, ◌-◌, ◌/◌, ◌^◌, ◌≤◌, length, ℤ, pos, negsuc, ◌+ℤ◌, ◌-ℤ◌, ◌*ℤ◌}
use Rattle.std.proofs.Common.{mul-le-mul, arith}
use Rattle.std.proofs.Math.Nat.{mul-div-le}
use Rattle.std.proofs.Math.IntN.{sub_ℕ, pow}
use Rattle.ring.proofs.Ring.{Term, same, add, ring, ringℕ, poly, done, ◌⊖◌}
use Rattle.ring.proofs.Order.{◌≼◌, ◌≺◌, below, belowℕ, strictly, refute, equal, equalℕ, sq, num, slack, slackℕ, ◌⊞◌, ◌⊠◌, diff, diffℕ, ◌⊕◌, ◌⊙◌, nonneg}
use Rattle.ring.proofs.Linear.{linear, linear_lt, linear_eq, fact, fact_lt, fact_eq}

-- ---- equations over ℤ
a_product : (a b : ℤ) → (a +ℤ b) *ℤ (a -ℤ b) ≡ a *ℤ a -ℤ b *ℤ b
a_product a b = ring (a ∷ b ∷ []) (search poly depth 30) done

a_cube : (a b : ℤ) → pow (a -ℤ b) 3 ≡ pow a 3 -ℤ pos 3 *ℤ pow a 2 *ℤ b +ℤ pos 3 *ℤ a *ℤ pow b 2 -ℤ pow b 3
a_cube a b = ring (a ∷ b ∷ []) (search poly depth 30) done

-- where `pow` unfolds, it is a product that begins with `one`
a_square : (a : ℤ) → pow a 2 *ℤ a ≡ a *ℤ pow a 2
unfolding pow
a_square a = ring (a ∷ []) (search poly depth 30) done

-- natural numbers among integers: an atom is `pos n`
mixed : (n m : ℕ) (x : ℤ) → pos (n + m) *ℤ (x -ℤ pos 1) ≡ x *ℤ pos n +ℤ pos m *ℤ x -ℤ pos n -ℤ pos m
mixed n m x = ring (pos n ∷ pos m ∷ x ∷ []) (search poly depth 30) done

one_less : (n : ℕ) (x : ℤ) → (pos n -ℤ pos 1) *ℤ x -ℤ pos (suc n) ≡ pos n *ℤ x -ℤ x +ℤ negsuc n
one_less n x = ring (pos n ∷ x ∷ []) (search poly depth 30) done

a_difference : (m n : ℕ) → sub_ℕ m n *ℤ sub_ℕ m n ≡ pos (m * m) +ℤ pos (n * n) -ℤ pos 2 *ℤ pos m *ℤ pos n
a_difference m n = ring (pos m ∷ pos n ∷ []) (search poly depth 30) done

large : (x : ℤ) → (x +ℤ pos (2 ^ 1074)) *ℤ x ≡ x *ℤ x +ℤ pos (2 ^ 1073) *ℤ x *ℤ pos 2
large x = ring (x ∷ []) (search poly depth 30) done

-- ---- equations over ℕ: an atom is any number
a_power : (a b : ℕ) → (a + b) ^ 2 ≡ a ^ 2 + 2 * a * b + b ^ 2
a_power a b = ringℕ (a ∷ b ∷ []) (search poly depth 30) done

lengths : (xs ys : List ℕ) → (length xs + length ys) * length xs ≡ length xs ^ 2 + length ys * length xs
lengths xs ys = ringℕ (length xs ∷ length ys ∷ []) (search poly depth 30) done

powers_of_two : (m a b : ℕ) → (m * 2 ^ (a + b + 1)) ^ 2 ≡ 4 * m * m * 2 ^ (2 * a) * 2 ^ (b * 2)
powers_of_two m a b = ringℕ (m ∷ 2 ^ a ∷ 2 ^ b ∷ []) (search poly depth 30) done

-- a difference is read where its order is a hypothesis
less_two : (n : ℕ) → 3 ≤ n → (n - 2) * (n - 2) + 4 * n ≡ n * n + 4
less_two n h = let k : 2 ≤ n = omega arith in ringℕ (n ∷ []) (search poly depth 30) done

-- ---- orders by a certificate
am_gm : (a b : ℤ) → pos 4 *ℤ a *ℤ b ≼ (a +ℤ b) *ℤ (a +ℤ b)
am_gm a b = below (a ∷ b ∷ []) (sq (a ⊖ b)) (search poly depth 30) done

products : (a b c d : ℤ) → pos 0 ≼ a → pos 0 ≼ d → a ≼ b → c ≼ d → a *ℤ c ≼ b *ℤ d
products a b c d p q h k = below (a ∷ b ∷ c ∷ d ∷ []) (p ⊠ slack k ⊞ slack h ⊠ q) (search poly depth 30) done

strict : (a b : ℤ) → a ≼ b → a *ℤ a +ℤ a ≺ a *ℤ a +ℤ b +ℤ pos 2
strict a b h = strictly (a ∷ b ∷ []) (slack h ⊞ num 1) (search poly depth 30) done

over_ℕ : (a b c : ℕ) → a ≤ b → 2 * a * c ≤ b * b + c * c
over_ℕ a b c h = belowℕ (a ∷ b ∷ c ∷ []) (sq (pos b ⊖ pos c) ⊞ num (2 * c) ⊠ slackℕ h) (search poly depth 30) done

impossible : (a b : ℤ) → a *ℤ a +ℤ b *ℤ b +ℤ pos 1 ≼ pos 2 *ℤ a *ℤ b → ⊥
impossible a b h = refute (a ∷ b ∷ []) (slack h ⊞ sq (a ⊖ b)) (search poly depth 30) done

not_negative : (x y z : ℤ) → pos 0 ≼ z → pos 0 ≼ x *ℤ x +ℤ pos 3 *ℤ z *ℤ (y *ℤ y)
not_negative x y z h = search nonneg

-- N ≤ t² - 1 gives N (2t)² ≤ (2t² - 1)²
halfway : (N t : ℤ) → N ≼ t *ℤ t -ℤ pos 1 → N *ℤ ((pos 2 *ℤ t) *ℤ (pos 2 *ℤ t)) ≼ (pos 2 *ℤ t *ℤ t -ℤ pos 1) *ℤ (pos 2 *ℤ t *ℤ t -ℤ pos 1)
halfway N t h = below (N ∷ t ∷ []) (slack h ⊠ sq (pos 2 *ℤ t) ⊞ num 1) (search poly depth 30) done

-- the same over ℕ, where the differences need their orders
halfwayℕ : (N t : ℕ) → 1 ≤ t * t → 1 ≤ 2 * (t * t) → N ≤ t * t - 1 → N * (2 * t) ^ 2 ≤ (2 * (t * t) - 1) ^ 2
halfwayℕ N t p q h = belowℕ (N ∷ t ∷ []) (slackℕ h ⊠ sq (pos (2 * t)) ⊞ num 1) (search poly depth 30) done

-- over ℕ, `omega` multiplies out as well: it is handed the products of the hypotheses
by_omega : (a d : ℕ) → (a / d) * (a / d) * (d * d) ≤ a * a
by_omega a d = omega (arith, mul-le-mul (mul-div-le a d) (mul-div-le a d))

-- ---- equations from equations
on_a_circle : (x y u v : ℤ) → x *ℤ x +ℤ y *ℤ y ≡ pos 1 → u *ℤ u +ℤ v *ℤ v ≡ pos 1 → pow (x *ℤ u -ℤ y *ℤ v) 2 +ℤ pow (x *ℤ v +ℤ y *ℤ u) 2 ≡ pos 1
on_a_circle x y u v e f = equal (x ∷ y ∷ u ∷ v ∷ []) ((u *ℤ u +ℤ v *ℤ v) ⊙ diff e ⊕ diff f) (search poly depth 30) done

-- a root s of h, with the rest r, extended by the digit q in base b
next_digit : (h s r b q u : ℕ) → h ≡ s * s + r → r * b ≡ q * (2 * s) + u → h * (b * b) + q * q ≡ (s * b + q) * (s * b + q) + u * b
next_digit h s r b q u e d = equalℕ (h ∷ s ∷ r ∷ b ∷ q ∷ u ∷ []) (pos (b * b) ⊙ diffℕ e ⊕ pos b ⊙ diffℕ d) (search poly depth 30) done

-- ---- linear statements over ℤ, by `omega`
between : (a b c : ℤ) → a ≼ b → b ≺ c +ℤ pos 2 → a -ℤ pos 3 ≼ c
between a b c h k = linear ρ (search poly depth 30) (omega (arith, fact ρ h (search poly depth 30), fact_lt ρ k (search poly depth 30)))
  where
    ρ : List ℤ
    ρ = a ∷ b ∷ c ∷ []

predecessor : (a b : ℤ) → a ≡ b +ℤ pos 1 → b ≺ a
predecessor a b e = linear_lt ρ (search poly depth 30) (omega (arith, fact_eq ρ e (search poly depth 30)))
  where
    ρ : List ℤ
    ρ = a ∷ b ∷ []

only_one : (a b : ℤ) → a ≼ b → b ≺ a +ℤ pos 1 → a ≡ b
only_one a b h k = linear_eq ρ (search poly depth 30) (omega (arith, fact ρ h (search poly depth 30), fact_lt ρ k (search poly depth 30)))
  where
    ρ : List ℤ
    ρ = a ∷ b ∷ []

-- ---- a form of one's own is read by one lemma
double : ℤ → ℤ
double x = x +ℤ x

double_is : (x : ℤ) → double x ≡ x +ℤ x
unfolding double
double_is x = refl

abbrev doubled : {ρ : List ℤ} {x : ℤ} → Term ρ x → Term ρ (double x)
doubled {x = x} t = same (double_is x) (add t t)

with_double : (a b : ℤ) → double (a *ℤ b) +ℤ double b ≡ double b *ℤ (a +ℤ pos 1)
with_double a b = ring (a ∷ b ∷ []) (search (poly, doubled) depth 30) done
