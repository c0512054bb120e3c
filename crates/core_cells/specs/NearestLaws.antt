-- Laws of the least number found: below `enough` it is that of an element, else no element's is lower; and of the far reach.
use Rattle.std.specs.Prelude.{◌≡◌, Bool, true, false, cond, List, [], ◌∷◌, ℕ, ◌+◌, ◌*◌, ◌^◌, ◌<◌, ◌≤◌, ltb, min}
use Rattle.std.proofs.Math.Path.{refl}
use Rattle.std.proofs.Common.{ap, ◌∙◌, ltb-true, ltb-false, inl, inr, arith, mul-le-mul, mul-le-mul_right, pow_pos, lt-ltb, le-ltb, leb-true, le-leb, ltb→lt, nltb→le}
use Rattle.lists.specs.Lists.{In}
use Rattle.lists.specs.ListLaws.{T_or_not}
use Rattle.counting_tree.specs.Sound.{four_power}
use Rattle.core_cells.specs.Nearest.{beyond, least_until, out_of_reach}

-- ---- the least number found
module _ (enough : ℕ) (f : ℕ → ℕ) where
  pub least_none : (m : ℕ) → least_until enough f m [] ≡ m
  unfolding least_until
  least_none m = refl

  pub least_stop : (m x : ℕ) (xs : List ℕ) → f x < enough → least_until enough f m (x ∷ xs) ≡ f x
  unfolding least_until
  least_stop m x xs h = rw (lt-ltb (f x) enough h)

  pub least_next : (m x : ℕ) (xs : List ℕ) → enough ≤ f x → least_until enough f m (x ∷ xs) ≡ least_until enough f (min m (f x)) xs
  unfolding least_until
  least_next m x xs h = rw (le-ltb (f x) enough h)

  -- the same by a test
  pub least_next_by : (m x : ℕ) (xs : List ℕ) → enough ≤ f x → (b : Bool) → ltb (f x) m ≡ b → least_until enough f m (x ∷ xs) ≡ least_until enough f (cond b (f x) m) xs
  least_next_by m x xs h b e = least_next m x xs h ∙ ap (λ (z : ℕ). least_until enough f z xs) (lesser b e)
    where
      lesser : (b : Bool) → ltb (f x) m ≡ b → min m (f x) ≡ cond b (f x) m
      lesser true e = omega (arith, ltb-true (f x) m e)
      lesser false e = omega (arith, ltb-false (f x) m e)

  pub least_found : (m : ℕ) (xs : List ℕ) → enough ≤ m → least_until enough f m xs < enough → (x : ℕ) × In x xs × (f x < enough)
  least_found m [] h l = absurd (omega (arith, least_none m))
  least_found m (x ∷ xs) h l = elim (T_or_not (ltb (f x) enough)) [
    | inl t ↦ (x, inl refl, ltb→lt (f x) enough t)
    | inr n ↦
        let k : enough ≤ f x = nltb→le (f x) enough n in
        let z = least_found (min m (f x)) xs (omega arith) (rw (← least_next m x xs k) l) in
        (z.0, inr z.1, z.2)
  ]

  pub least_le : (m : ℕ) (xs : List ℕ) → enough ≤ least_until enough f m xs → (least_until enough f m xs ≤ m) × ((x : ℕ) → In x xs → least_until enough f m xs ≤ f x)
  least_le m [] h = (omega (arith, least_none m), λ x i. absurd i)
  least_le m (y ∷ xs) h = elim (T_or_not (ltb (f y) enough)) [
    | inl t ↦ absurd (omega (arith, ltb→lt (f y) enough t, least_stop m y xs (ltb→lt (f y) enough t)))
    | inr n ↦
        let e = least_next m y xs (nltb→le (f y) enough n) in
        let z = least_le (min m (f y)) xs (omega arith) in (
          omega (arith, z.0),
          λ x i. elim i [
            | inl p ↦ rw p (omega (arith, z.0))
            | inr j ↦ omega (arith, z.1 x j)
          ],
        )
  ]

-- ---- what is farther than a number out of reach is out of reach too
pub out_farther : (t s : ℕ) {a b : ℕ} → a ≤ b → out_of_reach t s a ≡ true → out_of_reach t s b ≡ true
unfolding out_of_reach
out_farther t s {a} {b} l o =
    let r = t * (2 ^ s + 1) * (t * (2 ^ s + 1)) + 4 ^ s in
    le-leb r (b * 4 ^ s) (omega (arith, leb-true r (a * 4 ^ s) o, mul-le-mul_right (4 ^ s) l))

-- as is a number beyond any sum
pub beyond_out : (t s : ℕ) → t ≤ 65535 → out_of_reach t s beyond ≡ true
unfolding out_of_reach
beyond_out t s h =
    let a = 2 ^ s in
    let p : 0 < a = pow_pos s in
    let r : t * (a + 1) ≤ 131070 * a = omega (arith, mul-le-mul {n₁ = t} {m₁ = a + 1} {n₂ = 65535} {m₂ = 2 * a} h (omega arith)) in
    rw (four_power s) (le-leb (t * (a + 1) * (t * (a + 1)) + a * a) (beyond * (a * a)) (omega (arith, mul-le-mul {n₂ = 131070 * a} {m₂ = 131070 * a} r r, mul-le-mul {n₁ = 1} {m₁ = 1} {n₂ = a} {m₂ = a} p p)))
