-- Lists: numbers, what passes a test, groups by first appearance. Definitions only.
-- (A `let` waits until it is read: so each list below is walked once.)
use Rattle.std.specs.Prelude.{◌≡◌, ◌⊎◌, Bool, true, false, cond, List, [], ◌∷◌, ◌++◌, ℕ, zero, suc, ◌+◌, ◌<◌, length, eqb}

-- a, a + 1, .., n numbers
abbrev pub from : ℕ → ℕ → List ℕ
from a zero = []
from a (suc n) = a ∷ from (suc a) n

-- 0 to n - 1
abbrev pub numbers : ℕ → List ℕ
numbers n = from 0 n

module _ {A : Type 0} where
  -- the elements that pass f, in order
  abbrev pub keep : (A → Bool) → List A → List A
  keep f [] = []
  keep f (x ∷ xs) = let r = keep f xs in cond (f x) (x ∷ r) r

  -- the elements that fail f, in order
  abbrev pub lose : (A → Bool) → List A → List A
  lose f [] = []
  lose f (x ∷ xs) = let r = lose f xs in cond (f x) r (x ∷ r)

  -- whether some element passes f
  abbrev pub any : (A → Bool) → List A → Bool
  any f [] = false
  any f (x ∷ xs) = let r = any f xs in cond (f x) true r

  -- how many elements pass f
  abbrev pub how_many : (A → Bool) → List A → ℕ
  how_many f xs = length (keep f xs)

  -- the sum of f over the elements
  abbrev pub total : (A → ℕ) → List A → ℕ
  total f [] = 0
  total f (x ∷ xs) = f x + total f xs

  -- the first element, d if there is none
  abbrev pub head_or : A → List A → A
  head_or d [] = d
  head_or d (x ∷ xs) = x

  -- one list after the other
  abbrev pub concat : List (List A) → List A
  concat [] = []
  concat (l ∷ ls) = l ++ concat ls

  -- x is an element of the list
  abbrev pub In : A → List A → Type 0
  In x [] = ⊥
  In x (y ∷ ys) = (x ≡ y) ⊎ In x ys

  -- groups by first appearance, n at most: the first element with those that s says are the same as it, then the groups of the others
  abbrev pub groups_in : ℕ → (A → A → Bool) → List A → List (List A)
  groups_in zero s xs = []
  groups_in (suc n) s [] = []
  groups_in (suc n) s (x ∷ xs) = (x ∷ keep (s x) xs) ∷ groups_in n s (lose (s x) xs)

  -- all the groups by first appearance
  unfoldable pub groups : (A → A → Bool) → List A → List (List A)
  groups s xs = groups_in (length xs) s xs

-- every element is below n
abbrev pub Below : ℕ → List ℕ → Type 0
Below n xs = (x : ℕ) → In x xs → x < n

-- each element is below those after it
abbrev pub Ascending : List ℕ → Type 0
Ascending [] = Unit {0}
Ascending (x ∷ xs) = ((y : ℕ) → In y xs → x < y) × Ascending xs

-- whether x is an element of the list
abbrev pub holds : ℕ → List ℕ → Bool
holds x = any (λ y. eqb x y)

-- whether n is not 0
abbrev pub nonzero : ℕ → Bool
nonzero zero = false
nonzero (suc n) = true
