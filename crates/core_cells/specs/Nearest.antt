-- Whole numbers before the tree: the least sum of squared differences among some frames. Definitions only.
use Rattle.std.specs.Prelude.{Bool, cond, List, [], ◌∷◌, ℕ, ◌+◌, ◌*◌, ◌^◌, leb, ltb, min}

-- more than any sum of squared differences
abbrev pub beyond : ℕ
beyond = 2 ^ 35

-- the first number below `enough` that f gives of an element; if there is none, the least of them and m
unfoldable pub least_until : (enough : ℕ) → (ℕ → ℕ) → ℕ → List ℕ → ℕ
least_until enough f m [] = m
least_until enough f m (x ∷ xs) = let r = least_until enough f (min m (f x)) xs in cond (ltb (f x) enough) (f x) r

-- "The far reach is N × (4 to the power s) < (t × ((2 to the power s) + 1)) squared + (4 to the power s)." N is not below it
unfoldable pub out_of_reach : (t s N : ℕ) → Bool
out_of_reach t s N = leb (t * (2 ^ s + 1) * (t * (2 ^ s + 1)) + 4 ^ s) (N * 4 ^ s)
