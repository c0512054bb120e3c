-- The marks of the sorted cells, and their runs: how many of those right after a cell have its mark. Definitions only.
use Rattle.std.specs.Prelude.{cond, List, [], ◌∷◌, ℕ, suc, eqb}

-- how many of ys, from the first on, are x
abbrev pub leading : ℕ → List ℕ → ℕ
leading x [] = 0
leading x (y ∷ ys) = cond (eqb x y) (suc (leading x ys)) 0

-- of each element, how many of those right after it are the same
abbrev pub runs_of : List ℕ → List ℕ
runs_of [] = []
runs_of (x ∷ xs) = leading x xs ∷ runs_of xs
