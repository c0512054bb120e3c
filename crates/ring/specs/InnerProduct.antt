-- Lists of natural numbers as vectors: products, sums of squares, three that differ in each place by what a triangle allows.
use Rattle.std.specs.Prelude.{List, [], ◌∷◌, ℕ, ◌+◌, ◌*◌, ◌≤◌}

-- Σ u v, over the shorter list
abbrev pub dot : List ℕ → List ℕ → ℕ
dot [] vs = 0
dot (u ∷ us) [] = 0
dot (u ∷ us) (v ∷ vs) = u * v + dot us vs

-- Σ u²
abbrev pub squares : List ℕ → ℕ
squares [] = 0
squares (u ∷ us) = u * u + squares us

-- w ≤ u + v in each place
pub data Tri : List ℕ → List ℕ → List ℕ → Type 0 where
  none : Tri [] [] []
  more : {w u v : ℕ} {ws us vs : List ℕ} → w ≤ u + v → Tri ws us vs → Tri (w ∷ ws) (u ∷ us) (v ∷ vs)
