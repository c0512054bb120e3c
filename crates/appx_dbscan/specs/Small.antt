-- Settings and frames of small runs, for the computed cases and the refuted answers.
use Rattle.std.specs.Prelude.{◌≡◌, not, List, [], ◌∷◌, map, ℕ, ℤ, pos, neg_ℤ, T, eqb, get_or, Float}
use Rattle.std.proofs.Common.{ap, subst, T_not}
use Rattle.std.proofs.Math.Dec.{eqb_refl}
use Rattle.hyperparams.specs.declared.Params.{Params}
use Rattle.hyperparams.specs.declared.ValidParams.{ValidParams}
use Rattle.hyperparams.specs.Params.{float, slack_at, valid_of}
use Rattle.counting_tree.specs.Frames.{Frame}
use Rattle.counting_tree.specs.Geometry.{Geometry, geometry_of, short}

-- channels, min_points, tolerance and slack
abbrev pub params : ℕ → ℕ → Float → Float → Params
params d m t slack = record { channels = d; min_points = m; tolerance = t; slack = slack }

abbrev pub minus : ℕ → ℤ
minus n = neg_ℤ (pos n)

-- a run of one channel: min_points, t and s; and its frames
abbrev pub valid : ℕ → ℕ → ℕ → ValidParams
valid m t s = valid_of (params 1 m (float t) (slack_at s))

abbrev pub frames : List ℤ → List Frame
frames = map (λ z. z ∷ [])

abbrev pub grid : ValidParams → List Frame → Geometry
grid v fs = geometry_of short v fs

-- case (j)
abbrev pub valid_j : ValidParams
valid_j = valid_of (params 2 2 (float 100) (slack_at 0))

abbrev pub frames_j : List Frame
frames_j = (minus 35 ∷ minus 35 ∷ []) ∷ (pos 35 ∷ pos 0 ∷ []) ∷ (pos 176 ∷ pos 35 ∷ []) ∷ (pos 107 ∷ pos 0 ∷ []) ∷ []

-- two numbers that a test tells apart
pub differ : (a b : ℕ) → T (not (eqb a b)) → a ≡ b → ⊥
differ a b n e = T_not (eqb a b) n (subst (λ (z : ℕ). T (eqb a z)) e (eqb_refl a))

-- two lists that differ at i
pub differ_at : (i : ℕ) (a b : List ℕ) → T (not (eqb (get_or a i 0) (get_or b i 0))) → a ≡ b → ⊥
differ_at i a b n e = differ (get_or a i 0) (get_or b i 0) n (ap (λ (l : List ℕ). get_or l i 0) e)
