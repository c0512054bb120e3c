-- The inequality of Cauchy and Schwarz, and the triangle inequality by squares, with no root.
use Rattle.std.specs.Prelude.{List, [], ◌∷◌, ℕ, ◌+◌, ◌*◌, ◌≤◌, pos}
use Rattle.std.proofs.Common.{arith}
use Rattle.ring.proofs.Ring.{poly, done, ◌⊖◌}
use Rattle.ring.proofs.Order.{belowℕ, sq, num, slackℕ, ◌⊞◌, ◌⊠◌}
use Rattle.ring.specs.Nat.{sq_le_back}
use Rattle.ring.specs.InnerProduct.{dot, squares, Tri, none, more}

-- 2 x y Σ u v ≤ x² Σ v² + y² Σ u², since Σ (x v - y u)² is not negative
cross : (x y : ℕ) (us vs : List ℕ) → 2 * (x * y * dot us vs) ≤ x * x * squares vs + y * y * squares us
cross x y [] vs = omega arith
cross x y (u ∷ us) [] = omega arith
cross x y (u ∷ us) (v ∷ vs) =
    belowℕ (x ∷ y ∷ u ∷ v ∷ squares us ∷ squares vs ∷ dot us vs ∷ []) (sq (pos (x * v) ⊖ pos (y * u)) ⊞ slackℕ (cross x y us vs)) (search poly depth 30) done

-- (Σ u v)² ≤ Σ u² · Σ v²
pub cauchy_schwarz : (us vs : List ℕ) → dot us vs * dot us vs ≤ squares us * squares vs
cauchy_schwarz [] vs = omega arith
cauchy_schwarz (u ∷ us) [] = omega arith
cauchy_schwarz (u ∷ us) (v ∷ vs) =
    belowℕ (u ∷ v ∷ squares us ∷ squares vs ∷ dot us vs ∷ []) (slackℕ (cauchy_schwarz us vs) ⊞ slackℕ (cross u v us vs)) (search poly depth 30) done

multiplied_out : {ws us vs : List ℕ} → Tri ws us vs → squares ws ≤ squares us + 2 * dot us vs + squares vs
multiplied_out none = omega arith
multiplied_out (more {w} {u} {v} {ws} {us} {vs} h t) =
    belowℕ (w ∷ u ∷ v ∷ squares ws ∷ squares us ∷ squares vs ∷ dot us vs ∷ []) (slackℕ h ⊠ num (u + v + w) ⊞ slackℕ (multiplied_out t)) (search poly depth 30) done

-- where u is no longer than A and v no longer than B, w is no longer than A + B
pub triangle : (A B : ℕ) {ws us vs : List ℕ} → Tri ws us vs → squares us ≤ A * A → squares vs ≤ B * B → squares ws ≤ (A + B) * (A + B)
triangle A B {ws} {us} {vs} t h k = omega (arith, multiplied_out t, product)
  where
    product : dot us vs ≤ A * B
    product = sq_le_back (dot us vs) (A * B)
        (belowℕ (A ∷ B ∷ squares us ∷ squares vs ∷ dot us vs ∷ []) (slackℕ (cauchy_schwarz us vs) ⊞ num (squares us) ⊠ slackℕ k ⊞ slackℕ h ⊠ sq (pos B)) (search poly depth 30) done)
