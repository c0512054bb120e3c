-- Leaders, ascending, each replaced by its leader's: the words before c hold roots.
use mathlib.Core.Path.{◌≡◌, sym, ap, ◌∙◌}
use mathlib.Core.Logic.{inl, inr}
use mathlib.Core.List.{List}
use Prim.Native.Nat.{ℕ, ◌+◌, ◌<◌, ◌≤◌}
use native.Mathlib.Nat.{eq-or-lt_of_le, zero-add}
use native.Mathlib.Omega.{arith}
use lib.ListN.{length, get_or, set}
use Rattle.lists.specs.Words.{over, column}
use Rattle.lists.specs.ListLaws.{at_numbers, length_numbers}
use Rattle.lists.proofs.PartLaws.{get_laid, get_above}
use Rattle.lists.proofs.LoopLaws.{Fill, fill_step}
use Rattle.partitions.specs.Leaders.{Falling, root}
use Rattle.partitions.specs.LeaderLaws.{root_own, root_next}

module _ {p : List ℕ} (f : Falling p) {v : List ℕ} {c : ℕ} (i : Fill (root p) p 0 (length p) v c) where
  -- from c on the words are as they were
  pub leader_still : get_or v c 0 ≡ get_or p c 0
  leader_still = ap (λ (z : List ℕ). get_or z c 0) i.work ∙ get_above p 0 c (column (root p) c) (omega (arith, length_numbers (root p) c)) (omega arith)

  pub leader_low : get_or v c 0 ≤ c
  leader_low = omega (arith, leader_still, f.falls c)

  root_there : (d : ℕ) → d < c → get_or v d 0 ≡ root p d
  root_there d h =
      ap (λ (z : List ℕ). get_or z d 0) i.work
      ∙ ap (λ (j : ℕ). get_or (over p 0 (column (root p) c)) j 0) (sym (zero-add d))
      ∙ get_laid p 0 d (column (root p) c) (omega (arith, length_numbers (root p) c)) (omega arith)
      ∙ at_numbers (root p) 0 c d h

  -- the leader's word is the root
  pub leader_root : (l : ℕ) → l ≡ get_or v c 0 → get_or v l 0 ≡ root p c
  leader_root l e = elim (eq-or-lt_of_le leader_low) [
    | inl q ↦ ap (λ (j : ℕ). get_or v j 0) (e ∙ q) ∙ q ∙ sym (root_own p c (sym leader_still ∙ q))
    | inr h ↦ ap (λ (j : ℕ). get_or v j 0) (e ∙ leader_still) ∙ root_there (get_or p c 0) (omega (arith, leader_still)) ∙ sym (root_next f c)
  ]

  pub flat_step : c < length p → (l : ℕ) → l ≡ get_or v c 0 → Fill (root p) p 0 (length p) (set v c (get_or v l 0)) (c + 1)
  flat_step h l e = fill_step i h (get_or v l 0) c (sym (zero-add c)) (leader_root l e)
