-- The loop that copies words.
use mathlib.Core.Path.{◌≡◌, ap, ◌∙◌}
use mathlib.Core.Logic.{◌⊎◌, inl, inr}
use mathlib.Core.List.{List}
use Prim.Native.Nat.{ℕ, ◌+◌, ◌<◌, ◌≤◌}
use native.Mathlib.Omega.{arith}
use lib.ListN.{length, get_or}
use Rattle.lists.specs.Words.{column}
use Rattle.lists.specs.ListLaws.{length_numbers}
use Rattle.lists.proofs.PartLaws.{get_under, get_above}
use Rattle.lists.proofs.LoopLaws.{Fill}

-- what the next turn reads is still the word that stood there at first
pub copy_read : {w₀ v : List ℕ} {from to m i : ℕ} → (to ≤ from) ⊎ (from + m ≤ to) → Fill (λ j. get_or w₀ (from + j) 0) w₀ to m v i → i < m → get_or v (from + i) 0 ≡ get_or w₀ (from + i) 0
copy_read {w₀} {v} {from} {to} {m} {i} d c h =
    let ws : List ℕ = column (λ j. get_or w₀ (from + j) 0) i in
    let l : length ws ≡ i = length_numbers (λ j. get_or w₀ (from + j) 0) i in
    let f : to ≤ length w₀ = omega (arith, c.fit) in
    ap (λ (z : List ℕ). get_or z (from + i) 0) c.work
    ∙ elim d [ inl p ↦ get_above w₀ to (from + i) ws (omega arith) f | inr p ↦ get_under w₀ to (from + i) ws (omega arith) f ]
