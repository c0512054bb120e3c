-- A list that is lent to work in: it is written from its front, and what was written is cleared.
use mathlib.Core.Path.{◌≡◌, refl, sym, ap, ap₂, ◌∙◌, subst}
use mathlib.Core.List.{List, ◌++◌}
use Prim.Native.Nat.{ℕ, ◌+◌, ◌≤◌}
use native.Mathlib.Omega.{arith}
use Rattle.std.proofs.Common.{length-take-le}
use lib.ListN.{length, take, drop, replicate, length-append, length-drop, length-replicate}
use Rattle.lists.specs.Words.{over, Clear}
use Rattle.lists.proofs.PartLaws.{over_cover, clear_over, clear_within}
use Rattle.clustering.specs.Regions.{ClearAgain}

pub again_same : (ds : List ℕ) → ClearAgain ds ds
again_same ds c = refl

pub again_on : {ds es fs : List ℕ} → ClearAgain ds es → ClearAgain es fs → ClearAgain ds fs
again_on p q c = let e = p c in q (subst (λ (z : List ℕ). Clear z 0 (length z)) (sym e) c) ∙ e

-- m words ws are written, and filled with 0
pub cleared : (ws : List ℕ) {ds es zs : List ℕ} {m : ℕ} → m ≡ length ws → es ≡ over ds 0 ws → length es ≡ length ds → zs ≡ replicate (length (take m es)) 0 → ClearAgain ds (zs ++ drop m es)
cleared ws {ds} {es} {zs} {m} em ee l ez c =
    let fit : m ≤ length ds = omega (arith, em, l, ap length ee, length-append ws (drop (0 + length ws) ds), length-drop (0 + length ws) ds) in
    let t : length (take m es) ≡ m = length-take-le m es (omega (arith, fit, l)) in
    let z : length (replicate {A = ℕ} m 0) ≡ m = length-replicate {A = ℕ} m 0 in
    let j : m ≡ 0 + length (replicate {A = ℕ} m 0) = omega (arith, z) in
    ap₂ (λ (y : List ℕ) (i : ℕ). y ++ drop i es) (ez ∙ ap (λ (i : ℕ). replicate i 0) t) j
    ∙ ap (λ (y : List ℕ). over y 0 (replicate m 0)) ee
    ∙ over_cover ds 0 0 ws (replicate m 0) (omega arith) (omega (arith, em, z)) (omega arith)
    ∙ clear_over ds 0 m (omega (arith, fit)) (clear_within ds 0 (length ds) 0 m c (omega arith) (omega (arith, fit)))
