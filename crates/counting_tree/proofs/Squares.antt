-- The sum of squared differences of two frames, one channel more of it.
use mathlib.Core.Path.{◌≡◌, sym, ap, ap₂, ◌∙◌}
use Prim.Native.Nat.{ℕ, suc, ◌+◌, ◌*◌, ◌^◌, ◌≤◌, ◌<◌}
use native.Mathlib.Nat.{zero-add, add_assoc}
use native.Mathlib.Numerals.{add-one}
use native.Mathlib.Omega.{arith}
use lib.IntN.{ℤ, pos}
use lib.ListN.{length, get_or, drop, drop_of_length-le}
use lib.Seq.{drop-cons}
use mir.Syntax.{w16}
use mir.Val.{to_z, of_z}
use Rattle.counting_tree.specs.Frames.{Frame, apart, squared}
use Rattle.counting_tree.specs.Domain.{Count}
use Rattle.counting_tree.proofs.Counts.{read}

-- sum is that of the channels below k
pub record Squares (xs ys : Frame) (k sum : ℕ) : Type 0 where
  pub value : sum + squared (drop k xs) (drop k ys) ≡ squared xs ys
  pub bound : sum ≤ k * 2 ^ 32

pub squares_none : (xs ys : Frame) → Squares xs ys 0 0
squares_none xs ys = record { value = zero-add (squared xs ys); bound = omega arith }

-- q is r, the square of the difference of counts k
pub squares_more : {xs ys : Frame} {k sum : ℕ} → Squares xs ys k sum → k < length xs → k < length ys → Count (get_or xs k (pos 0)) → Count (get_or ys k (pos 0)) → (q : ℕ) {r : ℕ}
    → q ≡ r → r ≡ apart (to_z w16 (of_z w16 (get_or xs k (pos 0)))) (to_z w16 (of_z w16 (get_or ys k (pos 0)))) * apart (to_z w16 (of_z w16 (get_or xs k (pos 0)))) (to_z w16 (of_z w16 (get_or ys k (pos 0)))) → q ≤ 2 ^ 32
    → Squares xs ys (k + 1) (sum + q)
squares_more {xs} {ys} {k} {sum} s hx hy cx cy q e i b = record {
  value = ap (λ (m : ℕ). sum + q + squared (drop m xs) (drop m ys)) (add-one k) ∙ add_assoc sum q _ ∙ ap (λ (m : ℕ). sum + m) (sym split) ∙ s.value;
  bound = omega (arith, s.bound);
}
  where
    split : squared (drop k xs) (drop k ys) ≡ q + squared (drop (suc k) xs) (drop (suc k) ys)
    split = ap₂ squared (drop-cons xs k (pos 0) hx) (drop-cons ys k (pos 0) hy)
        ∙ ap (λ (m : ℕ). m + squared (drop (suc k) xs) (drop (suc k) ys)) (sym (e ∙ i ∙ ap₂ (λ (z w : ℤ). apart z w * apart z w) (read (get_or xs k (pos 0)) cx) (read (get_or ys k (pos 0)) cy)))

-- a channel that is not used
pub squares_past : {xs ys : Frame} {k sum : ℕ} → Squares xs ys k sum → length xs ≤ k → Squares xs ys (k + 1) sum
squares_past {xs} {ys} {k} {sum} s h = record {
  value = ap (λ (z : Frame). sum + squared z (drop (k + 1) ys)) (drop_of_length-le xs (omega arith)) ∙ ap (λ (z : Frame). sum + squared z (drop k ys)) (sym (drop_of_length-le xs h)) ∙ s.value;
  bound = omega (arith, s.bound);
}
