-- Four words a frame, cut into slices of their own, and what they are once words are laid in each.
use mathlib.Core.Path.{◌≡◌, refl, sym, ap, ap₂, ◌∙◌}
use mathlib.Core.List.{List, [], ◌∷◌, ◌++◌}
use Prim.Native.Nat.{ℕ, ◌+◌, ◌*◌, ◌≤◌}
use native.Mathlib.Omega.{arith}
use lib.ListN.{length, take, drop, length-append, length-drop}
use Rattle.std.proofs.Common.{append_assoc, append-nil, take_at, drop_at}
use Rattle.lists.specs.Words.{over, part}
use Rattle.lists.proofs.WordLaws.{over_all, over_self, over_length}
use Rattle.lists.proofs.PartLaws.{part_same, part_under}
use Rattle.clustering.proofs.PutBack.{over_front, over_back}

-- some lists, one after the other, before the list Q
abbrev before : List (List ℕ) → List ℕ → List ℕ
before [] Q = Q
before (P ∷ Ps) Q = P ++ before Ps Q

abbrev size : List (List ℕ) → ℕ
size [] = 0
size (P ∷ Ps) = length P + size Ps

-- words laid after them
back : (Ps : List (List ℕ)) (Q ws : List ℕ) (a : ℕ) → a ≡ size Ps → over (before Ps Q) a ws ≡ before Ps (over Q 0 ws)
back [] Q ws a e = ap (λ (i : ℕ). over Q i ws) e
back (P ∷ Ps) Q ws a e = sym (over_back P (before Ps Q) (size Ps) a ws e) ∙ ap (λ (z : List ℕ). P ++ z) (back Ps Q ws (size Ps) refl)

-- the first k words of a list laid anew
front : {k : ℕ} (ws L : List ℕ) → length ws ≡ k → over L 0 ws ≡ ws ++ drop k L
front {k} ws L e = let z : 0 + length ws ≡ k = omega arith in ap (λ (i : ℕ). ws ++ drop i L) z

pub front_size : {k : ℕ} (ws L : List ℕ) → length ws ≡ k → k ≤ length L → length (ws ++ drop k L) ≡ length L
front_size {k} ws L e h = length-append ws (drop k L) ∙ omega (arith, length-drop k L)

take_all : (Q : List ℕ) (m : ℕ) → length Q ≡ m → take m Q ≡ Q
take_all Q m e = ap (take m) (sym (append-nil Q)) ∙ take_at Q [] m e

-- ---- k words in the first two of four, and all of the others
pub four_laid : (L C B K ls cs bs ks : List ℕ) {n k : ℕ} {W R R₁ : List ℕ} → W ≡ L ++ R → R ≡ C ++ R₁ → R₁ ≡ B ++ K → length L ≡ n → length C ≡ n → length B ≡ n → length K ≡ n
    → k ≤ n → length ls ≡ k → length cs ≡ k → length bs ≡ n → length ks ≡ n
    → (ls ++ drop k L) ++ ((cs ++ drop k C) ++ (bs ++ ks)) ≡ over (over (over (over W 0 ls) n cs) (2 * n) bs) (3 * n) ks
four_laid L C B K ls cs bs ks {n} {k} {W} {R} {R₁} e e₁ e₂ l c b kk h a d f i =
    let P = ls ++ drop k L in
    let Q = cs ++ drop k C in
    let lp : length P ≡ n = front_size ls L a (omega arith) ∙ l in
    let lq : length Q ≡ n = front_size cs C d (omega arith) ∙ c in
    let one : over W 0 ls ≡ P ++ (C ++ (B ++ K)) =
    ap (λ (z : List ℕ). over z 0 ls) (e ∙ ap (λ (z : List ℕ). L ++ z) (e₁ ∙ ap (λ (z : List ℕ). C ++ z) e₂))
    ∙ sym (over_front L (C ++ (B ++ K)) 0 ls (omega arith)) ∙ ap (λ (z : List ℕ). z ++ (C ++ (B ++ K))) (front ls L a) in
    let two : over (P ++ (C ++ (B ++ K))) n cs ≡ P ++ (Q ++ (B ++ K)) =
    back (P ∷ []) (C ++ (B ++ K)) cs n (omega arith)
    ∙ ap (λ (z : List ℕ). P ++ z) (sym (over_front C (B ++ K) 0 cs (omega arith)) ∙ ap (λ (z : List ℕ). z ++ (B ++ K)) (front cs C d)) in
    let three : over (P ++ (Q ++ (B ++ K))) (2 * n) bs ≡ P ++ (Q ++ (bs ++ K)) =
    back (P ∷ Q ∷ []) (B ++ K) bs (2 * n) (omega arith)
    ∙ ap (λ (z : List ℕ). P ++ (Q ++ z)) (sym (over_front B K 0 bs (omega arith)) ∙ ap (λ (z : List ℕ). z ++ K) (over_all B bs (omega arith))) in
    let four : over (P ++ (Q ++ (bs ++ K))) (3 * n) ks ≡ P ++ (Q ++ (bs ++ ks)) =
    back (P ∷ Q ∷ bs ∷ []) K ks (3 * n) (omega arith)
    ∙ ap (λ (z : List ℕ). P ++ (Q ++ (bs ++ z))) (over_all K ks (omega arith)) in
    sym (
    ap (λ (z : List ℕ). over (over (over z n cs) (2 * n) bs) (3 * n) ks) one
    ∙ ap (λ (z : List ℕ). over (over z (2 * n) bs) (3 * n) ks) two
    ∙ ap (λ (z : List ℕ). over z (3 * n) ks) three
    ∙ four
    )

pub four_same : (W : List ℕ) (n : ℕ) {ls ms cs ds bs es ks hs : List ℕ} → ls ≡ ms → cs ≡ ds → bs ≡ es → ks ≡ hs
    → over (over (over (over W 0 ls) n cs) (2 * n) bs) (3 * n) ks ≡ over (over (over (over W 0 ms) n ds) (2 * n) es) (3 * n) hs
four_same W n {ls} {ms} {cs} {ds} {bs} {es} {ks} a c b k =
    ap₂ (λ (x y : List ℕ). over (over (over (over W 0 x) n y) (2 * n) bs) (3 * n) ks) a c
    ∙ ap₂ (λ (x y : List ℕ). over (over (over (over W 0 ms) n ds) (2 * n) x) (3 * n) y) b k

-- ---- k words at first, and whatever words in the second half
pub halves_laid : (L R ls Q : List ℕ) {n k : ℕ} {W : List ℕ} → W ≡ L ++ R → length L ≡ 2 * n → length R ≡ 2 * n → k ≤ n → length ls ≡ k → length Q ≡ 2 * n
    → (ls ++ drop k L) ++ Q ≡ over (over W 0 (part ((ls ++ drop k L) ++ Q) 0 k)) (2 * n) (part ((ls ++ drop k L) ++ Q) (2 * n) (2 * n))
halves_laid L R ls Q {n} {k} {W} e l r h a q =
    let P = ls ++ drop k L in
    let lp : length P ≡ 2 * n = front_size ls L a (omega arith) ∙ l in
    let one : part (P ++ Q) 0 k ≡ ls = ap (take k) (append_assoc ls (drop k L) Q) ∙ take_at ls (drop k L ++ Q) k a in
    let two : part (P ++ Q) (2 * n) (2 * n) ≡ Q = ap (take (2 * n)) (drop_at P Q (2 * n) lp) ∙ take_all Q (2 * n) q in
    sym (
    ap₂ (λ (x y : List ℕ). over (over W 0 x) (2 * n) y) one two
    ∙ ap (λ (z : List ℕ). over z (2 * n) Q) (ap (λ (z : List ℕ). over z 0 ls) e ∙ sym (over_front L R 0 ls (omega arith)) ∙ ap (λ (z : List ℕ). z ++ R) (front ls L a))
    ∙ back (P ∷ []) R Q (2 * n) (omega arith)
    ∙ ap (λ (z : List ℕ). P ++ z) (over_all R Q (omega arith))
    )

-- ---- words from 6n on and from 8n on, which are what stands there then
module _ {n k : ℕ} (w : List ℕ) (h : k ≤ n) (l : 16 * n ≤ length w) where
  pub as_parts : (P Z : List ℕ) {F : List ℕ} → length P ≡ k → length Z ≡ 2 * n → F ≡ over (over w (6 * n) P) (8 * n) Z → F ≡ over (over w (6 * n) (part F (6 * n) k)) (8 * n) (part F (8 * n) (2 * n))
  as_parts P Z {F} p z e =
      let m : length (over w (6 * n) P) ≡ length w = over_length w (6 * n) P (omega arith) in
      let one : part F (6 * n) k ≡ P = ap (λ (y : List ℕ). part y (6 * n) k) e ∙ part_under (over w (6 * n) P) (6 * n) k (8 * n) Z (omega arith) (omega arith) ∙ part_same w (6 * n) k P (omega arith) p in
      let two : part F (8 * n) (2 * n) ≡ Z = ap (λ (y : List ℕ). part y (8 * n) (2 * n)) e ∙ part_same (over w (6 * n) P) (8 * n) (2 * n) Z (omega arith) z in
      e ∙ sym (ap₂ (λ (x y : List ℕ). over (over w (6 * n) x) (8 * n) y) one two)

  pub unchanged : w ≡ over (over w (6 * n) (part w (6 * n) k)) (8 * n) (part w (8 * n) (2 * n))
  unchanged =
      let e : over w (6 * n) (part w (6 * n) k) ≡ w = over_self w (6 * n) k (part w (6 * n) k) refl (omega arith) in
      sym (ap (λ (z : List ℕ). over z (8 * n) (part w (8 * n) (2 * n))) e ∙ over_self w (8 * n) (2 * n) (part w (8 * n) (2 * n)) refl (omega arith))
