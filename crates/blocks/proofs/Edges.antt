-- Blocks in arrays: the counts of a frame as the program reads them, their edges, a row compared channel by channel, and the bucket of a block.
use mathlib.Core.Path.{◌≡◌, refl, sym, ap, ap₂, ◌∙◌}
use mathlib.Core.Logic.{inl, inr}
use mathlib.Core.Bool.{Bool, true, false, ◌&&◌}
use mathlib.Core.List.{List, [], ◌∷◌}
use Prim.Native.Nat.{ℕ, zero, suc, ◌+◌, ◌-◌, ◌*◌, ◌/◌, ◌%◌, ◌^◌, ◌<◌, ◌≤◌}
use native.Mathlib.Nat.{sub-zero}
use native.Mathlib.Omega.{arith}
use lib.IntN.{ℤ, pos, negsuc, ◌+ℤ◌}
use lib.Dec.{leb, ltb, eqb, leb→le, le→leb, ltb→lt, lt→ltb, eqb→eq}
use lib.ListN.{length, get_or, take, drop, replicate, length-map, length-drop, drop_of_length-le}
use lib.Seq.{get_or-take, get_or-drop, drop-cons, length-take-le}
use mir.Syntax.{w16}
use mir.Val.{SFits, to_z, of_z}
use mir.Facts.{to_z-of_z}
use borrow.Author.Tests.{eq-eqb}
use Rattle.lists.specs.Lists.{In, Below}
use Rattle.lists.specs.Words.{over}
use Rattle.lists.proofs.WordLaws.{over_length}
use Rattle.lists.specs.ListLaws.{in_append, true_T, both_ways, at_map}
use Rattle.hyperparams.specs.declared.ValidParams.{ValidParams}
use Rattle.counting_tree.specs.Frames.{Frame, frames_in}
use Rattle.counting_tree.specs.FramesIn.{frame_length}
use Rattle.counting_tree.specs.Geometry.{frame}
use Rattle.counting_tree.specs.Domain.{Count, Counts}
use Rattle.counting_tree.proofs.Counts.{read}
use Rattle.counting_tree.specs.Ready.{Ready}
use Rattle.blocks.specs.Blocks.{raise, edge, edges_of, key_of, shifted, second, own_block, same_nats, spread, row_hash, bucket_at, bucket_of}
use Rattle.blocks.specs.BlockLaws.{raise_is, edge_le, edge_above, edge_is, edge_div, array_at, shifted_length, shifted_at, own_below}

-- ---- a count
-- raised, as the program has it
pub raised_is : (c : ℤ) (x : ℕ) → SFits w16 c → pos x ≡ to_z w16 (of_z w16 c) +ℤ pos 32768 → x ≡ raise c
raised_is c x f e = raise_is c x f.sfits (e ∙ ap (λ (z : ℤ). z +ℤ pos 32768) (to_z-of_z f))

module _ (w : ℕ) (p : 0 < w) (c : ℤ) {x : ℕ} (e : x ≡ raise c) where
  -- whether the count lies in the block that begins at `low`
  module _ (low : ℕ) (m : low % w ≡ 0) where
    pub holds_above : low ≤ x → ltb (x - low) w ≡ eqb (edge w (raise c)) low
    holds_above h = both_ways (ltb (x - low) w) (eqb (edge w (raise c)) low)
        (λ t. true_T (eq-eqb (edge w (raise c)) low (ap (edge w) (sym e) ∙ edge_is w p low x m h (omega (arith, ltb→lt (x - low) w t)))))
        (λ t. lt→ltb (x - low) w (omega (arith, e, edge_above w p (raise c), eqb→eq (edge w (raise c)) low t)))

    pub holds_below : x < low → leb low x ≡ eqb (edge w (raise c)) low
    holds_below h = both_ways (leb low x) (eqb (edge w (raise c)) low)
        (λ t. absurd (omega (arith, h, leb→le low x t)))
        (λ t. le→leb low x (omega (arith, e, edge_le w p (raise c), eqb→eq (edge w (raise c)) low t)))

-- ---- an array of four
pub four_below : (n a b c d : ℕ) → a < n → b < n → c < n → d < n → Below n (a ∷ b ∷ c ∷ d ∷ [])
four_below n a b c d h k l m x (inl e) = omega arith
four_below n a b c d h k l m x (inr (inl e)) = omega arith
four_below n a b c d h k l m x (inr (inr (inl e))) = omega arith
four_below n a b c d h k l m x (inr (inr (inr (inl e)))) = omega arith
four_below n a b c d h k l m x (inr (inr (inr (inr e)))) = absurd e

-- edges of counts, and zeros after them
module _ (w down : ℕ) where
  edge_small : (c : ℤ) → Count c → edge w (raise c - down) < 65536
  edge_small (pos n) h = omega arith
  edge_small (negsuc n) h = omega arith

  edges_small : (f : Frame) → Counts f → Below 65536 (edges_of w down f)
  edges_small [] h x i = absurd i
  edges_small (c ∷ f) h x (inl e) = let k : edge w (raise c - down) < 65536 = edge_small c (h 0 (omega arith)) in omega arith
  edges_small (c ∷ f) h x (inr i) = edges_small f (λ k l. h (suc k) (omega arith)) x i

  zeros : (k n x : ℕ) → In x (drop k (replicate n 0)) → x ≡ 0
  zeros k zero x i = absurd (none k i)
    where
      none : (k : ℕ) → In x (drop k []) → ⊥
      none zero i = i
      none (suc k) i = i
  zeros zero (suc n) x (inl e) = e
  zeros zero (suc n) x (inr i) = zeros zero n x i
  zeros (suc k) (suc n) x i = zeros k n x i

  pub edges_below : (f : Frame) → Counts f → Below 65536 (over (replicate 4 0) 0 (edges_of w down f))
  edges_below f h x i = elim (in_append x (edges_of w down f) (drop (0 + length (edges_of w down f)) (replicate 4 0)) i) [
    | inl j ↦ edges_small f h x j
    | inr j ↦ omega (arith, zeros (0 + length (edges_of w down f)) 4 x j)
  ]

-- the keys of the channels from 1 on
later : (w : ℕ) (f : Frame) → drop 1 (key_of w f) ≡ key_of w (drop 1 f)
later w [] = refl
later w (c ∷ f) = refl

-- ---- a frame channel by channel, from channel k on
module _ (w : ℕ) (es : List ℕ) (f : Frame) where
  -- the row in which it lies itself
  abbrev pub own_from : ℕ → ℕ
  own_from k = own_block w (drop k es) (drop k f)

  -- channel k before those from k + 1 on
  pub own_next : (k : ℕ) {x r : ℕ} → 1 < k → k ≤ length es → k ≤ length f → Count (get_or f (k - 1) (pos 0)) → r ≡ own_from k → x ≡ second w (get_or es (k - 1) 0) (to_z w16 (of_z w16 (get_or f (k - 1) (pos 0)))) → 2 * r + x ≡ own_from (k - 1)
  own_next k p h l b e q =
      let d : suc (k - 1) ≡ k = omega arith in
      let n = ap₂ (own_block w) (drop-cons es (k - 1) 0 (omega arith)) (drop-cons f (k - 1) (pos 0) (omega arith)) in
      omega (arith, e, q, n, ap own_from d, ap (second w (get_or es (k - 1) 0)) (read (get_or f (k - 1) (pos 0)) b))

  pub own_few : (k : ℕ) → own_from k < 2 ^ (length f - k)
  own_few k = omega (arith, own_below w (drop k es) (drop k f), ap (λ (d : ℕ). 2 ^ d) (length-drop k f))

  pub own_end : own_from (length f) ≡ 0
  own_end = ap (own_block w (drop (length f) es)) (drop_of_length-le f (omega arith)) ∙ none (drop (length f) es)
    where
      none : (l : List ℕ) → own_block w l [] ≡ 0
      none [] = refl
      none (e ∷ l) = refl

  -- compared with row m
  module _ (m : ℕ) where
    abbrev L : List ℕ
    L = shifted w (take (length f - 1) (drop 1 es)) m

    abbrev pub same_from : ℕ → Bool
    same_from k = same_nats (drop k (key_of w f)) (drop k (0 ∷ shifted w (take (length f - 1) (drop 1 es)) m))

    module _ (four : length f ≤ length es) (some : 0 < length f) where
      low_long : length (0 ∷ L) ≡ length f
      low_long = omega (arith, shifted_length w (take (length f - 1) (drop 1 es)) m, length-take-le (length f - 1) (drop 1 es) (omega (arith, length-drop 1 es)))

      low_at : (k : ℕ) → 0 < k → k < length f → get_or (0 ∷ L) k 0 ≡ get_or es k 0 + w * (m / 2 ^ (k - 1) % 2)
      low_at zero p h = absurd (omega arith)
      low_at (suc k) p h =
          let a : 1 + k ≡ suc k = omega arith in
          let b : k ≡ suc k - 1 = omega arith in
          shifted_at w (take (length f - 1) (drop 1 es)) m k (omega (arith, low_long, shifted_length w (take (length f - 1) (drop 1 es)) m))
          ∙ ap (λ (x : ℕ). x + w * (m / 2 ^ k % 2)) (get_or-take (length f - 1) (drop 1 es) k 0 (omega arith) ∙ get_or-drop 1 es k 0)
          ∙ ap₂ (λ (x y : ℕ). get_or es x 0 + w * (m / 2 ^ y % 2)) a b

      pub same_next : (k : ℕ) {j : ℕ} {t : Bool} → 0 < k → k < length f → Count (get_or f k (pos 0)) → t ≡ eqb (edge w (raise (to_z w16 (of_z w16 (get_or f k (pos 0)))))) (get_or es k 0 + w * (m / 2 ^ j % 2)) → j ≡ k - 1 → same_from k ≡ t && same_from (k + 1)
      same_next k {j} {t} p h b q e =
          let d : suc k ≡ k + 1 = omega arith in
          ap₂ same_nats (drop-cons (key_of w f) k 0 (omega (arith, h, length-map f (λ c. edge w (raise c))))) (drop-cons (0 ∷ L) k 0 (omega (arith, h, low_long)))
          ∙ ap₂ (λ (x y : ℕ). eqb x y && same_from (suc k)) (at_map (λ c. edge w (raise c)) (pos 0) 0 f k h ∙ ap (λ (z : ℤ). edge w (raise z)) (sym (read (get_or f k (pos 0)) b))) (low_at k p h ∙ ap (λ (x : ℕ). get_or es k 0 + w * (m / 2 ^ x % 2)) (sym e))
          ∙ ap₂ (λ (t : Bool) (j : ℕ). t && same_from j) (sym q) d

      pub all_same : (k : ℕ) {t : Bool} → length f ≤ k → t ≡ true → t ≡ same_from k
      all_same k h u =
          let a : length (key_of w f) ≤ k = omega (arith, h, length-map f (λ c. edge w (raise c))) in
          let b : length (0 ∷ L) ≤ k = omega (arith, h, low_long) in
          u ∙ ap₂ same_nats (sym (drop_of_length-le (key_of w f) a)) (sym (drop_of_length-le (0 ∷ L) b))

      -- past the last
      pub same_past : (k : ℕ) → length f ≤ k → same_from (k + 1) ≡ same_from k
      same_past k h = sym (all_same (k + 1) (omega arith) refl) ∙ all_same k h refl

    -- channel k differs
    pub one_differs : (k : ℕ) {t u : Bool} → same_from k ≡ t && same_from (k + 1) → t ≡ false → u ≡ false → u ≡ same_from k
    one_differs k n e z = z ∙ sym (n ∙ ap (λ (t : Bool). t && same_from (k + 1)) e)

    pub same_first : same_from 1 ≡ same_nats (key_of w (drop 1 f)) (shifted w (take (length f - 1) (drop 1 es)) m)
    same_first = ap (λ (l : List ℕ). same_nats l L) (later w f)

-- ---- the counts of a frame
module _ {ps : List ℤ} {v : ValidParams} {n : ℕ} (r : Ready ps v n) (i : ℕ) (h : i < n) where
  abbrev F : Frame
  F = frame v (frames_in n v.channels ps) i

  pub long : length (frame v (frames_in n v.channels ps) i) ≡ v.channels
  long = frame_length n v.channels ps i r.room h

  -- its edges
  module _ (w down : ℕ) where
    pub edges_long : length (edges_of w down (frame v (frames_in n v.channels ps) i)) ≡ v.channels
    edges_long = length-map F (λ c. edge w (raise c - down)) ∙ long

    -- in an array of four
    pub row_long : length (over (replicate 4 0) 0 (edges_of w down (frame v (frames_in n v.channels ps) i))) ≡ 4
    row_long = over_length (replicate 4 0) 0 (edges_of w down F) (omega (arith, edges_long, r.settings.scale.most))

  -- ---- the bucket of its block
  module _ (w size : ℕ) {low : List ℕ} {x : ℕ} (e : low ≡ over (replicate 4 0) 0 (edges_of w 0 (frame v (frames_in n v.channels ps) i))) (q : x ≡ row_hash (drop 1 low)) (p : 0 < w) where
    -- in the array the edges of the channels that are not used are 0
    edges_get : (k : ℕ) → get_or low k 0 ≡ get_or (key_of w F) k 0
    edges_get k = ap (λ (l : List ℕ). get_or l k 0) e ∙ array_at (edges_of w 0 F) k (omega (arith, edges_long w 0, r.settings.scale.most)) ∙ ap (λ (l : List ℕ). get_or l k 0) (keys F)
      where
        keys : (f : Frame) → edges_of w 0 f ≡ key_of w f
        keys [] = refl
        keys (c ∷ f) = ap₂ (λ (x : ℕ) (l : List ℕ). edge w x ∷ l) (sub-zero (raise c)) (keys f)

    key_hash : x ≡ row_hash (key_of w (drop 1 F))
    unfolding row_hash
    key_hash = q ∙ ap₂ (λ (x : ℕ) (y : ℕ). x + y) (ap₂ (λ (x y : ℕ). spread (x + 1) + spread (y + 65537)) (at 0) (at 1)) (ap (λ (x : ℕ). spread (x + 131073)) (at 2))
      where
        at : (k : ℕ) → get_or (drop 1 low) k 0 ≡ get_or (key_of w (drop 1 F)) k 0
        at k = get_or-drop 1 low k 0 ∙ edges_get (1 + k) ∙ sym (get_or-drop 1 (key_of w F) k 0) ∙ ap (λ (l : List ℕ). get_or l k 0) (later w F)

    pub key_bucket : {b : ℕ} → b ≡ bucket_at size x (get_or low 0 0 / w) → b ≡ bucket_of w size (frame v (frames_in n v.channels ps) i)
    unfolding bucket_of
    key_bucket s = s ∙ ap₂ (bucket_at size) key_hash (ap (λ (z : ℕ). z / w) (edges_get 0 ∙ at_map (λ c. edge w (raise c)) (pos 0) 0 F 0 (omega (arith, long, r.settings.scale.some))) ∙ edge_div w p (raise (get_or F 0 (pos 0))))
