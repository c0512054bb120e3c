-- Laws of the buckets of cells, and of numbers in words: buckets are in range, frames have the same numbers exactly if they are of one cell, and what is written is read again.
use Rattle.std.specs.Prelude.{◌≡◌, Bool, true, false, ◌&&◌, ℕ, ◌+◌, ◌*◌, ◌%◌, ◌/◌, ◌^◌, ◌<◌, ◌≤◌, ℤ, pos, negsuc, eqb, replicate}
use Rattle.std.proofs.Math.Path.{refl, ap, subst}
use Rattle.std.proofs.Common.{sym, ap₂, ◌∙◌, arith, mod-lt, mod-eq_of_lt, div-add-mod', add-zero, ext_get_or, get_or-take, eq-eqb, ne_eqb}
use Rattle.std.proofs.Math.Bool.{and-true}
use mathlib.Core.List.{List, [], ◌∷◌, map}
use Rattle.std.specs.Int.Signed.{mag}
use Rattle.std.proofs.Math.Dec.{T}
use Rattle.std.proofs.Math.ListN.{length, get_or, length-map}
use Rattle.lists.specs.ListLaws.{both_ways, at_map}
use Rattle.lists.specs.Words.{over}
use Rattle.lists.proofs.WordLaws.{over_length, over_next}
use Rattle.lists.specs.Buckets.{hashes, hash_of}
use Rattle.lists.proofs.BucketLaws.{hash_below, bucket_below}
use Rattle.hyperparams.specs.declared.ValidParams.{ValidParams}
use Rattle.counting_tree.specs.Frames.{Frame, frames_in}
use Rattle.counting_tree.specs.FramesIn.{frames_length, frame_length}
use Rattle.counting_tree.specs.Grid.{side_at, index, indexes}
use Rattle.counting_tree.specs.Indexes.{indexes_length, placed_first, ready_side}
use Rattle.counting_tree.specs.IndexBound.{index_small}
use Rattle.counting_tree.specs.Domain.{Counts}
use Rattle.counting_tree.specs.Geometry.{geometry_of, frame, side}
use Rattle.counting_tree.specs.Arrays.{placed}
use Rattle.counting_tree.specs.Ready.{geometry_at, Ready, ready_domain}
use Rattle.counting_tree.specs.Sound.{same_indexes, indexes_same, count_small}
use Rattle.cells_grid.specs.Cells.{same_cell}
use Rattle.blocks.specs.Blocks.{same_nats}
use Rattle.blocks.specs.BlockLaws.{same_nats_lem, nats_same}
use Rattle.cells_grid.specs.Hashing.{natural, naturals, frame_bucket, two_words, number_at, numbers_at}

pub natural_below : (x : ℤ) → natural x < hashes
unfolding natural
natural_below (pos a) = omega (arith, mod-lt a {m = 2147483648} (omega arith))
natural_below (negsuc a) = omega (arith, mod-lt a {m = 2147483648} (omega arith))

module _ (v : ValidParams) (n : ℕ) (ps : List ℤ) where
  pub frame_bucket_below : (i : ℕ) → 0 < n → frame_bucket v n ps i < n
  unfolding frame_bucket
  frame_bucket_below i h = bucket_below n (hash_of (naturals v n ps i)) (hash_below 0 (naturals v n ps i) (omega arith)) h

  pub same_cell_naturals : (i j : ℕ) → T (same_cell (geometry_at v n ps) i j) → naturals v n ps i ≡ naturals v n ps j
  unfolding naturals geometry_of side
  same_cell_naturals i j t = ap (λ (z : List ℤ). map natural (placed z)) (same_indexes v (frames_in n v.channels ps) 0 i j t)

-- four numbers, also where there are fewer channels
module _ {ps : List ℤ} {v : ValidParams} {n : ℕ} (r : Ready ps v n) (i : ℕ) (h : i < n) where
  abbrev at : List ℤ
  at = indexes (side_at v.channels v.tolerance 0) (frame v (frames_in n v.channels ps) i)

  pub at_length : length (indexes (side_at v.channels v.tolerance 0) (frame v (frames_in n v.channels ps) i)) ≡ v.channels
  at_length = indexes_length (side_at v.channels v.tolerance 0) (frame v (frames_in n v.channels ps) i) ∙ frame_length n v.channels ps i r.room h

  pub naturals_length : length (naturals v n ps i) ≡ 4
  unfolding naturals placed
  naturals_length = length-map (placed at) natural ∙ over_length (replicate 4 (pos 0)) 0 at (omega (arith, at_length, r.settings.scale.most))

-- ---- no two indexes are one number
natural_one : (x y : ℤ) → mag x < 2 ^ 31 → mag y < 2 ^ 31 → natural x ≡ natural y → x ≡ y
unfolding natural
natural_one (pos a) (pos b) h k e = ap pos (omega (arith, mod-eq_of_lt {n = a} {m = 2147483648} h, mod-eq_of_lt {n = b} {m = 2147483648} k))
natural_one (pos a) (negsuc b) h k e = absurd (omega (arith, mod-eq_of_lt {n = a} {m = 2147483648} h, mod-eq_of_lt {n = b} {m = 2147483648} k))
natural_one (negsuc a) (pos b) h k e = absurd (omega (arith, mod-eq_of_lt {n = a} {m = 2147483648} h, mod-eq_of_lt {n = b} {m = 2147483648} k))
natural_one (negsuc a) (negsuc b) h k e = ap negsuc (omega (arith, mod-eq_of_lt {n = a} {m = 2147483648} h, mod-eq_of_lt {n = b} {m = 2147483648} k))

module _ {ps : List ℤ} {v : ValidParams} {n : ℕ} (r : Ready ps v n) (counts : Counts ps) where
  abbrev fs : List Frame
  fs = frames_in n v.channels ps

  abbrev indexes_of : ℕ → List ℤ
  indexes_of i = indexes (side_at v.channels v.tolerance 0) (frame v fs i)

  -- the indexes of counts are small enough
  small : (i k : ℕ) → i < n → k < v.channels → mag (get_or (indexes_of i) k (pos 0)) < 2 ^ 31
  unfolding indexes
  small i k h l =
      let m : k < length (frame v fs i) = omega (arith, frame_length n v.channels ps i r.room h) in
      let D = ready_domain r counts in
      subst (λ (z : ℤ). mag z < 2 ^ 31) (sym (at_map (index (side_at v.channels v.tolerance 0)) (pos 0) (pos 0) (frame v fs i) k m))
      (index_small (side_at v.channels v.tolerance 0) (get_or (frame v fs i) k (pos 0)) (ready_side r 0 (side_at v.channels v.tolerance 0) refl (omega arith))
      (count_small (get_or (frame v fs i) k (pos 0)) (D.counts i (omega (arith, frames_length n v.channels ps)) k m)))

  -- a channel's number
  number : (i k : ℕ) → i < n → k < v.channels → get_or (naturals v n ps i) k 0 ≡ natural (get_or (indexes_of i) k (pos 0))
  unfolding naturals
  number i k h l =
      at_map natural (pos 0) 0 (placed (indexes_of i)) k (omega (arith, naturals_length r i h, length-map (placed (indexes_of i)) natural, r.settings.scale.most))
      ∙ ap natural (sym (get_or-take v.channels (placed (indexes_of i)) k (pos 0) l) ∙ ap (λ (z : List ℤ). get_or z k (pos 0)) (placed_first v.channels (indexes_of i) (at_length r i h)))

  same_at_lem : (i j : ℕ) → i < n → j < n → naturals v n ps i ≡ naturals v n ps j → indexes_of i ≡ indexes_of j
  same_at_lem i j h k e = ext_get_or (pos 0) (indexes_of i) (indexes_of j) (at_length r i h ∙ sym (at_length r j k)) (λ q l.
      let m : q < v.channels = omega (arith, at_length r i h) in
      natural_one (get_or (indexes_of i) q (pos 0)) (get_or (indexes_of j) q (pos 0)) (small i q h m) (small j q k m)
      (sym (number i q h m) ∙ ap (λ (z : List ℕ). get_or z q 0) e ∙ number j q k m))

  -- frames have the same numbers exactly if they are of one cell
  pub same_naturals : (i j : ℕ) → i < n → j < n → same_nats (naturals v n ps j) (naturals v n ps i) ≡ same_cell (geometry_at v n ps) i j
  unfolding geometry_of side
  same_naturals i j h k = both_ways (same_nats (naturals v n ps j) (naturals v n ps i)) (same_cell (geometry_at v n ps) i j)
      (λ t. indexes_same v fs 0 i j (same_at_lem i j h k (sym (same_nats_lem (naturals v n ps j) (naturals v n ps i) t))))
      (λ t. subst (λ (z : List ℕ). T (same_nats (naturals v n ps j) z)) (sym (same_cell_naturals v n ps i j t)) (nats_same (naturals v n ps j)))

-- ---- a list of four
pub four : {A : Type 0} (d : A) (l : List A) → length l ≡ 4 → l ≡ get_or l 0 d ∷ get_or l 1 d ∷ get_or l 2 d ∷ get_or l 3 d ∷ []
four d [] e = absurd (omega arith)
four d (x ∷ []) e = absurd (omega arith)
four d (x ∷ y ∷ []) e = absurd (omega arith)
four d (x ∷ y ∷ z ∷ []) e = absurd (omega arith)
four d (x ∷ y ∷ z ∷ u ∷ []) e = refl
four d (x ∷ y ∷ z ∷ u ∷ t ∷ l) e = absurd (omega arith)

-- ---- numbers in words
pub two_words_length : (xs : List ℕ) → length (two_words xs) ≡ 2 * length xs
two_words_length [] = refl
two_words_length (x ∷ xs) = omega (arith, two_words_length xs)

both : (x : ℕ) → x % 65536 + 65536 * (x / 65536) ≡ x
both x = omega (arith, div-add-mod' x 65536)

pub numbers_written : (of : List ℕ) → length of ≡ 4 → numbers_at (two_words of) 0 ≡ of
numbers_written of e = ap (λ (l : List ℕ). numbers_at (two_words l) 0) (four 0 of e) ∙ go (get_or of 0 0) (get_or of 1 0) (get_or of 2 0) (get_or of 3 0) ∙ sym (four 0 of e)
  where
    go : (a b c d : ℕ) → numbers_at (two_words (a ∷ b ∷ c ∷ d ∷ [])) 0 ≡ a ∷ b ∷ c ∷ d ∷ []
    go a b c d =
        let p : number_at (two_words (a ∷ b ∷ c ∷ d ∷ [])) 0 ≡ a = both a in
        let q : number_at (two_words (a ∷ b ∷ c ∷ d ∷ [])) 2 ≡ b = both b in
        let r : number_at (two_words (a ∷ b ∷ c ∷ d ∷ [])) 4 ≡ c = both c in
        let s : number_at (two_words (a ∷ b ∷ c ∷ d ∷ [])) 6 ≡ d = both d in
        cc

-- the same eight words elsewhere are the same numbers
pub numbers_moved : (u w : List ℕ) (a b : ℕ) → ((j : ℕ) → j < 8 → get_or u (a + j) 0 ≡ get_or w (b + j) 0) → numbers_at u a ≡ numbers_at w b
numbers_moved u w a b h =
    let p : number_at u a ≡ number_at w b = sym (ap (number_at u) (add-zero a)) ∙ at 0 (omega arith) ∙ ap (number_at w) (add-zero b) in
    let q = at 2 (omega arith) in
    let r = at 4 (omega arith) in
    let s = at 6 (omega arith) in
    cc
  where
    at : (m : ℕ) → m + 1 < 8 → number_at u (a + m) ≡ number_at w (b + m)
    at m l =
        let e : a + m + 1 ≡ a + (m + 1) = omega arith in
        let f : b + (m + 1) ≡ b + m + 1 = omega arith in
        ap₂ (λ (x y : ℕ). x + 65536 * y) (h m (omega arith)) (ap (λ (i : ℕ). get_or u i 0) e ∙ h (m + 1) l ∙ ap (λ (i : ℕ). get_or w i 0) f)

module _ (w : List ℕ) (at : ℕ) (of : List ℕ) (l : length of ≡ 4) where
  -- written one after the other, as the program does
  pub four_written : at + 8 ≤ length w → {w₁ w₂ w₃ w₄ : List ℕ} → w₁ ≡ over w at (two_words (get_or of 0 0 ∷ [])) → w₂ ≡ over w₁ (at + 2) (two_words (get_or of 1 0 ∷ []))
      → w₃ ≡ over w₂ (at + 4) (two_words (get_or of 2 0 ∷ [])) → w₄ ≡ over w₃ (at + 6) (two_words (get_or of 3 0 ∷ [])) → w₄ ≡ over w at (two_words of)
  four_written h e₁ e₂ e₃ e₄ =
      e₄ ∙ ap (λ (z : List ℕ). over z (at + 6) (two_words (get_or of 3 0 ∷ []))) (e₃ ∙ ap (λ (z : List ℕ). over z (at + 4) (two_words (get_or of 2 0 ∷ []))) (e₂ ∙ ap (λ (z : List ℕ). over z (at + 2) (two_words (get_or of 1 0 ∷ []))) e₁
      ∙ over_next w at (at + 2) (two_words (get_or of 0 0 ∷ [])) (two_words (get_or of 1 0 ∷ [])) refl (omega arith))
      ∙ over_next w at (at + 4) (two_words (get_or of 0 0 ∷ get_or of 1 0 ∷ [])) (two_words (get_or of 2 0 ∷ [])) refl (omega arith))
      ∙ over_next w at (at + 6) (two_words (get_or of 0 0 ∷ get_or of 1 0 ∷ get_or of 2 0 ∷ [])) (two_words (get_or of 3 0 ∷ [])) refl (omega arith)
      ∙ ap (λ (z : List ℕ). over w at (two_words z)) (sym (four 0 of l))

  -- read one after the other: the first that differs settles it
  by_tests : (p q r s : Bool) → eqb (number_at w at) (get_or of 0 0) ≡ p → eqb (number_at w (at + 2)) (get_or of 1 0) ≡ q → eqb (number_at w (at + 4)) (get_or of 2 0) ≡ r → eqb (number_at w (at + 6)) (get_or of 3 0) ≡ s
      → p && (q && (r && s)) ≡ same_nats (numbers_at w at) of
  by_tests p q r s a b c d = sym (ap (same_nats (numbers_at w at)) (four 0 of l) ∙ ap₂ ◌&&◌ a (ap₂ ◌&&◌ b (ap₂ ◌&&◌ c (ap (λ (t : Bool). t && true) d ∙ and-true s))))

  same : {x a b : ℕ} → x ≡ a → x ≡ b → eqb a b ≡ true
  same {x} {a} {b} e f = eq-eqb a b (sym e ∙ f)

  other : {x a b : ℕ} → x ≡ a → (x ≡ b → ⊥) → eqb a b ≡ false
  other {x} {a} {b} e f = ne_eqb a b (λ q. f (e ∙ q))

  module _ {x : ℕ} (e : x ≡ number_at w at) where
    pub differs_0 : (x ≡ get_or of 0 0 → ⊥) → false ≡ same_nats (numbers_at w at) of
    differs_0 f = by_tests false (eqb (number_at w (at + 2)) (get_or of 1 0)) (eqb (number_at w (at + 4)) (get_or of 2 0)) (eqb (number_at w (at + 6)) (get_or of 3 0)) (other e f) refl refl refl

    module _ (f : x ≡ get_or of 0 0) {y : ℕ} (e₁ : y ≡ number_at w (at + 2)) where
      pub differs_1 : (y ≡ get_or of 1 0 → ⊥) → false ≡ same_nats (numbers_at w at) of
      differs_1 f₁ = by_tests true false (eqb (number_at w (at + 4)) (get_or of 2 0)) (eqb (number_at w (at + 6)) (get_or of 3 0)) (same e f) (other e₁ f₁) refl refl

      module _ (f₁ : y ≡ get_or of 1 0) {z : ℕ} (e₂ : z ≡ number_at w (at + 4)) where
        pub differs_2 : (z ≡ get_or of 2 0 → ⊥) → false ≡ same_nats (numbers_at w at) of
        differs_2 f₂ = by_tests true true false (eqb (number_at w (at + 6)) (get_or of 3 0)) (same e f) (same e₁ f₁) (other e₂ f₂) refl

        pub settled_3 : z ≡ get_or of 2 0 → {u : ℕ} → u ≡ number_at w (at + 6) → eqb u (get_or of 3 0) ≡ same_nats (numbers_at w at) of
        settled_3 f₂ {u} e₃ = by_tests true true true (eqb u (get_or of 3 0)) (same e f) (same e₁ f₁) (same e₂ f₂) (ap (λ (m : ℕ). eqb m (get_or of 3 0)) (sym e₃))
