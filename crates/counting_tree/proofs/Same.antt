-- The indexes of a lent frame: as they stand in an array, and one channel more of their comparison with an array.
use mathlib.Core.Path.{◌≡◌, refl, sym, ap, ◌∙◌}
use mathlib.Core.Bool.{Bool, true, false, ◌&&◌}
use mathlib.Core.List.{List}
use Prim.Native.Nat.{ℕ, ◌+◌, ◌^◌, ◌≤◌, ◌<◌}
use native.Mathlib.Numerals.{add-one}
use native.Mathlib.Omega.{arith}
use lib.IntN.{ℤ, pos}
use lib.Signed.{mag}
use lib.ListN.{length, get_or, take, drop, drop_of_length-le}
use lib.Seq.{drop-cons, get_or-take, length-take-le}
use lib.Ieee.{Float}
use mir.Syntax.{w16, w64}
use mir.Val.{to_z, of_z}
use mir.Facts.{to_z-of_z}
use Rattle.lists.specs.ListLaws.{T_true, T_false, at_map}
use Rattle.counting_tree.specs.Grid.{index, indexes}
use Rattle.counting_tree.specs.Geometry.{same_int, same_ints}
use Rattle.counting_tree.specs.Sound.{same_int_lem, int_same}
use Rattle.counting_tree.specs.Indexes.{indexes_length}
use Rattle.counting_tree.specs.Domain.{Count}
use Rattle.counting_tree.proofs.Counts.{read}

-- the channels from k on
abbrev pub same_rest : ℕ → List ℤ → List ℤ → ℕ → Bool
same_rest n a y k = same_ints (drop k (take n a)) (drop k y)

module _ (n : ℕ) (a y : List ℤ) (la : n ≤ length a) (ly : length y ≡ n) where
  split : (k : ℕ) → k < n → same_rest n a y k ≡ same_int (get_or a k (pos 0)) (get_or y k (pos 0)) && same_rest n a y (k + 1)
  split k h =
      let i : k < length (take n a) = omega (arith, length-take-le n a la) in
      let j : k < length y = omega arith in
      rw (add-one, drop-cons (take n a) k (pos 0) i, drop-cons y k (pos 0) j, get_or-take n a k (pos 0) h)

  same_step : (k : ℕ) → k < n → get_or a k (pos 0) ≡ get_or y k (pos 0) → same_rest n a y (k + 1) ≡ same_rest n a y k
  same_step k h e = sym (split k h ∙ ap (λ (t : Bool). t && same_rest n a y (k + 1)) (ap (same_int (get_or a k (pos 0))) (sym e) ∙ T_true _ (int_same (get_or a k (pos 0)))))

  same_stop : (k : ℕ) → k < n → (get_or a k (pos 0) ≡ get_or y k (pos 0) → ⊥) → false ≡ same_rest n a y k
  same_stop k h e = sym (split k h ∙ ap (λ (t : Bool). t && same_rest n a y (k + 1)) (T_false (same_int (get_or a k (pos 0)) (get_or y k (pos 0))) (λ t. e (same_int_lem (get_or a k (pos 0)) (get_or y k (pos 0)) t))))

  same_done : (k : ℕ) → n ≤ k → true ≡ same_rest n a y k
  same_done k h =
      let i : length (take n a) ≤ k = omega (arith, length-take-le n a la) in
      let j : length y ≤ k = omega arith in
      rw (drop_of_length-le (take n a) i, drop_of_length-le y j)

-- the index x of count k of a frame of n counts, against an array of indexes
module _ (n : ℕ) (side : Float) (at xs : List ℤ) (few : n ≤ 4) (long : length at ≡ 4) (counts : length xs ≡ n) (k : ℕ) where
  ys_length : length (indexes side xs) ≡ n
  ys_length = indexes_length side xs ∙ counts

  module _ (b : k < n) (g : Count (get_or xs k (pos 0))) (x : ℤ) (f : x ≡ index side (to_z w16 (of_z w16 (get_or xs k (pos 0))))) (gx : mag x < 2 ^ 63) (ga : mag (get_or at k (pos 0)) < 2 ^ 63) where
    here : x ≡ get_or (indexes side xs) k (pos 0)
    unfolding indexes
    here = f ∙ ap (index side) (read (get_or xs k (pos 0)) g) ∙ sym (at_map (index side) (pos 0) (pos 0) xs k (omega arith))

    bits_same : of_z w64 x ≡ of_z w64 (get_or at k (pos 0)) → get_or at k (pos 0) ≡ get_or (indexes side xs) k (pos 0)
    bits_same q = sym (to_z-of_z {w = w64} (record { sfits = ga })) ∙ ap (to_z w64) (sym q) ∙ to_z-of_z {w = w64} (record { sfits = gx }) ∙ here

    -- z has the bits of the index k of `at`
    pub agrees : {z : ℕ} → of_z w64 x ≡ z → z ≡ of_z w64 (get_or at k (pos 0)) → same_rest n at (indexes side xs) (k + 1) ≡ same_rest n at (indexes side xs) k
    agrees q e = same_step n at (indexes side xs) (omega arith) ys_length k b (bits_same (q ∙ e))

    pub differs : {z : ℕ} {t : Bool} → (of_z w64 x ≡ z → ⊥) → z ≡ of_z w64 (get_or at k (pos 0)) → t ≡ false → t ≡ same_rest n at (indexes side xs) k
    differs q e r = r ∙ same_stop n at (indexes side xs) (omega arith) ys_length k b (λ i. q (ap (of_z w64) (here ∙ sym i) ∙ sym e))

  -- no channel is left
  pub all_agree : {t : Bool} → n ≤ k → t ≡ true → t ≡ same_rest n at (indexes side xs) k
  all_agree q e = e ∙ same_done n at (indexes side xs) (omega arith) ys_length k q

  -- a channel that is not used
  pub agrees_past : n ≤ k → same_rest n at (indexes side xs) (k + 1) ≡ same_rest n at (indexes side xs) k
  agrees_past q = sym (same_done n at (indexes side xs) (omega arith) ys_length (k + 1) (omega arith)) ∙ all_agree q refl
