-- An array filled with what is made of each count of a frame: one count more, and all of them.
use mathlib.Core.Path.{◌≡◌, sym, ap, subst, ◌∙◌}
use mathlib.Core.List.{List, [], ◌∷◌, ◌++◌, map}
use Prim.Native.Nat.{ℕ, zero, suc, ◌+◌, ◌<◌}
use native.Mathlib.Decide.{ℕ_discrete}
use native.Mathlib.Omega.{arith}
use lib.IntN.{ℤ, pos}
use lib.ListN.{length, get_or, set, replicate, length-map, length-append, get_or-append}
use lib.Seq.{get_or-append_seam}
use Rattle.std.proofs.lemmas.List.{get_or-map}
use lib.Seq.{ext_get_or}
use Rattle.lists.specs.Words.{over}
use Rattle.lists.proofs.WordLaws.{over_nil, over_snoc}
use Rattle.counting_tree.specs.Frames.{Frame}
use Rattle.counting_tree.specs.Domain.{Count}
use Rattle.counting_tree.specs.Arrays.{Placed}

module _ {A : Type 0} {R : ℤ → A → Type 0} {frame : Frame} {z : A} where
  -- the same array, and as many counts
  pub placed_same : {row x : List A} {j k : ℕ} → x ≡ row → j ≡ k → Placed R frame z row j → Placed R frame z x k
  placed_same q e p = record { values = p.values; long = p.long ∙ e; each = λ i h. p.each i (omega arith); row_is = q ∙ p.row_is }

  pub placed_none : Placed R frame z (replicate 4 z) 0
  placed_none = record { values = []; long = omega arith; each = λ j h. absurd (omega arith); row_is = sym (over_nil (replicate 4 z) 0) }

  pub placed_more : {row : List A} {k : ℕ} → Placed R frame z row k → k < 4 → (x : A) → Count (get_or frame k (pos 0)) → R (get_or frame k (pos 0)) x → Placed R frame z (set row k x) (k + 1)
  placed_more {row} {k} p h x c r = record {
    values = p.values ++ (x ∷ []);
    long = omega (arith, length-append p.values (x ∷ []), p.long);
    each = λ j l. go j l (ℕ_discrete j k);
    row_is = ap (λ (y : List A). set y k x) p.row_is ∙ over_snoc (replicate 4 z) 0 k p.values x (omega (arith, p.long)) (omega arith);
  }
    where
      here : x ≡ get_or (p.values ++ (x ∷ [])) k z
      here = sym (ap (λ (m : ℕ). get_or (p.values ++ (x ∷ [])) m z) (sym p.long) ∙ get_or-append_seam p.values x [] z)

      go : (j : ℕ) → j < k + 1 → Dec (j ≡ k) → Count (get_or frame j (pos 0)) × R (get_or frame j (pos 0)) (get_or (p.values ++ (x ∷ [])) j z)
      go j l (yes e) = subst (λ (m : ℕ). Count (get_or frame m (pos 0)) × R (get_or frame m (pos 0)) (get_or (p.values ++ (x ∷ [])) m z)) (sym e) (c, subst (R (get_or frame k (pos 0))) here r)
      go j l (no e) =
          let q = p.each j (omega arith) in
          (q.0, subst (R (get_or frame j (pos 0))) (sym (get_or-append p.values (x ∷ []) z j (omega (arith, p.long)))) q.1)

  -- g of each count
  pub placed_map : {row : List A} → Placed R frame z row (length frame) → (g : ℤ → A) → ((c : ℤ) (x : A) → Count c → R c x → x ≡ g c) → row ≡ over (replicate 4 z) 0 (map g frame)
  placed_map p g e = p.row_is ∙ ap (over (replicate 4 z) 0) (ext_get_or z p.values (map g frame) (p.long ∙ sym (length-map frame g))
      (λ k h. let q = p.each k (omega (arith, p.long)) in e _ _ q.0 q.1 ∙ sym (get_or-map g frame k (pos 0) z (omega (arith, p.long)))))

-- an array of four that has the elements of another
pub four_alike : {A : Type 0} (z : A) {xs ys l : List A} → ys ≡ l → length ys ≡ 4 → length xs ≡ 4
    → get_or xs 0 z ≡ get_or ys 0 z → get_or xs 1 z ≡ get_or ys 1 z → get_or xs 2 z ≡ get_or ys 2 z → get_or xs 3 z ≡ get_or ys 3 z → xs ≡ l
four_alike {A} z {xs} {ys} e ly lx a b c d = ext_get_or z xs ys (lx ∙ sym ly) go ∙ e
  where
    go : (k : ℕ) → k < length xs → get_or xs k z ≡ get_or ys k z
    go zero h = a
    go (suc zero) h = b
    go (suc (suc zero)) h = c
    go (suc (suc (suc zero))) h = d
    go (suc (suc (suc (suc k)))) h = absurd (omega arith)
