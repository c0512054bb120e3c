-- The words of a run cut in parts, for the time in which it is told which frames are core: the cells before 4n, from 10n on the n words in which they are told, and the sorted frames from 14n on.
use mathlib.Core.Path.{◌≡◌, sym, ap, ap₂, subst, ◌∙◌}
use mathlib.Core.List.{List, ◌++◌}
use Prim.Native.Nat.{ℕ, ◌+◌, ◌-◌, ◌*◌, ◌≤◌}
use native.Mathlib.Omega.{arith}
use lib.ListN.{length, take, drop, replicate}
use Rattle.std.proofs.Math.Seq.{drop-drop, take-take}
use Rattle.std.proofs.lemmas.List.{length-take-le}
use Rattle.lists.specs.Words.{over, part, Clear}
use Rattle.lists.specs.Sorting.{Sorted}
use Rattle.lists.proofs.WordLaws.{put_over}
use Rattle.lists.proofs.PartLaws.{part_part, clear_part}
use Rattle.lists.proofs.Parts.{over_front}
use Rattle.counting_tree.specs.Geometry.{Geometry}
use Rattle.cells_grid.specs.Arrangement.{Arranged}
use Rattle.cells_grid.proofs.ArrangementLaws.{arranged_front}

module _ (h : List ℕ) (n : ℕ) (fit : 24 * n ≤ length h) where
  -- the sorted frames, where they stand among all the words
  module _ (size : ℕ) (room : 10 * n ≤ size) where
    in_words : (b m : ℕ) → b + m ≤ 10 * n → part (take size (drop (14 * n) h)) b m ≡ part h (14 * n + b) m
    in_words b m l = part_part h (14 * n) size b m (omega arith)

    pub sorted_words : {key : ℕ → ℕ} → Sorted key n (8 * n) (16 * n) (14 * n) h → Sorted key n (8 * n) (2 * n) 0 (take size (drop (14 * n) h))
    sorted_words S =
        let a : 14 * n + 0 ≡ 14 * n = omega arith in
        let b : 14 * n + 2 * n ≡ 16 * n = omega arith in
        record {
          numbers = in_words 0 n (omega arith) ∙ ap (λ (x : ℕ). part h x n) a ∙ S.numbers;
          ends = in_words (2 * n) (8 * n) (omega arith) ∙ ap (λ (x : ℕ). part h x (8 * n)) b ∙ S.ends;
        }

  -- the cells
  module _ (low cells : List ℕ) (el : low ≡ take (10 * n) h) (ec : cells ≡ take (4 * n) low) where
    pub cells_arranged : {g : Geometry} {k : ℕ} → g.frames ≡ n → Arranged g k h → Arranged g k cells
    cells_arranged {g} {k} e A = subst (Arranged g k) (sym (ec ∙ ap (take (4 * n)) el ∙ take-take (4 * n) (10 * n) h (omega arith))) (arranged_front g (4 * n) (omega (arith, e)) A)

    pub low_long : length low ≡ 10 * n
    low_long = ap length el ∙ length-take-le (10 * n) h (omega arith)

  module _ (high : List ℕ) (eh : high ≡ drop (10 * n) h) where
    -- the words in which it is told
    pub told_clear : (told : List ℕ) → told ≡ take n high → Clear h (10 * n) n → told ≡ replicate n 0
    told_clear told et z =
        et ∙ ap (take n) eh ∙ clear_part h (10 * n) n (omega arith) z

    -- the sorted frames
    module _ (rest : List ℕ) (er : rest ≡ drop n high) where
      pub sorted_slice : {key : ℕ → ℕ} → Sorted key n (8 * n) (16 * n) (14 * n) h → Sorted key n (8 * n) (2 * n) 0 (take (13 * n - 3 * n) (drop (3 * n) rest))
      sorted_slice {key} S =
          let z : 10 * n + (n + 3 * n) ≡ 14 * n = omega arith in
          subst (λ (x : List ℕ). Sorted key n (8 * n) (2 * n) 0 (take (13 * n - 3 * n) x))
          (sym (ap (drop (3 * n)) (er ∙ ap (drop n) eh) ∙ drop-drop (3 * n) n (drop (10 * n) h) ∙ drop-drop (n + 3 * n) (10 * n) h ∙ ap (λ (x : ℕ). drop x h) z))
          (sorted_words (13 * n - 3 * n) (omega arith) S)

-- put together again, with which frames are core laid after the cells
pub put_together : (h low high cells cores told rest : List ℕ) (n : ℕ) → length low ≡ 10 * n → h ≡ low ++ high → high ≡ told ++ rest → cells ≡ take (4 * n) low → cores ≡ drop (4 * n) low
    → {us zs : List ℕ} (D : List ℕ) → length D ≡ n → us ≡ D → zs ≡ told → (cells ++ (us ++ drop n cores)) ++ (zs ++ rest) ≡ over h (4 * n) D
put_together h low high cells cores told rest n l el eh ec eb D d eu ez =
    ap₂ (λ (x y : List ℕ). x ++ y)
    (ap₂ (λ (x y : List ℕ). x ++ y) ec (ap₂ (λ (x y : List ℕ). x ++ drop n y) eu eb) ∙ put_over low (4 * n) n D d)
    (ap (λ (x : List ℕ). x ++ rest) ez ∙ sym eh)
    ∙ over_front low high (4 * n) D (omega (arith, l, d))
    ∙ ap (λ (x : List ℕ). over x (4 * n) D) (sym el)
