-- A slice that is cut in parts: what stands in a part, and the whole put together again once words are laid in a part.
use Rattle.std.specs.Prelude.{◌≡◌, List, ◌++◌, ℕ, ◌+◌, ◌≤◌, ◌<◌, length, take, drop, set}
use Rattle.std.proofs.Common.{sym, ap, ap₂, ◌∙◌, append_assoc, arith, zero-add, take-append-drop}
use Rattle.std.proofs.lemmas.List.{drop-append-le, take-append-le, set-append_left}
use Rattle.std.proofs.Math.Seq.{drop-append-add, take-append-add}
use Rattle.lists.specs.Words.{over, part}
use Rattle.lists.proofs.WordLaws.{over_length, set_after}
use Rattle.lists.proofs.PartLaws.{part_part}

module _ {A : Type 0} where
  -- words laid in the front of a list, and in its back
  pub over_front : (xs ys : List A) (a : ℕ) (ws : List A) → a + length ws ≤ length xs → over xs a ws ++ ys ≡ over (xs ++ ys) a ws
  over_front xs ys a ws h =
      append_assoc (take a xs ++ ws) (drop (a + length ws) xs) ys
      ∙ ap₂ (λ (p r : List A). p ++ ws ++ r) (sym (take-append-le a xs ys (omega arith))) (sym (drop-append-le (a + length ws) xs ys h))

  pub over_back : (xs ys : List A) (a b : ℕ) (ws : List A) → b ≡ length xs + a → xs ++ over ys a ws ≡ over (xs ++ ys) b ws
  over_back xs ys a b ws e =
      let d : b + length ws ≡ length xs + (a + length ws) = omega arith in
      sym (append_assoc xs (take a ys ++ ws) (drop (a + length ws) ys))
      ∙ ap (λ (z : List A). z ++ drop (a + length ws) ys) (sym (append_assoc xs (take a ys) ws))
      ∙ ap₂ (λ (p r : List A). p ++ ws ++ r)
      (sym (ap (λ (i : ℕ). take i (xs ++ ys)) e ∙ take-append-add xs ys a))
      (sym (ap (λ (i : ℕ). drop i (xs ++ ys)) d ∙ drop-append-add xs ys (a + length ws)))

  front_laid : (xs us : List A) → us ++ drop (length us) xs ≡ over xs 0 us
  front_laid xs us = ap (λ (m : ℕ). us ++ drop m xs) (sym (zero-add (length us)))

  -- words that are the same again
  pub put_same : (xs us : List A) (k : ℕ) → us ≡ take k xs → us ++ drop k xs ≡ xs
  put_same xs us k e = ap (λ (z : List A). z ++ drop k xs) e ∙ take-append-drop k xs

  -- words laid at the beginning of two parts, after the words N
  pub two_laid : (N S P us vs : List A) (a b s t : ℕ) → length us ≡ s → length vs ≡ t → a ≡ length N → b ≡ length N + length S → s ≤ length S
      → N ++ ((us ++ drop s S) ++ (vs ++ drop t P)) ≡ over (over (N ++ (S ++ P)) a us) b vs
  two_laid N S P us vs a b s t es et ea eb hs =
      let l : length (over S 0 us) ≡ length S = over_length S 0 us (omega arith) in
      ap₂ (λ (i j : ℕ). N ++ ((us ++ drop i S) ++ (vs ++ drop j P))) (sym es) (sym et)
      ∙ ap (λ (z : List A). N ++ z)
      (ap₂ (λ (x y : List A). x ++ y) (front_laid S us) (front_laid P vs)
      ∙ over_back (over S 0 us) P 0 (length S) vs (omega arith)
      ∙ ap (λ (z : List A). over z (length S) vs) (over_front S P 0 us (omega arith)))
      ∙ over_back N (over (S ++ P) 0 us) (length S) b vs eb
      ∙ ap (λ (z : List A). over z b vs) (over_back N (S ++ P) 0 a us (omega arith))

  -- one word stored in each of two parts after the words N
  pub two_stored : (N S P : List A) (a b i j : ℕ) (x y : A) → a ≡ length N + i → b ≡ length N + (length S + j) → i < length S
      → N ++ (set S i x ++ set P j y) ≡ set (set (N ++ (S ++ P)) b y) a x
  two_stored N S P a b i j x y ea eb h =
      ap (λ (z : List A). N ++ z) (sym (set-append_left S (set P j y) i x h) ∙ ap (λ (z : List A). set z i x) (sym (set_after S P j y)))
      ∙ sym (set_after N (set (S ++ P) (length S + j) y) i x)
      ∙ ap₂ (λ (z : List A) (k : ℕ). set z k x) (sym (set_after N (S ++ P) (length S + j) y)) (sym ea)
      ∙ ap (λ (k : ℕ). set (set (N ++ (S ++ P)) k y) a x) (sym eb)

  -- a part of the first m words
  pub part_front_of : (xs : List A) (m a n : ℕ) → a + n ≤ m → part (take m xs) a n ≡ part xs a n
  part_front_of xs m a n h = part_part xs 0 m a n h ∙ ap (λ (k : ℕ). part xs k n) (zero-add a)
