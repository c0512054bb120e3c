-- Laws of the words of a slice: a part of it, and what is read below, at and above what was laid.
use Rattle.std.specs.Prelude.{◌≡◌, ◌⊎◌, List, [], ◌∷◌, ◌++◌, map, ℕ, zero, suc, ◌+◌, ◌-◌, ◌<◌, ◌≤◌, length, take, drop, get_or, set, replicate}
use Rattle.std.proofs.Common.{sym, ap, ap₂, ◌∙◌, inl, inr, append_assoc, arith, le_refl, zero-add, add-one, length-set, length-drop, get_or-drop, get_or-take, drop-drop, drop_at, take_at, drop-cons, length-take-le, take-take, take-add, ext_get_or, get_or-set_same, get_or-set_other, drop-set-lt}
use Rattle.std.proofs.lemmas.List.{map-append, length-replicate, get_or-replicate, take-append-le, set-append_left}
use Rattle.std.proofs.Math.Decide.{ℕ_discrete}
use Rattle.std.proofs.Math.ListN.{get_or-append}
use Rattle.std.proofs.Math.Seq.{take-nil, slice, take-set-lt, drop-append-add, drop-append_seam}
use Rattle.lists.specs.Lists.{numbers, Below}
use Rattle.lists.specs.Words.{over, part, column, Clear, Apart}
use Rattle.lists.specs.ListLaws.{at_numbers, length_numbers}
use Rattle.lists.specs.OrderLaws.{numbers_snoc, below_at}
use Rattle.lists.proofs.WordLaws.{front_length, over_self, set_over}

module _ {A : Type 0} where
  pub part_length : (xs : List A) (a n : ℕ) → a + n ≤ length xs → length (part xs a n) ≡ n
  part_length xs a n h = length-take-le n (drop a xs) (omega (arith, length-drop a xs))

  -- words and then words
  pub part_add : (xs : List A) (a n m : ℕ) → part xs a (n + m) ≡ part xs a n ++ part xs (a + n) m
  part_add xs a n m = take-add n m (drop a xs) ∙ ap (λ (r : List A). part xs a n ++ take m r) (drop-drop n a xs)

  -- the words from a up to t
  pub slice_part : (xs : List A) (a t : ℕ) → slice a t xs ≡ part xs a (t - a)
  slice_part xs zero t = let e : t ≡ t - 0 = omega arith in ap (λ (k : ℕ). take k xs) e
  slice_part [] (suc a) t = ap (drop (suc a)) (take-nil t) ∙ sym (take-nil (t - suc a))
  slice_part (x ∷ xs) (suc a) zero = let e : 0 ≡ 0 - suc a = omega arith in ap (λ (k : ℕ). take k (drop a xs)) e
  slice_part (x ∷ xs) (suc a) (suc t) = let e : t - a ≡ suc t - suc a = omega arith in slice_part xs a t ∙ ap (λ (k : ℕ). take k (drop a xs)) e

  pub part_part : (xs : List A) (a n b m : ℕ) → b + m ≤ n → part (part xs a n) b m ≡ part xs (a + b) m
  part_part xs a n b m h = ap (take m) (slice_part (drop a xs) b n) ∙ take-take m (n - b) (drop b (drop a xs)) (omega arith) ∙ ap (take m) (drop-drop b a xs)

  -- ---- beside what was laid
  module _ (xs : List A) (b : ℕ) (ws : List A) (fit : b ≤ length xs) where
    lb : length (take b xs) ≡ b
    lb = length-take-le b xs fit

    pub take_under : (n : ℕ) → n ≤ b → take n (over xs b ws) ≡ take n xs
    take_under n h =
        take-append-le n (take b xs ++ ws) (drop (b + length ws) xs) (omega (arith, front_length xs b ws fit))
        ∙ take-append-le n (take b xs) ws (omega (arith, lb))
        ∙ take-take n b xs h

    pub drop_above : (n : ℕ) → b + length ws ≤ n → drop n (over xs b ws) ≡ drop n xs
    drop_above n h =
        let m : ℕ = n - (b + length ws) in
        let e : n ≡ length (take b xs ++ ws) + m = omega (arith, front_length xs b ws fit) in
        let f : b + length ws + m ≡ n = omega arith in
        ap (λ (k : ℕ). drop k (over xs b ws)) e ∙ drop-append-add (take b xs ++ ws) (drop (b + length ws) xs) m ∙ drop-drop m (b + length ws) xs ∙ ap (λ (k : ℕ). drop k xs) f

    pub drop_laid : drop b (over xs b ws) ≡ ws ++ drop (b + length ws) xs
    drop_laid = ap (drop b) (append_assoc (take b xs) ws (drop (b + length ws) xs)) ∙ drop_at (take b xs) (ws ++ drop (b + length ws) xs) b lb

    pub set_under : (i : ℕ) (x : A) → i < b → set (over xs b ws) i x ≡ over (set xs i x) b ws
    set_under i x h =
        set-append_left (take b xs ++ ws) (drop (b + length ws) xs) i x (omega (arith, front_length xs b ws fit))
        ∙ ap₂ (λ (y z : List A). y ++ z)
        (set-append_left (take b xs) ws i x (omega (arith, lb)) ∙ ap (λ (z : List A). z ++ ws) (sym (take-set-lt b xs i x h)))
        (sym (drop-set-lt (b + length ws) xs i x (omega arith)))

  -- words laid over all that was laid before
  pub over_cover : (xs : List A) (a b : ℕ) (us ws : List A) → b ≤ a → a + length us ≤ b + length ws → a ≤ length xs → over (over xs a us) b ws ≡ over xs b ws
  over_cover xs a b us ws p q h = ap₂ (λ (s t : List A). s ++ ws ++ t) (take_under xs a us h b p) (drop_above xs a us h (b + length ws) q)

  pub part_under : (xs : List A) (a n b : ℕ) (ws : List A) → a + n ≤ b → b ≤ length xs → part (over xs b ws) a n ≡ part xs a n
  part_under xs a n b ws h k = cut (over xs b ws) ∙ ap (drop a) (take_under xs b ws k (a + n) h) ∙ sym (cut xs)
    where
      cut : (ys : List A) → part ys a n ≡ drop a (take (a + n) ys)
      cut ys = let e : n ≡ a + n - a = omega arith in ap (part ys a) e ∙ sym (slice_part ys a (a + n))

  pub part_above : (xs : List A) (a n b : ℕ) (ws : List A) → b + length ws ≤ a → b ≤ length xs → part (over xs b ws) a n ≡ part xs a n
  part_above xs a n b ws h k = ap (take n) (drop_above xs b ws k a h)

  pub part_apart : (xs : List A) (a n b : ℕ) (ws : List A) {k : ℕ} → Apart a n b k → length ws ≤ k → b ≤ length xs → part (over xs b ws) a n ≡ part xs a n
  part_apart xs a n b ws (inl l) p h = part_under xs a n b ws l h
  part_apart xs a n b ws (inr l) p h = part_above xs a n b ws (omega arith) h

  -- ---- what was laid
  pub part_same : (xs : List A) (a n : ℕ) (ws : List A) → a ≤ length xs → length ws ≡ n → part (over xs a ws) a n ≡ ws
  part_same xs a n ws h e = ap (take n) (drop_laid xs a ws h) ∙ take_at ws (drop (a + length ws) xs) n e

  pub part_front : (xs : List A) (a n : ℕ) (us vs : List A) → a ≤ length xs → length us ≡ n → part (over xs a (us ++ vs)) a n ≡ us
  part_front xs a n us vs h e = ap (take n) (drop_laid xs a (us ++ vs) h ∙ append_assoc us vs (drop (a + length (us ++ vs)) xs)) ∙ take_at us (vs ++ drop (a + length (us ++ vs)) xs) n e

  pub part_back : (xs : List A) (a b n : ℕ) (us vs : List A) → a ≤ length xs → b ≡ a + length us → length vs ≡ n → part (over xs a (us ++ vs)) b n ≡ vs
  part_back xs a b n us vs h p e =
      let D : List A = drop (a + length (us ++ vs)) xs in
      ap (λ (k : ℕ). part (over xs a (us ++ vs)) k n) p
      ∙ ap (take n) (sym (drop-drop (length us) a (over xs a (us ++ vs))) ∙ ap (drop (length us)) (drop_laid xs a (us ++ vs) h ∙ append_assoc us vs D) ∙ drop-append_seam us (vs ++ D))
      ∙ take_at vs D n e

  -- ---- a store beside a part
  pub part_set : (xs : List A) (a n p : ℕ) (x : A) → p < length xs → (p < a) ⊎ (a + n ≤ p) → part (set xs p x) a n ≡ part xs a n
  part_set xs a n p x h (inl l) = ap (λ (z : List A). part z a n) (set_over xs p x h) ∙ part_above xs a n p (x ∷ []) (omega arith) (omega arith)
  part_set xs a n p x h (inr l) = ap (λ (z : List A). part z a n) (set_over xs p x h) ∙ part_under xs a n p (x ∷ []) l (omega arith)

  -- ---- columns
  pub column_snoc : (h : ℕ → A) (n : ℕ) → column h (n + 1) ≡ column h n ++ (h n ∷ [])
  column_snoc h n = ap (map h) (numbers_snoc n) ∙ map-append h (numbers n) (n ∷ [])

  pub column_replicate : (x : A) (n : ℕ) → column (λ i. x) n ≡ replicate n x
  column_replicate x n = ext_get_or x (column (λ i. x) n) (replicate n x) (length_numbers (λ i. x) n ∙ sym (length-replicate n x))
      (λ i h. let k : i < n = omega (arith, length_numbers (λ (j : ℕ). x) n) in at_numbers (λ j. x) x n i k ∙ sym (get_or-replicate n i x x k))

-- ---- words that are read
module _ (xs : List ℕ) (a i : ℕ) (ws : List ℕ) where
  pub get_under : i < a → a ≤ length xs → get_or (over xs a ws) i 0 ≡ get_or xs i 0
  get_under h k = sym (get_or-take a (over xs a ws) i 0 h) ∙ ap (λ (z : List ℕ). get_or z i 0) (take_under xs a ws k a (le_refl a)) ∙ get_or-take a xs i 0 h

  pub get_laid : i < length ws → a ≤ length xs → get_or (over xs a ws) (a + i) 0 ≡ get_or ws i 0
  get_laid h k = sym (get_or-drop a (over xs a ws) i 0) ∙ ap (λ (z : List ℕ). get_or z i 0) (drop_laid xs a ws k) ∙ get_or-append ws (drop (a + length ws) xs) 0 i h

  pub get_above : a + length ws ≤ i → a ≤ length xs → get_or (over xs a ws) i 0 ≡ get_or xs i 0
  get_above h k =
      let e : i ≡ i + 0 = omega arith in
      ap (λ (j : ℕ). get_or (over xs a ws) j 0) e
      ∙ sym (get_or-drop i (over xs a ws) 0 0)
      ∙ ap (λ (z : List ℕ). get_or z 0 0) (drop_above xs a ws k i h)
      ∙ get_or-drop i xs 0 0
      ∙ ap (λ (j : ℕ). get_or xs j 0) (sym e)

pub get_apart : (xs : List ℕ) (a n b : ℕ) (ws : List ℕ) {k : ℕ} → Apart a n b k → length ws ≤ k → b ≤ length xs → (i : ℕ) → i < n → get_or (over xs b ws) (a + i) 0 ≡ get_or xs (a + i) 0
get_apart xs a n b ws (inl l) p h i e = get_under xs b (a + i) ws (omega arith) h
get_apart xs a n b ws (inr l) p h i e = get_above xs b (a + i) ws (omega arith) h

pub part_at : (xs : List ℕ) (a n i : ℕ) → i < n → get_or (part xs a n) i 0 ≡ get_or xs (a + i) 0
part_at xs a n i h = get_or-take n (drop a xs) i 0 h ∙ get_or-drop a xs i 0

pub part_below : (n : ℕ) (xs : List ℕ) (a m i : ℕ) → Below n (part xs a m) → a + m ≤ length xs → i < m → get_or xs (a + i) 0 < n
part_below n xs a m i b h k = rw (part_at xs a m i k) at (below_at n (part xs a m) i b (omega (arith, part_length xs a m h)))

-- the first word of a part, and the others
pub part_first : (xs : List ℕ) (a n : ℕ) → a < length xs → part xs a (n + 1) ≡ get_or xs a 0 ∷ part xs (a + 1) n
part_first xs a n h = rw (add-one n, add-one a, drop-cons xs a 0)

-- what is left of it from place p on
pub part_step : (xs : List ℕ) (base end p : ℕ) → base + end ≤ length xs → p < end → part xs (base + p) (end - p) ≡ get_or xs (base + p) 0 ∷ part xs (base + (p + 1)) (end - (p + 1))
part_step xs base end p h l =
    let e : end - p ≡ end - (p + 1) + 1 = omega arith in
    let q : base + p + 1 ≡ base + (p + 1) = omega arith in
    ap (part xs (base + p)) e ∙ part_first xs (base + p) (end - (p + 1)) (omega arith) ∙ ap (λ (a : ℕ). get_or xs (base + p) 0 ∷ part xs a (end - (p + 1))) q

-- one word more
pub part_snoc : (xs : List ℕ) (a n : ℕ) → a + n < length xs → part xs a (n + 1) ≡ part xs a n ++ (get_or xs (a + n) 0 ∷ [])
part_snoc xs a n h = part_add xs a n 1 ∙ ap (λ (r : List ℕ). part xs a n ++ take 1 r) (drop-cons xs (a + n) 0 h)

-- the column of a part's words
pub column_part : (xs : List ℕ) (a n : ℕ) → a + n ≤ length xs → column (λ i. get_or xs (a + i) 0) n ≡ part xs a n
column_part xs a n h = ext_get_or 0 (column (λ i. get_or xs (a + i) 0) n) (part xs a n) (length_numbers (λ i. get_or xs (a + i) 0) n ∙ sym (part_length xs a n h))
    (λ i k. let j : i < n = omega (arith, length_numbers (λ i. get_or xs (a + i) 0) n) in at_numbers (λ i. get_or xs (a + i) 0) 0 n i j ∙ sym (part_at xs a n i j))

-- the column of all words of a list
pub column_whole : (xs : List ℕ) → column (λ i. get_or xs i 0) (length xs) ≡ xs
column_whole xs =
    let f : ℕ → ℕ = λ i. get_or xs i 0 in
    ext_get_or 0 (column f (length xs)) xs (length_numbers f (length xs)) (λ i k. at_numbers f 0 (length xs) i (omega (arith, length_numbers f (length xs))))

-- one entry of a column changes
pub column_set : (h k : ℕ → ℕ) (n c : ℕ) → c < n → ((d : ℕ) → d < n → (d ≡ c → ⊥) → h d ≡ k d) → set (column h n) c (k c) ≡ column k n
column_set h k n c l e = ext_get_or 0 (set (column h n) c (k c)) (column k n) (length-set (column h n) c (k c) ∙ length_numbers h n ∙ sym (length_numbers k n)) (λ d m. at d (omega (arith, length-set (column h n) c (k c), length_numbers h n)))
  where
    at : (d : ℕ) → d < n → get_or (set (column h n) c (k c)) d 0 ≡ get_or (column k n) d 0
    at d m = elim (ℕ_discrete d c) [
      | yes p ↦ ap (λ (j : ℕ). get_or (set (column h n) c (k c)) j 0) p ∙ get_or-set_same (column h n) c (k c) 0 (omega (arith, length_numbers h n)) ∙ sym (ap (λ (j : ℕ). get_or (column k n) j 0) p ∙ at_numbers k 0 n c l)
      | no p ↦ get_or-set_other (column h n) c d (k c) 0 p ∙ at_numbers h 0 n d m ∙ e d m p ∙ sym (at_numbers k 0 n d m)
    ]

-- a part that holds a column
pub holds_at : (xs : List ℕ) (a n : ℕ) (h : ℕ → ℕ) (i : ℕ) → part xs a n ≡ column h n → i < n → get_or xs (a + i) 0 ≡ h i
holds_at xs a n h i e k = sym (part_at xs a n i k) ∙ ap (λ (z : List ℕ). get_or z i 0) e ∙ at_numbers h 0 n i k

pub holds_at_0 : (xs : List ℕ) (n : ℕ) (h : ℕ → ℕ) (i : ℕ) → part xs 0 n ≡ column h n → i < n → get_or xs i 0 ≡ h i
holds_at_0 xs n h i e k = ap (λ (z : ℕ). get_or xs z 0) (sym (zero-add i)) ∙ holds_at xs 0 n h i e k

-- ---- words that are 0
pub clear_part : (xs : List ℕ) (a n : ℕ) → a + n ≤ length xs → Clear xs a n → part xs a n ≡ replicate n 0
clear_part xs a n h z = ext_get_or 0 (part xs a n) (replicate n 0) (part_length xs a n h ∙ sym (length-replicate {A = ℕ} n 0))
    (λ i g. let k : i < n = omega (arith, part_length xs a n h) in part_at xs a n i k ∙ z i k ∙ sym (get_or-replicate {A = ℕ} n i 0 0 k))

pub clear_over : (xs : List ℕ) (a n : ℕ) → a + n ≤ length xs → Clear xs a n → over xs a (replicate n 0) ≡ xs
clear_over xs a n h z = over_self xs a n (replicate n 0) (clear_part xs a n h z) h

pub clear_before : (xs : List ℕ) (a n b : ℕ) (ws : List ℕ) → b ≤ length xs → a + n ≤ b → Clear xs a n → Clear (over xs b ws) a n
clear_before xs a n b ws k h z i e = get_under xs b (a + i) ws (omega arith) k ∙ z i e

pub clear_after : (xs : List ℕ) (a n b : ℕ) (ws : List ℕ) → b ≤ length xs → b + length ws ≤ a → Clear xs a n → Clear (over xs b ws) a n
clear_after xs a n b ws k h z i e = get_above xs b (a + i) ws (omega arith) k ∙ z i e

pub clear_within : (xs : List ℕ) (a n b m : ℕ) → Clear xs a n → a ≤ b → b + m ≤ a + n → Clear xs b m
clear_within xs a n b m z h k i e =
    let p : b + i ≡ a + (b + i - a) = omega arith in
    ap (λ (j : ℕ). get_or xs j 0) p ∙ z (b + i - a) (omega arith)
