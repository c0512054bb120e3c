-- Laws of words laid over others: length, words again over the same place, next to it or apart from it, one word more.
-- `◌++◌` groups to the left.
use Rattle.std.specs.Prelude.{◌≡◌, refl, List, [], ◌∷◌, ◌++◌, ℕ, suc, ◌+◌, ◌<◌, ◌≤◌, length, take, drop, get_or, set, replicate}
use Rattle.std.proofs.Common.{sym, ap, ap₂, subst, ◌∙◌, inl, inr, append_assoc, append-nil, arith, add-zero, zero-add, add-one, length-set, length-append, length-drop, take-append-drop, drop-drop, drop_at, take_at, drop-cons, length-take-le, take-suc}
use Rattle.std.proofs.lemmas.List.{set_at, set-append_left}
use Rattle.std.proofs.Math.Seq.{drop-length}
use Rattle.lists.specs.Words.{over, part, Apart}

module _ {A : Type 0} where
  -- words in the place of as many
  pub over_at : (P us vs R : List A) (a : ℕ) → length P ≡ a → length vs ≡ length us → over (P ++ us ++ R) a vs ≡ P ++ vs ++ R
  over_at P us vs R a e f =
      ap₂ (λ (p r : List A). p ++ vs ++ r)
      (ap (take a) (append_assoc P us R) ∙ take_at P (us ++ R) a e)
      (drop_at (P ++ us) R (a + length vs) (length-append P us ∙ omega arith))

  -- the words from a on: n of them, and the others
  pub drop_part : (xs : List A) (a n : ℕ) → drop a xs ≡ part xs a n ++ drop (a + n) xs
  drop_part xs a n = sym (take-append-drop n (drop a xs)) ∙ ap (λ (r : List A). part xs a n ++ r) (drop-drop n a xs)

  -- a list, cut in three
  pub three : (xs : List A) (a n : ℕ) → xs ≡ take a xs ++ part xs a n ++ drop (a + n) xs
  three xs a n = sym (take-append-drop a xs) ∙ ap (λ (r : List A). take a xs ++ r) (drop_part xs a n) ∙ sym (append_assoc (take a xs) (part xs a n) (drop (a + n) xs))

  -- how long the words up to the end of what is laid are
  pub front_length : (xs : List A) (a : ℕ) (ws : List A) → a ≤ length xs → length (take a xs ++ ws) ≡ a + length ws
  front_length xs a ws h = length-append (take a xs) ws ∙ omega (arith, length-take-le a xs h)

  pub over_length : (xs : List A) (a : ℕ) (ws : List A) → a + length ws ≤ length xs → length (over xs a ws) ≡ length xs
  over_length xs a ws h = length-append (take a xs ++ ws) (drop (a + length ws) xs) ∙ omega (arith, front_length xs a ws (omega arith), length-drop (a + length ws) xs)

  pub over_nil : (xs : List A) (a : ℕ) → over xs a [] ≡ xs
  over_nil xs a = rw (append-nil, add-zero) (take-append-drop a xs)

  -- all words laid anew
  pub over_all : (xs ws : List A) → length ws ≡ length xs → over xs 0 ws ≡ ws
  over_all xs ws e =
      let m : 0 + length ws ≡ length xs = omega arith in
      rw (m, drop-length) (append-nil ws)

  -- words laid over the same words
  pub over_self : (xs : List A) (a n : ℕ) (ws : List A) → part xs a n ≡ ws → a + n ≤ length xs → over xs a ws ≡ xs
  over_self xs a n ws e h =
      let l : length ws ≡ n = ap length (sym e) ∙ length-take-le n (drop a xs) (omega (arith, length-drop a xs)) in
      rw (l, ← e) (sym (three xs a n))

  -- ---- over what was laid: its front
  pub over_front : (xs : List A) (a : ℕ) (us vs ws : List A) → a ≤ length xs → length ws ≡ length us → over (over xs a (us ++ vs)) a ws ≡ over xs a (ws ++ vs)
  over_front xs a us vs ws h e =
      let D : ℕ → List A = λ m. drop (a + m) xs in
      let l : length (us ++ vs) ≡ length (ws ++ vs) = simp length-append (omega arith) in
      ap (λ (z : List A). over z a ws) (ap (λ (z : List A). z ++ D (length (us ++ vs))) (sym (append_assoc (take a xs) us vs)) ∙ append_assoc (take a xs ++ us) vs (D (length (us ++ vs))))
      ∙ over_at (take a xs) us ws (vs ++ D (length (us ++ vs))) a (length-take-le a xs h) e
      ∙ sym (append_assoc (take a xs ++ ws) vs (D (length (us ++ vs))))
      ∙ ap₂ (λ (z : List A) (m : ℕ). z ++ D m) (append_assoc (take a xs) ws vs) l

  -- its back
  pub over_back : (xs : List A) (a b : ℕ) (us vs ws : List A) → a ≤ length xs → b ≡ a + length us → length ws ≡ length vs → over (over xs a (us ++ vs)) b ws ≡ over xs a (us ++ ws)
  over_back xs a b us vs ws h p e =
      let D : ℕ → List A = λ m. drop (a + m) xs in
      let l : length (us ++ vs) ≡ length (us ++ ws) = simp length-append (omega arith) in
      ap (λ (z : List A). over (z ++ D (length (us ++ vs))) b ws) (sym (append_assoc (take a xs) us vs))
      ∙ over_at (take a xs ++ us) vs ws (D (length (us ++ vs))) b (front_length xs a us h ∙ sym p) e
      ∙ ap₂ (λ (z : List A) (m : ℕ). z ++ D m) (append_assoc (take a xs) us ws) l

  -- all of it
  pub over_again : (xs : List A) (a : ℕ) (us ws : List A) → a ≤ length xs → length ws ≡ length us → over (over xs a us) a ws ≡ over xs a ws
  over_again xs a us ws h e =
      over_at (take a xs) us ws (drop (a + length us) xs) a (length-take-le a xs h) e
      ∙ ap (λ (m : ℕ). take a xs ++ ws ++ drop (a + m) xs) (sym e)

  -- ---- words after words
  pub over_next : (xs : List A) (a b : ℕ) (us vs : List A) → b ≡ a + length us → b + length vs ≤ length xs → over (over xs a us) b vs ≡ over xs a (us ++ vs)
  over_next xs a b us vs p h =
      let n : ℕ = length vs in
      let m : ℕ = a + length us in
      let k : m + n ≡ a + length (us ++ vs) = omega (arith, length-append us vs) in
      let l : length (part xs m n) ≡ n = length-take-le n (drop m xs) (omega (arith, length-drop m xs)) in
      ap (λ (z : List A). over (take a xs ++ us ++ z) b vs) (drop_part xs m n)
      ∙ ap (λ (z : List A). over z b vs) (sym (append_assoc (take a xs ++ us) (part xs m n) (drop (m + n) xs)))
      ∙ over_at (take a xs ++ us) (part xs m n) vs (drop (m + n) xs) b (front_length xs a us (omega arith) ∙ sym p) (sym l)
      ∙ ap₂ (λ (z : List A) (k : ℕ). z ++ drop k xs) (append_assoc (take a xs) us vs) k

  apart : (P U M W R us vs : List A) (a b : ℕ) → length P ≡ a → length us ≡ length U → length (P ++ U ++ M) ≡ b → length vs ≡ length W
      → over (over (P ++ U ++ M ++ W ++ R) a us) b vs ≡ over (over (P ++ U ++ M ++ W ++ R) b vs) a us
  apart P U M W R us vs a b la lu lb lv =
      let r : P ++ U ++ M ++ W ++ R ≡ P ++ U ++ (M ++ W ++ R) = simp append_assoc in
      let r' : P ++ us ++ (M ++ W ++ R) ≡ P ++ us ++ M ++ W ++ R = simp append_assoc in
      let q : P ++ U ++ M ++ vs ++ R ≡ P ++ U ++ (M ++ vs ++ R) = simp append_assoc in
      let q' : P ++ us ++ M ++ vs ++ R ≡ P ++ us ++ (M ++ vs ++ R) = simp append_assoc in
      let lb' : length (P ++ us ++ M) ≡ b = simp length-append (omega (arith, simp length-append at lb)) in
      ap (λ (z : List A). over z b vs) (ap (λ (z : List A). over z a us) r ∙ over_at P U us (M ++ W ++ R) a la lu ∙ r')
      ∙ over_at (P ++ us ++ M) W vs R b lb' lv
      ∙ q'
      ∙ sym (over_at P U us (M ++ vs ++ R) a la lu)
      ∙ sym (ap (λ (z : List A). over z a us) (over_at (P ++ U ++ M) W vs R b lb lv ∙ q))

  -- what lies apart can be laid in either order
  pub over_apart : (xs : List A) (a b : ℕ) (us vs : List A) → a + length us ≤ b → b + length vs ≤ length xs → over (over xs a us) b vs ≡ over (over xs b vs) a us
  over_apart xs a b us vs g h =
      let t : List A = take b xs in
      let m : ℕ = length us in
      let n : ℕ = length vs in
      let l : length t ≡ b = length-take-le b xs (omega arith) in
      let e : xs ≡ take a t ++ part t a m ++ drop (a + m) t ++ part xs b n ++ drop (b + n) xs =
      three xs b n ∙ ap (λ (z : List A). z ++ part xs b n ++ drop (b + n) xs) (three t a m) in
      subst (λ (z : List A). over (over z a us) b vs ≡ over (over z b vs) a us) (sym e)
      (apart (take a t) (part t a m) (drop (a + m) t) (part xs b n) (drop (b + n) xs) us vs a b
      (length-take-le a t (omega arith))
      (sym (length-take-le m (drop a t) (omega (arith, length-drop a t))))
      (ap length (sym (three t a m)) ∙ l)
      (sym (length-take-le n (drop b xs) (omega (arith, length-drop b xs)))))

  pub over_swap : (xs : List A) (a b : ℕ) (us vs : List A) {m k : ℕ} → Apart a m b k → length us ≤ m → length vs ≤ k → a + length us ≤ length xs → b + length vs ≤ length xs
      → over (over xs a us) b vs ≡ over (over xs b vs) a us
  over_swap xs a b us vs (inl l) p q g h = over_apart xs a b us vs (omega arith) h
  over_swap xs a b us vs (inr l) p q g h = sym (over_apart xs b a vs us (omega arith) g)

  -- words before words
  pub over_before : (xs : List A) (a b : ℕ) (us vs : List A) → b ≡ a + length us → b + length vs ≤ length xs → over (over xs b vs) a us ≡ over xs a (us ++ vs)
  over_before xs a b us vs p h = sym (over_apart xs a b us vs (omega arith) h) ∙ over_next xs a b us vs p h

  -- words after those of two regions
  pub over_grow : (w : List A) (a b i j : ℕ) (us vs xs ys : List A) → i ≡ a + length us → j ≡ b + length vs → i + length xs ≤ b → j + length ys ≤ length w
      → over (over (over (over w a us) b vs) i xs) j ys ≡ over (over w a (us ++ xs)) b (vs ++ ys)
  over_grow w a b i j us vs xs ys p q h k =
      let l : length (over w a us) ≡ length w = over_length w a us (omega arith) in
      let m : length (over w a (us ++ xs)) ≡ length w = over_length w a (us ++ xs) (omega (arith, length-append us xs)) in
      ap (λ (z : List A). over z j ys) (sym (over_apart (over w a us) i b xs vs h (omega arith)) ∙ ap (λ (z : List A). over z b vs) (over_next w a i us xs p (omega arith)))
      ∙ over_next (over w a (us ++ xs)) b j vs ys q (omega arith)

  -- ---- one word more
  pub over_snoc : (xs : List A) (a i : ℕ) (ws : List A) (x : A) → i ≡ a + length ws → i < length xs → set (over xs a ws) i x ≡ over xs a (ws ++ (x ∷ []))
  over_snoc xs a i ws x p h =
      let m : ℕ = a + length ws in
      let k : suc m ≡ a + length (ws ++ (x ∷ [])) = omega (arith, length-append ws (x ∷ [])) in
      ap (λ (z : List A). set (take a xs ++ ws ++ z) i x) (drop-cons xs m x (omega arith))
      ∙ set_at (take a xs ++ ws) (get_or xs m x) (drop (suc m) xs) x i (front_length xs a ws (omega arith) ∙ sym p)
      ∙ sym (append_assoc (take a xs ++ ws) (x ∷ []) (drop (suc m) xs))
      ∙ ap₂ (λ (z : List A) (k : ℕ). z ++ drop k xs) (append_assoc (take a xs) ws (x ∷ [])) k

  -- a store is one word laid
  pub set_over : (xs : List A) (a : ℕ) (x : A) → a < length xs → set xs a x ≡ over xs a (x ∷ [])
  set_over xs a x h = ap (λ (z : List A). set z a x) (sym (over_nil xs a)) ∙ over_snoc xs a a [] x (sym (add-zero a)) h

  pub set_after : (xs ys : List A) (j : ℕ) (x : A) → set (xs ++ ys) (length xs + j) x ≡ xs ++ set ys j x
  set_after [] ys j x = ap (λ (k : ℕ). set ys k x) (zero-add j)
  set_after (y ∷ xs) ys j x =
      let e : suc (length xs) + j ≡ suc (length xs + j) = omega arith in
      ap (λ (k : ℕ). set (y ∷ (xs ++ ys)) k x) e ∙ ap (λ (r : List A). y ∷ r) (set_after xs ys j x)

  -- a store into what was laid
  pub set_laid : (xs : List A) (a : ℕ) (us : List A) (j : ℕ) (x : A) → a ≤ length xs → j < length us → set (over xs a us) (a + j) x ≡ over xs a (set us j x)
  set_laid xs a us j x h k =
      let t : List A = take a xs in
      let e : a + j ≡ length t + j = omega (arith, length-take-le a xs h) in
      ap (λ (m : ℕ). set (over xs a us) m x) e
      ∙ set-append_left (t ++ us) (drop (a + length us) xs) (length t + j) x (omega (arith, length-append t us))
      ∙ ap₂ (λ (z : List A) (m : ℕ). z ++ drop (a + m) xs) (set_after t us j x) (sym (length-set us j x))

  -- two words, stored anywhere
  pub two_sets : (xs : List A) (a b : ℕ) (x y : A) → a < length xs → b < length xs → set (set xs a x) b y ≡ over (over xs a (x ∷ [])) b (y ∷ [])
  two_sets xs a b x y h k =
      ap (λ (z : List A). set z b y) (set_over xs a x h) ∙ set_over (over xs a (x ∷ [])) b y (omega (arith, over_length xs a (x ∷ []) (omega arith)))

  -- four words, stored one by one
  pub four_sets : (xs : List A) (at : ℕ) (a b c d : A) → at + 4 ≤ length xs → set (set (set (set xs at a) (at + 1) b) (at + 2) c) (at + 3) d ≡ over xs at (a ∷ b ∷ c ∷ d ∷ [])
  four_sets xs at a b c d h =
      ap (λ (z : List A). set (set (set z (at + 1) b) (at + 2) c) (at + 3) d) (set_over xs at a (omega arith))
      ∙ ap (λ (z : List A). set (set z (at + 2) c) (at + 3) d) (over_snoc xs at (at + 1) (a ∷ []) b refl (omega arith))
      ∙ ap (λ (z : List A). set z (at + 3) d) (over_snoc xs at (at + 2) (a ∷ b ∷ []) c refl (omega arith))
      ∙ over_snoc xs at (at + 3) (a ∷ b ∷ c ∷ []) d refl (omega arith)

  -- at most four words laid over four, with z after them
  pub four_over : (z : A) (ys : List A) (a b c d : A) → length ys ≤ 4 → a ≡ get_or ys 0 z → b ≡ get_or ys 1 z → c ≡ get_or ys 2 z → d ≡ get_or ys 3 z → a ∷ b ∷ c ∷ d ∷ [] ≡ over (replicate 4 z) 0 ys
  four_over z [] a b c d h e f g i = rw (e, f, g, i)
  four_over z (w ∷ []) a b c d h e f g i = rw (e, f, g, i)
  four_over z (w ∷ x ∷ []) a b c d h e f g i = rw (e, f, g, i)
  four_over z (w ∷ x ∷ y ∷ []) a b c d h e f g i = rw (e, f, g, i)
  four_over z (w ∷ x ∷ y ∷ u ∷ []) a b c d h e f g i = rw (e, f, g, i)
  four_over z (w ∷ x ∷ y ∷ u ∷ t ∷ l) a b c d h e f g i = absurd (omega arith)

  -- a part that was lent, and came back as ws
  pub put_over : (xs : List A) (a k : ℕ) (ws : List A) → length ws ≡ k → take a xs ++ (ws ++ drop k (drop a xs)) ≡ over xs a ws
  put_over xs a k ws e = rw (← e, drop-drop) (sym (append_assoc (take a xs) ws (drop (a + length ws) xs)))

-- the same words, laid from one place earlier
pub over_cons : (xs : List ℕ) (a : ℕ) (ws : List ℕ) → a < length xs → over xs (a + 1) ws ≡ over xs a (get_or xs a 0 ∷ ws)
over_cons xs a ws h =
    let e : a + 1 + length ws ≡ a + suc (length ws) = omega arith in
    ap₂ (λ (z : List ℕ) (k : ℕ). z ++ ws ++ drop k xs) (ap (λ (k : ℕ). take k xs) (add-one a) ∙ take-suc xs a 0 h) e
    ∙ ap (λ (z : List ℕ). z ++ drop (a + suc (length ws)) xs) (append_assoc (take a xs) (get_or xs a 0 ∷ []) ws)
