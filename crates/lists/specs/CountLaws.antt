-- Laws of what is kept and lost, of how many pass a test, and of sums.
use Rattle.std.specs.Prelude.{◌≡◌, refl, Bool, true, false, not, ◌&&◌, cond, List, [], ◌∷◌, ◌++◌, map, ℕ, suc, ◌+◌, ◌*◌, ◌≤◌, ◌<◌, T, length}
use Rattle.std.proofs.Common.{sym, ap, ap₂, ◌∙◌, inl, inr, append_assoc, zero-le, suc-le-suc, le_refl, add-mul, mul-zero, mul-add, arith, length-append}
use Rattle.lists.specs.Lists.{keep, lose, how_many, total, concat, In}
use Rattle.lists.specs.ListLaws.{T_true, T_false, both_ways, and_right, and_both, lose_keep, keep_same, keep_more}

module _ {A : Type 0} where
  -- ---- what is kept, what is lost
  pub keep_append : (f : A → Bool) (xs ys : List A) → keep f (xs ++ ys) ≡ keep f xs ++ keep f ys
  keep_append f [] ys = refl
  keep_append f (x ∷ xs) ys = go (f x) (keep_append f xs ys)
    where
      go : (b : Bool) {l : List A} → l ≡ keep f xs ++ keep f ys → cond b (x ∷ l) l ≡ cond b (x ∷ keep f xs) (keep f xs) ++ keep f ys
      go true e = ap (λ (r : List A). x ∷ r) e
      go false e = e

  pub lose_append : (f : A → Bool) (xs ys : List A) → lose f (xs ++ ys) ≡ lose f xs ++ lose f ys
  lose_append f xs ys = simp lose_keep (keep_append (λ x. not (f x)) xs ys)

  -- each element is kept or lost
  pub parts_length : (f : A → Bool) (xs : List A) → length (keep f xs) + length (lose f xs) ≡ length xs
  parts_length f [] = refl
  parts_length f (x ∷ xs) = go (f x) (parts_length f xs)
    where
      go : (b : Bool) → length (keep f xs) + length (lose f xs) ≡ length xs → length (cond b (x ∷ keep f xs) (keep f xs)) + length (cond b (lose f xs) (x ∷ lose f xs)) ≡ suc (length xs)
      go true e = omega arith
      go false e = omega arith

  pub keep_le : (f : A → Bool) (xs : List A) → length (keep f xs) ≤ length xs
  keep_le f xs = omega (arith, parts_length f xs)

  pub lose_le : (f : A → Bool) (xs : List A) → length (lose f xs) ≤ length xs
  lose_le f xs = omega (arith, parts_length f xs)

  -- one test after the other
  pub keep_keep : (f g : A → Bool) (xs : List A) → keep f (keep g xs) ≡ keep (λ x. g x && f x) xs
  keep_keep f g [] = refl
  keep_keep f g (x ∷ xs) = go (g x) (keep_keep f g xs)
    where
      go : (b : Bool) {r : List A} → keep f (keep g xs) ≡ r → keep f (cond b (x ∷ keep g xs) (keep g xs)) ≡ cond (b && f x) (x ∷ r) r
      go true e = ap (λ (r : List A). cond (f x) (x ∷ r) r) e
      go false e = e

  -- a test after a wider one
  pub keep_within : (f g : A → Bool) (xs : List A) → ((x : A) → In x xs → T (f x) → T (g x)) → keep f (keep g xs) ≡ keep f xs
  keep_within f g xs h = keep_keep f g xs ∙ keep_same (λ x. g x && f x) f xs (λ x i. both_ways (g x && f x) (f x) (and_right (g x) (f x)) (λ t. and_both (g x) (f x) (h x i t) t))

  -- ---- how many
  pub how_many_cons : (f : A → Bool) (x : A) (xs : List A) → how_many f (x ∷ xs) ≡ cond (f x) 1 0 + how_many f xs
  how_many_cons f x xs = go (f x)
    where
      go : (b : Bool) → length (cond b (x ∷ keep f xs) (keep f xs)) ≡ cond b 1 0 + how_many f xs
      go true = omega arith
      go false = omega arith

  pub keep_none : (f : A → Bool) (xs : List A) → ((x : A) → In x xs → T (f x) → ⊥) → keep f xs ≡ []
  keep_none f [] h = refl
  keep_none f (x ∷ xs) h = rw (T_false (f x) (h x (inl refl))) (keep_none f xs (λ y i. h y (inr i)))

  pub keep_all : (f : A → Bool) (xs : List A) → ((x : A) → In x xs → T (f x)) → keep f xs ≡ xs
  keep_all f [] h = refl
  keep_all f (x ∷ xs) h = rw (T_true (f x) (h x (inl refl)), keep_all f xs (λ y i. h y (inr i)))

  -- a wider test that one element more passes keeps more
  pub keep_fewer : (f g : A → Bool) (x : A) (xs : List A) → ((y : A) → In y xs → T (f y) → T (g y)) → In x xs → (T (f x) → ⊥) → T (g x) → how_many f xs < how_many g xs
  keep_fewer f g x [] w i n t = absurd i
  keep_fewer f g x (y ∷ ys) w (inl e) n t = rw (T_false (f y) (rw e at n), T_true (g y) (rw e at t)) (suc-le-suc (keep_more f g ys (λ z i. w z (inr i))))
  keep_fewer f g x (y ∷ ys) w (inr i) n t = omega (arith, how_many_cons f y ys, how_many_cons g y ys, go (f y) (g y) (w y (inl refl)), keep_fewer f g x ys (λ z j. w z (inr j)) i n t)
    where
      go : (a b : Bool) → (T a → T b) → ◌≤◌ (cond a 1 0) (cond b 1 0)
      go true b h = rw (T_true b (h tt)) (le_refl 1)
      go false b h = zero-le

  -- ---- sums
  pub total_same : (f g : A → ℕ) (xs : List A) → ((x : A) → In x xs → f x ≡ g x) → total f xs ≡ total g xs
  total_same f g [] e = refl
  total_same f g (x ∷ xs) e = ap₂ ◌+◌ (e x (inl refl)) (total_same f g xs (λ y i. e y (inr i)))

  pub total_le : (f g : A → ℕ) (c : ℕ) (xs : List A) → ((x : A) → In x xs → f x ≤ g x * c) → total f xs ≤ total g xs * c
  total_le f g c [] h = zero-le
  total_le f g c (x ∷ xs) h = rw add-mul (omega (arith, h x (inl refl), total_le f g c xs (λ y i. h y (inr i))))

  pub total_plus : (f g h : A → ℕ) (xs : List A) → ((x : A) → f x ≡ g x + h x) → total f xs ≡ total g xs + total h xs
  total_plus f g h [] e = refl
  total_plus f g h (x ∷ xs) e = omega (arith, e x, total_plus f g h xs e)

  pub total_times : (c : ℕ) (f : A → ℕ) (xs : List A) → total (λ x. c * f x) xs ≡ c * total f xs
  total_times c f [] = sym (mul-zero c)
  total_times c f (x ∷ xs) = ap (λ (n : ℕ). c * f x + n) (total_times c f xs) ∙ sym (mul-add c (f x) (total f xs))

  pub total_zero : (xs : List A) → total (λ x. 0) xs ≡ 0
  total_zero [] = refl
  total_zero (x ∷ xs) = omega (arith, total_zero xs)

  pub total_bool : (f : A → Bool) (xs : List A) → total (λ x. cond (f x) 1 0) xs ≡ how_many f xs
  total_bool f [] = refl
  total_bool f (x ∷ xs) = omega (arith, how_many_cons f x xs, total_bool f xs)

  pub total_append : (f : A → ℕ) (xs ys : List A) → total f (xs ++ ys) ≡ total f xs + total f ys
  total_append f [] ys = omega arith
  total_append f (x ∷ xs) ys = omega (arith, total_append f xs ys)

  pub concat_append : (ss ts : List (List A)) → concat (ss ++ ts) ≡ concat ss ++ concat ts
  concat_append [] ts = refl
  concat_append (s ∷ ss) ts = ap (λ (r : List A). s ++ r) (concat_append ss ts) ∙ sym (append_assoc s (concat ss) (concat ts))

module _ {A B : Type 0} where
  pub keep_map : (f : B → Bool) (h : A → B) (xs : List A) → keep f (map h xs) ≡ map h (keep (λ x. f (h x)) xs)
  keep_map f h [] = refl
  keep_map f h (x ∷ xs) = go (f (h x)) (keep_map f h xs)
    where
      go : (b : Bool) {l : List B} → l ≡ map h (keep (λ y. f (h y)) xs) → cond b (h x ∷ l) l ≡ map h (cond b (x ∷ keep (λ y. f (h y)) xs) (keep (λ y. f (h y)) xs))
      go true e = ap (λ (r : List B). h x ∷ r) e
      go false e = e

  -- the pairs (c, x) that pass P, counted either way
  pub total_swap : (P : A → B → Bool) (cs : List A) (xs : List B) → total (λ c. how_many (P c) xs) cs ≡ total (λ x. how_many (λ c. P c x) cs) xs
  total_swap P cs [] = total_zero cs
  total_swap P cs (x ∷ xs) =
      total_plus (λ c. how_many (P c) (x ∷ xs)) (λ c. cond (P c x) 1 0) (λ c. how_many (P c) xs) cs (λ c. how_many_cons (P c) x xs)
      ∙ ap₂ ◌+◌ (total_bool (λ c. P c x) cs) (total_swap P cs xs)

  pub length_concat : (f : A → List B) (xs : List A) → length (concat (map f xs)) ≡ total (λ x. length (f x)) xs
  length_concat f [] = refl
  length_concat f (x ∷ xs) = length-append (f x) (concat (map f xs)) ∙ ap (λ (n : ℕ). length (f x) + n) (length_concat f xs)
