-- Laws of truth values and of lists: what is an element, what passes a test, the numbers.
use Rattle.std.specs.Prelude.{◌≡◌, refl, ◌⊎◌, ◌↔◌, Bool, true, false, not, ◌&&◌, ◌||◌, cond, List, [], ◌∷◌, ◌++◌, map, ℕ, zero, suc, ◌+◌, ◌≤◌, ◌<◌, T, eqb, length, get_or}
use Rattle.std.proofs.Common.{sym, ap, ap₂, ◌∙◌, subst, inl, inr, zero-le, suc-le-suc, le_trans, not-suc-le-zero, le_of_suc-le-suc, eq-or-lt_of_le, add-zero, zero-add, arith, eqb→eq}
use Rattle.std.proofs.Math.Bool.{not-not}
use Rattle.std.proofs.Math.Nat.{le-suc}
use Rattle.std.proofs.Math.Dec.{eqb-suc-zero, eqb_refl}
use Rattle.std.proofs.lemmas.List.{length-map}
use Rattle.lists.specs.Lists.{from, numbers, keep, lose, any, how_many, head_or, concat, In, holds, nonzero}

-- ---- truth values
pub true_T : {b : Bool} → b ≡ true → T b
true_T e = rw e tt

pub T_true : (b : Bool) → T b → b ≡ true
T_true true h = refl
T_true false h = absurd h

pub T_false : (b : Bool) → (T b → ⊥) → b ≡ false
T_false true h = absurd (h tt)
T_false false h = refl

pub not_turn : (a b : Bool) → not a ≡ b → a ≡ not b
not_turn a b e = sym (not-not a) ∙ ap not e

pub and_left : (a b : Bool) → T (a && b) → T a
and_left true b h = tt
and_left false b h = h

pub and_right : (a b : Bool) → T (a && b) → T b
and_right true b h = h
and_right false b h = absurd h

pub and_both : (a b : Bool) → T a → T b → T (a && b)
and_both true b h k = k
and_both false b h k = h

pub or_cases : (a b : Bool) → T (a || b) → T a ⊎ T b
or_cases true b h = inl tt
or_cases false b h = inr h

pub or_one : (a b : Bool) → T a → T (a || b)
or_one true b h = tt
or_one false b h = absurd h

pub or_two : (a b : Bool) → T b → T (a || b)
or_two true b h = tt
or_two false b h = h

pub both_ways : (a b : Bool) → (T a → T b) → (T b → T a) → a ≡ b
both_ways true b f g = sym (T_true b (f tt))
both_ways false b f g = sym (T_false b g)

pub T_or_not : (b : Bool) → T b ⊎ T (not b)
T_or_not true = inl tt
T_or_not false = inr tt

pub cond_true : {A : Type 0} (b : Bool) (x y : A) → T b → cond b x y ≡ x
cond_true true x y h = refl
cond_true false x y h = absurd h

pub cond_false : {A : Type 0} (b : Bool) (x y : A) → T (not b) → cond b x y ≡ y
cond_false true x y h = absurd h
cond_false false x y h = refl

-- a truth value as the word 1 or 0
pub bit_eqb : (b : Bool) → eqb (cond b 1 0) 1 ≡ b
bit_eqb true = refl
bit_eqb false = refl

pub nonzero_true : (n : ℕ) → (n ≡ 0 → ⊥) → nonzero n ≡ true
nonzero_true zero f = absurd (f refl)
nonzero_true (suc n) f = refl

pub nonzero_eqb : (n : ℕ) → not (eqb n 0) ≡ nonzero n
nonzero_eqb zero = refl
nonzero_eqb (suc n) = ap not (eqb-suc-zero n)

-- ---- what is an element
module _ {A : Type 0} where
  pub lose_keep : (f : A → Bool) (xs : List A) → lose f xs ≡ keep (λ x. not (f x)) xs
  lose_keep f [] = refl
  lose_keep f (x ∷ xs) = go (f x) (lose_keep f xs)
    where
      go : (b : Bool) {l k : List A} → l ≡ k → cond b l (x ∷ l) ≡ cond (not b) (x ∷ k) k
      go true e = e
      go false e = ap (λ (r : List A). x ∷ r) e

  pub keep_in : (f : A → Bool) (x : A) (xs : List A) → In x xs → T (f x) → In x (keep f xs)
  keep_in f x [] i h = i
  keep_in f x (y ∷ ys) (inl e) h = rw (T_true (f y) (rw e at h)) (inl e)
  keep_in f x (y ∷ ys) (inr i) h = go (f y) (keep_in f x ys i h)
    where
      go : (b : Bool) → In x (keep f ys) → In x (cond b (y ∷ keep f ys) (keep f ys))
      go true k = inr k
      go false k = k

  pub in_keep : (f : A → Bool) (x : A) (xs : List A) → In x (keep f xs) → In x xs × T (f x)
  in_keep f x [] i = absurd i
  in_keep f x (y ∷ ys) i = go (f y) refl (in_keep f x ys) i
    where
      head : f y ≡ true → In x (y ∷ keep f ys) → (In x (keep f ys) → In x ys × T (f x)) → In x (y ∷ ys) × T (f x)
      head e (inl p) r = (inl p, rw p (true_T e))
      head e (inr k) r = (inr (r k).0, (r k).1)

      go : (b : Bool) → f y ≡ b → (In x (keep f ys) → In x ys × T (f x)) → In x (cond b (y ∷ keep f ys) (keep f ys)) → In x (y ∷ ys) × T (f x)
      go true e r k = head e k r
      go false e r k = (inr (r k).0, (r k).1)

  pub lose_in : (f : A → Bool) (x : A) (xs : List A) → In x xs → T (not (f x)) → In x (lose f xs)
  lose_in f x xs i h = rw lose_keep (keep_in (λ y. not (f y)) x xs i h)

  pub in_lose : (f : A → Bool) (x : A) (xs : List A) → In x (lose f xs) → In x xs × T (not (f x))
  in_lose f x xs i = in_keep (λ y. not (f y)) x xs (rw lose_keep at i)

  pub any_in : (f : A → Bool) (x : A) (xs : List A) → In x xs → T (f x) → T (any f xs)
  any_in f x [] i h = absurd i
  any_in f x (y ∷ ys) (inl e) h = rw (T_true (f y) (rw e at h)) tt
  any_in f x (y ∷ ys) (inr i) h = go (f y) (any_in f x ys i h)
    where
      go : (b : Bool) → T (any f ys) → T (cond b true (any f ys))
      go true k = tt
      go false k = k

  pub in_any : (f : A → Bool) (xs : List A) → T (any f xs) → (x : A) × In x xs × T (f x)
  in_any f [] h = absurd h
  in_any f (y ∷ ys) h = go (f y) refl (in_any f ys) h
    where
      go : (b : Bool) → f y ≡ b → (T (any f ys) → (x : A) × In x ys × T (f x)) → T (cond b true (any f ys)) → (x : A) × In x (y ∷ ys) × T (f x)
      go true e r k = (y, inl refl, true_T e)
      go false e r k = let z = r k in (z.0, inr z.1, z.2)

  -- tests that agree, on lists with the same elements in any order
  pub any_shuffle : (f g : A → Bool) (xs ys : List A) → ((x : A) → In x xs → f x ≡ g x) → ((x : A) → In x xs ↔ In x ys) → any f xs ≡ any g ys
  any_shuffle f g xs ys e h = both_ways (any f xs) (any g ys)
      (λ t. let z = in_any f xs t in any_in g z.0 ys ((h z.0).0 z.1) (subst T (e z.0 z.1) z.2))
      (λ t. let z = in_any g ys t in let i = (h z.0).1 z.1 in any_in f z.0 xs i (subst T (sym (e z.0 i)) z.2))

  pub any_none : (f : A → Bool) (xs : List A) → ((x : A) → In x xs → T (f x) → ⊥) → any f xs ≡ false
  any_none f xs h = T_false (any f xs) (λ t. let z = in_any f xs t in h z.0 z.1 z.2)

  pub append_one : (x : A) (xs ys : List A) → In x xs → In x (xs ++ ys)
  append_one x [] ys i = absurd i
  append_one x (z ∷ xs) ys (inl e) = inl e
  append_one x (z ∷ xs) ys (inr i) = inr (append_one x xs ys i)

  pub append_two : (x : A) (xs ys : List A) → In x ys → In x (xs ++ ys)
  append_two x [] ys i = i
  append_two x (z ∷ xs) ys i = inr (append_two x xs ys i)

  pub in_append : (x : A) (xs ys : List A) → In x (xs ++ ys) → In x xs ⊎ In x ys
  in_append x [] ys i = inr i
  in_append x (z ∷ xs) ys (inl e) = inl (inl e)
  in_append x (z ∷ xs) ys (inr i) = elim (in_append x xs ys i) [ inl j ↦ inl (inr j) | inr j ↦ inr j ]

  pub concat_in : (x : A) (s : List A) (ss : List (List A)) → In s ss → In x s → In x (concat ss)
  concat_in x s [] i j = absurd i
  concat_in x s (r ∷ ss) (inl e) j = append_one x r (concat ss) (rw e at j)
  concat_in x s (r ∷ ss) (inr i) j = append_two x r (concat ss) (concat_in x s ss i j)

  pub in_concat : (x : A) (ss : List (List A)) → In x (concat ss) → (s : List A) × In s ss × In x s
  in_concat x [] i = absurd i
  in_concat x (r ∷ ss) i = go (in_append x r (concat ss) i) (in_concat x ss)
    where
      go : In x r ⊎ In x (concat ss) → (In x (concat ss) → (s : List A) × In s ss × In x s) → (s : List A) × In s (r ∷ ss) × In x s
      go (inl j) f = (r, inl refl, j)
      go (inr j) f = let z = f j in (z.0, inr z.1, z.2)

  pub concat_within : (x : A) (rs ss : List (List A)) → ((s : List A) → In s rs → In s ss) → In x (concat rs) → In x (concat ss)
  concat_within x rs ss h i = let z = in_concat x rs i in concat_in x z.0 ss (h z.0 z.1) z.2

  pub map_in : {B : Type 0} (f : A → B) (x : A) (xs : List A) → In x xs → In (f x) (map f xs)
  map_in f x [] i = i
  map_in f x (y ∷ ys) (inl e) = inl (ap f e)
  map_in f x (y ∷ ys) (inr i) = inr (map_in f x ys i)

  pub in_map : {B : Type 0} (f : A → B) (y : B) (xs : List A) → In y (map f xs) → (x : A) × In x xs × (y ≡ f x)
  in_map f y [] i = absurd i
  in_map f y (x ∷ xs) (inl e) = (x, inl refl, e)
  in_map f y (x ∷ xs) (inr i) = let z = in_map f y xs i in (z.0, inr z.1, z.2)

  pub map_same : {B : Type 0} (f h : A → B) (xs : List A) → ((x : A) → In x xs → f x ≡ h x) → map f xs ≡ map h xs
  map_same f h [] e = refl
  map_same f h (x ∷ xs) e = ap₂ ◌∷◌ (e x (inl refl)) (map_same f h xs (λ y i. e y (inr i)))

  pub at_in : (d : A) (xs : List A) (i : ℕ) → i < length xs → In (get_or xs i d) xs
  at_in d [] i h = absurd (not-suc-le-zero h)
  at_in d (x ∷ xs) zero h = inl refl
  at_in d (x ∷ xs) (suc i) h = inr (at_in d xs i (le_of_suc-le-suc h))

  pub in_nonzero : (x : A) (xs : List A) → In x xs → T (nonzero (length xs))
  in_nonzero x [] i = i
  in_nonzero x (y ∷ ys) i = tt

  pub in_some : (x : A) (xs : List A) → In x xs → 0 < length xs
  in_some x [] i = absurd i
  in_some x (y ∷ ys) i = omega arith

  pub some_in : (xs : List A) → T (nonzero (length xs)) → (x : A) × In x xs
  some_in [] h = absurd h
  some_in (x ∷ xs) h = (x, inl refl)

  -- tests that agree on the elements keep the same ones
  pub keep_same : (f g : A → Bool) (xs : List A) → ((x : A) → In x xs → f x ≡ g x) → keep f xs ≡ keep g xs
  keep_same f g [] h = refl
  keep_same f g (x ∷ xs) h = ap₂ (λ (b : Bool) (r : List A). cond b (x ∷ r) r) (h x (inl refl)) (keep_same f g xs (λ y i. h y (inr i)))

  -- a wider test keeps at least as many
  pub keep_more : (f g : A → Bool) (xs : List A) → ((x : A) → In x xs → T (f x) → T (g x)) → how_many f xs ≤ how_many g xs
  keep_more f g [] h = zero-le
  keep_more f g (x ∷ xs) h = go (f x) (g x) (h x (inl refl)) (keep_more f g xs (λ y i. h y (inr i)))
    where
      go : (a b : Bool) → (T a → T b) → how_many f xs ≤ how_many g xs → length (cond a (x ∷ keep f xs) (keep f xs)) ≤ length (cond b (x ∷ keep g xs) (keep g xs))
      go true true w l = suc-le-suc l
      go true false w l = absurd (w tt)
      go false true w l = le_trans l (le-suc (how_many g xs))
      go false false w l = l

  pub head_in : (d : A) (x : A) (xs : List A) → In x xs → In (head_or d xs) xs
  head_in d x [] i = i
  head_in d x (y ∷ ys) i = inl refl

  pub head_same : (d e : A) (x : A) (xs : List A) → In x xs → head_or d xs ≡ head_or e xs
  head_same d e x [] i = absurd i
  head_same d e x (y ∷ ys) i = refl

  pub head_at : (d : A) (xs : List A) → get_or xs 0 d ≡ head_or d xs
  head_at d [] = refl
  head_at d (x ∷ xs) = refl

pub holds_in : (x : ℕ) (xs : List ℕ) → In x xs → T (holds x xs)
holds_in x xs i = any_in (λ y. eqb x y) x xs i (eqb_refl x)

pub in_holds : (x : ℕ) (xs : List ℕ) → T (holds x xs) → In x xs
in_holds x xs h = let z = in_any (λ y. eqb x y) xs h in rw (eqb→eq x z.0 z.2) z.1

pub held : (x : ℕ) (xs : List ℕ) → In x xs → holds x xs ≡ true
held x xs i = T_true (holds x xs) (holds_in x xs i)

pub not_held : (x : ℕ) (xs : List ℕ) → (In x xs → ⊥) → holds x xs ≡ false
not_held x xs f = T_false (holds x xs) (λ t. f (in_holds x xs t))

-- ---- the numbers
pub from_in : (a n i : ℕ) → a ≤ i → i < a + n → In i (from a n)
from_in a zero i h k = absurd (omega arith)
from_in a (suc n) i h k = elim (eq-or-lt_of_le h) [ inl e ↦ inl (sym e) | inr l ↦ inr (from_in (suc a) n i l (omega arith)) ]

pub in_from : (a n i : ℕ) → In i (from a n) → (a ≤ i) × (i < a + n)
in_from a zero i h = absurd h
in_from a (suc n) i (inl e) = omega arith
in_from a (suc n) i (inr h) = let z = in_from (suc a) n i h in omega (arith, z.0, z.1)

pub numbers_in : (n i : ℕ) → i < n → In i (numbers n)
numbers_in n i h = from_in 0 n i zero-le (omega arith)

pub in_numbers : (n i : ℕ) → In i (numbers n) → i < n
in_numbers n i h = omega (arith, (in_from 0 n i h).1)

pub length_from : (a n : ℕ) → length (from a n) ≡ n
length_from a zero = refl
length_from a (suc n) = ap suc (length_from (suc a) n)

at_from : {A : Type 0} (f : ℕ → A) (d : A) (a n i : ℕ) → i < n → get_or (map f (from a n)) i d ≡ f (a + i)
at_from f d a zero i h = absurd (not-suc-le-zero h)
at_from f d a (suc n) zero h = ap f (sym (add-zero a))
at_from f d a (suc n) (suc i) h = let e : suc a + i ≡ a + suc i = omega arith in at_from f d (suc a) n i (le_of_suc-le-suc h) ∙ ap f e

pub at_numbers : {A : Type 0} (f : ℕ → A) (d : A) (n i : ℕ) → i < n → get_or (map f (numbers n)) i d ≡ f i
at_numbers f d n i h = at_from f d 0 n i h ∙ ap f (zero-add i)

pub at_map : {A B : Type 0} (f : A → B) (d : A) (e : B) (l : List A) (k : ℕ) → k < length l → get_or (map f l) k e ≡ f (get_or l k d)
at_map f d e [] k h = absurd (not-suc-le-zero h)
at_map f d e (x ∷ l) zero h = refl
at_map f d e (x ∷ l) (suc k) h = at_map f d e l k (le_of_suc-le-suc h)

pub length_numbers : {A : Type 0} (f : ℕ → A) (n : ℕ) → length (map f (numbers n)) ≡ n
length_numbers f n = length-map (from 0 n) f ∙ length_from 0 n
