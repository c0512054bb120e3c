-- Laws of the groups of a list by first appearance.
use Rattle.std.specs.Prelude.{◌≡◌, ◌⊎◌, Bool, false, not, ℕ, zero, suc, ◌≤◌, ◌<◌, T, length}
use Rattle.std.proofs.Math.Path.{refl, ap}
use Rattle.std.proofs.Common.{sym, ◌∙◌, inl, inr, zero-le, suc-le-suc, le_refl, not-suc-le-zero, arith, T_not}
use mathlib.Core.List.{List, [], ◌∷◌}
use Rattle.std.proofs.Math.Dec.{not_T}
use Rattle.lists.specs.Lists.{keep, lose, any, head_or, total, In, Below, groups_in, groups}
use Rattle.lists.specs.ListLaws.{T_true, T_false, both_ways, T_or_not, keep_in, in_keep, lose_in, in_lose, any_in, in_any, lose_keep, keep_same}
use Rattle.lists.specs.CountLaws.{parts_length, lose_le, keep_within}

module _ {A : Type 0} (s : A → A → Bool) where
  -- as many rounds as elements are enough
  enough : (n m : ℕ) (xs : List A) → length xs ≤ n → length xs ≤ m → groups_in n s xs ≡ groups_in m s xs
  enough zero zero xs a b = refl
  enough zero (suc m) [] a b = refl
  enough zero (suc m) (x ∷ xs) a b = absurd (not-suc-le-zero a)
  enough (suc n) zero [] a b = refl
  enough (suc n) zero (x ∷ xs) a b = absurd (not-suc-le-zero b)
  enough (suc n) (suc m) [] a b = refl
  enough (suc n) (suc m) (x ∷ xs) a b = rw (enough n m (lose (s x) xs) (omega (arith, lose_le (s x) xs)) (omega (arith, lose_le (s x) xs)))

  pub groups_nil : groups s [] ≡ []
  unfolding groups
  groups_nil = refl

  pub groups_cons : (x : A) (xs : List A) → groups s (x ∷ xs) ≡ (x ∷ keep (s x) xs) ∷ groups s (lose (s x) xs)
  unfolding groups
  groups_cons x xs =
      ap (λ (r : List (List A)). (x ∷ keep (s x) xs) ∷ r)
      (enough (length xs) (length (lose (s x) xs)) (lose (s x) xs) (lose_le (s x) xs) (le_refl (length (lose (s x) xs))))

  -- induction by groups: from the elements outside the first group to all
  pub groups_rec : (P : List A → Type 0) → P [] → ((x : A) (xs : List A) → P (lose (s x) xs) → P (x ∷ xs)) → (xs : List A) → P xs
  groups_rec P none more xs = go (length xs) xs (le_refl (length xs))
    where
      go : (n : ℕ) (xs : List A) → length xs ≤ n → P xs
      go zero [] h = none
      go zero (x ∷ xs) h = absurd (not-suc-le-zero h)
      go (suc n) [] h = none
      go (suc n) (x ∷ xs) h = more x xs (go n (lose (s x) xs) (omega (arith, lose_le (s x) xs)))

  -- a group of x ∷ xs: the first one, or one of the others
  group_cases : (x : A) (xs g : List A) → In g (groups s (x ∷ xs)) → (g ≡ x ∷ keep (s x) xs) ⊎ In g (groups s (lose (s x) xs))
  group_cases x xs g i = rw groups_cons at i

  -- ---- how many
  pub groups_length : (xs : List A) → total length (groups s xs) ≡ length xs
  groups_length = groups_rec (λ xs. total length (groups s xs) ≡ length xs) (rw groups_nil) (λ x xs e. rw groups_cons (omega (arith, e, parts_length (s x) xs)))

  -- ---- the elements of a group are elements, and each element is in a group
  pub in_groups : (x : A) (g xs : List A) → In g (groups s xs) → In x g → In x xs
  in_groups x g = groups_rec (λ xs. In g (groups s xs) → In x g → In x xs) (λ i j. absurd (rw groups_nil at i)) more
    where
      more : (y : A) (ys : List A) → (In g (groups s (lose (s y) ys)) → In x g → In x (lose (s y) ys)) → In g (groups s (y ∷ ys)) → In x g → In x (y ∷ ys)
      more y ys r i j = elim (group_cases y ys g i) [
        | inl e ↦ elim (rw e at j) [ inl p ↦ inl p | inr k ↦ inr (in_keep (s y) x ys k).0 ]
        | inr k ↦ inr (in_lose (s y) x ys (r k j)).0
      ]

  pub groups_in_lem : (x : A) (xs : List A) → In x xs → (g : List A) × In g (groups s xs) × In x g
  groups_in_lem x = groups_rec (λ xs. In x xs → (g : List A) × In g (groups s xs) × In x g) (λ i. absurd i) (λ y ys r i. rw groups_cons (more y ys r i))
    where
      more : (y : A) (ys : List A) → (In x (lose (s y) ys) → (g : List A) × In g (groups s (lose (s y) ys)) × In x g) → In x (y ∷ ys)
          → (g : List A) × In g ((y ∷ keep (s y) ys) ∷ groups s (lose (s y) ys)) × In x g
      more y ys r (inl e) = (y ∷ keep (s y) ys, inl refl, inl e)
      more y ys r (inr i) = elim (T_or_not (s y x)) [
        | inl h ↦ (y ∷ keep (s y) ys, inl refl, inr (keep_in (s y) x ys i h))
        | inr h ↦ let z = r (lose_in (s y) x ys i h) in (z.0, inr z.1, z.2)
      ]

  pub any_groups : (f : A → Bool) (xs : List A) → any (any f) (groups s xs) ≡ any f xs
  any_groups f xs = both_ways (any (any f) (groups s xs)) (any f xs)
      (λ t.
      let g = in_any (any f) (groups s xs) t in
      let x = in_any f g.0 g.2 in
      any_in f x.0 xs (in_groups x.0 g.0 xs g.1 x.1) x.2)
      (λ t.
      let x = in_any f xs t in
      let g = groups_in_lem x.0 xs x.1 in
      any_in (any f) g.0 (groups s xs) g.1 (any_in f x.0 g.0 g.2 x.2))

  -- ---- a group has a first element, and the others are the same as it
  pub group_some : (g xs : List A) → In g (groups s xs) → 0 < length g
  group_some g = groups_rec (λ xs. In g (groups s xs) → 0 < length g) (λ i. absurd (rw groups_nil at i))
      (λ y ys r i. elim (group_cases y ys g i) [ inl e ↦ rw e (suc-le-suc zero-le) | inr j ↦ r j ])

  pub group_first : (d x : A) (g xs : List A) → In g (groups s xs) → In x g → (x ≡ head_or d g) ⊎ T (s (head_or d g) x)
  group_first d x g = groups_rec (λ xs. In g (groups s xs) → In x g → (x ≡ head_or d g) ⊎ T (s (head_or d g) x)) (λ i j. absurd (rw groups_nil at i))
      (λ y ys r i j. elim (group_cases y ys g i) [ inl e ↦ rw e (elim (rw e at j) [ inl p ↦ inl p | inr k ↦ inr (in_keep (s y) x ys k).1 ]) | inr k ↦ r k j ])

  -- what agrees on elements that are the same has one value in a group
  pub group_alike : {B : Type 0} (p : A → B) → ((x y : A) → T (s x y) → p x ≡ p y) → (d x : A) (g xs : List A) → In g (groups s xs) → In x g → p (head_or d g) ≡ p x
  group_alike p agree d x g xs i j = elim (group_first d x g xs i j) [ inl e ↦ ap p (sym e) | inr t ↦ agree (head_or d g) x t ]

  -- ---- where `s` is an equivalence
  module _ (itself : (x : A) → T (s x x)) (turn : (x y : A) → T (s x y) → T (s y x)) (join : (x y z : A) → T (s x y) → T (s y z) → T (s x z)) where
    same_tests : (x y : A) (xs : List A) → T (s x y) → keep (s x) xs ≡ keep (s y) xs
    same_tests x y xs h = keep_same (s x) (s y) xs (λ z i. both_ways (s x z) (s y z) (join y x z (turn x y h)) (join x y z h))

    -- the elements the same as x, where x is not in the first group
    outside : (x y : A) (ys : List A) → T (not (s y x)) → keep (s x) (lose (s y) ys) ≡ keep (s x) (y ∷ ys)
    outside x y ys n =
        let off : s x y ≡ false = T_false (s x y) (λ t. T_not (s y x) n (turn x y t)) in
        rw (lose_keep, off) (keep_within (s x) (λ z. not (s y z)) ys (λ z i t. not_T (s y z) (λ u. T_not (s y x) n (join y z x u (turn x z t)))))

    -- an element's group is all that is the same as it
    pub group_is : (x : A) (g xs : List A) → In g (groups s xs) → In x g → g ≡ keep (s x) xs
    group_is x g = groups_rec (λ xs. In g (groups s xs) → In x g → g ≡ keep (s x) xs) (λ i j. absurd (rw groups_nil at i)) more
      where
        first : (y : A) (ys : List A) → T (s x y) → y ∷ keep (s y) ys ≡ keep (s x) (y ∷ ys)
        first y ys h = rw (T_true (s x y) h, same_tests x y ys h)

        more : (y : A) (ys : List A) → (In g (groups s (lose (s y) ys)) → In x g → g ≡ keep (s x) (lose (s y) ys)) → In g (groups s (y ∷ ys)) → In x g → g ≡ keep (s x) (y ∷ ys)
        more y ys r i j = elim (group_cases y ys g i) [
          | inl e ↦ e ∙ first y ys (elim (rw e at j) [ inl p ↦ rw p (itself y) | inr k ↦ turn y x (in_keep (s y) x ys k).1 ])
          | inr k ↦ r k j ∙ outside x y ys (in_lose (s y) x ys (in_groups x g (lose (s y) ys) k j)).1
        ]

-- ---- groups of elements below n
pub group_below : (n : ℕ) (s : ℕ → ℕ → Bool) (g xs : List ℕ) → In g (groups s xs) → Below n xs → Below n g
group_below n s g xs i h x j = h x (in_groups s x g xs i j)
