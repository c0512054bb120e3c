-- A count in a tree is non-zero exactly if a frame of the tree reaches by its own path: so whether it is zero depends on no order of the children.
use Rattle.std.specs.Prelude.{◌≡◌, ◌↔◌, Bool, true, false, cond, T, length}
use Rattle.std.proofs.Math.Path.{refl, sym}
use Rattle.std.proofs.Common.{ap, ◌∙◌}
use mathlib.Core.List.{List, [], ◌∷◌}
use Prim.Native.Nat.{ℕ, zero, suc}
use Rattle.lists.specs.Lists.{any, head_or, nonzero, total, groups, In}
use Rattle.lists.specs.ListLaws.{true_T, both_ways, any_in, in_any, any_none, any_shuffle, in_nonzero, some_in}
use Rattle.lists.proofs.GroupLaws.{any_groups, group_alike, groups_length}
use Rattle.counting_tree.specs.Tree.{by_box, or_else, first_of, counted}
use Rattle.counting_tree.specs.declared.IntersectionType.{IntersectionType}
use Rattle.counting_tree.specs.declared.IntersectionType.TheVariants.{Disjoint, FullyCovered, Intersecting}

-- "Every node's count is the number of frames under it, and equals the sum of its children's counts where it has any."
pub children_sum : (same : ℕ → ℕ → ℕ → Bool) (l : ℕ) (xs : List ℕ) → total length (groups (same (suc l)) xs) ≡ length xs
children_sum same l xs = groups_length (same (suc l)) xs

abbrev pub on_box : IntersectionType → Bool → Bool
on_box Disjoint below = false
on_box FullyCovered below = true
on_box Intersecting below = below

-- the boxes of frame x from level l on, k levels above the last: one is FullyCovered, or the last is Intersecting, and none before it is Disjoint
unfoldable pub reaches : (box : ℕ → ℕ → IntersectionType) → ℕ → ℕ → ℕ → Bool
reaches box zero l x = on_box (box l x) true
reaches box (suc k) l x = on_box (box l x) (reaches box k (suc l) x)

-- a path whose first box settles it
module _ (box : ℕ → ℕ → IntersectionType) (x : ℕ) where
  pub path_disjoint : (k l : ℕ) → box l x ≡ Disjoint → reaches box k l x ≡ false
  unfolding reaches
  path_disjoint zero l e = rw e
  path_disjoint (suc k) l e = rw e

  pub path_covered : (k l : ℕ) → box l x ≡ FullyCovered → reaches box k l x ≡ true
  unfolding reaches
  path_covered zero l e = rw e
  path_covered (suc k) l e = rw e

-- the count of a node whose children `children` gives, in any order
unfoldable pub counted_by : (children : ℕ → List ℕ → List (List ℕ)) → (box : ℕ → ℕ → IntersectionType) → ℕ → ℕ → List ℕ → List ℕ
counted_by children box zero l xs = by_box (box l (head_or 0 xs)) xs xs
counted_by children box (suc k) l xs = let below = first_of (counted_by children box k (suc l)) (children (suc l) xs) in by_box (box l (head_or 0 xs)) xs below

-- a list is not empty
abbrev some : List ℕ → Bool
some xs = nonzero (length xs)

first_some : (F : List ℕ → List ℕ) (gs : List (List ℕ)) → some (first_of F gs) ≡ any (λ g. some (F g)) gs
first_some F [] = refl
first_some F (g ∷ gs) = go (F g) ∙ ap (cond (some (F g)) true) (first_some F gs)
  where
    go : (xs : List ℕ) → some (or_else xs (first_of F gs)) ≡ cond (some xs) true (some (first_of F gs))
    go [] = refl
    go (x ∷ xs) = refl

by_box_some : (v : IntersectionType) (xs ys zs : List ℕ) → some ys ≡ some zs → some (by_box v xs ys) ≡ some (by_box v xs zs)
by_box_some Disjoint xs ys zs e = refl
by_box_some FullyCovered xs ys zs e = refl
by_box_some Intersecting xs ys zs e = e

-- ---- "Whether it is zero doesn't depend on the order of children."
module _ (same : ℕ → ℕ → ℕ → Bool) (box : ℕ → ℕ → IntersectionType) where
  pub any_children : (children : ℕ → List ℕ → List (List ℕ)) → ((l : ℕ) (xs g : List ℕ) → In g (children l xs) ↔ In g (groups (same l) xs))
      → (k l : ℕ) (xs : List ℕ) → nonzero (length (counted_by children box k l xs)) ≡ nonzero (length (counted same box k l xs))
  unfolding counted_by counted
  any_children children order zero l xs = refl
  any_children children order (suc k) l xs =
      by_box_some (box l (head_or 0 xs)) xs (first_of (counted_by children box k (suc l)) (children (suc l) xs)) (first_of (counted same box k (suc l)) (groups (same (suc l)) xs))
      (first_some (counted_by children box k (suc l)) (children (suc l) xs)
      ∙ any_shuffle (λ g. some (counted_by children box k (suc l) g)) (λ g. some (counted same box k (suc l) g)) (children (suc l) xs) (groups (same (suc l)) xs)
      (λ g i. any_children children order k (suc l) g) (order (suc l) xs)
      ∙ sym (first_some (counted same box k (suc l)) (groups (same (suc l)) xs)))

  -- ---- a frame's own path
  -- the frames xs under a node whose box is v: it is counted exactly if one of them reaches
  by_path : (r f : ℕ → Bool) (l : ℕ) (xs below : List ℕ) (v : IntersectionType) → ((x : ℕ) → In x xs → v ≡ box l x) → ((x : ℕ) → r x ≡ on_box (box l x) (f x))
      → some below ≡ any f xs → some (by_box v xs below) ≡ any r xs
  by_path r f l xs below v alike path e = go v (λ x i. path x ∙ ap (λ (w : IntersectionType). on_box w (f x)) (sym (alike x i)))
    where
      go : (v : IntersectionType) → ((x : ℕ) → In x xs → r x ≡ on_box v (f x)) → some (by_box v xs below) ≡ any r xs
      go Disjoint h = sym (any_none r xs (λ x i t. rw (h x i) at t))
      go FullyCovered h = both_ways (some xs) (any r xs) (λ t. let z = some_in xs t in any_in r z.0 xs z.1 (true_T (h z.0 z.1))) (λ t. let z = in_any r xs t in in_nonzero z.0 xs z.1)
      go Intersecting h = e ∙ any_shuffle f r xs xs (λ x i. sym (h x i)) (λ x. (λ i. i, λ i. i))

  module _ (agree : (l x y : ℕ) → T (same l x y) → box l x ≡ box l y) where
    pub node_path : (k l : ℕ) (xs : List ℕ) → ((x : ℕ) → In x xs → box l (head_or 0 xs) ≡ box l x) → nonzero (length (counted same box k l xs)) ≡ any (reaches box k l) xs
    unfolding counted reaches
    node_path zero l xs alike = by_path (reaches box zero l) (λ x. true) l xs xs (box l (head_or 0 xs)) alike (λ x. refl) (each xs)
      where
        each : (xs : List ℕ) → some xs ≡ any (λ x. true) xs
        each [] = refl
        each (x ∷ xs) = refl
    node_path (suc k) l xs alike =
        let gs = groups (same (suc l)) xs in
        by_path (reaches box (suc k) l) (reaches box k (suc l)) l xs (first_of (counted same box k (suc l)) gs) (box l (head_or 0 xs)) alike (λ x. refl)
        (first_some (counted same box k (suc l)) gs
        ∙ any_shuffle (λ g. some (counted same box k (suc l) g)) (any (reaches box k (suc l))) gs gs
        (λ g i. node_path k (suc l) g (λ x j. group_alike (same (suc l)) (box (suc l)) (agree (suc l)) 0 x g xs i j)) (λ g. (λ i. i, λ i. i))
        ∙ any_groups (same (suc l)) (reaches box k (suc l)) xs)
