-- The counting tree of some frames as words in pre-order, and the count that is read from it; `same l i j` says whether frames i and j share a box of level l.
-- A node is the list xs of its frames, of level l, k levels above the last. Its children are the groups of xs that share a box of the next level, in order of creation.
use Rattle.std.specs.Prelude.{◌≡◌, Bool, Option, None, Some, IfSome, is_some}
use Rattle.std.proofs.Math.Path.{refl}
use Rattle.std.proofs.Common.{◌∙◌}
use mathlib.Core.List.{List, [], ◌∷◌, map}
use Prim.Native.Nat.{ℕ, zero, suc, ◌+◌, ◌*◌, ◌≤◌, ◌<◌}
use native.Mathlib.Omega.{arith}
use Rattle.std.proofs.Math.Nat.{mul-suc}
use Rattle.std.proofs.Math.ListN.{length}
use Rattle.lists.specs.Lists.{In, head_or, total, concat, Below, groups, nonzero}
use Rattle.lists.specs.Words.{part}
use Rattle.lists.specs.CountLaws.{total_same, total_times, total_le, length_concat}
use Rattle.lists.proofs.GroupLaws.{groups_length, group_some}
use Rattle.tree_structure.specs.declared.Counted.{Counted}

abbrev pub Same : Type 0
Same = ℕ → ℕ → ℕ → Bool

-- the number of nodes
unfoldable pub size : Same → ℕ → ℕ → List ℕ → ℕ
size same zero l xs = 1
size same (suc k) l xs = 1 + total (size same k (suc l)) (groups (same (suc l)) xs)

-- the words: four a node, which are its number of frames, the number of nodes from it down, its first frame, 0
unfoldable pub encode : Same → ℕ → ℕ → List ℕ → List ℕ
encode same zero l xs = length xs ∷ 1 ∷ head_or 0 xs ∷ 0 ∷ []
encode same (suc k) l xs = length xs ∷ size same (suc k) l xs ∷ head_or 0 xs ∷ 0 ∷ concat (map (encode same k (suc l)) (groups (same (suc l)) xs))

-- the words us stand in ws from `at` on
abbrev pub Stand : List ℕ → ℕ → List ℕ → Type 0
Stand ws at us = part ws at (length us) ≡ us

-- a node: some frames, all below n
pub record Node (n : ℕ) (xs : List ℕ) : Type 0 where
  pub some : 0 < length xs
  pub below : Below n xs

-- the tree of the node xs stands in ws from `at` on
pub record TreeAt (same : Same) (n : ℕ) (ws : List ℕ) (at k l : ℕ) (xs : List ℕ) : Type 0 where
  pub node : Node n xs
  pub words : Stand ws at (encode same k l xs)

-- the words are the trees of the nodes gs, one after the other
pub record TreesAt (same : Same) (n : ℕ) (ws : List ℕ) (k l : ℕ) (gs : List (List ℕ)) : Type 0 where
  pub nodes : (g : List ℕ) → In g gs → Node n g
  pub words : ws ≡ concat (map (encode same k l) gs)

-- the count and the first frame of the node that is counted; none where no node is
abbrev pub told_of : List ℕ → Option Counted
told_of [] = None
told_of (x ∷ xs) = Some record { count = length (x ∷ xs); first = x }

-- ---- laws
-- a node is counted exactly where the count is not 0
pub told_some : (xs : List ℕ) → is_some (told_of xs) ≡ nonzero (length xs)
told_some [] = refl
told_some (x ∷ xs) = refl

-- and then its count is at least 1
pub told_count : (xs : List ℕ) → IfSome (told_of xs) (λ c. 0 < c.count)
told_count [] = tt
told_count (x ∷ xs) = omega arith

four : (f : List ℕ → List ℕ) (z : List ℕ → ℕ) → ((g : List ℕ) → length (f g) ≡ 4 * z g) → (gs : List (List ℕ)) → length (concat (map f gs)) ≡ 4 * total z gs
four f z h gs = length_concat f gs ∙ total_same (λ g. length (f g)) (λ g. 4 * z g) gs (λ g i. h g) ∙ total_times 4 z gs

module _ (same : Same) where
  -- four words a node
  pub encode_length : (k l : ℕ) (xs : List ℕ) → length (encode same k l xs) ≡ 4 * size same k l xs
  unfolding encode size
  encode_length zero l xs = refl
  encode_length (suc k) l xs = omega (arith, four (encode same k (suc l)) (size same k (suc l)) (encode_length k (suc l)) (groups (same (suc l)) xs))

  pub trees_length : (k l : ℕ) (gs : List (List ℕ)) → length (concat (map (encode same k l) gs)) ≡ 4 * total (size same k l) gs
  trees_length k l = four (encode same k l) (size same k l) (encode_length k l)

  -- at most a node for each frame and level
  pub size_le : (k l : ℕ) (xs : List ℕ) → 0 < length xs → size same k l xs ≤ length xs * (k + 1)
  unfolding size
  size_le zero l xs h = omega arith
  size_le (suc k) l xs h =
      let gs : List (List ℕ) = groups (same (suc l)) xs in
      let a : total (size same k (suc l)) gs ≤ length xs * (k + 1) =
      rw groups_length at (total_le (size same k (suc l)) length (k + 1) gs (λ g i. size_le k (suc l) g (group_some (same (suc l)) g xs i))) in
      omega (arith, mul-suc (length xs) (k + 1))
