-- Document 01, module 2: a cell's tree and the count of a frame in it. A node is the ascending list of the frames under it. Definitions only.
use Rattle.std.specs.Prelude.{Bool, List, [], ◌∷◌, ℕ, zero, suc}
use Rattle.lists.specs.Lists.{head_or, groups}
use Rattle.counting_tree.specs.declared.IntersectionType.{IntersectionType}
use Rattle.counting_tree.specs.declared.IntersectionType.TheVariants.{Disjoint, FullyCovered, Intersecting}

-- what a node answers, by how its box lies: "Disjoint 0, FullyCovered the node's count, Intersecting" what is below it
abbrev pub by_box : IntersectionType → List ℕ → List ℕ → List ℕ
by_box Disjoint node below = []
by_box FullyCovered node below = node
by_box Intersecting node below = below

abbrev pub or_else : List ℕ → List ℕ → List ℕ
or_else [] ys = ys
or_else (x ∷ xs) ys = x ∷ xs

-- "the first non-zero child's answer (0 if every child gives 0)"
abbrev pub first_of : (List ℕ → List ℕ) → List (List ℕ) → List ℕ
first_of f [] = []
first_of f (g ∷ gs) = let r = first_of f gs in or_else (f g) r

-- "Counting": the node that is counted, so that its length is the count and its head the first frame of the node; none where the count is 0.
-- xs are the frames under a node of level l, k levels above the last. Its children are the groups of xs that share a box of the next level, in order of creation.
unfoldable pub counted : (same : ℕ → ℕ → ℕ → Bool) → (box : ℕ → ℕ → IntersectionType) → ℕ → ℕ → List ℕ → List ℕ
unfolding groups
counted same box zero l xs = by_box (box l (head_or 0 xs)) xs xs
counted same box (suc k) l xs = let below = first_of (counted same box k (suc l)) (groups (same (suc l)) xs) in by_box (box l (head_or 0 xs)) xs below
