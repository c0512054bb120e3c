-- Document 01, modules 4 and 5: links, clusters, labels and kinds. Definitions only.
use Rattle.std.specs.Prelude.{Bool, ◌||◌, List, [], ◌∷◌, ℕ, suc}
use Rattle.std.proofs.Math.Bool.{false, cond}
use Rattle.lists.specs.Lists.{keep, lose, any, concat, holds, nonzero}
use Rattle.counting_tree.specs.Geometry.{Geometry}
use Rattle.cells_grid.specs.Cells.{first, listed, list, core, core_members, core_cells, count}

-- The connected sets of the cells cs: the first cell with all the sets that hold a cell linked to it, then the other sets.
-- Of ascending cells each set begins with its lowest, and the sets stand by their lowest.
abbrev pub connected : (ℕ → ℕ → Bool) → List ℕ → List (List ℕ)
connected link [] = []
connected link (c ∷ cs) = let sets = connected link cs in (c ∷ concat (keep (any (link c)) sets)) ∷ lose (any (link c)) sets

-- the number of the set that holds c
abbrev pub place : ℕ → List (List ℕ) → ℕ
place c [] = 0
place c (s ∷ ss) = let r = place c ss in cond (holds c s) 0 (suc r)

-- "65,535 for none"
abbrev pub none : ℕ
none = 65535

-- "the cluster of the first listed cell with a non-zero count, else none", from the listed cells with one and each cell's cluster
abbrev pub border_label : (ℕ → ℕ) → List ℕ → ℕ
border_label cluster [] = none
border_label cluster (c ∷ cs) = cluster c

-- "0 noise, 1 border", from the listed cells with a non-zero count
abbrev pub border_kind : List ℕ → ℕ
border_kind [] = 0
border_kind (c ∷ cs) = 1

module _ (g : Geometry) where
  -- "a core frame of [c] has a non-zero count in [d]'s tree"
  unfoldable pub touches : ℕ → ℕ → Bool
  unfolding core_members count
  touches c d = any (λ p. nonzero (count g p d)) (core_members g c)

  -- "Two listed core cells are linked if a core frame of either has a non-zero count in the other's tree."
  unfoldable pub linked : ℕ → ℕ → Bool
  unfolding listed touches
  linked c d = let r = touches c d || touches d c in cond (listed g c d) r false

  -- "Clusters are the connected sets of linked core cells, numbered from 0 by lowest cell number": cluster k is the k-th of them
  unfoldable pub clusters : List (List ℕ)
  unfolding linked core_cells
  clusters = connected linked (core_cells g)

  -- the listed cells in which frame i has a non-zero count, in ascending cell number
  unfoldable pub touched : ℕ → List ℕ
  unfolding list count
  touched i = keep (λ c. nonzero (count g i c)) (list g i)

  -- a core frame has its cell's cluster, any other that of the first listed cell with a non-zero count; `cluster` gives a core cell's number
  unfoldable pub label_by : (cluster : ℕ → ℕ) → ℕ → ℕ
  unfolding core first touched
  label_by cluster i = let r = border_label cluster (touched i) in cond (core g i) (cluster (first g i)) r

  -- "a kind byte (0 noise, 1 border, 2 core)"
  unfoldable pub kind_of : ℕ → ℕ
  unfolding core touched
  kind_of i = let r = border_kind (touched i) in cond (core g i) 2 r
