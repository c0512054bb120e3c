-- Document 01, modules 3 and 4: cells, lists, core frames, and a frame's count in a cell's tree. Definitions only.
-- A cell is named by its first frame: so cells in ascending cell number are first frames in ascending order.
use Rattle.std.specs.Prelude.{Bool, ◌&&◌, List, ℕ}
use Rattle.std.proofs.Math.Bool.{true, cond}
use Rattle.std.proofs.Math.Dec.{leb, ltb, eqb}
use Rattle.std.proofs.Math.ListN.{length}
use Rattle.lists.specs.Lists.{numbers, keep, how_many, head_or, nonzero}
use Rattle.counting_tree.specs.Tree.{counted}
use Rattle.counting_tree.specs.Geometry.{Geometry}

module _ (g : Geometry) where
  -- "Frames are in one cell if their indexes agree in each channel" (at the base side)
  abbrev pub same_cell : ℕ → ℕ → Bool
  same_cell i j = g.same 0 i j

  -- the frames of frame i's cell, ascending
  unfoldable pub members : ℕ → List ℕ
  members i = keep (same_cell i) (numbers g.frames)

  -- "a cell's first frame is the lowest-numbered in it"
  unfoldable pub first : ℕ → ℕ
  unfolding members
  first i = head_or i (members i)

  -- frame c is a cell's first frame
  unfoldable pub is_cell : ℕ → Bool
  unfolding first
  is_cell c = eqb (first c) c

  -- the cells in ascending cell number
  unfoldable pub cells : List ℕ
  unfolding is_cell
  cells = keep is_cell (numbers g.frames)

  -- "Cells are numbered from 0 as their first frame appears": how many cells begin before frame i's
  unfoldable pub cell_number : ℕ → ℕ
  unfolding first cells
  cell_number i = how_many (λ c. ltb c (first i)) cells

  -- "A cell lists each cell, itself included, whose first frame has a sum of squared differences from its own of at most 4 × t × t": frame i's cell lists frame j's
  unfoldable pub listed : ℕ → ℕ → Bool
  unfolding first
  listed i j = g.near (first i) (first j)

  -- "A frame's listed cells are those on its own cell's list", "in ascending cell number"
  unfoldable pub list : ℕ → List ℕ
  unfolding cells listed
  list i = keep (listed i) cells

  -- "A cell with at least `min_points` frames is core with all its frames."
  unfoldable pub dense : ℕ → Bool
  unfolding members
  dense i = leb g.least (length (members i))

  -- frame j lies in a cell that frame i's lists, and within t of frame i
  unfoldable pub neighbour : ℕ → ℕ → Bool
  unfolding listed
  neighbour i j = listed i j && g.within i j

  -- "Otherwise a frame is core if the listed cells hold at least `min_points` frames within t, itself counted."
  unfoldable pub core : ℕ → Bool
  unfolding dense neighbour
  core i = let crowded = leb g.least (how_many (neighbour i) (numbers g.frames)) in cond (dense i) true crowded

  -- "Tree of a cell's core frames": the core frames of frame i's cell, ascending
  unfoldable pub core_members : ℕ → List ℕ
  unfolding members core
  core_members i = keep core (members i)

  -- "a core cell is one that holds a core frame"
  unfoldable pub core_cell : ℕ → Bool
  unfolding core_members
  core_cell c = nonzero (length (core_members c))

  -- the core cells in ascending cell number
  unfoldable pub core_cells : List ℕ
  unfolding cells core_cell
  core_cells = keep core_cell cells

  -- the node that frame q's count in the tree of frame i's cell counts; none where the cell has no core frame, and so no tree
  unfoldable pub node : ℕ → ℕ → List ℕ
  unfolding counted core_members
  node q i = counted g.same (g.box q) g.levels 0 (core_members i)

  -- frame q's count in the tree of frame i's cell
  unfoldable pub count : ℕ → ℕ → ℕ
  unfolding node
  count q i = length (node q i)
