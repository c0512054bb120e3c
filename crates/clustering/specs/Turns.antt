-- Asking two cells by turns whether they are linked: the first frame of each in the tree of the other, then the second of each, and so on. Definitions only.
use Rattle.std.specs.Prelude.{Bool, false, cond, ◌||◌, ℕ, Option, None, Some, length, slice_get}
use Rattle.lists.specs.Lists.{nonzero}
use Rattle.counting_tree.specs.Geometry.{Geometry}
use Rattle.cells_grid.specs.Cells.{members, core, count}
use Rattle.cells_grid.specs.Arrangement.{cell_at}

module _ (g : Geometry) where
  -- how many frames cell c has
  abbrev pub size_at : ℕ → ℕ
  size_at c = length (members g (cell_at g c))

  -- a frame, if there is one and it is a core frame
  abbrev pub core_of : Option ℕ → Option ℕ
  core_of None = None
  core_of (Some i) = cond (core g i) (Some i) None

  -- frame j of cell c, counted from 0, if it is there and a core frame
  unfoldable pub core_frame_at : (c j : ℕ) → Option ℕ
  unfolding members core
  core_frame_at c j = core_of (slice_get (members g (cell_at g c)) j)

  -- whether there is a frame, and it has a non-zero count in the tree of cell d
  abbrev pub hit_by : ℕ → Option ℕ → Bool
  hit_by d None = false
  hit_by d (Some i) = nonzero (count g i (cell_at g d))

  -- whether frame j of cell c is there, is a core frame, and has a non-zero count in the tree of cell d
  unfoldable pub asked_at : (c d j : ℕ) → Bool
  unfolding core_frame_at count
  asked_at c d j = hit_by d (core_frame_at c j)

  -- turn j: frame j of cell c is asked in the tree of d, and frame j of d in the tree of c
  unfoldable pub turn_at : (c d j : ℕ) → Bool
  unfolding asked_at
  turn_at c d j = asked_at c d j || asked_at d c j
