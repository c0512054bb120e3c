-- What whole numbers tell of whether the count of frame q in the tree of the cell with number c is above 0; they may tell nothing.
-- And of whether some of those of the core frames of one cell in the tree of another are. Definitions only.
use Rattle.std.specs.Prelude.{◌≡◌, Bool, true, false, cond, List, [], ◌∷◌, ℕ, ◌*◌, ltb, ℤ, take, Option, Some, None, IfSome}
use Rattle.lists.specs.Lists.{In, nonzero}
use Rattle.hyperparams.specs.declared.ValidParams.{ValidParams}
use Rattle.hyperparams.specs.Params.{float}
use Rattle.counting_tree.specs.declared.Box.{Box}
use Rattle.counting_tree.specs.Frames.{frames_in, floats}
use Rattle.counting_tree.specs.Box.{sum_from}
use Rattle.counting_tree.specs.Geometry.{frame, N}
use Rattle.counting_tree.specs.Ready.{geometry_at}
use Rattle.counting_tree.specs.Settled.{settled_by}
use Rattle.cells_grid.specs.Cells.{count}
use Rattle.cells_grid.specs.Arrangement.{cell_at}
use Rattle.core_cells.specs.Forest.{tree_frames, is_core}
use Rattle.core_cells.specs.Nearest.{beyond, least_until, out_of_reach}
use Rattle.core_cells.specs.RootBox.{root_box}

-- the least sum of squares of its core frames: below t × t a hit, out of reach none
unfoldable pub settled_by_least : (t s least : ℕ) → Option Bool
settled_by_least t s least = cond (ltb least (t * t)) (Some true) (cond (out_of_reach t s least) (Some false) None)

module _ (v : ValidParams) (n : ℕ) (ps : List ℤ) (q c : ℕ) where
  unfoldable pub settled_by_frames : Option Bool
  settled_by_frames = settled_by_least v.t v.s (least_until (v.t * v.t) (N v (frames_in n v.channels ps) q) beyond (tree_frames (geometry_at v n ps) c))

  -- its root box, if it has a core frame
  unfoldable pub settled_by_root : Option Bool
  settled_by_root = cond (is_core (geometry_at v n ps) c) (settled_by v (sum_from (float 0) (floats (frame v (frames_in n v.channels ps) q)) (take v.channels (root_box v n ps c).centre))) (Some false)

  -- what the root box tells, or, where none is handed on, the frames
  abbrev pub told_by : Option Box → Option Bool
  told_by (Some root) = settled_by_root
  told_by None = settled_by_frames

  -- what is told is so
  abbrev pub Tells : Option Bool → Type 0
  Tells told = IfSome told (λ b. b ≡ nonzero (count (geometry_at v n ps) q (cell_at (geometry_at v n ps) c)))

-- two answers as one: true if one of them is, false if both are
abbrev pub joined : Option Bool → Option Bool → Option Bool
joined (Some false) b = b
joined (Some true) b = Some true
joined None (Some false) = None
joined None (Some true) = Some true
joined None None = None

-- what f tells of each element, as one answer
abbrev pub joined_over : (ℕ → Option Bool) → List ℕ → Option Bool
joined_over f [] = Some false
joined_over f (x ∷ xs) = joined (f x) (joined_over f xs)

module _ (v : ValidParams) (n : ℕ) (ps : List ℤ) (c d : ℕ) where
  -- what the core frames of the cell with number d tell of those of the cell with number c
  unfoldable pub settled_by_cells : Option Bool
  settled_by_cells = joined_over (λ q. settled_by_frames v n ps q d) (tree_frames (geometry_at v n ps) c)

  -- no core frame of the one cell has a count in the tree of the other
  abbrev pub Apart : Type 0
  Apart = ((q : ℕ) → In q (tree_frames (geometry_at v n ps) c) → Tells v n ps q d (Some false)) × ((q : ℕ) → In q (tree_frames (geometry_at v n ps) d) → Tells v n ps q c (Some false))
