-- Cells that are soon found linked: not apart by their spans, and the first frames of one of them tell by whole numbers. Definitions only.
use Rattle.std.specs.Prelude.{Bool, false, not, ◌&&◌, ◌||◌, List, ℕ, ℤ, Option, None, Some}
use Rattle.lists.specs.Lists.{numbers, any}
use Rattle.hyperparams.specs.declared.ValidParams.{ValidParams}
use Rattle.counting_tree.specs.Ready.{geometry_at}
use Rattle.core_cells.specs.Settling.{settled_by_frames}
use Rattle.core_cells.specs.Spans.{apart_by_spans}
use Rattle.clustering.specs.Turns.{core_frame_at}

-- how many frames of a cell are looked at
abbrev pub soon : ℕ
soon = 8

-- whether something is told, and it is that there is a count
abbrev pub is_told : Option Bool → Bool
is_told None = false
is_told (Some b) = b

module _ (v : ValidParams) (n : ℕ) (ps : List ℤ) where
  -- whether a frame, if there is one, is nearer than the tolerance to a core frame of cell d
  abbrev pub near_by : (d : ℕ) → Option ℕ → Bool
  near_by d None = false
  near_by d (Some i) = is_told (settled_by_frames v n ps i d)

  -- whether frame j of cell c is a core frame and is
  unfoldable pub is_near_at : (c d j : ℕ) → Bool
  is_near_at c d j = near_by d (core_frame_at (geometry_at v n ps) c j)

  -- whether one of the first frames of cell c is
  unfoldable pub soon_near_at : (c d : ℕ) → Bool
  soon_near_at c d = any (is_near_at c d) (numbers soon)

  -- whether the cells c and d are found linked so
  unfoldable pub soon_linked_at : (c d : ℕ) → Bool
  soon_linked_at c d = not (apart_by_spans v n ps c d) && (soon_near_at c d || soon_near_at d c)
