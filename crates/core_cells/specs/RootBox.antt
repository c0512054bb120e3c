-- The root box of a cell. Definitions only.
use Rattle.std.specs.Prelude.{Bool, cond, ◌&&◌, List, ℕ, ltb, leb, ℤ, length, Option, Some, None}
use Rattle.hyperparams.specs.declared.ValidParams.{ValidParams}
use Rattle.counting_tree.specs.declared.Box.{Box}
use Rattle.counting_tree.specs.Frames.{frames_in}
use Rattle.counting_tree.specs.Grid.{side_at}
use Rattle.counting_tree.specs.Geometry.{frame}
use Rattle.counting_tree.specs.Arrays.{placed, box_of}
use Rattle.counting_tree.specs.Ready.{geometry_at}
use Rattle.cells_grid.specs.Cells.{members}
use Rattle.cells_grid.specs.Arrangement.{cell_at}

-- the box of the base side in which the first frame of the cell with number c lies: all frames of the cell do
unfoldable pub root_box : ValidParams → ℕ → List ℤ → ℕ → Box
root_box v n ps c = box_of v.channels (side_at v.channels v.tolerance 0) (placed (frame v (frames_in n v.channels ps) (cell_at (geometry_at v n ps) c)))

-- a cell with at most so many frames has few
abbrev pub few_frames : ℕ
few_frames = 2

-- whether the frames of the cell with number c are asked before its root box: if s is above 0 and they are few
unfoldable pub frames_first : ValidParams → ℕ → List ℤ → ℕ → Bool
unfolding members
frames_first v n ps c = ltb 0 v.s && leb (length (members (geometry_at v n ps) (cell_at (geometry_at v n ps) c))) few_frames

-- the box that is handed on: none where the frames come first
unfoldable pub root_first : ValidParams → ℕ → List ℤ → ℕ → Option Box
unfolding frames_first root_box
root_first v n ps c = cond (frames_first v n ps c) None (Some (root_box v n ps c))
