-- What the frames from place x on give is what all give.
use Rattle.counting_tree.specs.Geometry.{N}
use Rattle.counting_tree.specs.Given.{geometry, frame_list}
use Rattle.cells_grid.specs.Cells.{core}
use Rattle.core_cells.proofs.Looking.{Looking}
use Rattle.core_cells.proofs.cells.CoreCells.least_square.Given as goal

abbrev pub invariant-loop-x : goal.invariant-loop-x
invariant-loop-x l = Looking (core (geometry l.self.grid.frames)) l.enough (N l.self.grid.frames.v (frame_list l.self.grid.frames) l.q) l.x-items l.least l.x-index
