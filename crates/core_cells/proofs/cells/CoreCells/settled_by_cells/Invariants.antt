-- What the core frames from place i on tell, with those before, is what all tell.
use Rattle.counting_tree.specs.Given.{geometry}
use Rattle.cells_grid.specs.Cells.{core}
use Rattle.core_cells.specs.Settling.{settled_by_frames}
use Rattle.core_cells.proofs.Looking.{Joining}
use Rattle.core_cells.proofs.cells.CoreCells.settled_by_cells.Given as goal

abbrev pub invariant-loop-i : goal.invariant-loop-i
invariant-loop-i l = Joining (core (geometry l.self.grid.frames)) (λ q. settled_by_frames l.self.grid.frames.v l.self.grid.frames.n l.self.grid.frames.points.now q l.d) l.i-items l.told l.i-index
