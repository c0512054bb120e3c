-- What the frames from place x on give is what all give.
use Rattle.counting_tree.specs.Given.{geometry}
use Rattle.cells_grid.specs.Arrangement.{cell_at}
use Rattle.core_cells.specs.Spans.{raised_at}
use Rattle.core_cells.proofs.Spanning.{Spanning}
use Rattle.core_cells.proofs.cells.CoreCells.span_of.Given as goal

abbrev pub invariant-loop-x : goal.invariant-loop-x
invariant-loop-x l = Spanning (raised_at l.self.grid.frames.v l.self.grid.frames.n l.self.grid.frames.points.now) (cell_at (geometry l.self.grid.frames) l.c) l.x-items l.span l.x-index
