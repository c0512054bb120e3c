-- The invariant: the keys of the cells before c are written.
use Rattle.lists.proofs.LoopLaws.{Fill}
use Rattle.cells_grid.specs.Listing.{cell_key}
use Rattle.cells_grid.proofs.listing.sort_cells.Given as goal

abbrev pub invariant-loop-c : goal.invariant-loop-c
invariant-loop-c l = Fill (cell_key l.frames.v l.frames.n l.frames.points.now) l.initial.keys 0 l.k l.keys l.c
