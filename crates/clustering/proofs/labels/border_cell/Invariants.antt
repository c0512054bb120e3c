-- `border_cell` meets its contract: what is kept is the lowest of the first listed cells in whose tree the frame has a non-zero count.
use Rattle.counting_tree.specs.Given.{geometry}
use Rattle.cells_grid.specs.Cells.{cell_number}
use Rattle.cells_grid.specs.Listing.{list_of}
use Rattle.clustering.proofs.Bordering.{counts, LowestSoFar}
use Rattle.clustering.proofs.labels.border_cell.Given as goal

abbrev pub invariant-loop-c : goal.invariant-loop-c
invariant-loop-c l =
    let f = l.cells.core.grid.frames in
    let g = geometry f in
    LowestSoFar (counts g l.i) l.cells.core.grid.k (list_of f.v f.n f.points.now (cell_number g l.i)) l.lowest l.c-index
