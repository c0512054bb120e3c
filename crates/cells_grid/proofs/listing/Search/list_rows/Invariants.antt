-- Row by row.
use Rattle.cells_grid.proofs.Gathering.{Gathering}
use Rattle.cells_grid.proofs.listing.Search.list_rows.Given as goal

abbrev pub invariant-loop-r : goal.invariant-loop-r
invariant-loop-r l =
    let a = l.self.around in let f = a.frames.now in
    Gathering f.v f.n f.points.now a.i l.self.passed l.after l.start l.initial.list l.list l.m l.r l.least
