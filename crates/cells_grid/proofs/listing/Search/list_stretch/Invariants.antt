-- The cells before place p are looked at.
use Prim.Native.Nat.{◌-◌}
use Rattle.cells_grid.specs.Listing.{near_in}
use Rattle.cells_grid.proofs.Searching.{Walking}
use Rattle.cells_grid.proofs.listing.Search.list_stretch.Given as goal

abbrev pub invariant-loop-p : goal.invariant-loop-p
invariant-loop-p l =
    let a = l.self.around in let f = a.frames.now in
    Walking (near_in f.v f.n f.points.now a.i l.after l.r) l.self.passed l.self.places.now l.m l.from l.end l.initial.list l.list l.to l.p

abbrev pub decreases-loop-p : goal.decreases-loop-p
decreases-loop-p l = l.end - l.p
