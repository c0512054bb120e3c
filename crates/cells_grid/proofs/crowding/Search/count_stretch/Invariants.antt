-- The invariant is the count of the neighbours so far, and of those left in the stretch.
use Prim.Native.Nat.{◌+◌}
use Rattle.lists.specs.Lists.{how_many}
use Rattle.cells_grid.specs.Crowding.{neighbour_in}
use Rattle.cells_grid.proofs.Neighbours.{Tally}
use Rattle.cells_grid.proofs.crowding.Search.count_stretch.Given as goal

abbrev pub invariant-loop-j : goal.invariant-loop-j
invariant-loop-j l =
    let a = l.self.around in let f = a.frames.now in
    let found = neighbour_in f.v f.n f.points.now a.i l.m in
    Tally found l.stretch f.v.min_points (l.count + how_many found l.stretch) l.sum l.j-index
