-- Rows are counted, from the frame's own on: the invariant is that count and the sum over the rows that are left.
use Prim.Native.Nat.{◌+◌, ◌-◌, ◌%◌, ◌^◌}
use Rattle.lists.proofs.LoopLaws.{Sum}
use Rattle.counting_tree.specs.Given.{geometry}
use Rattle.cells_grid.specs.Crowding.{neighbours_in}
use Rattle.cells_grid.proofs.crowding.Search.finds_enough.Given as goal

abbrev pub invariant-loop-r : goal.invariant-loop-r
invariant-loop-r l =
    let a = l.self.around in let f = a.frames.now in
    Sum (λ j. neighbours_in f.v f.n f.points.now a.i ((l.start + j) % 2 ^ (f.v.channels - 1))) (2 ^ (f.v.channels - 1)) (geometry f).least l.count l.r
