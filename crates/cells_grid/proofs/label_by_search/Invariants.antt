-- The invariant: the frames before i are told core or not.
use Rattle.lists.proofs.LoopLaws.{Fill}
use Rattle.counting_tree.specs.Given.{geometry}
use Rattle.cells_grid.specs.Arrangement.{core_bit}
use Rattle.cells_grid.proofs.label_by_search.Given as goal

abbrev pub invariant-loop-i : goal.invariant-loop-i
invariant-loop-i l = let f = l.sorted.grid.frames in Fill (core_bit (geometry f)) l.initial.cores 0 f.n l.cores l.i
