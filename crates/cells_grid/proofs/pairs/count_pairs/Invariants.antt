-- The invariant: the pairs that the frames before i find are counted.
use Rattle.cells_grid.proofs.PairLoops.{InFrames}
use Rattle.cells_grid.proofs.pairs.count_pairs.Given as goal

abbrev pub invariant-loop-i : goal.invariant-loop-i
invariant-loop-i l = let f = l.sorted.grid.frames in InFrames f.v f.n f.points.now l.initial.counts l.counts l.i
