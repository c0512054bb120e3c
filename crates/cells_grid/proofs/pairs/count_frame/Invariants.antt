-- The invariant: the rows before row m are counted, from the frame's own row on. After the last the frame's own count rises.
use Rattle.cells_grid.proofs.PairLoops.{InFrame}
use Rattle.cells_grid.proofs.pairs.count_frame.Given as goal

abbrev pub invariant-loop-m : goal.invariant-loop-m
invariant-loop-m l = let a = l.search.around in let f = a.frames.now in InFrame f.v f.n f.points.now a.i l.initial.counts l.counts l.m l.low l.sum
