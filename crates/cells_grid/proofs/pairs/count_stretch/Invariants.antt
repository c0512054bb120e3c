-- The stretch is walked: the invariant is what has risen, and what is left to be found.
use Rattle.cells_grid.specs.Pairs.{later_in}
use Rattle.cells_grid.proofs.PairLoops.{Walking}
use Rattle.cells_grid.proofs.pairs.count_stretch.Given as goal

abbrev pub invariant-loop-word : goal.invariant-loop-word
invariant-loop-word l = let a = l.search.around in let f = a.frames.now in Walking (later_in f.v f.n f.points.now a.i l.low l.m) f.n l.initial.counts l.counts l.stretch l.sum l.word-index
