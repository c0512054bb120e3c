-- `unite_pairs` meets its contract: what is left of the pairs, run from the leaders that stand now, ends as all of them do from those at first.
use Rattle.lists.specs.Words.{rest}
use Rattle.counting_tree.specs.Given.{geometry}
use Rattle.clustering.specs.Uniting.{pairs_of}
use Rattle.clustering.proofs.Pairs.{Going, rows}
use Rattle.clustering.proofs.uniting.unite_pairs.Given as goal

abbrev pub invariant-loop-c : goal.invariant-loop-c
invariant-loop-c l =
    let g = geometry l.cells.grid.frames in
    Going g l.trials l.cells.grid.k l.initial.leaders l.leaders 0 l.used (pairs_of g) (rows g l.cells.grid.k (rest l.cells.grid.k l.c))
