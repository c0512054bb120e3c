-- `unite_row` meets its contract: what is left of the cell's pairs, run from the leaders that stand now, ends as all of them do from those at first.
use Rattle.lists.specs.Lists.{numbers}
use Rattle.lists.specs.Words.{rest}
use Rattle.counting_tree.specs.Given.{geometry}
use Rattle.clustering.specs.Uniting.{pairs_with}
use Rattle.clustering.proofs.Pairs.{Going}
use Rattle.clustering.proofs.uniting.unite_row.Given as goal

abbrev pub invariant-loop-d : goal.invariant-loop-d
invariant-loop-d l =
    let g = geometry l.cells.grid.frames in
    Going g l.trials l.cells.grid.k l.initial.leaders l.leaders l.initial.used l.used (pairs_with g l.c (numbers l.cells.grid.k)) (pairs_with g l.c (rest l.cells.grid.k l.d))
