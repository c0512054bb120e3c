-- `some_ask` meets its contract: a list has cells alone, and is clear again.
use Rattle.clustering.specs.Regions.{ClearAgain}
use Rattle.clustering.proofs.trees.some_ask.Given as goal

abbrev pub invariant-loop-c : goal.invariant-loop-c
invariant-loop-c l = ClearAgain l.initial.list l.list
