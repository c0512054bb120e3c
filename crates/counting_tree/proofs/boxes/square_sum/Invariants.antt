-- What is left of the sum from channel k on.
use mathlib.Core.Path.{◌≡◌}
use lib.ListN.{take, drop}
use Rattle.hyperparams.specs.Params.{float}
use Rattle.counting_tree.specs.Box.{sum_from}
use Rattle.counting_tree.proofs.boxes.square_sum.Given as goal

abbrev pub invariant-loop-k : goal.invariant-loop-k
invariant-loop-k l = sum_from l.sum (drop l.k (take l.channels l.q)) (drop l.k (take l.channels l.p)) ≡ sum_from (float 0) (take l.channels l.q) (take l.channels l.p)
