-- The loop keeps the larger of two sums.
use mathlib.Core.Path.{◌≡◌}
use mathlib.Core.List.{map}
use lib.ListN.{take, drop}
use Rattle.hyperparams.specs.Params.{float}
use Rattle.counting_tree.specs.Farthest.{largest_from}
use Rattle.counting_tree.proofs.boxes.farthest_corner.Given as goal

abbrev pub invariant-loop-row : goal.invariant-loop-row
invariant-loop-row l = largest_from l.far (take l.channels l.q) (map (take l.channels) (drop l.row-index l.row-items)) ≡ largest_from (float 0) (take l.channels l.q) (map (take l.channels) l.row-items)
