use mathlib.Core.Path.{ap, ◌∙◌}
use native.Mathlib.Omega.{arith}
use lib.IntN.{pos}
use Rattle.std.proofs.Common.{rules}
use Rattle.counting_tree.specs.Grid.{index, indexes}
use Rattle.counting_tree.specs.Arrays.{placed}
use Rattle.counting_tree.proofs.Placed.{placed_map, four_alike}
use Rattle.counting_tree.proofs.run.Frames.indexes_at.Goals as goal

pub returns : goal.returns
unfolding placed indexes
returns c =
    four_alike (pos 0) (placed_map c.map_counts.ensures (index c.args.side) (λ z x h r. search rules) ∙ ap (λ (f : _). placed (indexes c.args.side f)) c.frame.ensures.value)
    (omega arith) (omega arith) (search rules) (search rules) (search rules) (search rules)
