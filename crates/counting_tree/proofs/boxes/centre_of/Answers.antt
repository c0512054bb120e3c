use mathlib.Core.Path.{sym, ap, ◌∙◌}
use mathlib.Core.List.{map-map}
use lib.IntN.{ℤ}
use lib.ListN.{take, replicate}
use lib.Ieee.{of_bits, of_int}
use Rattle.lists.specs.Words.{over}
use Rattle.hyperparams.specs.Params.{float}
use Rattle.std.proofs.Common.{rules}
use Rattle.counting_tree.specs.Grid.{index, centre, centres, indexes}
use Rattle.counting_tree.specs.Arrays.{box_of}
use Rattle.counting_tree.proofs.Placed.{placed_map}
use Rattle.counting_tree.proofs.boxes.centre_of.Goals as goal

pub returns : goal.returns
unfolding box_of centres indexes of_bits of_int
returns c = placed_map c.map_counts.ensures (λ (z : ℤ). centre c.args.side (index c.args.side z)) (λ z x h r. search rules) ∙ ap (over (replicate 4 (float 0)) 0) (sym (map-map (centre c.args.side) (index c.args.side) (take c.args.channels c.args.frame)))
