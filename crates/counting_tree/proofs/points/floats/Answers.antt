-- All four are counts.
use mathlib.Core.Path.{◌∙◌}
use mathlib.Core.List.{map}
use native.Mathlib.Omega.{arith}
use lib.ListN.{replicate, length-map}
use lib.Ieee.{binary64, of_bits, of_int}
use Rattle.std.proofs.Common.{rules}
use Rattle.lists.proofs.WordLaws.{over_all}
use Rattle.counting_tree.proofs.Placed.{placed_map}
use Rattle.counting_tree.proofs.points.floats.Goals as goal

pub returns : goal.returns
returns c =
    placed_map c.map_counts.ensures (of_int binary64) (λ z x h r. search rules)
    ∙ over_all (replicate 4 (of_bits binary64 0)) (map (of_int binary64) c.args.frame) (omega (arith, length-map c.args.frame (of_int binary64), c.well_formed.0.1.0.1))
