-- The index is read back from its bits, and is exact as a float.
use mathlib.Core.Path.{ap, ◌∙◌}
use lib.IntN.{ℤ}
use lib.Ieee.{binary64, of_int, mul}
use mir.Facts.{to_z-of_z}
use Rattle.counting_tree.specs.Grid.{centre, index}
use Rattle.counting_tree.proofs.Index.{coordinate, index_back}
use Rattle.counting_tree.proofs.grid.cell_center.Goals as goal

pub int_to_float-result : goal.int_to_float-result
int_to_float-result c = (index_back c.cell_index.result c.args.side c.args.c c.requires (coordinate c.args.c c.ranges.c) (c.cell_index.ensures ∙ ap (index c.args.side) (to_z-of_z c.ranges.c))).0

pub returns : goal.returns
unfolding centre
returns c = ap (λ (k : ℤ). mul binary64 (of_int binary64 k) c.args.side) (index_back c.cell_index.result c.args.side c.args.c c.requires (coordinate c.args.c c.ranges.c) (c.cell_index.ensures ∙ ap (index c.args.side) (to_z-of_z c.ranges.c))).1
