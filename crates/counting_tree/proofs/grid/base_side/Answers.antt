-- The base side is the tolerance divided by the root of the channels.
use mathlib.Core.Path.{ap}
use lib.Ieee.{binary64, div}
use Rattle.counting_tree.specs.Grid.{side_at, root_channels}
use Rattle.counting_tree.proofs.grid.base_side.Goals as goal

pub returns : goal.returns
unfolding side_at root_channels
returns c = ap (div binary64 c.args.t) c.root_of_small.ensures.value
