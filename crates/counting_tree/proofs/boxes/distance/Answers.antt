-- The root of the sum.
use mathlib.Core.Path.{ap, ◌∙◌}
use Rattle.ieee754.specs.Root.{root}
use Rattle.counting_tree.specs.Box as Definitions
use Rattle.counting_tree.proofs.boxes.distance.Goals as goal

pub returns : goal.returns
unfolding Definitions.distance
returns c = c.root.ensures ∙ ap root c.square_sum.ensures
