-- The centre, and the side.
use mathlib.Core.Path.{ap}
use mathlib.Core.List.{List}
use lib.Ieee.{Float}
use Rattle.counting_tree.specs.Arrays.{box_of}
use Rattle.counting_tree.proofs.boxes.box_of.Goals as goal

pub returns : goal.returns
unfolding box_of
returns c = ap (λ (x : List Float). record { centre = x; side = c.args.side }) c.centre_of-centre.ensures
