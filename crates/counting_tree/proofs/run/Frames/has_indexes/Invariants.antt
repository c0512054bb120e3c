-- The channels below k agree.
use mathlib.Core.Path.{◌≡◌}
use lib.ListN.{take}
use Rattle.counting_tree.specs.Grid.{indexes}
use Rattle.counting_tree.specs.Geometry.{same_ints}
use Rattle.counting_tree.proofs.Same.{same_rest}
use Rattle.counting_tree.proofs.run.Frames.has_indexes.Given as goal

abbrev pub invariant-loop-k : goal.invariant-loop-k
invariant-loop-k l = same_rest l.self.v.channels l.at (indexes l.side l.frame) l.k ≡ same_ints (take l.self.v.channels l.at) (indexes l.side l.frame)
