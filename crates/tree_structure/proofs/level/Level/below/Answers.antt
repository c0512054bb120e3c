-- `below` gives a level: its side is half as long.
use Rattle.std.proofs.Common.{arith}
use Rattle.counting_tree.specs.Indexes.{next_side}
use Rattle.tree_structure.proofs.level.Level.below.Goals as goal

pub invariant_of-result : goal.invariant_of-result
invariant_of-result c = record { bound = omega (arith, c.args.self.now.bound, c.requires); side_is = next_side _ _ _ _ _ c.args.self.now.side_is c.half_side-side.ensures }
