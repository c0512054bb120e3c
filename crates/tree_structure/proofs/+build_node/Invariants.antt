-- `build_node`: the levels left fall; the invariant of the loop is `Building`, and the members that are left fall.
use Prim.Native.Nat.{◌-◌}
use Rattle.counting_tree.specs.Given.{geometry}
use Rattle.tree_structure.proofs.Building.{Building}
use Rattle.tree_structure.proofs.+build_node.Given as goal

abbrev pub decreases-build_node : goal.decreases-build_node
decreases-build_node l = l.level.now.left

abbrev pub invariant-loop-from : goal.invariant-loop-from
invariant-loop-from l = Building (geometry l.below.frames.now).same l.below.frames.now.n l.below.left l.below.level l.initial.members l.initial.nodes l.members l.scratch l.nodes l.from l.size

abbrev pub decreases-loop-from : goal.decreases-loop-from
decreases-loop-from l = l.count - l.from
