-- `count_node` and `count_list`: the levels left fall, then the words of the siblings that are left.
use Rattle.std.proofs.Common.{◌+◌, ◌*◌, ◌^◌, length}
use Rattle.tree_structure.proofs.+count_list_count_node.Given as goal

abbrev pub decreases-count_list : goal.decreases-count_list
decreases-count_list l = l.level.now.left * 2 ^ 64 + length l.trees.now

abbrev pub decreases-count_node : goal.decreases-count_node
decreases-count_node l = l.level.now.left * 2 ^ 64
