-- `approximate_range_counting` meets its contract: the root is of level 0, with all others below it.
use Rattle.counting_tree.specs.Ready.{at_levels}
use Rattle.tree_structure.proofs.approximate_range_counting.Goals as goal

pub count_node-requires-clause-tree : goal.count_node-requires-clause-tree
count_node-requires-clause-tree c =
    let e = c.root.ensures in
    rw (e.0, e.1, e.2) (rw at_levels at c.requires.tree)

pub returns : goal.returns
returns c =
    let e = c.root.ensures in
    λ xs u. rw at_levels (rw (e.0, e.1, e.2) at c.count_node.ensures xs (rw at_levels at u))
