-- `build_structure` meets its contract: the root is of level 0, with all others below it, and the copy holds the same frames.
use Rattle.counting_tree.specs.Ready.{at_levels}
use Rattle.tree_structure.proofs.Building.{root_room, room_cut}
use Rattle.tree_structure.proofs.Levels.{few_levels}
use Rattle.tree_structure.proofs.build_structure.Goals as goal

pub build_node-size-requires : goal.build_node-size-requires
build_node-size-requires c =
    let e = c.root.ensures in
    record { room = rw (e.0, e.1, e.2, c.copy.ensures) (room_cut (root_room (few_levels c.args.frames.now.ready) (rw at_levels at c.requires.room))) }

pub returns-clause-size : goal.returns-clause-size
returns-clause-size c =
    let e = c.root.ensures in
    rw at_levels (rw (e.0, e.1, e.2, c.copy.ensures) at c.build_node-size.ensures.size)

pub returns-clause-words : goal.returns-clause-words
returns-clause-words c =
    let e = c.root.ensures in
    rw at_levels (rw (e.0, e.1, e.2, c.copy.ensures) at c.build_node-size.ensures.words)
