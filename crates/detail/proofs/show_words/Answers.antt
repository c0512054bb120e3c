-- The words of a prepared set hold the cells and their trees.
use Rattle.std.proofs.Common.{refl}
use Rattle.counting_tree.specs.Ready.{at_frames}
use Rattle.core_cells.specs.HasTrees.{grid_part, trees_part, nodes_from}
use Rattle.detail.proofs.show_words.Goals as goal

pub invariant_of-grid : goal.invariant_of-grid
invariant_of-grid g c = record { arranged = grid_part c.requires.0 (at_frames _ _ _) refl }

pub invariant_of-cells : goal.invariant_of-cells
invariant_of-cells g c = record { has_trees = trees_part c.requires.0 (at_frames _ _ _) refl (nodes_from c.args.work.now c.args.frames.n) }
