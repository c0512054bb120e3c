-- What the words of the cells of a run hold.
use Rattle.counting_tree.specs.Given.{geometry}
use Rattle.cells_grid.specs.Arrangement.{Cored}
use Rattle.core_cells.specs.declared.cells.CoreCells.{CoreCells}
use Rattle.core_cells.specs.HasTrees.{Holds}

module _ (c : CoreCells) where
  pub held : Holds (geometry c.grid.frames) c.grid.k c.grid.work.now c.nodes.now c.has_trees.0
  held = c.has_trees.1.0

  pub cored : Cored (geometry c.grid.frames) c.grid.k c.grid.work.now
  cored = record { cells = c.grid.arranged; cores = held.cores }
