-- `build_trees` meets its contract: the loop's invariant is `Growing`.
use Rattle.counting_tree.specs.Ready.{geometry_at}
use Rattle.core_cells.proofs.Growing.{Growing}
use Rattle.core_cells.proofs.building.build_trees.Given as goal

abbrev pub invariant-loop-c : goal.invariant-loop-c
invariant-loop-c l = Growing (geometry_at l.frames.v l.frames.n l.frames.points.now) l.frames.n l.k l.few l.initial.work l.work l.at l.c
