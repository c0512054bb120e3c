-- `trees` meets its contract: the words on the trees stand together.
use mathlib.Core.Path.{ap}
use native.Mathlib.Omega.{arith}
use Rattle.std.proofs.Common.{◌+◌, ◌-◌, ◌*◌}
use Rattle.lists.specs.Lists.{nonzero}
use Rattle.lists.proofs.PartLaws.{part_at}
use Rattle.core_cells.proofs.Held.{has_core}
use Rattle.clustering.proofs.Held.{trees_inside}
use Rattle.clustering.proofs.cells.ListedCells.trees.Goals as goal

pub slice_bounds-result-end : goal.slice_bounds-result-end
slice_bounds-result-end c = trees_inside c.args.self.now.core

pub returns-clause-core : goal.returns-clause-core
returns-clause-core c d h =
    let s = c.args.self.now.core in
    let a = 5 * s.grid.frames.n in
    let m = a + s.grid.k - a in
    has_core s h (ap nonzero (part_at s.grid.work.now a m d (omega arith)))
