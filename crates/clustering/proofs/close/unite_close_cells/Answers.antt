use mathlib.Core.Path.{ap, ◌∙◌}
use native.Mathlib.Omega.{arith}
use Rattle.cells_grid.specs.Listing.{sorted_core}
use Rattle.cells_grid.specs.declared.grid.CellsGrid.{CellsGrid}
use Rattle.clustering.proofs.Closing.{sorted_few, turn_cells, turns_start, turns_on, turns_end}
use Rattle.clustering.proofs.close.unite_close_cells.Goals as goal

pub overflow_mul-q-end : goal.overflow_mul-q-end
overflow_mul-q-end c =
    let e = c.core_cells-sorted.ensures ∙ ap (λ (z : CellsGrid). sorted_core z.frames.v z.frames.n z.frames.points.now) c.sorted-sorted.ensures.0 in
    omega (arith, sorted_few c.args.cells.now.core.grid c.core_cells-sorted.result.now e, c.requires.few)

pub loop-q-init : goal.loop-q-init
loop-q-init c =
    let e = c.core_cells-sorted.ensures ∙ ap (λ (z : CellsGrid). sorted_core z.frames.v z.frames.n z.frames.points.now) c.sorted-sorted.ensures.0 in
    turns_start c.args.cells.now.core.grid c.core_cells-sorted.result.now e c.requires

pub meet_close-requires : goal.meet_close-requires
meet_close-requires c = let z = turn_cells c.loop-q.invariant c.loop-q-test.true in (c.loop-q.invariant.met.leading, z.0, z.1)

pub loop-q-preserved : goal.loop-q-preserved
loop-q-preserved c = turns_on c.loop-q.invariant c.loop-q-test.true c.meet_close.ensures

pub returns : goal.returns
returns c = turns_end c.loop-q.invariant c.loop-q-test.false
