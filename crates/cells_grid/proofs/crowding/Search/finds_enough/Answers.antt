use native.Mathlib.Omega.{arith}
use Rattle.counting_tree.specs.Ready.{at_least}
use Rattle.blocks.specs.AroundLaws.{few_rows}
use Rattle.cells_grid.proofs.Neighbours.{rows_start, rows_stop, rows_more, rows_end}
use Rattle.cells_grid.proofs.NeighbourSearch.{turned_sum}
use Rattle.cells_grid.proofs.crowding.Search.finds_enough.Goals as goal

pub loop-r-init : goal.loop-r-init
loop-r-init c = let a = c.args.self.now.around in rows_start a.frames.now.ready a.frames.now.counts a.inside c.own_row-start.ensures.upper_bound

pub turned-requires : goal.turned-requires
turned-requires c = (omega (arith, c.own_row-start.ensures.upper_bound, c.row_count-rows.ensures), c.loop-r-test.true, omega (arith, c.row_count-rows.ensures, few_rows c.args.self.now.around.frames.now.ready))

pub count_row-count-requires : goal.count_row-count-requires
count_row-count-requires c =
    let f = c.args.self.now.around.frames.now in
    (omega (arith, c.turned.ensures.upper_bound, c.row_count-rows.ensures), omega (arith, c.loop-r.invariant.low, at_least f.v f.n f.points.now))

pub returns-then-count-frames : goal.returns-then-count-frames
returns-then-count-frames c =
    let a = c.args.self.now.around in
    rows_stop a.frames.now.ready a.frames.now.counts a.inside c.own_row-start.ensures.upper_bound c.loop-r.invariant (omega (arith, c.loop-r-test.true, c.row_count-rows.ensures))
    (turned_sum a c.own_row-start.result c.loop-r.r c.loop-r.count c.row_count-rows.ensures c.turned.ensures.value c.count_row-count.ensures) c.if-count-frames.true

pub loop-r-preserved : goal.loop-r-preserved
loop-r-preserved c =
    let a = c.args.self.now.around in
    rows_more a.frames.now.ready a.frames.now.counts a.inside c.own_row-start.ensures.upper_bound c.loop-r.invariant (omega (arith, c.loop-r-test.true, c.row_count-rows.ensures))
    (turned_sum a c.own_row-start.result c.loop-r.r c.loop-r.count c.row_count-rows.ensures c.turned.ensures.value c.count_row-count.ensures) (omega (arith, c.if-count-frames.false))

pub returns : goal.returns
returns c = let a = c.args.self.now.around in rows_end a.frames.now.ready a.frames.now.counts a.inside c.own_row-start.ensures.upper_bound c.loop-r.invariant (omega (arith, c.loop-r-test.false, c.row_count-rows.ensures))
