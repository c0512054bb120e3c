-- The two stretches of the row.
use native.Mathlib.Omega.{arith}
use Rattle.cells_grid.proofs.NeighbourSearch.{stretch_low, rest_low}
use Rattle.cells_grid.proofs.PairLoops.{row_room, rest_room, row_count, row_few, row_end}
use Rattle.cells_grid.proofs.pairs.count_row.Goals as goal

pub count_stretch-sum-requires : goal.count_stretch-sum-requires
count_stretch-sum-requires c = let a = c.args.search.now.around in let f = a.frames.now in record { frames = stretch_low a c.args.m c.row.result.0.now c.row.result.1.now c.row.ensures; room = row_room f.v f.n f.points.now a.i c.args.low c.args.m c.row.result.0.now c.row.result.1.now c.row.ensures c.requires.1 }

pub count_stretch-requires : goal.count_stretch-requires
count_stretch-requires c =
    let a = c.args.search.now.around in let f = a.frames.now in let E = c.count_stretch-sum.ensures in
    record { frames = rest_low a c.args.m c.row.result.0.now c.row.result.1.now c.row.ensures; room = rest_room f.v f.n f.points.now a.i c.args.low c.args.m c.row.result.0.now c.row.result.1.now c.row.ensures c.requires.1 E.value E.counts_after }

pub overflow_add-result : goal.overflow_add-result
overflow_add-result c =
    let a = c.args.search.now.around in let f = a.frames.now in let E = c.count_stretch-sum.ensures in
    omega (arith, c.args.search.now.around.frames.now.ready.few, row_few f.v f.n f.points.now a.i c.args.low c.args.m c.row.result.0.now c.row.result.1.now c.row.ensures c.requires.1 E.value E.counts_after c.count_stretch.ensures.value)

pub returns : goal.returns
returns c =
    let a = c.args.search.now.around in let f = a.frames.now in let E = c.count_stretch-sum.ensures in
    record { value = row_count f.v f.n f.points.now a.i c.args.low c.args.m c.row.result.0.now c.row.result.1.now c.row.ensures c.requires.1 E.value E.counts_after c.count_stretch.ensures.value; counts_after = row_end f.v f.n f.points.now a.i c.args.low c.args.m c.row.result.0.now c.row.result.1.now c.row.ensures c.requires.1 E.value E.counts_after c.count_stretch.ensures.value c.count_stretch.ensures.counts_after }
