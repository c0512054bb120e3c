-- The stretch lies among the sorted frames.
use native.Mathlib.Omega.{arith}
use Rattle.std.proofs.Common.{sym, length-take-le}
use Rattle.cells_grid.proofs.NeighbourSearch.{row_room, row_fits, row_near}
use Rattle.cells_grid.proofs.crowding.Search.row.Goals as goal

pub stretch-s-requires : goal.stretch-s-requires
stretch-s-requires c = let a = c.args.self.now.around in (c.requires, omega (arith, a.inside), omega (arith, a.frames.now.ready.few), omega (arith, row_room c.args.self.now, a.inside))

pub offset_bounds-sorted-s : goal.offset_bounds-sorted-s
offset_bounds-sorted-s c = omega (arith, row_fits c.args.self.now c.args.m c.stretch-s.ensures, c.args.self.now.around.frames.now.ready.few)

pub slice_bounds-result-count : goal.slice_bounds-result-count
slice_bounds-result-count c = omega (arith, row_fits c.args.self.now c.args.m c.stretch-s.ensures)

pub slice_bounds-result-start : goal.slice_bounds-result-start
slice_bounds-result-start c = omega (arith, row_fits c.args.self.now c.args.m c.stretch-s.ensures)

pub slice_bounds-result-end : goal.slice_bounds-result-end
slice_bounds-result-end c = omega (arith, row_fits c.args.self.now c.args.m c.stretch-s.ensures, row_room c.args.self.now)

pub slice_bounds-result-end-2 : goal.slice_bounds-result-end-2
slice_bounds-result-end-2 c = sym (length-take-le c.stretch-s.result.rest c.args.self.now.sorted.sorted.now (omega (arith, row_fits c.args.self.now c.args.m c.stretch-s.ensures, row_room c.args.self.now)))

pub returns : goal.returns
returns c = row_near c.args.self.now c.args.m c.stretch-s.ensures (omega arith) (omega arith)
