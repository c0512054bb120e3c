-- The places of the cell lie among the words, and hold its frames.
use native.Mathlib.Omega.{arith}
use Rattle.cells_grid.proofs.Held.{few, room, places, frames_are}
use Rattle.cells_grid.proofs.grid.CellsGrid.frames_of.Goals as goal

pub word-from-requires : goal.word-from-requires
word-from-requires c = omega (arith, c.requires, few c.args.self.now, room c.args.self.now)

pub cell_end-to-requires : goal.cell_end-to-requires
cell_end-to-requires c = (c.requires, few c.args.self.now, omega (arith, room c.args.self.now))

pub overflow_add-result : goal.overflow_add-result
overflow_add-result c = let p = places c.args.self.now c.requires c.word-from.ensures c.cell_end-to.ensures in omega (arith, p, room c.args.self.now)

pub overflow_add-result-2 : goal.overflow_add-result-2
overflow_add-result-2 c = let p = places c.args.self.now c.requires c.word-from.ensures c.cell_end-to.ensures in omega (arith, p, room c.args.self.now)

pub offset_bounds-self-n : goal.offset_bounds-self-n
offset_bounds-self-n c = let p = places c.args.self.now c.requires c.word-from.ensures c.cell_end-to.ensures in omega (arith, p, room c.args.self.now)

pub slice_bounds-result-count : goal.slice_bounds-result-count
slice_bounds-result-count c = let p = places c.args.self.now c.requires c.word-from.ensures c.cell_end-to.ensures in omega (arith, p, room c.args.self.now)

pub slice_bounds-result-start : goal.slice_bounds-result-start
slice_bounds-result-start c = let p = places c.args.self.now c.requires c.word-from.ensures c.cell_end-to.ensures in omega (arith, p, room c.args.self.now)

pub slice_bounds-result-end : goal.slice_bounds-result-end
slice_bounds-result-end c = let p = places c.args.self.now c.requires c.word-from.ensures c.cell_end-to.ensures in omega (arith, p, room c.args.self.now)

pub returns : goal.returns
returns c = frames_are c.args.self.now c.requires c.word-from.ensures c.cell_end-to.ensures
