-- The tree stands where the word says.
use native.Mathlib.Omega.{arith}
use Rattle.core_cells.proofs.Held.{slot, begins_low, begins_inside, some_tree}
use Rattle.core_cells.proofs.cells.CoreCells.tree_of.Goals as goal

pub word-word-requires : goal.word-word-requires
word-word-requires c = slot c.args.self.now c.requires

pub overflow_mul-result : goal.overflow_mul-result
overflow_mul-result c = omega (arith, begins_low c.args.self.now c.requires c.in_ok-first.ensures c.word-word.ensures)

pub offset_bounds-self-first : goal.offset_bounds-self-first
offset_bounds-self-first c = omega (arith, begins_low c.args.self.now c.requires c.in_ok-first.ensures c.word-word.ensures)

pub slice_bounds-result-count : goal.slice_bounds-result-count
slice_bounds-result-count c = begins_inside c.args.self.now c.requires (omega arith, omega arith) c.word-word.ensures

pub slice_bounds-result-start : goal.slice_bounds-result-start
slice_bounds-result-start c = begins_inside c.args.self.now c.requires (omega arith, omega arith) c.word-word.ensures

pub returns-clause-tree : goal.returns-clause-tree
returns-clause-tree c = some_tree c.args.self.now c.requires (omega arith, omega arith) c.word-word.ensures
