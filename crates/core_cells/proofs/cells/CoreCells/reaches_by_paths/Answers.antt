-- What the root box says, or else the paths.
use native.Mathlib.Omega.{arith}
use Rattle.core_cells.proofs.Reaching.{treeless, tested, test_apart, test_inside}
use Rattle.core_cells.proofs.cells.CoreCells.reaches_by_paths.Goals as goal

pub returns-then-not-has_core : goal.returns-then-not-has_core
returns-then-not-has_core c = treeless c.args.self.now c.requires.0 c.requires.1 c.has_core.ensures c.if-not-has_core.true

pub classify-requires : goal.classify-requires
classify-requires c = (record { level = 0; depth = omega arith; is = c.base_side-side.ensures }, c.requires.0, c.first_of.ensures.bound)

pub some_reaches-requires : goal.some_reaches-requires
some_reaches-requires c = (c.requires.0, c.requires.1, tested c.args.self.now c.requires.0 c.requires.1 c.first_of.ensures.value c.base_side-side.ensures c.in-Intersecting.ensures)

pub returns-in-Disjoint : goal.returns-in-Disjoint
returns-in-Disjoint c = test_apart c.args.self.now c.requires.0 c.requires.1 (tested c.args.self.now c.requires.0 c.requires.1 c.first_of.ensures.value c.base_side-side.ensures c.in-Disjoint.ensures)

pub returns-in-FullyCovered : goal.returns-in-FullyCovered
returns-in-FullyCovered c = test_inside c.args.self.now c.requires.0 c.requires.1 (tested c.args.self.now c.requires.0 c.requires.1 c.first_of.ensures.value c.base_side-side.ensures c.in-FullyCovered.ensures) c.has_core.ensures c.if-not-has_core.false
