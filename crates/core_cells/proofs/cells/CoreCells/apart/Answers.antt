use native.Mathlib.Omega.{arith}
use Rattle.core_cells.proofs.Spanning.{first_few, second_few, by_spans, spans_tell}
use Rattle.core_cells.proofs.cells.CoreCells.apart.Goals as goal
use Rattle.core_cells.proofs.cells.CoreCells.apart.Goals.{then-frames_of-le-MANY-via-then-frames_of-le-MANY, then-frames_of-le-MANY-via-else-frames_of-le-MANY+then-frames_of-le-MANY-2}

pub returns-then-frames_of-le-MANY-clause-value : goal.returns-then-frames_of-le-MANY-clause-value
returns-then-frames_of-le-MANY-clause-value c = elim c.then-frames_of-le-MANY.branch [
  | then-frames_of-le-MANY-via-then-frames_of-le-MANY w ↦ first_few c.args.self.now c.args.c c.args.d c.frames_of.ensures w.if-frames_of-le-MANY.true
  | then-frames_of-le-MANY-via-else-frames_of-le-MANY+then-frames_of-le-MANY-2 w ↦ second_few c.args.self.now c.args.c c.args.d c.frames_of.ensures w.frames_of-else-frames_of-le-MANY.ensures w.if-frames_of-le-MANY.false w.if-frames_of-le-MANY-2.true
]

pub returns-clause-value : goal.returns-clause-value
returns-clause-value c = by_spans c.args.self.now c.args.c c.args.d c.frames_of.ensures c.frames_of-else-frames_of-le-MANY.ensures (omega (arith, c.if-frames_of-le-MANY.false)) (omega (arith, c.if-frames_of-le-MANY-2.false)) c.span_of-one.ensures.value c.span_of-two.ensures.value c.square_gap.ensures.value c.out_of_reach.ensures

pub returns-clause-tells : goal.returns-clause-tells
returns-clause-tells c = spans_tell c.args.self.now c.args.c c.args.d c.span_of-one.ensures.value c.span_of-two.ensures.value c.square_gap.ensures.value c.out_of_reach.ensures
