use native.Mathlib.Omega.{arith}
use Rattle.core_cells.proofs.Reaching.{first_none, first_zero, first_many}
use Rattle.core_cells.proofs.cells.CoreCells.root_first.Goals.{else-self-gt0-via-then-self-gt0+else-frames_of-le-FEW, else-self-gt0-via-else-self-gt0}
use Rattle.core_cells.proofs.cells.CoreCells.root_first.Goals as goal

pub returns-then-frames_of-le-FEW-clause-value : goal.returns-then-frames_of-le-FEW-clause-value
returns-then-frames_of-le-FEW-clause-value c = first_none c.args.self.now c.args.c (omega (arith, c.if-self-gt0.true)) c.frames_of.ensures c.if-frames_of-le-FEW.true

pub returns-clause-value : goal.returns-clause-value
returns-clause-value c = elim c.else-self-gt0.branch [
  | else-self-gt0-via-then-self-gt0+else-frames_of-le-FEW w ↦ first_many c.args.self.now c.args.c c.root_box.ensures w.frames_of.ensures w.if-frames_of-le-FEW.false
  | else-self-gt0-via-else-self-gt0 w ↦ first_zero c.args.self.now c.args.c c.root_box.ensures (omega (arith, w.if-self-gt0.false))
]
