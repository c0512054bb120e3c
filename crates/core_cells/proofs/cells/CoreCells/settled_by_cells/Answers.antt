use mathlib.Core.Path.{sym, ◌∙◌}
use Rattle.cells_grid.proofs.Held.{frame_low}
use Rattle.core_cells.proofs.Reaching.{cells_value, one_covered, cells_apart}
use Rattle.core_cells.proofs.Looking.{joining_start, joining_miss, joining_no, joining_open, joining_yes, joining_end}
use Rattle.core_cells.proofs.cells.CoreCells.settled_by_cells.Goals as goal
use Rattle.core_cells.proofs.cells.CoreCells.settled_by_cells.Goals.{in-Some-false, in-None}

pub loop-i-init : goal.loop-i-init
loop-i-init c = joining_start

pub is_core-requires : goal.is_core-requires
is_core-requires c = frame_low c.args.self.now.grid c.requires.0 c.frames_of-i-items.ensures _ c.loop-i-test.true

pub loop-i-preserved-then-not-is_core : goal.loop-i-preserved-then-not-is_core
loop-i-preserved-then-not-is_core c = joining_miss c.loop-i.invariant c.loop-i-test.true c.is_core.ensures c.if-not-is_core.true

pub settled_by_frames-requires : goal.settled_by_frames-requires
settled_by_frames-requires c = (frame_low c.args.self.now.grid c.requires.0 c.frames_of-i-items.ensures _ c.loop-i-test.true, c.requires.1)

pub returns-in-Some-true-clause-value : goal.returns-in-Some-true-clause-value
returns-in-Some-true-clause-value c = cells_value c.args.self.now c.requires.0 c.args.d c.frames_of-i-items.ensures (joining_yes c.loop-i.invariant c.loop-i-test.true c.is_core.ensures c.if-not-is_core.false (rw c.in-Some-true.field-0-test at c.in-Some-true.ensures.value))

pub returns-in-Some-true-clause-touches : goal.returns-in-Some-true-clause-touches
returns-in-Some-true-clause-touches c = λ e. one_covered c.args.self.now c.requires.0 c.args.d c.frames_of-i-items.ensures _ c.loop-i-test.true c.is_core.ensures c.if-not-is_core.false (rw c.in-Some-true.field-0-test at c.in-Some-true.ensures.tells)

pub loop-i-preserved : goal.loop-i-preserved
loop-i-preserved c = elim c.match-settled_by_frames.branch [
  | in-Some-false w ↦ rw w.told-is (joining_no c.loop-i.invariant c.loop-i-test.true c.is_core.ensures c.if-not-is_core.false (rw w.in-Some-false.field-0-test at w.in-Some-false.ensures.value))
  | in-None w ↦ rw w.told-is (joining_open c.loop-i.invariant c.loop-i-test.true c.is_core.ensures c.if-not-is_core.false w.in-None.ensures.value)
]

pub returns-clause-value : goal.returns-clause-value
returns-clause-value c = cells_value c.args.self.now c.requires.0 c.args.d c.frames_of-i-items.ensures (joining_end c.loop-i.invariant c.loop-i-test.false)

pub returns-clause-apart : goal.returns-clause-apart
returns-clause-apart c = λ e. cells_apart c.args.self.now c.args.c c.args.d (sym e ∙ cells_value c.args.self.now c.requires.0 c.args.d c.frames_of-i-items.ensures (joining_end c.loop-i.invariant c.loop-i-test.false))
