use native.Mathlib.Omega.{arith}
use borrow.Author.Tests.{lt-ltb, le-ltb}
use Rattle.core_cells.specs.Spans.{gap}
use Rattle.core_cells.proofs.spans.gap.Goals.{then-high-low2, else-high-low2}
use Rattle.core_cells.proofs.spans.gap.Goals as goal

pub returns-clause-value : goal.returns-clause-value
unfolding gap
returns-clause-value c = elim c.if-high-low2.branch [
  | then-high-low2 w ↦ rw (w.apart-is, lt-ltb _ _ w.if-high-low2.true) (omega arith)
  | else-high-low2 w ↦ rw (w.apart-is, le-ltb _ _ w.if-high-low2.false, w.saturating_sub-apart.ensures) (omega arith)
]
