use native.Mathlib.Omega.{arith}
use Rattle.core_cells.proofs.Spanning.{adding_end}
use Rattle.core_cells.proofs.spans.Span.square_gap.Goals as goal

pub returns-clause-value : goal.returns-clause-value
returns-clause-value c = adding_end _ _ c.loop-i.invariant (omega (arith, c.loop-i.auto.i-end, c.loop-i-test.false))
