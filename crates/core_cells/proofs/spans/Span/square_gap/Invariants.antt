-- The squares of the channels before i, added up.
use Rattle.core_cells.proofs.Spanning.{Adding}
use Rattle.core_cells.proofs.spans.Span.square_gap.Given as goal

abbrev pub invariant-loop-i : goal.invariant-loop-i
invariant-loop-i l = Adding l.self l.other l.square l.i
