-- The channels before k agree.
use Rattle.std.proofs.Common.{◌≡◌}
use Rattle.blocks.proofs.Edges.{same_from}
use Rattle.blocks.proofs.in_row.Given as goal

abbrev pub invariant-loop-k : goal.invariant-loop-k
invariant-loop-k l = same_from l.width l.fn.first l.frame l.m l.k ≡ same_from l.width l.fn.first l.frame l.m 1
