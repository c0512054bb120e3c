-- Each count that is read is known to fit 16 bits.
use Prim.Native.Nat.{ℕ, ◌<◌}
use lib.IntN.{pos}
use lib.ListN.{get_or}
use Rattle.counting_tree.specs.Domain.{Count}
use Rattle.counting_tree.proofs.run.read_counts.Given as goal

abbrev pub invariant-loop-count : goal.invariant-loop-count
invariant-loop-count l = (k : ℕ) → k < l.count-index → Count (get_or l.points k (pos 0))
