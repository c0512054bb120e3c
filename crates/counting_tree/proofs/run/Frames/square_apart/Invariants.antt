-- The sum is that of the channels below k.
use Rattle.counting_tree.proofs.Squares.{Squares}
use Rattle.counting_tree.proofs.run.Frames.square_apart.Given as goal

abbrev pub invariant-loop-k : goal.invariant-loop-k
invariant-loop-k l = Squares l.a l.b l.k l.sum
