-- Channel by channel.
use native.Mathlib.Omega.{arith}
use lib.IntN.{pos}
use lib.ListN.{get_or}
use Rattle.counting_tree.specs.Domain.{Count}
use Rattle.counting_tree.specs.Ready.{ready_counts}
use Rattle.counting_tree.proofs.Squares.{squares_more, squares_past}
use Rattle.counting_tree.proofs.run.Frames.square_apart.Goals as goal
use Rattle.counting_tree.proofs.run.Frames.square_apart.Goals.{then-k-self, else-k-self}

pub loop-k-preserved : goal.loop-k-preserved
loop-k-preserved c = elim c.if-k-self.branch [
  | then-k-self w ↦
      let a : Count (get_or c.frame-a.result.now c.loop-k.k (pos 0)) = omega arith in
      let b : Count (get_or c.frame-b.result.now c.loop-k.k (pos 0)) = omega arith in
      rw w.sum-is (squares_more c.loop-k.invariant (omega arith) (omega arith) a b w.square-sum.result w.square-sum.ensures.value (grind arith) w.square-sum.ensures.bound)
  | else-k-self w ↦ rw w.sum-is (squares_past c.loop-k.invariant (omega arith))
]

pub returns-clause-counts : goal.returns-clause-counts
returns-clause-counts c = (ready_counts c.args.self.now.ready c.args.self.now.counts c.args.i c.requires.0, ready_counts c.args.self.now.ready c.args.self.now.counts c.args.j c.requires.1)
