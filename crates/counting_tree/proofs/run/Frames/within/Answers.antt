-- The sum of squared differences against t × t.
use Rattle.counting_tree.specs.Ready.{ready_counts}
use Rattle.counting_tree.proofs.Lent.{within_is}
use Rattle.counting_tree.proofs.run.Frames.within.Goals as goal

pub returns : goal.returns
returns c = within_is c.args.self.now.ready c.args.i c.args.j c.square_apart.result c.square_apart.ensures.value c.requires.0 c.requires.1 (ready_counts c.args.self.now.ready c.args.self.now.counts c.args.i c.requires.0) (ready_counts c.args.self.now.ready c.args.self.now.counts c.args.j c.requires.1)
