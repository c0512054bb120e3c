-- The sum of squared differences against the bound of the lists.
use Rattle.counting_tree.proofs.Lent.{near_is}
use Rattle.counting_tree.proofs.run.Frames.near_cells.Goals as goal

pub returns : goal.returns
returns c = near_is c.args.self.now.ready c.args.c c.args.d c.square_apart.result c.square_apart.ensures.value
