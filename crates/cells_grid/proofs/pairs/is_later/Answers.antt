-- The number of the frame is asked first, then whether it is a neighbour.
use Rattle.cells_grid.proofs.PairLoops.{later_not, later_is}
use Rattle.cells_grid.proofs.pairs.is_later.Goals as goal

pub returns-else-low-j : goal.returns-else-low-j
returns-else-low-j c = let a = c.args.search.now.around in let f = a.frames.now in later_not f.v f.n f.points.now a.i c.args.low c.args.m c.args.j c.if-low-j.false

pub returns-then-low-j : goal.returns-then-low-j
returns-then-low-j c = let a = c.args.search.now.around in let f = a.frames.now in later_is f.v f.n f.points.now a.i c.args.low c.args.m c.args.j c.if-low-j.true c.is_neighbour.ensures
