-- How many of the channels below k lie off.
use lib.ListN.{take}
use Rattle.counting_tree.proofs.Near.{Offs}
use Rattle.counting_tree.proofs.run.Frames.near_box.Given as goal

abbrev pub invariant-loop-k : goal.invariant-loop-k
invariant-loop-k l = Offs l.reach (take l.self.v.channels l.place.centre) l.frame l.k l.far
