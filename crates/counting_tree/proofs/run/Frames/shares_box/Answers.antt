-- A frame that is not near the box has other indexes.
use lib.ListN.{take}
use Rattle.counting_tree.specs.Frames.{frames_in}
use Rattle.counting_tree.specs.Geometry.{frame}
use Rattle.counting_tree.specs.Ready.{ready_counts}
use Rattle.counting_tree.proofs.Near.{other_box}
use Rattle.counting_tree.proofs.run.Frames.shares_box.Goals as goal

pub returns-then-not-near_box : goal.returns-then-not-near_box
returns-then-not-near_box c = other_box c.args.place.side c.requires.ready.1 (take c.args.self.now.v.channels c.args.at) (take c.args.self.now.v.channels c.args.place.centre) (frame c.args.self.now.v (frames_in c.args.self.now.n c.args.self.now.v.channels c.args.self.now.points.now) c.args.j) c.requires.centre_value (ready_counts c.args.self.now.ready c.args.self.now.counts c.args.j c.requires.ready.0) c.near_box.result c.near_box.ensures c.if-not-near_box.true
