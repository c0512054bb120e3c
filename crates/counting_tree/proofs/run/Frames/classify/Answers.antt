-- The box of one frame against the other, by the sum of squares or by the root.
use Rattle.counting_tree.specs.Indexes.{some_side}
use Rattle.counting_tree.proofs.Counts.{held_count}
use Rattle.counting_tree.proofs.Lent.{some_channels, box_is}
use Rattle.counting_tree.proofs.Clear.{by_apart, by_crossing}
use Rattle.counting_tree.proofs.run.Frames.classify.Goals as goal

pub box_of-place-requires : goal.box_of-place-requires
box_of-place-requires c = record { side = some_side c.args.self.now.ready c.requires.0; channels = (some_channels c.args.self.now.ready).1 }

pub returns-then-clearly_apart : goal.returns-then-clearly_apart
returns-then-clearly_apart c = by_apart c.args.self.now.ready c.args.q c.args.x c.requires.1 c.requires.2 c.frame_at-a.result c.frame_at-b.result c.frame_at-a.ensures c.frame_at-b.ensures (held_count c.frame_at-a.result c.frame_at-a.type_inv.0 c.frame_at-a.type_inv.1.1) (held_count c.frame_at-b.result c.frame_at-b.type_inv.0 c.frame_at-b.type_inv.1.1) c.args.side c.requires.0 c.floats-from.result c.box_of-place.result c.floats-from.ensures c.box_of-place.ensures c.square_sum-sum.result c.square_sum-sum.ensures c.root_of_small.result c.half_side-h.result c.root_of_small.ensures.value c.half_side-h.ensures c.clearly_apart.result c.clearly_apart.ensures c.if-clearly_apart.true

pub returns-then-clearly_crossing : goal.returns-then-clearly_crossing
returns-then-clearly_crossing c = by_crossing c.args.self.now.ready c.args.q c.args.x c.requires.1 c.requires.2 c.frame_at-a.result c.frame_at-b.result c.frame_at-a.ensures c.frame_at-b.ensures (held_count c.frame_at-a.result c.frame_at-a.type_inv.0 c.frame_at-a.type_inv.1.1) (held_count c.frame_at-b.result c.frame_at-b.type_inv.0 c.frame_at-b.type_inv.1.1) c.args.side c.requires.0 c.floats-from.result c.box_of-place.result c.floats-from.ensures c.box_of-place.ensures c.square_sum-sum.result c.square_sum-sum.ensures c.root_of_small.result c.half_side-h.result c.root_of_small.ensures.value c.half_side-h.ensures c.half_side.result c.half_side.ensures c.clearly_crossing.result c.clearly_crossing.ensures c.if-clearly_crossing.true

pub returns : goal.returns
returns c = box_is c.args.self.now.ready c.args.q c.args.x c.requires.1 c.requires.2 c.frame_at-a.result c.frame_at-b.result c.frame_at-a.ensures c.frame_at-b.ensures c.args.side c.floats-from.result c.box_of-place.result c.determine_intersection.result c.floats-from.ensures c.box_of-place.ensures c.determine_intersection.ensures
