use Rattle.std.proofs.Common.{refl, arith}
use Rattle.counting_tree.proofs.Walk.{walk_start, walk_disjoint, walk_covered, walk_last, walk_on}
use Rattle.counting_tree.proofs.run.Frames.reaches.Goals as goal

pub loop-init : goal.loop-init
loop-init c = walk_start c.requires.2 c.base_side.ensures c.half_side-side.ensures (omega arith)

pub returns-in-Disjoint : goal.returns-in-Disjoint
returns-in-Disjoint c = walk_disjoint c.args.self.now.ready c.loop.invariant c.in-Disjoint.ensures refl

pub returns-in-FullyCovered : goal.returns-in-FullyCovered
returns-in-FullyCovered c = walk_covered c.args.self.now.ready c.loop.invariant c.in-FullyCovered.ensures refl

pub loop-preserved : goal.loop-preserved
loop-preserved c = walk_on c.args.self.now.ready c.loop.invariant c.in-Intersecting.ensures refl (omega arith) c.half_side-side-in-Intersecting.ensures

pub returns-in-Disjoint-classify : goal.returns-in-Disjoint-classify
returns-in-Disjoint-classify c = walk_disjoint c.args.self.now.ready c.loop.invariant c.in-Disjoint-classify.ensures refl

pub returns-in-FullyCovered-classify : goal.returns-in-FullyCovered-classify
returns-in-FullyCovered-classify c = walk_covered c.args.self.now.ready c.loop.invariant c.in-FullyCovered-classify.ensures refl

pub returns-in-Intersecting-classify : goal.returns-in-Intersecting-classify
returns-in-Intersecting-classify c = walk_last c.args.self.now.ready c.loop.invariant c.in-Intersecting-classify.ensures refl (omega arith)
