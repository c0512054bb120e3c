-- `fill_work` meets its contract.
use borrow.Author.Rules.{rules}
use Rattle.appx_dbscan.proofs.Phases.{clear_populate, arranged₁, clear₁, cored₂, clear₂, grown₃, clear₃, filled₄}
use Rattle.appx_dbscan.proofs.fill_work.Goals as goal

pub populate-k-requires : goal.populate-k-requires
populate-k-requires c = (search rules, (clear_populate c.args.frames.now.n c.args.work.now c.requires.1).0, (clear_populate c.args.frames.now.n c.args.work.now c.requires.1).1)

pub label_points-requires : goal.label_points-requires
label_points-requires c = (arranged₁ c.args.frames.now.ready c.args.work.now c.requires.0 c.populate-k.ensures.value c.populate-k.ensures.work_after, search rules, clear₁ c.args.frames.now.ready c.args.work.now c.requires.0 c.populate-k.ensures.value c.populate-k.ensures.work_after c.requires.1)

pub grow_trees-requires : goal.grow_trees-requires
grow_trees-requires c = (cored₂ c.args.frames.now.ready c.args.work.now c.requires.0 c.populate-k.ensures.value c.populate-k.ensures.work_after c.label_points.ensures, search rules, clear₂ c.args.frames.now.ready c.args.work.now c.requires.0 c.populate-k.ensures.value c.populate-k.ensures.work_after c.label_points.ensures c.requires.1)

pub label-requires : goal.label-requires
label-requires c = (grown₃ c.args.frames.now.ready c.args.work.now c.requires.0 c.populate-k.ensures.value c.populate-k.ensures.work_after c.label_points.ensures c.grow_trees.ensures.0 c.grow_trees.ensures.1, search rules, clear₃ c.args.frames.now.ready c.args.work.now c.requires.0 c.populate-k.ensures.value c.populate-k.ensures.work_after c.label_points.ensures c.grow_trees.ensures.0 c.grow_trees.ensures.1 c.requires.1)

pub returns : goal.returns
returns c = record { value = c.label.ensures.value; work_after = (c.grow_trees.ensures.0, filled₄ c.args.frames.now.ready c.args.work.now c.requires.0 c.populate-k.ensures.value c.populate-k.ensures.work_after c.label_points.ensures c.grow_trees.ensures.0 c.grow_trees.ensures.1 c.label.ensures.work_after) }
