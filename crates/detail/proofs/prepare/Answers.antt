-- What the words hold after each step.
use Rattle.std.proofs.Common.{◌*◌, ◌≤◌, length, arith, rules}
use Rattle.detail.proofs.Preparing.{arranged₁, clear₁, cored₂, clear₂, grown₃}
use Rattle.detail.proofs.prepare.Goals as goal

pub label_points-requires : goal.label_points-requires
label_points-requires c =
    let r = c.args.frames.now.ready in
    let room : 24 * c.args.frames.now.n ≤ length c.args.work.now = omega arith in (
      arranged₁ r c.args.work.now room c.clear_words.ensures c.populate-k.ensures.value c.populate-k.ensures.work_after,
      search rules,
      clear₁ r c.args.work.now room c.clear_words.ensures c.populate-k.ensures.value c.populate-k.ensures.work_after,
    )

pub build_trees-requires-clause-ready : goal.build_trees-requires-clause-ready
build_trees-requires-clause-ready c =
    cored₂ c.args.frames.now.ready c.args.work.now (omega arith) c.clear_words.ensures c.populate-k.ensures.value c.populate-k.ensures.work_after c.label_points.ensures

pub build_trees-requires-clause-s_in_bounds : goal.build_trees-requires-clause-s_in_bounds
build_trees-requires-clause-s_in_bounds c =
    (search rules, clear₂ c.args.frames.now.ready c.args.work.now (omega arith) c.clear_words.ensures c.populate-k.ensures.value c.populate-k.ensures.work_after c.label_points.ensures)

pub returns : goal.returns
returns c =
    grown₃ c.args.frames.now.ready c.args.work.now (omega arith) c.clear_words.ensures c.populate-k.ensures.value c.populate-k.ensures.work_after c.label_points.ensures c.build_trees.ensures
