-- `build_node` meets its contract: the invariant of the loop is `Building`.
use Rattle.std.proofs.Common.{◌∙◌, arith}
use Rattle.tree_structure.proofs.Building.{first_below, others_below, child_can, building_start, building_step, sum_fits, own_room, first_low, leaf_size, leaf_words, node_size, node_words}
use Rattle.tree_structure.proofs.+build_node.Goals as goal

pub write-requires : goal.write-requires
write-requires t c =
    let r = c.requires.room in
    (own_room r c.from-first.ensures, r.few, omega arith, omega (arith, c.args.level.now.frames.now.ready.few, first_low r c.from-first.ensures))

pub returns-then-level-eq0-clause-size : goal.returns-then-level-eq0-clause-size
returns-then-level-eq0-clause-size t c = leaf_size c.requires.room c.from-first.ensures c.if-level-eq0.true

pub returns-then-level-eq0-clause-words : goal.returns-then-level-eq0-clause-words
returns-then-level-eq0-clause-words t c = c.write.ensures ∙ leaf_words c.requires.room c.from-first.ensures c.if-level-eq0.true

pub loop-from-init : goal.loop-from-init
loop-from-init t c =
    let e = c.below-below.ensures in
    rw (e.0, e.1, e.2) (building_start c.requires.room c.if-level-eq0.false)

pub partition-kept-requires-clause-ready : goal.partition-kept-requires-clause-ready
partition-kept-requires-clause-ready t c =
    let i = c.loop-from.invariant in
    (omega (arith, c.from-pivot.ensures, first_below i c.loop-from-test.true), others_below i c.loop-from-test.true)

pub build_node-size-requires : goal.build_node-size-requires
build_node-size-requires t c =
    let e = c.partition-kept.ensures in
    (omega (arith, c.decreases, c.below-below.ensures, c.if-level-eq0.false), child_can c.loop-from.invariant c.loop-from-test.true c.from-pivot.ensures e.kept e.members_after c.partition-kept.auto.scratch)

pub overflow_add-size : goal.overflow_add-size
overflow_add-size t c =
    let e = c.partition-kept.ensures in
    let d = c.build_node-size.ensures in
    omega (arith, sum_fits c.loop-from.invariant c.loop-from-test.true c.from-pivot.ensures e.kept e.members_after _ _ c.build_node-size.auto.members d.size d.words)

pub loop-from-preserved : goal.loop-from-preserved
loop-from-preserved t c =
    let e = c.partition-kept.ensures in
    let d = c.build_node-size.ensures in
    building_step c.loop-from.invariant c.loop-from-test.true c.from-pivot.ensures e.kept e.members_after _ _ c.build_node-size.auto.members d.size d.words (c.build_node-size.auto.scratch ∙ c.partition-kept.auto.scratch)

pub write-requires-2 : goal.write-requires-2
write-requires-2 t c =
    let r = c.requires.room in
    let e = c.below-below.ensures in
    let m = node_size r c.from-first.ensures c.if-level-eq0.false (rw (e.0, e.1, e.2) at c.loop-from.invariant) c.loop-from-test.false in
    (omega (arith, own_room r c.from-first.ensures, c.loop-from.auto.nodes), r.few, omega (arith, m, r.most), omega (arith, c.args.level.now.frames.now.ready.few, first_low r c.from-first.ensures))

pub returns-clause-size : goal.returns-clause-size
returns-clause-size t c =
    let e = c.below-below.ensures in
    node_size c.requires.room c.from-first.ensures c.if-level-eq0.false (rw (e.0, e.1, e.2) at c.loop-from.invariant) c.loop-from-test.false

pub returns-clause-words : goal.returns-clause-words
returns-clause-words t c =
    let e = c.below-below.ensures in
    c.write-2.ensures ∙ node_words c.requires.room c.from-first.ensures c.if-level-eq0.false (rw (e.0, e.1, e.2) at c.loop-from.invariant) c.loop-from-test.false
