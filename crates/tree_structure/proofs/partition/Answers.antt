-- `partition` meets its contract: the goals about its loop follow from `Spread`.
use Rattle.std.proofs.Common.{sym, arith}
use mathlib.Core.Path.{subst}
use Rattle.counting_tree.specs.Radius.{Side}
use Rattle.counting_tree.specs.Indexes.{ready_side}
use Rattle.counting_tree.proofs.Lent.{centre_is, box_indexes, box_same}
use Rattle.tree_structure.proofs.Parting.{spread_start, spread_fits, spread_kept, spread_end, spread_sum, spread_lengths, spread_below, spread_keep, spread_lose}
use Rattle.tree_structure.proofs.partition.Goals as goal
use Rattle.tree_structure.proofs.partition.Goals.{then-shares_box, else-shares_box}

pub indexes_at-at-requires : goal.indexes_at-at-requires
indexes_at-at-requires c =
    let l = c.args.level.now in
    (c.requires.ready.0, ready_side l.frames.now.ready l.level l.side l.side_is (omega (arith, l.bound)))

pub box_of-place-requires-clause-side : goal.box_of-place-requires-clause-side
box_of-place-requires-clause-side c =
    let l = c.args.level.now in
    ready_side l.frames.now.ready l.level l.side l.side_is (omega (arith, l.bound))

pub loop-i-init : goal.loop-i-init
loop-i-init c = spread_start c.requires.room

pub shares_box-requires-clause-ready : goal.shares_box-requires-clause-ready
shares_box-requires-clause-ready c =
    let l = c.args.level.now in
    let b = centre_is l.frames.now.ready c.args.pivot c.requires.ready.0 c.frame_at-counts.result c.frame_at-counts.ensures l.side c.box_of-place.result c.box_of-place.ensures in
    (omega (arith, c.from.ensures, spread_below c.loop-i.invariant c.loop-i-test.true c.requires.ready.1), subst Side (sym b.0) (ready_side l.frames.now.ready l.level l.side l.side_is (omega (arith, l.bound))))

pub shares_box-requires-clause-centre_value : goal.shares_box-requires-clause-centre_value
shares_box-requires-clause-centre_value c =
    let l = c.args.level.now in
    box_indexes l.frames.now.ready c.args.pivot c.requires.ready.0 c.frame_at-counts.result c.frame_at-counts.ensures l.side c.box_of-place.result c.box_of-place.ensures c.indexes_at-at.result c.indexes_at-at.ensures

pub offset_bounds-members-kept : goal.offset_bounds-members-kept
offset_bounds-members-kept c = omega (arith, spread_sum c.loop-i.invariant, spread_lengths c.loop-i.invariant)

pub bounds-members-kept : goal.bounds-members-kept
bounds-members-kept c = omega (arith, spread_sum c.loop-i.invariant, spread_lengths c.loop-i.invariant)

pub overflow_add-kept : goal.overflow_add-kept
overflow_add-kept c = omega (arith, spread_sum c.loop-i.invariant)

pub bounds-scratch-lost : goal.bounds-scratch-lost
bounds-scratch-lost c = omega (arith, spread_sum c.loop-i.invariant, spread_lengths c.loop-i.invariant, c.requires.room)

pub loop-i-preserved : goal.loop-i-preserved
loop-i-preserved c =
    let l = c.args.level.now in
    let e = box_same l.frames.now.ready c.args.pivot c.requires.ready.0 c.frame_at-counts.result c.frame_at-counts.ensures l.level l.side l.side_is c.box_of-place.result c.box_of-place.ensures c.indexes_at-at.result c.indexes_at-at.ensures c.from.result c.shares_box.result c.shares_box.ensures in
    elim c.if-shares_box.branch [
      | then-shares_box w ↦ rw (w.members-is, w.scratch-is, w.kept-is, w.lost-is) (spread_keep c.loop-i.invariant c.loop-i-test.true c.from.ensures e w.if-shares_box.true)
      | else-shares_box w ↦ rw (w.members-is, w.scratch-is, w.kept-is, w.lost-is) (spread_lose c.loop-i.invariant c.loop-i-test.true c.from.ensures e w.if-shares_box.false)
    ]

pub copy-requires : goal.copy-requires
copy-requires c = spread_fits c.loop-i.invariant c.loop-i-test.false

pub returns-clause-kept : goal.returns-clause-kept
returns-clause-kept c = spread_kept c.loop-i.invariant c.loop-i-test.false

pub returns-clause-members_after : goal.returns-clause-members_after
returns-clause-members_after c = spread_end c.loop-i.invariant c.loop-i-test.false _ c.copy.ensures
