use mathlib.Core.Path.{refl}
use Prim.Native.Nat.{◌-◌, ◌^◌, ◌<◌}
use native.Mathlib.Omega.{arith}
use Rattle.cells_grid.proofs.NeighbourSearch.{own_is}
use Rattle.cells_grid.proofs.PairLoops.{frame_start, frame_room, frame_sum, frame_next, frame_fits, frame_end}
use Rattle.cells_grid.proofs.pairs.count_frame.Goals as goal

pub loop-m-init : goal.loop-m-init
loop-m-init c = let a = c.args.search.now.around in frame_start a.frames.now.ready a.frames.now.counts a.inside c.requires (own_is c.args.search.now c.own_row-m.ensures.value)

pub count_row-sum-requires : goal.count_row-sum-requires
count_row-sum-requires c =
    let a = c.args.search.now.around in
    let l : c.loop-m.m < 2 ^ (a.frames.now.v.channels - 1) = omega (arith, c.loop-m-test.true, c.row_count-m-end.ensures) in
    (l, frame_room a.frames.now.ready a.frames.now.counts a.inside c.requires c.loop-m.invariant l)

pub overflow_add-sum : goal.overflow_add-sum
overflow_add-sum c =
    let a = c.args.search.now.around in
    omega (arith, a.frames.now.ready.few, frame_sum a.frames.now.ready a.frames.now.counts a.inside c.requires c.loop-m.invariant (omega (arith, c.loop-m-test.true, c.row_count-m-end.ensures)) c.count_row-sum.ensures.value)

pub loop-m-preserved : goal.loop-m-preserved
loop-m-preserved c =
    let a = c.args.search.now.around in
    frame_next a.frames.now.ready a.frames.now.counts a.inside c.requires c.loop-m.invariant (omega (arith, c.loop-m-test.true, c.row_count-m-end.ensures)) c.count_row-sum.ensures.value c.count_row-sum.ensures.counts_after

pub overflow_cast-counts : goal.overflow_cast-counts
overflow_cast-counts c =
    let a = c.args.search.now.around in
    omega (arith, (frame_fits a.frames.now.ready a.frames.now.counts a.inside c.requires c.loop-m.invariant (omega (arith, c.loop-m-test.false, c.row_count-m-end.ensures))).1)

pub overflow_add-counts : goal.overflow_add-counts
overflow_add-counts c =
    let a = c.args.search.now.around in
    omega (arith, (frame_fits a.frames.now.ready a.frames.now.counts a.inside c.requires c.loop-m.invariant (omega (arith, c.loop-m-test.false, c.row_count-m-end.ensures))).1)

pub returns : goal.returns
returns c =
    let a = c.args.search.now.around in
    frame_end a.frames.now.ready a.frames.now.counts a.inside c.requires c.loop-m.invariant (omega (arith, c.loop-m-test.false, c.row_count-m-end.ensures)) refl
