use Prim.Native.Nat.{◌-◌, ◌^◌, ◌<◌}
use native.Mathlib.Omega.{arith}
use Rattle.cells_grid.proofs.Gathering.{asked, gathering_start, gathering_length, gathering_room, gathering_next, gathering_end}
use Rattle.cells_grid.proofs.listing.Search.list_rows.Goals as goal

pub loop-r-init : goal.loop-r-init
loop-r-init c = gathering_start (asked c.args.self.now.around.i c.args.after c.args.start c.requires.start c.requires.room) c.args.self.now.passed

pub list_row-m-requires : goal.list_row-m-requires
list_row-m-requires c =
    let low : c.loop-r.r < 2 ^ (c.args.self.now.around.frames.now.v.channels - 1) = omega (arith, c.loop-r-test.true, c.row_count-r-end.ensures) in
    let A = asked c.args.self.now.around.i c.args.after c.args.start c.requires.start c.requires.room in
    record { row = low; room = gathering_room A c.args.self.now.passed c.loop-r.invariant low }

pub loop-r-preserved : goal.loop-r-preserved
loop-r-preserved c =
    let A = asked c.args.self.now.around.i c.args.after c.args.start c.requires.start c.requires.room in
    gathering_next A c.args.self.now.passed c.loop-r.invariant (omega (arith, c.loop-r-test.true, c.row_count-r-end.ensures)) c.list_row-m.ensures.value c.list_row-m.ensures.list

pub shape_of-list : goal.shape_of-list
shape_of-list c = gathering_length (asked c.args.self.now.around.i c.args.after c.args.start c.requires.start c.requires.room) c.args.self.now.passed c.loop-r.invariant

pub returns : goal.returns
returns c =
    let A = asked c.args.self.now.around.i c.args.after c.args.start c.requires.start c.requires.room in
    let z = gathering_end A c.args.self.now.passed c.loop-r.invariant (omega (arith, c.loop-r-test.false, c.row_count-r-end.ensures)) in
    record { value = z.0; list = z.1 }
