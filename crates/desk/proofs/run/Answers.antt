-- The run is of what was parsed, and its lines are the answer to it.
use mathlib.Core.Path.{sym}
use native.Mathlib.Omega.{arith}
use Rattle.std.proofs.lemmas.Result.{err_from_is_err_and}
use Rattle.desk.specs.Lengths.{desk_malformed}
use Rattle.desk.proofs.Whole.{room_fits, can_read, answered}
use Rattle.desk.proofs.run.Goals as goal

pub returns-then-not-well_formed : goal.returns-then-not-well_formed
returns-then-not-well_formed c = sym (desk_malformed c.args.input.now (sym c.if-not-well_formed.ensures))

pub slice_bounds-points-end : goal.slice_bounds-points-end
slice_bounds-points-end c = sym (room_fits c.args.input.now (sym c.if-not-well_formed.ensures) c.frame_count-frames.ensures c.channels-d.ensures.value _ (omega arith))

pub read_points-requires : goal.read_points-requires
read_points-requires c = can_read c.args.input.now (sym c.if-not-well_formed.ensures) c.frame_count-frames.ensures c.channels-d.ensures.value _ (omega arith)

pub returns-in_err-counts : goal.returns-in_err-counts
returns-in_err-counts c =
    let p = err_from_is_err_and c.from_residual.result c.from_residual.ensures.1 in
    let a = c.in_err-counts.ensures in
    rw (p.1, p.2)
    (answered c.args.input.now (sym c.if-not-well_formed.ensures) c.frame_count-frames.ensures c.channels-d.ensures.value _ (omega arith) c.settings-p.ensures c.read_points.ensures a.outcome a.labels a.kinds)

pub returns : goal.returns
returns c =
    let a = c.in_ok-counts.ensures in
    answered c.args.input.now (sym c.if-not-well_formed.ensures) c.frame_count-frames.ensures c.channels-d.ensures.value _ (omega arith) c.settings-p.ensures c.read_points.ensures a.outcome a.labels a.kinds
