-- The keys are written, the frames sorted by them, and the keys cleared.
use native.Mathlib.Nat.{zero-add}
use mathlib.Core.Path.{sym}
use native.Mathlib.Omega.{arith}
use Rattle.lists.proofs.LoopLaws.{fill_start, fill_step}
use Rattle.cells_grid.proofs.Core.{frame_key_lem, bits_end, frames_can, frames_clear, frames_sorted}
use Rattle.cells_grid.proofs.crowding.sort_frames.Goals as goal

pub width-width-requires : goal.width-width-requires
width-width-requires c = omega (arith, c.args.frames.now.ready.settings.scale.high)

pub loop-j-init : goal.loop-j-init
loop-j-init c = fill_start (omega (arith, c.split_at_mut-keys.ensures.front_len))

pub loop-j-preserved : goal.loop-j-preserved
loop-j-preserved c = fill_step c.loop-j.invariant (omega (arith, c.loop-j-test.true, c.split_at_mut-keys.ensures.front_len)) _ _ (sym (zero-add c.loop-j.j)) (omega (arith, frame_key_lem c.args.frames.now.v c.args.frames.now.n c.args.frames.now.points.now c.loop-j.j c.width-width.ensures c.key.ensures.value))

pub sort-requires-clause-keys : goal.sort-requires-clause-keys
sort-requires-clause-keys c =
    let a = c.split_at_mut-rest.ensures in
    let b = c.split_at_mut-places.ensures in
    let d = c.split_at_mut-keys.ensures in
    frames_can c.args.frames.now.ready c.args.work.now c.requires.0 c.requires.1 a.front a.back b.front b.back d.front d.back (bits_end d.front_len c.loop-j.invariant (omega (arith, c.loop-j-test.false, d.front_len)))

pub sort-requires-clause-clear : goal.sort-requires-clause-clear
sort-requires-clause-clear c =
    let a = c.split_at_mut-rest.ensures in
    let b = c.split_at_mut-places.ensures in
    let d = c.split_at_mut-keys.ensures in
    frames_clear c.args.frames.now.ready c.args.work.now c.requires.0 c.requires.1 a.front a.back b.front b.back d.front d.back (bits_end d.front_len c.loop-j.invariant (omega (arith, c.loop-j-test.false, d.front_len)))

pub returns : goal.returns
returns c =
    let a = c.split_at_mut-rest.ensures in
    let b = c.split_at_mut-places.ensures in
    let d = c.split_at_mut-keys.ensures in
    frames_sorted c.args.frames.now.ready c.args.work.now c.requires.0 c.requires.1 a.front a.back b.front b.back d.front d.back (bits_end d.front_len c.loop-j.invariant (omega (arith, c.loop-j-test.false, d.front_len)))
    c.sort.ensures.ends c.sort.ensures.places (c.fill.ensures.after (λ y h. h)) (omega (arith, c.loop-j.auto.keys, d.front_len))
