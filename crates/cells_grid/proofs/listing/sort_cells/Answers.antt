-- The keys are written, the cells sorted by them, and the keys cleared.
use mathlib.Core.Path.{◌≡◌, sym}
use Prim.Native.Nat.{◌*◌}
use native.Mathlib.Nat.{zero-add}
use native.Mathlib.Omega.{arith}
use lib.ListN.{length, take}
use Rattle.std.proofs.Common.{length-take-le}
use Rattle.lists.proofs.LoopLaws.{fill_start, fill_step}
use Rattle.cells_grid.proofs.Core.{bits_end}
use Rattle.cells_grid.proofs.Sorting.{cells_few, keys_arranged, keys_tree, cells_room, cells_clear, cells_can, cells_sorted}
use Rattle.cells_grid.proofs.listing.sort_cells.Goals as goal

pub slice_bounds-keys-end : goal.slice_bounds-keys-end
slice_bounds-keys-end c =
    let a = c.split_at_mut-cells.ensures in
    let b = c.split_at_mut-ends.ensures in
    let d = c.split_at_mut-places.ensures in
    (cells_room c.args.frames.now.ready c.requires.ready.0 c.requires.ready.1 c.requires.ready.2 a.front a.back b.front b.back d.front d.back).2

pub slice_bounds-keys-end-2 : goal.slice_bounds-keys-end-2
slice_bounds-keys-end-2 c =
    let a = c.split_at_mut-cells.ensures in
    let b = c.split_at_mut-ends.ensures in
    let d = c.split_at_mut-places.ensures in
    sym (length-take-le c.args.k _ (cells_room c.args.frames.now.ready c.requires.ready.0 c.requires.ready.1 c.requires.ready.2 a.front a.back b.front b.back d.front d.back).2)

pub loop-c-init : goal.loop-c-init
loop-c-init c =
    let a = c.split_at_mut-cells.ensures in
    let b = c.split_at_mut-ends.ensures in
    let d = c.split_at_mut-places.ensures in
    let kl : length (take c.args.k c.split_at_mut-places.result.1.now) ≡ c.args.k = length-take-le c.args.k _ (cells_room c.args.frames.now.ready c.requires.ready.0 c.requires.ready.1 c.requires.ready.2 a.front a.back b.front b.back d.front d.back).2 in
    fill_start (omega (arith, kl))

pub cell_key-requires-clause-ready : goal.cell_key-requires-clause-ready
cell_key-requires-clause-ready c =
    let a = c.split_at_mut-cells.ensures in
    let b = c.split_at_mut-ends.ensures in
    let d = c.split_at_mut-places.ensures in
    let kl : length (take c.args.k c.split_at_mut-places.result.1.now) ≡ c.args.k = length-take-le c.args.k _ (cells_room c.args.frames.now.ready c.requires.ready.0 c.requires.ready.1 c.requires.ready.2 a.front a.back b.front b.back d.front d.back).2 in
    (keys_arranged c.args.frames.now.ready c.requires.ready.0 c.requires.ready.1 c.requires.ready.2 a.front, omega (arith, c.loop-c-test.true, kl), omega (arith, a.front_len))

pub cell_key-requires-clause-c_value : goal.cell_key-requires-clause-c_value
cell_key-requires-clause-c_value c =
    let a = c.split_at_mut-cells.ensures in
    let b = c.split_at_mut-ends.ensures in
    let d = c.split_at_mut-places.ensures in
    let kl : length (take c.args.k c.split_at_mut-places.result.1.now) ≡ c.args.k = length-take-le c.args.k _ (cells_room c.args.frames.now.ready c.requires.ready.0 c.requires.ready.1 c.requires.ready.2 a.front a.back b.front b.back d.front d.back).2 in
    keys_tree c.args.frames.now.ready c.requires.ready.0 c.requires.ready.1 c.requires.ready.2 a.front c.requires.by_index c.loop-c.c (omega (arith, c.loop-c-test.true, kl))

pub overflow_cast-key : goal.overflow_cast-key
overflow_cast-key c = omega (arith, c.cell_key.ensures.upper_bound, c.args.frames.now.ready.few, cells_few c.args.frames.now.ready c.requires.ready.0)

pub loop-c-preserved : goal.loop-c-preserved
loop-c-preserved c =
    let a = c.split_at_mut-cells.ensures in
    let b = c.split_at_mut-ends.ensures in
    let d = c.split_at_mut-places.ensures in
    let kl : length (take c.args.k c.split_at_mut-places.result.1.now) ≡ c.args.k = length-take-le c.args.k _ (cells_room c.args.frames.now.ready c.requires.ready.0 c.requires.ready.1 c.requires.ready.2 a.front a.back b.front b.back d.front d.back).2 in
    fill_step c.loop-c.invariant (omega (arith, c.loop-c-test.true, kl)) _ _ (sym (zero-add c.loop-c.c)) c.cell_key.ensures.value

pub slice_bounds-sort-end : goal.slice_bounds-sort-end
slice_bounds-sort-end c =
    let a = c.split_at_mut-cells.ensures in
    let b = c.split_at_mut-ends.ensures in
    let d = c.split_at_mut-places.ensures in
    (cells_room c.args.frames.now.ready c.requires.ready.0 c.requires.ready.1 c.requires.ready.2 a.front a.back b.front b.back d.front d.back).0

pub slice_bounds-sort-end-2 : goal.slice_bounds-sort-end-2
slice_bounds-sort-end-2 c =
    let a = c.split_at_mut-cells.ensures in
    let b = c.split_at_mut-ends.ensures in
    let d = c.split_at_mut-places.ensures in
    sym (length-take-le (4 * c.args.k) _ (cells_room c.args.frames.now.ready c.requires.ready.0 c.requires.ready.1 c.requires.ready.2 a.front a.back b.front b.back d.front d.back).0)

pub slice_bounds-sort-end-3 : goal.slice_bounds-sort-end-3
slice_bounds-sort-end-3 c =
    let a = c.split_at_mut-cells.ensures in
    let b = c.split_at_mut-ends.ensures in
    let d = c.split_at_mut-places.ensures in
    (cells_room c.args.frames.now.ready c.requires.ready.0 c.requires.ready.1 c.requires.ready.2 a.front a.back b.front b.back d.front d.back).1

pub slice_bounds-sort-end-4 : goal.slice_bounds-sort-end-4
slice_bounds-sort-end-4 c =
    let a = c.split_at_mut-cells.ensures in
    let b = c.split_at_mut-ends.ensures in
    let d = c.split_at_mut-places.ensures in
    sym (length-take-le c.args.k _ (cells_room c.args.frames.now.ready c.requires.ready.0 c.requires.ready.1 c.requires.ready.2 a.front a.back b.front b.back d.front d.back).1)

pub sort-requires-clause-keys : goal.sort-requires-clause-keys
sort-requires-clause-keys c =
    let a = c.split_at_mut-cells.ensures in
    let b = c.split_at_mut-ends.ensures in
    let d = c.split_at_mut-places.ensures in
    let kl : length (take c.args.k c.split_at_mut-places.result.1.now) ≡ c.args.k = length-take-le c.args.k _ (cells_room c.args.frames.now.ready c.requires.ready.0 c.requires.ready.1 c.requires.ready.2 a.front a.back b.front b.back d.front d.back).2 in
    cells_can c.args.frames.now.ready c.requires.ready.0 c.requires.ready.1 c.requires.ready.2 a.front a.back b.front b.back d.front d.back (bits_end kl c.loop-c.invariant (omega (arith, c.loop-c-test.false, kl)))

pub sort-requires-clause-clear : goal.sort-requires-clause-clear
sort-requires-clause-clear c =
    let a = c.split_at_mut-cells.ensures in
    let b = c.split_at_mut-ends.ensures in
    let d = c.split_at_mut-places.ensures in
    cells_clear c.args.frames.now.ready c.requires.ready.0 c.requires.ready.1 c.requires.ready.2 a.front a.back b.front b.back d.front d.back

pub returns : goal.returns
returns c =
    let a = c.split_at_mut-cells.ensures in
    let b = c.split_at_mut-ends.ensures in
    let d = c.split_at_mut-places.ensures in
    let kl : length (take c.args.k c.split_at_mut-places.result.1.now) ≡ c.args.k = length-take-le c.args.k _ (cells_room c.args.frames.now.ready c.requires.ready.0 c.requires.ready.1 c.requires.ready.2 a.front a.back b.front b.back d.front d.back).2 in
    cells_sorted c.args.frames.now.ready c.requires.ready.0 c.requires.ready.1 c.requires.ready.2 a.front a.back b.front b.back d.front d.back (bits_end kl c.loop-c.invariant (omega (arith, c.loop-c-test.false, kl)))
    c.sort.ensures.ends c.sort.ensures.places (c.fill.ensures.after (λ y h. h)) (omega (arith, c.loop-c.auto.keys, kl))
