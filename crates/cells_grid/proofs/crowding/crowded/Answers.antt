-- The sorted frames stand from 14n on.
use Prim.Native.Nat.{◌-◌, ◌*◌}
use native.Mathlib.Omega.{arith}
use Rattle.cells_grid.proofs.Cut.{sorted_words}
use Rattle.cells_grid.proofs.crowding.crowded.Goals as goal

pub invariant_of-sorted : goal.invariant_of-sorted
invariant_of-sorted c =
    let f = c.args.grid.now.frames in
    record { by_block = sorted_words c.args.grid.now.work.now f.n c.requires.by_block.1 (24 * f.n - 14 * f.n) (omega arith) c.requires.by_block.0 }
