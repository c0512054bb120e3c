-- What the edges and hashes say, as the laws of rows have it.
use mathlib.Core.Path.{refl, ap}
use Prim.Native.Nat.{ℕ, ◌/◌}
use lib.ListN.{get_or}
use Rattle.blocks.specs.AroundLaws.{rows_of, rows_hash}
use Rattle.cells_grid.proofs.around.Around.new.Goals as goal

pub invariant_of-result : goal.invariant_of-result
invariant_of-result c =
    let w = c.width-width.ensures in
    let R = rows_of {reach = c.args.reach} c.args.frames.now.ready c.requires.0 w refl (c.edges_at-first.ensures.value, c.edges_at-first.ensures.below) in
    record { inside = c.requires.0; few = c.requires.1; begin = R.begin; small = R.small; hashed = rows_hash R w c.row_hashes-hashes.ensures.value; block = ap (λ (z : ℕ). get_or c.edges_at-first.result 0 0 / z) w }
