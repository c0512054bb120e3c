-- `core_frame` meets its contract, by the frame that stands at the place, if one does.
use Rattle.std.proofs.Common.{arith, sym, ◌∙◌}
use Rattle.counting_tree.specs.Given.{geometry}
use Rattle.cells_grid.proofs.Held as Grid
use Rattle.clustering.proofs.Turning.{no_frame, is_frame, not_frame}
use Rattle.clustering.proofs.linking.core_frame.Goals as goal

pub returns-in_err-i-clause-value : goal.returns-in_err-i-clause-value
returns-in_err-i-clause-value c =
    let z = c.in_err-i.ensures.lookup in
    c.from_residual.ensures ∙ no_frame (geometry c.args.cells.now.grid.frames) c.args.c c.frames_of.ensures c.args.j z.3

pub is_core-requires : goal.is_core-requires
is_core-requires c =
    let z = c.in_ok-i.ensures.lookup.3 in
    omega (arith, z.1 0, Grid.frame_low c.args.cells.now.grid c.requires c.frames_of.ensures c.args.j z.0)

pub returns-then-is_core-clause-value : goal.returns-then-is_core-clause-value
returns-then-is_core-clause-value c =
    let z = c.in_ok-i.ensures.lookup.3 in
    is_frame (geometry c.args.cells.now.grid.frames) c.args.c c.frames_of.ensures c.args.j z.0 (z.1 0) (sym c.is_core.ensures ∙ c.if-is_core.true)

pub returns-then-is_core-clause-bound : goal.returns-then-is_core-clause-bound
returns-then-is_core-clause-bound c =
    let z = c.in_ok-i.ensures.lookup.3 in
    omega (arith, z.1 0, Grid.frame_low c.args.cells.now.grid c.requires c.frames_of.ensures c.args.j z.0)

pub returns-else-is_core-clause-value : goal.returns-else-is_core-clause-value
returns-else-is_core-clause-value c =
    let z = c.in_ok-i.ensures.lookup.3 in
    not_frame (geometry c.args.cells.now.grid.frames) c.args.c c.frames_of.ensures c.args.j z.0 (z.1 0) (sym c.is_core.ensures ∙ c.if-is_core.false)
