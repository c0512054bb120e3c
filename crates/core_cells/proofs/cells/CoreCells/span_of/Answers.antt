use mathlib.Core.Path.{refl, ap, ◌∙◌}
use Rattle.cells_grid.specs.Arrangement.{cell_at}
use Rattle.counting_tree.specs.Given.{geometry}
use Rattle.core_cells.specs.Spans.{raised_at}
use Rattle.cells_grid.proofs.Held.{frame_low}
use Rattle.core_cells.proofs.Spanning.{spanning_start, spanning_step, spanning_end, cell_span_lem, low_ends}
use Rattle.core_cells.proofs.cells.CoreCells.span_of.Goals as goal

pub raised_at-first-requires : goal.raised_at-first-requires
raised_at-first-requires c = c.first_of.ensures.bound

pub loop-x-init : goal.loop-x-init
loop-x-init c = spanning_start (c.raised_at-first.ensures.value ∙ ap (raised_at c.args.self.now.grid.frames.v c.args.self.now.grid.frames.n c.args.self.now.grid.frames.points.now) c.first_of.ensures.value)

pub raised_at-requires : goal.raised_at-requires
raised_at-requires c = frame_low c.args.self.now.grid c.requires c.frames_of-x-items.ensures _ c.loop-x-test.true

pub loop-x-preserved : goal.loop-x-preserved
loop-x-preserved c = spanning_step c.loop-x.invariant c.loop-x-test.true c.raised_at.ensures.value c.with-span.ensures.low c.with-span.ensures.high

pub returns : goal.returns
returns c =
    let e = spanning_end c.loop-x.invariant c.loop-x-test.false in
    record {
      value = cell_span_lem c.args.self.now c.args.c refl c.frames_of-x-items.ensures e;
      bound = low_ends (raised_at c.args.self.now.grid.frames.v c.args.self.now.grid.frames.n c.args.self.now.grid.frames.points.now) (cell_at (geometry c.args.self.now.grid.frames) c.args.c) c.frames_of-x-items.result.now e (c.raised_at-first.ensures.value ∙ ap (raised_at c.args.self.now.grid.frames.v c.args.self.now.grid.frames.n c.args.self.now.grid.frames.points.now) c.first_of.ensures.value) c.raised_at-first.ensures.bound;
    }
