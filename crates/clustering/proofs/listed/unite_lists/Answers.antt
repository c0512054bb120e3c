use mathlib.Core.Path.{refl}
use native.Mathlib.Omega.{arith}
use Rattle.cells_grid.proofs.Held.{few}
use Rattle.clustering.proofs.Stages.{can_mark, marked_leading, marked_cells, stages_start, stages_end, stages_on}
use Rattle.clustering.proofs.Clearing.{again_same, again_on}
use Rattle.clustering.proofs.listed.unite_lists.Goals as goal

pub loop-from-init : goal.loop-from-init
loop-from-init c = record { stages = stages_start c.args.cells.now.core.grid c.requires.0; list = again_same _ }

pub mark_cells-requires : goal.mark_cells-requires
mark_cells-requires c =
    can_mark c.args.cells.now.core.grid c.loop-from.invariant.stages.leading c.args.cells.now.placed c.loop-from.marks c.loop-from.runs (omega (arith, c.requires.1, c.loop-from.auto.marks)) (omega (arith, c.requires.2, c.loop-from.auto.runs))

pub stage_end-to-requires : goal.stage_end-to-requires
stage_end-to-requires c = (c.loop-from-test.true, omega (arith, few c.args.cells.now.core.grid, c.args.cells.now.core.grid.frames.ready.few))

pub meet_stage-requires : goal.meet_stage-requires
meet_stage-requires c =
    let i = c.loop-from.invariant.stages in
    record {
      cells = (refl, omega (arith, c.stage_end-to.ensures), omega (arith, c.requires.3, c.loop-from.auto.list));
      leaders = (
        marked_leading c.args.cells.now.core.grid i.leading c.args.cells.now.placed c.mark_cells.ensures.leaders,
        marked_cells c.args.cells.now.core.grid i.leading c.args.cells.now.placed c.mark_cells.ensures.marks c.mark_cells.ensures.runs,
      );
    }

pub loop-from-smaller : goal.loop-from-smaller
loop-from-smaller c = omega (arith, c.stage_end-to.ensures)

pub loop-from-preserved : goal.loop-from-preserved
loop-from-preserved c = record {
  stages = stages_on c.loop-from.invariant.stages c.mark_cells.ensures.leaders c.mark_cells.ensures.marks (omega (arith, c.stage_end-to.ensures)) (omega (arith, c.stage_end-to.ensures)) c.meet_stage.ensures.leaders;
  list = again_on c.loop-from.invariant.list c.meet_stage.ensures.list;
}

pub returns : goal.returns
returns c = record { leaders = stages_end c.loop-from.invariant.stages c.loop-from-test.false; list = c.loop-from.invariant.list }
