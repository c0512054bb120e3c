-- `asked_at_last` meets its contract: whatever is found linked, what is left are leaders.
use native.Mathlib.Omega.{arith}
use Rattle.clustering.specs.Soon.{soon_linked_at}
use Rattle.clustering.specs.Leading.{Leading}
use Rattle.clustering.proofs.ByLists.{rows_lead}
use Rattle.clustering.proofs.Stages.{can_mark, marked_leading, marked_cells}
use Rattle.clustering.proofs.Phases.{few_words, alone_leading, close_leading}
use Rattle.clustering.proofs.Clearing.{again_on}
use Rattle.clustering.proofs.trees.asked_at_last.Goals.{After-meet_stage}
use Rattle.clustering.proofs.trees.asked_at_last.Goals as goal

pub reset-requires : goal.reset-requires
reset-requires c = omega (arith, few_words c.args.cells.now.core.grid, c.requires.0)

pub unite_close_cells-requires : goal.unite_close_cells-requires
unite_close_cells-requires c = alone_leading c.args.cells.now.core.grid c.requires.0 c.reset.ensures

pub mark_cells-requires : goal.mark_cells-requires
mark_cells-requires c =
    let L = close_leading c.args.cells.now.core.grid c.requires.0 c.reset.ensures c.unite_close_cells.ensures in
    can_mark c.args.cells.now.core.grid L c.args.cells.now.placed c.args.marks.now c.args.runs.now c.requires.1 c.requires.2

pub meet_stage-requires-clause-leaders : goal.meet_stage-requires-clause-leaders
meet_stage-requires-clause-leaders c =
    let L = close_leading c.args.cells.now.core.grid c.requires.0 c.reset.ensures c.unite_close_cells.ensures in (
      marked_leading c.args.cells.now.core.grid L c.args.cells.now.placed c.mark_cells.ensures.leaders,
      marked_cells c.args.cells.now.core.grid L c.args.cells.now.placed c.mark_cells.ensures.marks c.mark_cells.ensures.runs,
    )

soon_leading : (c : After-meet_stage) → Leading c.args.cells.now.core.grid.k c.meet_stage.new.leaders
soon_leading c =
    let f = c.args.cells.now.core.grid.frames in
    let L = close_leading c.args.cells.now.core.grid c.requires.0 c.reset.ensures c.unite_close_cells.ensures in
    rows_lead c.args.cells.now.core.grid (soon_linked_at f.v f.n f.points.now) c.mark_cells.new.marks 0 c.args.cells.now.core.grid.k (omega arith)
    (marked_leading c.args.cells.now.core.grid L c.args.cells.now.placed c.mark_cells.ensures.leaders) c.meet_stage.ensures.leaders

pub mark_cells-requires-2 : goal.mark_cells-requires-2
mark_cells-requires-2 c =
    can_mark c.args.cells.now.core.grid (soon_leading ((goal.at.mark_cells-requires-2 c).After-meet_stage)) c.args.cells.now.placed c.mark_cells.new.marks c.mark_cells.new.runs
    (omega (arith, c.requires.1, c.mark_cells.auto.marks)) (omega (arith, c.requires.2, c.mark_cells.auto.runs))

pub some_ask-requires : goal.some_ask-requires
some_ask-requires c = (
  marked_cells c.args.cells.now.core.grid (soon_leading ((goal.at.some_ask-requires c).After-meet_stage)) c.args.cells.now.placed c.mark_cells-2.ensures.marks c.mark_cells-2.ensures.runs,
  omega (arith, c.requires.3, c.meet_stage.auto.list),
)

pub returns : goal.returns
returns c = again_on c.meet_stage.ensures.list c.some_ask.ensures
