use Rattle.std.proofs.Common.{rules}
use borrow.Author.Tests.{tests}
use Rattle.clustering.proofs.Bordering.{lists, listed_low, not_lower, no_count, lower, lowest_border}
use Rattle.clustering.proofs.Clearing.{cleared}
use Rattle.clustering.proofs.labels.border_cell.Goals as goal
use Rattle.clustering.proofs.labels.border_cell.Goals.{then-is_none_or+then-reaches, else-is_none_or, else-is_none_or-via-then-is_none_or+else-reaches, else-is_none_or-via-else-is_none_or}

pub root_first-requires : goal.root_first-requires
root_first-requires c = listed_low (lists c.args.cells.now.core.grid _ c.sorted.ensures.0 c.cell_of.ensures.value c.cell_of.ensures.bound c.list_cells-m.ensures.value c.list_cells-m.ensures.list) c.loop-c-test.true

pub reaches-requires : goal.reaches-requires
reaches-requires c =
    let z = lists c.args.cells.now.core.grid _ c.sorted.ensures.0 c.cell_of.ensures.value c.cell_of.ensures.bound c.list_cells-m.ensures.value c.list_cells-m.ensures.list in
    (c.requires.0, listed_low z c.loop-c-test.true, c.root_first.ensures.root)

pub loop-c-preserved : goal.loop-c-preserved
loop-c-preserved c =
    let z = lists c.args.cells.now.core.grid _ c.sorted.ensures.0 c.cell_of.ensures.value c.cell_of.ensures.bound c.list_cells-m.ensures.value c.list_cells-m.ensures.list in
    elim c.if-is_none_or.branch [
      | then-is_none_or+then-reaches w ↦ rw w.lowest-is (lower z c.loop-c-test.true _ c.loop-c.invariant c.is_none_or.ensures (λ x p. search (rules, tests)) w.if-is_none_or.true w.reaches.ensures w.if-reaches.true)
      | else-is_none_or w ↦ rw w.lowest-is (elim w.else-is_none_or.branch [
        | else-is_none_or-via-then-is_none_or+else-reaches v ↦ no_count z c.loop-c-test.true _ c.loop-c.invariant v.reaches.ensures v.if-reaches.false
        | else-is_none_or-via-else-is_none_or v ↦ not_lower z c.loop-c-test.true _ c.loop-c.invariant c.is_none_or.ensures (λ x p. search (rules, tests)) v.if-is_none_or.false
      ])
    ]

pub returns-clause-cell : goal.returns-clause-cell
returns-clause-cell c =
    lowest_border (lists c.args.cells.now.core.grid _ c.sorted.ensures.0 c.cell_of.ensures.value c.cell_of.ensures.bound c.list_cells-m.ensures.value c.list_cells-m.ensures.list) c.loop-c.invariant c.loop-c-test.false

pub returns-clause-list : goal.returns-clause-list
returns-clause-list c = cleared _ c.list_cells-m.ensures.value c.list_cells-m.ensures.list c.list_cells-m.auto.list (c.fill.ensures.after (λ y h. h))
