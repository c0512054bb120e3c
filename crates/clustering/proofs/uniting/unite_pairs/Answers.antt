use Rattle.std.proofs.Common.{◌≡◌, ◌∙◌, rules}
use Rattle.counting_tree.specs.Given.{geometry}
use Rattle.clustering.proofs.Pairs.{all_rows, row_within, next_row, no_row, going_start, going_end, going_off, going_on}
use Rattle.clustering.proofs.uniting.unite_pairs.Goals as goal

pub loop-c-init : goal.loop-c-init
loop-c-init c = going_start (geometry c.args.cells.now.grid.frames) c.args.trials 0 c.requires (all_rows _ _ c.args.cells.now.grid.arranged.count)

pub returns-in_err-used : goal.returns-in_err-used
returns-in_err-used c =
    let z = going_off c.loop-c.invariant _ _ (row_within _ _ _ c.loop-c-test.true) (next_row _ _ _ c.loop-c-test.true) c.unite_row.ensures.value c.unite_row.ensures.leaders c.in_err-used.was in
    let e : c.from_residual.result ≡ c.unite_row.result = search rules in
    record { value = e ∙ z.0; leaders = z.1 }

pub loop-c-preserved : goal.loop-c-preserved
loop-c-preserved c = going_on c.loop-c.invariant _ _ (row_within _ _ _ c.loop-c-test.true) (next_row _ _ _ c.loop-c-test.true) c.unite_row.ensures.value c.unite_row.ensures.leaders c.in_ok-used.was

pub returns : goal.returns
returns c =
    let z = going_end c.loop-c.invariant (no_row _ _ _ c.loop-c-test.false) in
    record { value = z.0; leaders = z.1 }
