use Rattle.std.proofs.Common.{◌≡◌, ◌∙◌, rules}
use Rattle.clustering.proofs.UnitingLaws.{one_within}
use Rattle.clustering.proofs.Pairs.{next_pair, no_pair, going_end, going_off, going_on}
use Rattle.clustering.proofs.uniting.unite_row.Goals as goal

pub returns-in_err-used : goal.returns-in_err-used
returns-in_err-used c =
    let z = going_off c.loop-d.invariant _ _ (one_within _ _ _ c.requires.1 c.loop-d-test.true) (next_pair _ _ _ _ c.loop-d-test.true) c.try_pair.ensures.value c.try_pair.ensures.leaders c.in_err-used.was in
    let e : c.from_residual.result ≡ c.try_pair.result = search rules in
    record { value = e ∙ z.0; leaders = z.1 }

pub loop-d-preserved : goal.loop-d-preserved
loop-d-preserved c = going_on c.loop-d.invariant _ _ (one_within _ _ _ c.requires.1 c.loop-d-test.true) (next_pair _ _ _ _ c.loop-d-test.true) c.try_pair.ensures.value c.try_pair.ensures.leaders c.in_ok-used.was

pub returns : goal.returns
returns c =
    let z = going_end c.loop-d.invariant (no_pair _ _ _ _ c.loop-d-test.false) in
    record { value = z.0; leaders = z.1 }
