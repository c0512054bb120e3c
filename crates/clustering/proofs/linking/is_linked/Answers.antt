use Rattle.std.specs.Prelude.{length}
use Rattle.std.proofs.Math.Path.{ap}
use Rattle.clustering.proofs.Turning.{link_none, link_early, link_few, link_late, link_told}
use Rattle.clustering.proofs.linking.is_linked.Goals as goal

pub returns-then-apart : goal.returns-then-apart
returns-then-apart c = link_none _ _ _ _ _ (c.apart.ensures.tells c.if-apart.true)

pub returns-then-by_turns : goal.returns-then-by_turns
returns-then-by_turns c = link_early _ c.target_of-a.ensures.cell c.target_of-b.ensures.cell c.by_turns.ensures c.if-by_turns.true

pub returns-then-most-le-TURNS : goal.returns-then-most-le-TURNS
returns-then-most-le-TURNS c = link_few _ c.target_of-a.ensures.cell c.target_of-b.ensures.cell c.by_turns.ensures c.if-by_turns.false (ap length c.frames_of.ensures) (ap length c.frames_of-2.ensures) c.max-most.ensures c.if-most-le-TURNS.true

pub returns-in-Some : goal.returns-in-Some
returns-in-Some c = link_told _ _ _ _ _ c.in-Some.told c.in-Some.ensures.touches c.in-Some.ensures.apart

pub returns : goal.returns
returns c = link_late _ c.target_of-a.ensures.cell c.target_of-b.ensures.cell c.by_turns.ensures c.if-by_turns.false (ap length c.frames_of.ensures) (ap length c.frames_of-2.ensures) c.max-most.ensures c.if-most-le-TURNS.false c.by_turns-2.ensures
