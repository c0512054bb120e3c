-- `meet` meets its contract, by what the sets and the test say of the two cells.
use mathlib.Core.Path.{sym, subst}
use native.Mathlib.Omega.{arith}
use Rattle.clustering.specs.Leading.{Leading}
use Rattle.clustering.proofs.Meeting.{asked_lead, met_one, met_apart, met_joined}
use Rattle.clustering.proofs.links.meet.Goals.{else-in_two_sets-via-then-in_two_sets+else-linked, else-in_two_sets-via-else-in_two_sets}
use Rattle.clustering.proofs.links.meet.Goals as goal

pub union-requires : goal.union-requires
union-requires g c =
    let L = subst (Leading (g.L.Links.cells c.args.links.now)) (sym c.in_two_sets.ensures.leaders) (asked_lead c.requires.0 c.args.c c.args.d c.requires.1 c.requires.2) in
    (L.falling, omega (arith, L.size), omega (arith, L.size), omega (arith, L.size, L.few))

pub returns-then-linked : goal.returns-then-linked
returns-then-linked g c = met_joined (g.L.Links.linked c.args.links.now) c.args.c c.args.d c.args.leaders.now c.in_two_sets.ensures.answer c.in_two_sets.ensures.leaders c.if-in_two_sets.true c.linked.ensures c.if-linked.true c.union.ensures

pub returns-else-in_two_sets : goal.returns-else-in_two_sets
returns-else-in_two_sets g c = elim c.else-in_two_sets.branch [
  | else-in_two_sets-via-then-in_two_sets+else-linked w ↦
      met_apart (g.L.Links.linked c.args.links.now) c.args.c c.args.d c.args.leaders.now c.in_two_sets.ensures.answer c.in_two_sets.ensures.leaders w.if-in_two_sets.true w.linked.ensures w.if-linked.false
  | else-in_two_sets-via-else-in_two_sets w ↦ met_one (g.L.Links.linked c.args.links.now) c.args.c c.args.d c.args.leaders.now c.in_two_sets.ensures.answer c.in_two_sets.ensures.leaders w.if-in_two_sets.false
]
