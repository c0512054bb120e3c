-- `meet_close` meets its contract, by what the leaders and the sets say of the two cells.
use mathlib.Core.Path.{refl, sym, subst, ◌∙◌}
use native.Mathlib.Omega.{arith}
use Rattle.clustering.specs.Leading.{Leading}
use Rattle.clustering.proofs.Meeting.{asked_lead, met_one, met_joined}
use Rattle.clustering.proofs.Closing.{not_close, close_met, close_leader, close_link}
use Rattle.clustering.proofs.close.meet_close.Goals.{then-leaders-later-via-then-leaders-later, then-leaders-later-via-else-leaders-later+then-not-is_close}
use Rattle.clustering.proofs.close.meet_close.Goals as goal

pub returns-then-leaders-later : goal.returns-then-leaders-later
returns-then-leaders-later c =
    let f = c.args.cells.now.grid.frames in
    elim c.then-leaders-later.branch [
      | then-leaders-later-via-then-leaders-later w ↦ close_leader f.v f.n f.points.now c.args.later c.args.earlier c.args.leaders.now c.requires.0 w.if-leaders-later.true
      | then-leaders-later-via-else-leaders-later+then-not-is_close w ↦
          not_close f.v f.n f.points.now c.args.later c.args.earlier c.args.leaders.now (sym w.is_close.ensures.value ∙ w.if-not-is_close.true)
    ]

pub union-requires : goal.union-requires
union-requires c =
    let L = subst (Leading c.args.cells.now.grid.k) (sym c.in_two_sets.ensures.leaders) (asked_lead c.requires.0 c.args.later c.args.earlier c.requires.1 c.requires.2) in
    (L.falling, omega (arith, L.size), omega (arith, L.size), omega (arith, L.size, L.few))

pub returns-then-in_two_sets : goal.returns-then-in_two_sets
returns-then-in_two_sets c =
    let f = c.args.cells.now.grid.frames in
    close_met f.v f.n f.points.now c.args.later c.args.earlier c.args.leaders.now (sym c.is_close.ensures.value ∙ c.if-not-is_close.false)
    (met_joined _ c.args.later c.args.earlier c.args.leaders.now c.in_two_sets.ensures.answer c.in_two_sets.ensures.leaders c.if-in_two_sets.true
    (close_link f.v f.n f.points.now c.args.later c.args.earlier c.args.leaders.now (c.is_close.ensures.touches c.if-not-is_close.false)) refl c.union.ensures)

pub returns-else-in_two_sets : goal.returns-else-in_two_sets
returns-else-in_two_sets c =
    let f = c.args.cells.now.grid.frames in
    close_met f.v f.n f.points.now c.args.later c.args.earlier c.args.leaders.now (sym c.is_close.ensures.value ∙ c.if-not-is_close.false)
    (met_one _ c.args.later c.args.earlier c.args.leaders.now c.in_two_sets.ensures.answer c.in_two_sets.ensures.leaders c.if-in_two_sets.false)
