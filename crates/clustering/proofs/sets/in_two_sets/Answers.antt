-- `in_two_sets` meets its contract: cells that have one leader are in one set.
use mathlib.Core.Path.{sym, ap, ◌∙◌}
use mathlib.Core.Bool.{not}
use borrow.Author.Tests.{eq-eqb}
use Rattle.clustering.proofs.Meeting.{one_leader}
use Rattle.clustering.proofs.sets.in_two_sets.Goals as goal

pub returns-else-leaders-c-clause-answer : goal.returns-else-leaders-c-clause-answer
returns-else-leaders-c-clause-answer c = ap not (eq-eqb _ _ c.if-leaders-c.false ∙ sym (one_leader c.args.c c.args.d c.requires.0 c.if-leaders-c.false))
