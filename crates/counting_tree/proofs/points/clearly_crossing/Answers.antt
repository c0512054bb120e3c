-- One of the two answers is the definition.
use mathlib.Core.Path.{sym}
use Rattle.counting_tree.specs.Clear.{clearly_crossing}
use Rattle.counting_tree.proofs.points.clearly_crossing.Goals as goal

pub returns-then-clearly_between : goal.returns-then-clearly_between
unfolding clearly_crossing
returns-then-clearly_between c = rw (sym c.clearly_between.ensures, c.if-clearly_between.true)

pub returns-else-clearly_between : goal.returns-else-clearly_between
unfolding clearly_crossing
returns-else-clearly_between c = rw (sym c.clearly_between.ensures, c.if-clearly_between.false, c.clearly_between-else-clearly_between.ensures)
