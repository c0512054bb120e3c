-- Both arms of `end_in`.
use mathlib.Core.Path.{sym, ◌∙◌}
use borrow.Author.Tests.{lt-ltb, le-ltb}
use Rattle.cells_grid.specs.Places.{end_in}
use Rattle.cells_grid.proofs.cell_end.Goals as goal

pub returns-then-next-k : goal.returns-then-next-k
unfolding end_in
returns-then-next-k c = c.word.ensures ∙ sym (rw (lt-ltb _ _ c.if-next-k.true))

pub returns : goal.returns
unfolding end_in
returns c = sym (rw (le-ltb _ _ c.if-next-k.false))
