-- `is_close` meets its contract: cells whose first frames are core frames nearer than t touch.
use mathlib.Core.Path.{refl, sym, ◌∙◌}
use borrow.Author.Tests.{le-ltb}
use Rattle.std.proofs.lemmas.Bool.{false≢true}
use Rattle.lists.specs.ListLaws.{true_T}
use Rattle.clustering.proofs.ByLists.{is_cell}
use Rattle.clustering.proofs.Closing.{by_far, by_near, close_touch}
use Rattle.clustering.proofs.close.is_close.Goals.{then-square_apart-frames, else-square_apart-frames}
use Rattle.clustering.proofs.close.is_close.Goals as goal

pub returns-then-is_core-clause-value : goal.returns-then-is_core-clause-value
returns-then-is_core-clause-value c = elim c.if-square_apart-frames.branch [
  | then-square_apart-frames w ↦
      by_near c.args.cells.now.grid.frames.ready c.args.c c.args.d c.first_of-i.ensures.value c.first_of-j.ensures.value c.square_apart.ensures.value w.if-square_apart-frames.true
      (sym c.if-is_core.true ∙ w.value-is ∙ w.is_core.ensures) c.is_core-then-is_core.ensures
  | else-square_apart-frames w ↦ absurd (false≢true (sym (le-ltb _ _ w.if-square_apart-frames.false) ∙ sym w.value-is ∙ c.if-is_core.true))
]

pub returns-then-is_core-clause-touches : goal.returns-then-is_core-clause-touches
returns-then-is_core-clause-touches c t =
    close_touch c.args.cells.now.grid.frames.ready c.args.c c.args.d c.first_of-i.ensures.value c.first_of-j.ensures.value (is_cell c.args.cells.now.grid c.requires.0) (is_cell c.args.cells.now.grid c.requires.1)
    (true_T (sym (returns-then-is_core-clause-value c) ∙ t)) c.square_apart.ensures.counts

pub returns-else-is_core-clause-value : goal.returns-else-is_core-clause-value
returns-else-is_core-clause-value c = elim c.if-square_apart-frames.branch [
  | then-square_apart-frames w ↦
      c.if-is_core.false
      ∙ by_near c.args.cells.now.grid.frames.ready c.args.c c.args.d c.first_of-i.ensures.value c.first_of-j.ensures.value c.square_apart.ensures.value w.if-square_apart-frames.true
      (sym c.if-is_core.false ∙ w.value-is ∙ w.is_core.ensures) refl
  | else-square_apart-frames w ↦
      c.if-is_core.false
      ∙ by_far c.args.cells.now.grid.frames.ready c.args.c c.args.d c.first_of-i.ensures.value c.first_of-j.ensures.value c.square_apart.ensures.value w.if-square_apart-frames.false
]
