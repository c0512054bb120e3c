use mathlib.Core.Path.{refl, sym, ◌∙◌}
use native.Mathlib.Omega.{arith}
use Rattle.lists.specs.ListLaws.{at_in}
use Rattle.cells_grid.proofs.Neighbours.{tally_start, tally_end, tally_stop, tally_hit, tally_miss}
use Rattle.cells_grid.proofs.crowding.Search.count_stretch.Goals as goal
use Rattle.cells_grid.proofs.crowding.Search.count_stretch.Goals.{then-is_neighbour+else-sum-least, else-is_neighbour}

pub loop-j-init : goal.loop-j-init
loop-j-init c = tally_start c.requires.0

pub is_neighbour-requires : goal.is_neighbour-requires
is_neighbour-requires c = c.requires.1 _ (at_in 0 c.args.stretch.now c.loop-j.j-index c.loop-j-test.true)

pub returns-then-sum-least : goal.returns-then-sum-least
returns-then-sum-least c = tally_stop c.loop-j.invariant c.loop-j-test.true refl (sym c.is_neighbour.ensures ∙ c.if-is_neighbour.true) c.if-sum-least.true

pub loop-j-preserved : goal.loop-j-preserved
loop-j-preserved c = elim c.if-is_neighbour.branch [
  | then-is_neighbour+else-sum-least w ↦ rw w.sum-is (tally_hit c.loop-j.invariant c.loop-j-test.true refl (sym c.is_neighbour.ensures ∙ w.if-is_neighbour.true) (omega (arith, w.if-sum-least.false)))
  | else-is_neighbour w ↦ rw w.sum-is (tally_miss c.loop-j.invariant c.loop-j-test.true refl (sym c.is_neighbour.ensures ∙ w.if-is_neighbour.false))
]

pub returns : goal.returns
returns c = tally_end c.loop-j.invariant (omega (arith, c.loop-j-test.false))
