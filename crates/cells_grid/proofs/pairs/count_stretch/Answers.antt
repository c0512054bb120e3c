use mathlib.Core.Path.{refl}
use native.Mathlib.Omega.{arith}
use Rattle.lists.specs.ListLaws.{at_in}
use Rattle.cells_grid.proofs.PairLoops.{walking_start, walking_fits, walking_hit, walking_miss, walking_end}
use Rattle.cells_grid.proofs.pairs.count_stretch.Goals as goal
use Rattle.cells_grid.proofs.pairs.count_stretch.Goals.{then-is_later, else-is_later}

pub loop-word-init : goal.loop-word-init
loop-word-init c = walking_start c.requires.room

pub is_later-requires : goal.is_later-requires
is_later-requires c = c.requires.frames _ (at_in 0 c.args.stretch.now c.loop-word.word-index c.loop-word-test.true)

pub bounds-counts-j : goal.bounds-counts-j
bounds-counts-j c = (walking_fits c.loop-word.invariant c.loop-word-test.true refl (c.requires.frames _ (at_in 0 c.args.stretch.now c.loop-word.word-index c.loop-word-test.true)) c.is_later.ensures c.if-is_later.true).0

pub overflow_add-counts : goal.overflow_add-counts
overflow_add-counts c = omega (arith, (walking_fits c.loop-word.invariant c.loop-word-test.true refl (c.requires.frames _ (at_in 0 c.args.stretch.now c.loop-word.word-index c.loop-word-test.true)) c.is_later.ensures c.if-is_later.true).1)

pub bounds-counts-j-then-is_later : goal.bounds-counts-j-then-is_later
bounds-counts-j-then-is_later c = (walking_fits c.loop-word.invariant c.loop-word-test.true refl (c.requires.frames _ (at_in 0 c.args.stretch.now c.loop-word.word-index c.loop-word-test.true)) c.is_later.ensures c.if-is_later.true).0

pub loop-word-preserved : goal.loop-word-preserved
loop-word-preserved c = elim c.if-is_later.branch [
  | then-is_later w ↦ rw (w.counts-is, w.sum-is) (walking_hit c.loop-word.invariant c.loop-word-test.true refl (c.requires.frames _ (at_in 0 c.args.stretch.now c.loop-word.word-index c.loop-word-test.true)) c.is_later.ensures w.if-is_later.true refl)
  | else-is_later w ↦ rw (w.counts-is, w.sum-is) (walking_miss c.loop-word.invariant c.loop-word-test.true refl c.is_later.ensures w.if-is_later.false)
]

pub returns : goal.returns
returns c =
    let z = walking_end c.loop-word.invariant (omega (arith, c.loop-word-test.false)) in
    record { value = z.0; counts_after = z.1 }
