use mathlib.Core.Path.{subst}
use Rattle.lists.specs.Lists.{In}
use Rattle.clustering.proofs.ByLists.{marked_low, runs_there, found_below, list_is}
use Rattle.clustering.proofs.Clearing.{again_on, cleared}
use Rattle.clustering.proofs.trees.some_ask.Goals as goal
use Rattle.clustering.proofs.trees.some_ask.Goals.{then-has_core+else-ask, else-has_core}

pub bounds-marks-c : goal.bounds-marks-c
bounds-marks-c c = marked_low c.args.cells.now.core.grid c.args.cells.now.placed c.requires.0 c.loop-c-test.true

pub list_later-m-requires-clause-marked_runs : goal.list_later-m-requires-clause-marked_runs
list_later-m-requires-clause-marked_runs c = runs_there c.sorted-sorted.ensures.1 c.requires.0 _

pub asks_trees-ask-requires : goal.asks_trees-ask-requires
asks_trees-ask-requires c = (
  c.loop-c-test.true,
  λ d j. found_below c.args.cells.now.core.grid c.args.marks.now c.loop-c-test.true d
      (subst (In d) (list_is c.sorted-sorted.ensures.0 c.args.marks.now c.loop-c.list c.loop-c.c c.list_later-m.ensures.value c.list_later-m.ensures.list) j),
)

pub returns-then-ask : goal.returns-then-ask
returns-then-ask c = again_on c.loop-c.invariant (cleared _ c.list_later-m.ensures.value c.list_later-m.ensures.list c.list_later-m.auto.list (c.fill.ensures.after (λ y h. h)))

pub loop-c-preserved : goal.loop-c-preserved
loop-c-preserved c = elim c.if-has_core.branch [
  | then-has_core+else-ask w ↦ rw w.list-is (again_on c.loop-c.invariant (cleared _ w.list_later-m.ensures.value w.list_later-m.ensures.list w.list_later-m.auto.list (w.fill.ensures.after (λ y h. h))))
  | else-has_core w ↦ rw w.list-is c.loop-c.invariant
]
