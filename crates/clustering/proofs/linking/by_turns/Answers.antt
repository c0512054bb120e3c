-- `by_turns` meets its contract: it asks the turns one after the other.
use Rattle.std.proofs.Common.{refl, rules, ◌∙◌, ◌||◌}
use Rattle.std.proofs.lemmas.Iterator.{YieldsList-from_range}
use Rattle.std.proofs.lemmas.Iterator.Search.{any_from_yields_List}
use borrow.Author.Tests.{tests}
use Rattle.counting_tree.specs.Given.{geometry}
use Rattle.clustering.specs.Turns.{asked_at, turn_at}
use Rattle.clustering.proofs.Turning.{any_from}
use Rattle.clustering.proofs.linking.by_turns.Goals as goal

pub returns : goal.returns
unfolding turn_at
returns c =
    let g = geometry c.args.cells.now.grid.frames in
    any_from_yields_List (λ j. asked_at g c.args.a.cell c.args.b.cell j || asked_at g c.args.b.cell c.args.a.cell j) _ _ _ c.any.ensures.ran (YieldsList-from_range c.args.turns.start c.args.turns.end _ refl refl) (λ x b q k. search (rules, tests))
    ∙ any_from (turn_at g c.args.a.cell c.args.b.cell) c.args.turns.start _
