-- `is_soon_near` meets its contract: it asks the first frames one after the other.
use mathlib.Core.Path.{refl, ◌∙◌}
use Rattle.std.proofs.Common.{rules}
use Rattle.std.proofs.lemmas.Iterator.{YieldsList-from_range}
use Rattle.std.proofs.lemmas.Iterator.Search.{any_from_yields_List}
use borrow.Author.Tests.{tests}
use Rattle.clustering.specs.Soon.{is_near_at, soon_near_at}
use Rattle.clustering.proofs.Turning.{any_from}
use Rattle.clustering.proofs.trees.is_soon_near.Goals as goal

pub returns : goal.returns
unfolding soon_near_at
returns c =
    let f = c.args.cells.now.grid.frames in
    any_from_yields_List (is_near_at f.v f.n f.points.now c.args.c c.args.d) _ _ _ c.any.ensures.ran (YieldsList-from_range 0 8 8 refl refl) (λ x b q k. search (rules, tests))
    ∙ any_from (is_near_at f.v f.n f.points.now c.args.c c.args.d) 0 8
