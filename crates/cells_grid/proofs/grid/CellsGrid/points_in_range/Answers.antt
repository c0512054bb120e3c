use Rattle.std.proofs.Common.{◌∙◌, subst, sym, rules, ◌<◌, ℕ}
use Rattle.std.proofs.lemmas.Iterator.{YieldsList-from_slice}
use Rattle.std.proofs.lemmas.Iterator.Adapters.{serves_from_places}
use Rattle.std.proofs.lemmas.Iterator.Consumers.{count_from_yields_List, YieldsList-from_filter, YieldsList-at}
use borrow.Author.Tests.{tests}
use Rattle.counting_tree.specs.Given.{geometry}
use Rattle.cells_grid.proofs.Held.{in_cell, within_count}
use Rattle.cells_grid.proofs.grid.CellsGrid.points_in_range.Goals as goal

pub count-requires-clause-can : goal.count-requires-clause-can
count-requires-clause-can c =
    (tt, tt, serves_from_places (YieldsList-at c.filter.ensures.source (YieldsList-from_slice c.frames_of.result.now c.iter.ensures.rest)) (λ x q r. search (rules, tests)) (λ x k l e. let low : x.now < c.args.self.now.frames.n = subst (λ (z : ℕ). z < c.args.self.now.frames.n) (sym e) (in_cell c.args.self.now c.requires.1 c.frames_of.ensures x.now k l) in search (rules, tests)))

pub returns : goal.returns
returns c =
    let f = (geometry c.args.self.now.frames).within c.args.i in
    count_from_yields_List _ _ c.count.ensures.ran (YieldsList-from_filter _ f (YieldsList-at c.filter.ensures.source (YieldsList-from_slice c.frames_of.result.now c.iter.ensures.rest)) c.filter.ensures.closure (λ x r q k. search (rules, tests)))
    ∙ within_count c.args.self.now f c.args.c c.frames_of.ensures
