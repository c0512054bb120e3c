use Rattle.std.proofs.Common.{rules}
use Rattle.core_cells.proofs.Spanning.{lowest_is, highest_is}
use Rattle.core_cells.proofs.spans.Span.with.Goals as goal

pub returns-clause-low : goal.returns-clause-low
returns-clause-low c = lowest_is _ _ c.from_fn.ensures.items.long (λ i l. let z = c.from_fn.ensures.items.at i 0 l in search rules)

pub returns-clause-high : goal.returns-clause-high
returns-clause-high c = highest_is _ _ c.from_fn-2.ensures.items.long (λ i l. let z = c.from_fn-2.ensures.items.at i 0 l in search rules)
