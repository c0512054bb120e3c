-- `unite_listed_cells` meets its contract, by what the leaders are after each of its calls.
use native.Mathlib.Omega.{arith}
use Rattle.clustering.proofs.Phases.{few_words, alone_leading, close_leading, can_flatten, lowest_met}
use Rattle.clustering.proofs.listed.unite_listed_cells.Goals as goal

pub reset-requires : goal.reset-requires
reset-requires c = omega (arith, few_words c.args.cells.now.core.grid, c.requires.0)

pub unite_close_cells-requires : goal.unite_close_cells-requires
unite_close_cells-requires c = alone_leading c.args.cells.now.core.grid c.requires.0 c.reset.ensures

pub unite_lists-requires : goal.unite_lists-requires
unite_lists-requires c = (close_leading c.args.cells.now.core.grid c.requires.0 c.reset.ensures c.unite_close_cells.ensures, c.requires.1, c.requires.2, c.requires.3)

pub flatten-requires : goal.flatten-requires
flatten-requires c = can_flatten c.args.cells.now.core.grid c.requires.0 c.reset.ensures c.unite_close_cells.ensures c.unite_lists.ensures.leaders

pub returns-clause-leaders : goal.returns-clause-leaders
returns-clause-leaders c = lowest_met c.args.cells.now.core.grid c.requires.0 c.reset.ensures c.unite_close_cells.ensures c.unite_lists.ensures.leaders c.flatten.ensures
