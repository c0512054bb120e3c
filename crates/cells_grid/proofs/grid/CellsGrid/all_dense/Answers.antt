use Rattle.std.proofs.Common.{refl, arith, rules, true, false, ◌≡◌}
use Rattle.std.proofs.lemmas.Iterator.{YieldsList-from_range, cases_from_all}
use borrow.Author.Tests.{tests}
use Rattle.counting_tree.specs.Given.{geometry}
use Rattle.cells_grid.specs.Cells.{dense}
use Rattle.cells_grid.specs.Arrangement.{cell_at}
use Rattle.cells_grid.proofs.Held.{all_pass}
use Rattle.cells_grid.proofs.grid.CellsGrid.all_dense.Goals as goal

pub returns : goal.returns
returns c =
    let g = geometry c.args.self.now.frames in
    all_pass (λ d. dense g (cell_at g d)) c.args.self.now.k c.all.result
    (cases_from_all _ _ _ (λ d. dense g (cell_at g d) ≡ true) (λ d. dense g (cell_at g d) ≡ false) c.all.ensures.ran (YieldsList-from_range 0 c.args.self.now.k c.args.self.now.k refl (omega arith)) (λ x q k. search (rules, tests)) (λ x q k. search (rules, tests)))
