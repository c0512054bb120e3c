use mathlib.Core.Path.{◌∙◌}
use mathlib.Core.Bool.{◌&&◌}
use native.Mathlib.Omega.{arith}
use borrow.Author.Tests.{tests}
use Rattle.std.proofs.Common.{rules}
use Rattle.std.proofs.lemmas.Iterator.{YieldsList-from_slice}
use Rattle.std.proofs.lemmas.Iterator.Adapters.{serves_from_places}
use Rattle.std.proofs.lemmas.Iterator.Search.{any_from_yields_List}
use Rattle.counting_tree.specs.Given.{geometry}
use Rattle.counting_tree.specs.Paths as Paths
use Rattle.cells_grid.specs.Cells.{core}
use Rattle.core_cells.proofs.Reaching.{box_open, by_paths}
use Rattle.core_cells.proofs.Looking.{any_kept}
use Rattle.core_cells.proofs.cells.CoreCells.some_reaches.Goals as goal

pub any-requires-clause-callable : goal.any-requires-clause-callable
any-requires-clause-callable c =
    serves_from_places (YieldsList-from_slice c.frames_of.result.now cc) (λ x q r. search rules)
    (λ x k l e _ _ _ _ _ _ _.
    let z = box_open c.args.self.now c.requires.0 c.requires.1 c.frames_of.ensures c.requires.2 x.now k l e in
    (c.requires.0, z.0, z.1))

pub returns : goal.returns
returns c =
    let g = geometry c.args.self.now.grid.frames in
    let f = Paths.reaches (g.box c.args.q) g.levels 0 in
    let e = by_paths c.args.self.now c.requires.0 c.requires.1 c.frames_of.ensures
    (any_from_yields_List (λ x. core g x && f x) _ _ _ c.any.ensures.ran (YieldsList-from_slice c.frames_of.result.now cc) (λ x b q k. search rules) ∙ any_kept (core g) f c.frames_of.result.now) in
    grind (arith, tests)
