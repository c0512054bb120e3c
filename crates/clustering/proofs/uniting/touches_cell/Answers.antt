use mathlib.Core.Path.{◌∙◌}
use mathlib.Core.Bool.{◌&&◌}
use native.Mathlib.Omega.{arith}
use Rattle.std.proofs.Common.{rules}
use Rattle.std.proofs.lemmas.Iterator.{YieldsList-from_slice}
use Rattle.std.proofs.lemmas.Iterator.Adapters.{serves_from_places}
use Rattle.std.proofs.lemmas.Iterator.Search.{any_from_yields_List}
use Rattle.counting_tree.specs.Given.{geometry}
use Rattle.cells_grid.specs.Cells.{core}
use Rattle.cells_grid.proofs.Held.{in_cell}
use Rattle.core_cells.proofs.Looking.{any_kept}
use Rattle.clustering.proofs.Touching.{hits, touch_all, touch_none}
use Rattle.clustering.proofs.uniting.touches_cell.Goals as goal

pub returns-then-apart : goal.returns-then-apart
returns-then-apart c = touch_none (geometry c.args.cells.now.grid.frames) c.args.c c.args.d (c.apart.ensures.tells c.if-apart.true).0

pub any-requires-clause-callable : goal.any-requires-clause-callable
any-requires-clause-callable c = serves_from_places (YieldsList-from_slice c.frames_of.result.now cc) (λ x q r. search rules) (λ x k l e _ _ _ _ _ _ _ _.
    (omega (arith, e, in_cell c.args.cells.now.grid c.requires.0 c.frames_of.ensures x.now k l), c.requires.1, c.root_first-root.ensures.root))

pub returns : goal.returns
returns c =
    let g = geometry c.args.cells.now.grid.frames in
    touch_all g c.args.c c.args.d c.frames_of.ensures
    (any_from_yields_List (λ x. core g x && hits g c.args.d x) _ _ _ c.any.ensures.ran (YieldsList-from_slice c.frames_of.result.now cc) (λ x b q k. search rules) ∙ any_kept (core g) (hits g c.args.d) c.frames_of.result.now)
