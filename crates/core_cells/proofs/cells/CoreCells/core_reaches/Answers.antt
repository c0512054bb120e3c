-- A frame out of reach does not reach.
use mathlib.Core.Path.{sym, ap, ap₂, ◌∙◌}
use mathlib.Core.Bool.{Bool, false, ◌&&◌}
use Rattle.lists.specs.ListLaws.{not_turn}
use Rattle.counting_tree.specs.Given.{geometry}
use Rattle.counting_tree.specs.Paths as Paths
use Rattle.core_cells.proofs.Reaching.{no_reach}
use Rattle.core_cells.proofs.cells.CoreCells.core_reaches.Goals as goal
use Rattle.core_cells.proofs.cells.CoreCells.core_reaches.Goals.{then-is_core, else-is_core}

pub returns-else-not-out_of_reach : goal.returns-else-not-out_of_reach
returns-else-not-out_of_reach c = elim c.if-is_core.branch [
  | then-is_core w ↦
      c.if-not-out_of_reach.false ∙ ap₂ (λ (a b : Bool). a && b) (sym w.if-is_core.true ∙ c.is_core.ensures)
      (no_reach c.args.self.now.grid.frames c.requires.0 c.requires.1 w.square_apart.ensures.value (sym w.out_of_reach.ensures ∙ not_turn w.out_of_reach.result false (sym w.value-is ∙ c.if-not-out_of_reach.false)))
  | else-is_core w ↦
      let g = geometry c.args.self.now.grid.frames in
      c.if-not-out_of_reach.false ∙ ap (λ (a : Bool). a && Paths.reaches (g.box c.args.q) g.levels 0 c.args.x) (sym w.if-is_core.false ∙ c.is_core.ensures)
]
