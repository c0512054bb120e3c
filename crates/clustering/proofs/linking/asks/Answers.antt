-- `asks` meets its contract, by the core frame of c that stands at the turn's place, if one does.
use Rattle.std.proofs.Math.Path.{sym, ap, ◌∙◌}
use Rattle.counting_tree.specs.Given.{geometry}
use Rattle.clustering.specs.Turns.{hit_by, asked_at}
use Rattle.clustering.proofs.linking.asks.Goals as goal

pub returns-in-Some : goal.returns-in-Some
unfolding asked_at
returns-in-Some c = c.reaches.ensures ∙ ap (hit_by (geometry c.args.cells.now.grid.frames) c.args.t.cell) (sym c.in-Some.is ∙ c.core_frame.ensures.value)

pub returns-in-None : goal.returns-in-None
unfolding asked_at
returns-in-None c = ap (hit_by (geometry c.args.cells.now.grid.frames) c.args.t.cell) (sym c.in-None.is ∙ c.core_frame.ensures.value)
