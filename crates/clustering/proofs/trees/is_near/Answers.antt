-- `is_near` meets its contract, by the core frame of c that stands at the place, if one does.
use mathlib.Core.Path.{sym, ap, ◌∙◌}
use Rattle.clustering.specs.Soon.{is_told, near_by, is_near_at}
use Rattle.clustering.proofs.Asking.{told_eq}
use Rattle.clustering.proofs.trees.is_near.Goals as goal

pub returns-in-Some : goal.returns-in-Some
unfolding is_near_at
returns-in-Some c =
    let f = c.args.cells.now.grid.frames in
    c.eq.ensures
    ∙ told_eq c.settled_by_frames.result
    ∙ ap is_told c.settled_by_frames.ensures.value
    ∙ ap (near_by f.v f.n f.points.now c.args.d) (sym c.in-Some.is ∙ c.core_frame.ensures.value)

pub returns-in-None : goal.returns-in-None
unfolding is_near_at
returns-in-None c = let f = c.args.cells.now.grid.frames in ap (near_by f.v f.n f.points.now c.args.d) (sym c.in-None.is ∙ c.core_frame.ensures.value)
