-- The numbers and first frames, then what `arrange` makes of the numbers, which are the cell numbers.
use Rattle.cells_grid.proofs.Grow.{numbered_fits, populated_is}
use Rattle.cells_grid.proofs.populate.Goals as goal

pub insert_points-k-requires : goal.insert_points-k-requires
insert_points-k-requires c = record { n_in_bounds = (c.requires.0, c.requires.1, c.requires.2) }

pub arrange-requires : goal.arrange-requires
arrange-requires c =
    let z = numbered_fits c.args.frames.now.ready _ (c.requires.0, c.requires.1) (c.insert_points-k.ensures.value, c.insert_points-k.ensures.work_after) in
    record { n_le_max_frames = z.0; below = z.1 }

pub returns : goal.returns
returns c = record { value = c.insert_points-k.ensures.value; work_after = populated_is c.args.frames.now.ready _ (c.requires.0, c.requires.1) (c.insert_points-k.ensures.value, c.insert_points-k.ensures.work_after) c.arrange.ensures }
