-- What the search finds; and fewer frames than are needed are not enough.
use mathlib.Core.Path.{◌∙◌}
use native.Mathlib.Omega.{arith}
use borrow.Author.Tests.{lt-leb}
use Rattle.counting_tree.specs.Given.{geometry}
use Rattle.counting_tree.specs.Ready.{at_least}
use Rattle.cells_grid.proofs.Neighbours.{too_few}
use Rattle.cells_grid.proofs.sorted.SortedFrames.is_crowded.Goals as goal

pub returns-else-frames : goal.returns-else-frames
returns-else-frames c =
    let f = c.args.self.now.grid.frames in
    lt-leb f.v.min_points f.n c.if-frames.false ∙ too_few (geometry f) c.args.i f.n (omega (arith, c.if-frames.false, at_least f.v f.n f.points.now))
