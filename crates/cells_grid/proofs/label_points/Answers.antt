-- Where every cell is dense every frame is core.
use mathlib.Core.Path.{ap, ◌∙◌}
use Prim.Native.Nat.{◌*◌}
use Rattle.lists.specs.Words.{over}
use Rattle.cells_grid.proofs.Core.{all_core}
use Rattle.cells_grid.proofs.label_points.Goals as goal

pub returns-then-all_dense : goal.returns-then-all_dense
returns-then-all_dense c = c.fill_words.ensures ∙ ap (over c.args.work.now (4 * c.args.frames.now.n)) (all_core c.args.frames.now.ready c.requires.0 c.all_dense.ensures c.if-all_dense.true)
