-- `is_large` meets its contract: a cell has as many frames as its words say.
use mathlib.Core.Path.{◌∙◌, ap}
use lib.Dec.{ltb}
use lib.ListN.{length}
use Rattle.clustering.proofs.Held.{cell_count}
use Rattle.clustering.proofs.trees.is_large.Goals as goal

pub returns-clause-words : goal.returns-clause-words
returns-clause-words c = ap (ltb 64) (ap length c.frames_of.ensures ∙ cell_count c.args.grid.now c.requires)
