-- The edges of blocks of the width 1 are the counts themselves.
use Rattle.core_cells.proofs.Spanning.{raised_value, raised_low}
use Rattle.core_cells.proofs.spans.raised_at.Goals as goal

pub returns : goal.returns
returns c = record { value = raised_value c.args.frames.now.ready c.args.i c.requires c.edges_at.ensures.value; bound = raised_low c.args.frames.now.ready c.args.i c.requires c.edges_at.ensures.value c.edges_at.ensures.below }
