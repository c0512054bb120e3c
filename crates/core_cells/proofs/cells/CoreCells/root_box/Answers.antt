-- The box of the cell's first frame.
use native.Mathlib.Omega.{arith}
use Rattle.counting_tree.specs.Indexes.{ready_side}
use Rattle.core_cells.proofs.Held.{first_inside, root_is}
use Rattle.core_cells.proofs.cells.CoreCells.root_box.Goals as goal

pub frame_at-first-requires : goal.frame_at-first-requires
frame_at-first-requires c = let z = first_inside c.args.self.now c.requires (omega arith) in record { channels = z.0; inside = z.1 }

pub box_of-requires : goal.box_of-requires
box_of-requires c = record { side = ready_side c.args.self.now.grid.frames.ready 0 _ c.base_side-side.ensures (omega arith); channels = c.args.self.now.grid.frames.ready.settings.scale.most }

pub returns : goal.returns
returns c = root_is c.args.self.now c.requires c.frame_at-first.ensures (omega arith) c.base_side-side.ensures c.box_of.ensures
