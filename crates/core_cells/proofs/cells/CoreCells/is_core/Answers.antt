use Rattle.core_cells.proofs.Held.{room, core_is}
use Rattle.core_cells.proofs.cells.CoreCells.is_core.Goals as goal

pub is_core-requires : goal.is_core-requires
is_core-requires c = (c.requires, room c.args.self.now)

pub returns : goal.returns
returns c = core_is c.args.self.now c.requires c.is_core.ensures
