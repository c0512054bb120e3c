use Rattle.core_cells.proofs.Held.{slot, has_core}
use Rattle.core_cells.proofs.cells.CoreCells.has_core.Goals as goal

pub is_core_cell-requires : goal.is_core_cell-requires
is_core_cell-requires c = slot c.args.self.now c.requires

pub returns : goal.returns
returns c = has_core c.args.self.now c.requires c.is_core_cell.ensures
