-- No core frame, or what the root box settles.
use Rattle.core_cells.proofs.Reaching.{treeless, no_core, root_value, root_tells}
use Rattle.core_cells.proofs.cells.CoreCells.settled_by_root.Goals as goal

pub returns-then-not-has_core : goal.returns-then-not-has_core
returns-then-not-has_core c = record { value = no_core c.args.self.now c.requires.0 c.requires.1 c.has_core.ensures c.if-not-has_core.true; tells = treeless c.args.self.now c.requires.0 c.requires.1 c.has_core.ensures c.if-not-has_core.true }

pub returns : goal.returns
returns c = record { value = root_value c.args.self.now c.requires.0 c.requires.1 c.has_core.ensures c.if-not-has_core.false c.requires.2 c.settled.ensures; tells = root_tells c.args.self.now c.requires.0 c.requires.1 c.has_core.ensures c.if-not-has_core.false c.requires.2 c.settled.ensures }
