-- A cell with the word 0 is no core cell, and any other is.
use mathlib.Core.Path.{ap, ◌∙◌}
use native.Mathlib.Omega.{arith}
use Rattle.blocks.specs.Blocks.{width}
use Rattle.cells_grid.proofs.Sorting.{cells_few, key_of_none, first_low, key_of_core}
use Rattle.cells_grid.proofs.listing.cell_key.Goals as goal

pub word-requires : goal.word-requires
word-requires c = omega (arith, c.args.frames.now.ready.few, cells_few c.args.frames.now.ready c.requires.ready.0)

pub returns-then-word-eq0 : goal.returns-then-word-eq0
returns-then-word-eq0 c = record { value = key_of_none c.args.frames.now.ready c.requires.ready.0 c.requires.ready.1 c.requires.c_value c.word.ensures c.if-word-eq0.true; upper_bound = omega (arith, c.requires.ready.1) }

pub key-requires : goal.key-requires
key-requires c = (first_low c.args.frames.now.ready c.requires.ready.0 c.requires.ready.1 c.requires.c_value c.word.ensures c.word-2.ensures, omega (arith, c.width-width.ensures), omega (arith, c.requires.ready.1), omega (arith, c.args.frames.now.ready.few, cells_few c.args.frames.now.ready c.requires.ready.0))

pub returns : goal.returns
returns c = record { value = key_of_core c.args.frames.now.ready c.requires.ready.0 c.requires.ready.1 c.requires.c_value c.word.ensures c.word-2.ensures c.if-word-eq0.false (c.width-width.ensures ∙ ap width c.reach.ensures) c.key.ensures.value; upper_bound = omega (arith, c.key.ensures.upper_bound) }
