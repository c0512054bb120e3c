use native.Mathlib.Omega.{arith}
use Rattle.cells_grid.proofs.Core.{core_word, bits_end}
use Rattle.lists.proofs.LoopLaws.{fill_step}
use Rattle.cells_grid.proofs.label_by_search.Goals as goal

pub loop-i-preserved : goal.loop-i-preserved
loop-i-preserved c = fill_step c.loop-i.invariant (omega (arith, c.loop-i-test.true, c.requires)) _ _ (omega arith) (core_word _ _ c.core_frame.ensures)

pub returns : goal.returns
returns c = bits_end c.requires c.loop-i.invariant (omega (arith, c.loop-i-test.false, c.requires))
