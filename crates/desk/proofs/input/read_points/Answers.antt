use mathlib.Core.Path.{◌∙◌}
use native.Mathlib.Omega.{arith}
use lib.ListN.{length}
use mir.Facts.{to_z-of_z}
use mir.Syntax.{w16}
use Rattle.lists.specs.ListLaws.{length_numbers}
use Rattle.lists.proofs.WordLaws.{over_all}
use Rattle.lists.proofs.LoopLaws.{fill_start, fill_step, fill_end}
use Rattle.desk.specs.Desk.{count_at}
use Rattle.desk.proofs.input.read_points.Goals as goal

pub loop-i-init : goal.loop-i-init
loop-i-init c = fill_start (omega arith)

pub loop-i-preserved : goal.loop-i-preserved
loop-i-preserved c = fill_step c.loop-i.invariant c.loop-i-test.true _ _ (omega arith) (to_z-of_z {w = w16} (record { sfits = c.count_at.type_inv }) ∙ c.count_at.ensures)

pub returns : goal.returns
returns c = fill_end c.loop-i.invariant c.loop-i-test.false ∙ over_all _ _ (length_numbers (count_at c.args.input.now c.args.d) (length c.args.points.now))
