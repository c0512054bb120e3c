use mathlib.Core.Path.{refl, ◌∙◌}
use native.Mathlib.Omega.{arith}
use lib.ListN.{length, get_or}
use Rattle.lists.specs.ListLaws.{length_numbers}
use Rattle.lists.proofs.WordLaws.{over_all}
use Rattle.lists.proofs.PartLaws.{column_whole}
use Rattle.lists.proofs.LoopLaws.{fill_start, fill_step, fill_end}
use Rattle.lists.proofs.copy.Goals as goal

pub loop-i-init : goal.loop-i-init
loop-i-init c = fill_start (omega arith)

pub loop-i-preserved : goal.loop-i-preserved
loop-i-preserved c = fill_step c.loop-i.invariant c.loop-i-test.true _ _ (omega arith) refl

pub returns : goal.returns
returns c =
    let xs = c.args.from.now in
    fill_end c.loop-i.invariant c.loop-i-test.false
    ∙ over_all c.args.words.now _ (length_numbers (λ j. get_or xs j 0) (length xs) ∙ omega arith)
    ∙ column_whole xs
