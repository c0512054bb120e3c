use mathlib.Core.Path.{refl}
use Rattle.lists.proofs.LoopLaws.{fill_step, fill_part}
use Rattle.lists.proofs.Copying.{copy_read}
use Rattle.lists.proofs.copy_words.Goals as goal

pub loop-i-preserved : goal.loop-i-preserved
loop-i-preserved c = fill_step c.loop-i.invariant c.loop-i-test.true _ _ refl (copy_read c.requires.apart c.loop-i.invariant c.loop-i-test.true)

pub returns : goal.returns
returns c = fill_part _ c.args.from c.requires.inside.0 c.loop-i.invariant c.loop-i-test.false
