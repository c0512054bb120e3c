use Rattle.std.proofs.Common.{arith}
use Rattle.std.proofs.lemmas.Grind.{common_steps}
use Rattle.desk.proofs.Printing.{laid_start, laid_length, laid_step, laid_end}
use Rattle.desk.proofs.output.put_frames.Goals as goal

pub loop-i-init : goal.loop-i-init
loop-i-init c = laid_start c.args.kinds.now c.args.labels.now c.args.output.now (omega arith)

pub loop-i-preserved : goal.loop-i-preserved
loop-i-preserved c = laid_step c.loop-i.invariant c.loop-i-test.true (grind (arith, common_steps))

pub shape_of-output : goal.shape_of-output
shape_of-output c = laid_length c.loop-i.invariant

pub returns : goal.returns
returns c = laid_end c.loop-i.invariant c.loop-i-test.false
