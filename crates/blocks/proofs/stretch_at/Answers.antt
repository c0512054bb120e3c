-- Where the next bucket is the first, its numbers stand at the front.
use Rattle.blocks.specs.SortedLaws.{stretch_on, stretch_round}
use Rattle.blocks.proofs.stretch_at.Goals as goal

pub returns-then-next-size : goal.returns-then-next-size
returns-then-next-size c = stretch_on c.args.work.now c.args.ends c.args.b c.args.size c.if-next-size.true c.begins-from.ensures c.begins.ensures

pub returns : goal.returns
returns c = stretch_round c.args.work.now c.args.ends c.args.b c.args.size c.if-next-size.false c.begins-from.ensures c.begins-2.ensures c.begins-3.ensures
