-- `union` meets its contract: the lower of the two finds' answers is the leader in the word of the higher.
use native.Mathlib.Omega.{arith}
use Rattle.std.proofs.Common.{rules}
use Rattle.partitions.proofs.TwoFinds.{falls_still, lower_leads}
use Rattle.partitions.proofs.union.Goals as goal

pub find-y-requires : goal.find-y-requires
find-y-requires c = (falls_still c.requires.0 _ c.requires.1 c.find-x.ensures.leaders, omega (arith, c.find-x.auto.leaders))

pub returns : goal.returns
returns c = lower_leads c.requires.0 _ c.requires.1 c.find-x.ensures.leaders _ c.requires.2 c.find-x.ensures.lowest c.find-y.ensures.lowest c.find-y.ensures.leaders (search rules) (search rules)
