-- `same_set` meets its contract, by what its two finds answer and leave.
use native.Mathlib.Omega.{arith}
use Rattle.partitions.proofs.TwoFinds.{falls_still, both_left, one_set}
use Rattle.partitions.proofs.same_set.Goals as goal

pub find-y-requires : goal.find-y-requires
find-y-requires c = (falls_still c.requires.0 _ c.requires.1 c.find-x.ensures.leaders, omega (arith, c.find-x.auto.leaders))

pub returns : goal.returns
returns c = record { answer = one_set c.requires.0 _ c.requires.1 c.find-x.ensures.leaders _ c.requires.2 c.find-x.ensures.lowest c.find-y.ensures.lowest c.find-y.ensures.leaders; leaders = both_left c.requires.0 _ c.requires.1 c.find-x.ensures.leaders _ c.requires.2 c.find-x.ensures.lowest c.find-y.ensures.lowest c.find-y.ensures.leaders }
