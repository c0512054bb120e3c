use Rattle.std.proofs.Common.{rules}
use Rattle.clustering.specs.Uniting.{pair_at}
use Rattle.clustering.proofs.uniting.is_pair.Goals as goal

pub returns-then-has_core-2 : goal.returns-then-has_core-2
unfolding pair_at
returns-then-has_core-2 c = search rules

pub returns-else-has_core-2 : goal.returns-else-has_core-2
unfolding pair_at
returns-else-has_core-2 c = search rules
