-- Each set is shorter than the text that it heads.
use Rattle.std.proofs.Common.{length}
use Rattle.detail.proofs.show_sets.Given as goal

abbrev pub decreases-loop-rest : goal.decreases-loop-rest
decreases-loop-rest g l = length l.rest
