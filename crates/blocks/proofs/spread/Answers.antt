-- The square is reduced before it is multiplied.
use mathlib.Core.Path.{refl}
use native.Mathlib.Nat.{mod-lt}
use native.Mathlib.Omega.{arith}
use Rattle.blocks.specs.Blocks.{spread}
use Rattle.blocks.proofs.spread.Goals as goal

pub returns : goal.returns
unfolding spread
returns c = record { value = refl; upper_bound = mod-lt _ (omega arith) }
