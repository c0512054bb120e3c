-- The word is read and compared.
use mathlib.Core.Path.{ap}
use Prim.Native.Nat.{ℕ}
use lib.Dec.{eqb}
use Rattle.cells_grid.proofs.is_core.Goals as goal

pub returns : goal.returns
returns c = ap (λ (x : ℕ). eqb x 1) c.word.ensures
