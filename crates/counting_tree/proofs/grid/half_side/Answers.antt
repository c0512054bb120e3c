-- A half is a division by two.
use mathlib.Core.Path.{refl}
use lib.Ieee.{of_bits, of_int}
use Rattle.counting_tree.specs.Grid.{half}
use Rattle.counting_tree.proofs.grid.half_side.Goals as goal

pub returns : goal.returns
unfolding half of_bits of_int
returns c = refl
