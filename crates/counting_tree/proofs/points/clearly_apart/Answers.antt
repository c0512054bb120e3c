-- The comparison is the definition.
use mathlib.Core.Path.{refl}
use lib.Ieee.{of_bits, of_int}
use Rattle.counting_tree.proofs.Clear.{apart_is}
use Rattle.counting_tree.proofs.points.clearly_apart.Goals as goal

pub returns : goal.returns
unfolding of_bits of_int
returns c = apart_is c.args.t c.args.sum c.args.h _ refl
