-- The two comparisons are the definition.
use mathlib.Core.Path.{refl, ◌∙◌}
use mathlib.Core.Bool.{true, false}
use lib.Ieee.{of_bits, of_int}
use Rattle.counting_tree.proofs.Clear.{between_is}
use Rattle.counting_tree.proofs.points.clearly_between.Goals as goal

pub returns-then-sum-above : goal.returns-then-sum-above
unfolding of_bits of_int
returns-then-sum-above c = between_is c.args.t c.args.sum c.args.appx c.args.a c.args.b true _ c.if-sum-above.true refl

pub returns-else-sum-above : goal.returns-else-sum-above
unfolding of_bits of_int
returns-else-sum-above c = c.if-sum-above.false ∙ between_is c.args.t c.args.sum c.args.appx c.args.a c.args.b false _ c.if-sum-above.false refl
