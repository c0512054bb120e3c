use mathlib.Core.Path.{ap, ◌∙◌}
use lib.Ieee.{Float, binary64, div, of_int, of_bits}
use mir.Facts.{to_z-of_z}
use mir.Syntax.{w32}
use lib.IntN.{ℤ}
use Rattle.std.specs.Float.{powi}
use Rattle.hyperparams.specs.Params.{float, slack_at}
use Rattle.desk.proofs.Lines.{power}
use Rattle.desk.proofs.input.slack.Goals as goal

pub returns : goal.returns
unfolding slack_at of_bits of_int
returns c = ap (λ (x : Float). div binary64 (float 1) x) (c.powi.ensures ∙ ap (λ (z : ℤ). powi binary64 (float 2) z) (to_z-of_z {w = w32} (record { sfits = c.from.type_inv }) ∙ c.from.ensures) ∙ power c.args.s c.ranges.s.fits)
