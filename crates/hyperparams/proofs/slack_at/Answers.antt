-- The shift is a power of two.
use Rattle.std.proofs.Common.{ℕ, ◌^◌, ap, ◌∙◌, arith}
use native.Mathlib.Nat.{one-mul}
use lib.Dec.{lit<}
use lib.Pow.{shl_exact}
use lib.Ieee.{binary64, div, of_int, of_bits}
use Rattle.hyperparams.specs.Params.{float, slack_at}
use Rattle.hyperparams.proofs.slack_at.Goals as goal

pub returns : goal.returns
unfolding slack_at of_bits of_int
returns c = ap (λ (n : ℕ). div binary64 (float 1) (float n)) (shl_exact 1 c.args.s 64 (lit< tt) (omega arith) ∙ one-mul (2 ^ c.args.s))
