-- Past the last bucket the rest of the division is taken.
use mathlib.Core.Path.{sym, ap, ◌∙◌}
use Prim.Native.Nat.{ℕ, ◌+◌, ◌%◌}
use native.Mathlib.Nat.{mod-lt, mod-eq_of_lt}
use native.Mathlib.Omega.{arith}
use Rattle.lists.proofs.BucketLaws.{bucket_below}
use Rattle.blocks.specs.Blocks.{bucket_at}
use Rattle.blocks.proofs.bucket.Goals as goal

pub overflow_add-b : goal.overflow_add-b
overflow_add-b c = record { fits = omega (arith, c.bucket.ensures, c.requires, bucket_below c.args.size (c.args.h % 4294967296) (mod-lt c.args.h (omega arith)) c.requires.0) }

pub returns-then-b-size-clause-value : goal.returns-then-b-size-clause-value
unfolding bucket_at
returns-then-b-size-clause-value c = sym (mod-eq_of_lt c.if-b-size.true) ∙ ap (λ (b : ℕ). (b + c.args.along) % c.args.size) c.bucket.ensures

pub returns-else-b-size-clause-value : goal.returns-else-b-size-clause-value
unfolding bucket_at
returns-else-b-size-clause-value c = ap (λ (b : ℕ). (b + c.args.along) % c.args.size) c.bucket.ensures
