-- One number after the other.
use Rattle.std.proofs.Common.{sym, ap, ◌∙◌, arith, get_or}
use Rattle.std.proofs.Math.ListN.{drop_of_length-le}
use Rattle.lists.specs.Buckets.{hashes, hash_from}
use Rattle.lists.specs.OrderLaws.{below_at}
use Rattle.lists.proofs.BucketLaws.{mix_below, hash_step}
use Rattle.lists.proofs.buckets.hash_four.Goals as goal

pub mix-h-requires : goal.mix-h-requires
mix-h-requires c = (c.loop-e.invariant.1, below_at hashes c.args.of c.loop-e.e-index c.requires (omega arith))

pub loop-e-preserved : goal.loop-e-preserved
loop-e-preserved c =
    rw c.mix-h.ensures (sym (hash_step c.args.of c.loop-e.h c.loop-e.e-index (omega arith)) ∙ c.loop-e.invariant.0, mix_below c.loop-e.h (get_or c.args.of c.loop-e.e-index 0))

pub returns-clause-value : goal.returns-clause-value
returns-clause-value c = sym (ap (hash_from c.loop-e.h) (drop_of_length-le c.args.of (omega arith))) ∙ c.loop-e.invariant.0
