-- The bucket of the block in which the frame lies.
use native.Mathlib.Nat.{div-le_self}
use native.Mathlib.Omega.{arith}
use mathlib.Core.Path.{ap}
use lib.ListN.{get_or, length}
use Rattle.lists.specs.OrderLaws.{below_at}
use Rattle.blocks.proofs.Edges.{row_long, key_bucket}
use Rattle.blocks.proofs.key.Goals as goal

pub bucket-requires : goal.bucket-requires
bucket-requires c =
    let z = below_at 65536 c.edges_at-low.result 0 c.edges_at-low.ensures.below (omega (arith, ap length c.edges_at-low.ensures.value, row_long c.args.frames.now.ready c.args.j c.requires.0 c.args.width 0)) in
    (c.requires.2, c.requires.3, omega (arith, z, div-le_self (get_or c.edges_at-low.result 0 0) c.args.width))

pub returns : goal.returns
returns c = record { value = key_bucket c.args.frames.now.ready c.args.j c.requires.0 c.args.width c.args.size c.edges_at-low.ensures.value c.hash_of.ensures.value c.requires.1 c.bucket.ensures.value; upper_bound = c.bucket.ensures.upper_bound }
