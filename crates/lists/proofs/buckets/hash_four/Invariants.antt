-- The hash so far, gone on with the numbers that are left, is that of all.
use Rattle.std.proofs.Common.{◌≡◌, ◌<◌, drop}
use Rattle.lists.specs.Buckets.{hashes, hash_from, hash_of}
use Rattle.lists.proofs.buckets.hash_four.Given as goal

abbrev pub invariant-loop-e : goal.invariant-loop-e
invariant-loop-e l = (hash_from l.h (drop l.e-index l.e-items) ≡ hash_of l.e-items) × (l.h < hashes)
