-- Three parts are added.
use native.Mathlib.Omega.{arith}
use Rattle.lists.specs.OrderLaws.{below_at}
use Rattle.blocks.proofs.Hashes.{hash_is}
use Rattle.blocks.proofs.hash_of.Goals as goal

pub overflow_add-low : goal.overflow_add-low
overflow_add-low c = record { fits = omega (arith, below_at 65536 c.args.low 1 c.requires (omega (arith, c.well_formed.0.1.0.1))) }

pub spread-requires : goal.spread-requires
spread-requires c = omega (arith, below_at 65536 c.args.low 1 c.requires (omega (arith, c.well_formed.0.1.0.1)))

pub overflow_add-low-2 : goal.overflow_add-low-2
overflow_add-low-2 c = record { fits = omega (arith, below_at 65536 c.args.low 2 c.requires (omega (arith, c.well_formed.0.1.0.1))) }

pub spread-requires-2 : goal.spread-requires-2
spread-requires-2 c = omega (arith, below_at 65536 c.args.low 2 c.requires (omega (arith, c.well_formed.0.1.0.1)))

pub overflow_add-low-3 : goal.overflow_add-low-3
overflow_add-low-3 c = record { fits = omega (arith, below_at 65536 c.args.low 3 c.requires (omega (arith, c.well_formed.0.1.0.1))) }

pub spread-requires-3 : goal.spread-requires-3
spread-requires-3 c = omega (arith, below_at 65536 c.args.low 3 c.requires (omega (arith, c.well_formed.0.1.0.1)))

pub returns : goal.returns
returns c = record { value = hash_is c.args.low c.spread.ensures.value c.spread-2.ensures.value c.spread-3.ensures.value; upper_bound = omega (arith, c.spread.ensures.upper_bound, c.spread-2.ensures.upper_bound, c.spread-3.ensures.upper_bound) }
