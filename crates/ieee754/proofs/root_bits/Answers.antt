-- The significand moved up, the digits of its root, and where they stand in the bits.
use Rattle.std.proofs.Common.{arith}
use Rattle.ieee754.proofs.Moved.{zeros_from, moved_from, kept_whole, bits_of_root}
use Rattle.ieee754.proofs.root_bits.Goals as goal

pub overflow_sub-moved : goal.overflow_sub-moved
overflow_sub-moved c = omega (arith, zeros_from c.args.f c.requires.0 c.requires.1)

pub all_digits-s-requires : goal.all_digits-s-requires
all_digits-s-requires c = rw (kept_whole c.args.f c.requires.0 c.requires.1) (moved_from c.args.f c.requires.0 c.requires.1)

pub returns-clause-value : goal.returns-clause-value
returns-clause-value c = bits_of_root c.args.f c.requires.0 c.requires.1 c.all_digits-s.result c.requires.2 c.all_digits-s.ensures
