use Rattle.std.proofs.Common.{refl, arith}
use Rattle.hexadecimal.specs.Hexadecimal.{number}
use Rattle.hexadecimal.proofs.Digits.{one_more, below_more, fits}
use Rattle.hexadecimal.proofs.number.Goals as goal

pub loop-i-init : goal.loop-i-init
unfolding number
loop-i-init c = record { value = refl; bound = omega arith }

pub overflow_mul-n : goal.overflow_mul-n
overflow_mul-n c = record { fits = omega (arith, fits c.loop-i.n c.loop-i.i c.args.digits 0 c.loop-i.invariant.bound c.loop-i-test.true c.requires.0 (omega arith)) }

pub overflow_add-n : goal.overflow_add-n
overflow_add-n c = record { fits = fits c.loop-i.n c.loop-i.i c.args.digits c.digit_at.result c.loop-i.invariant.bound c.loop-i-test.true c.requires.0 c.digit_at.ensures.bound }

pub loop-i-preserved : goal.loop-i-preserved
loop-i-preserved c = record {
  value = let e = one_more c.args.text.now c.args.at c.loop-i.i in cc;
  bound = below_more c.loop-i.n c.loop-i.i c.digit_at.result c.loop-i.invariant.bound c.digit_at.ensures.bound;
}
