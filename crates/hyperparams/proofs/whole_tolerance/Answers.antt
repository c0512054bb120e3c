-- The whole part of a float between 0 and 65,536 is there, and the answer is as `good_tolerance` and `whole_tolerance` say.
use lib.Ieee.{of_bits}
use Rattle.hyperparams.proofs.Tolerance.{above, under, uncut, inside, in_float_lem, found, none}
use Rattle.hyperparams.proofs.whole_tolerance.Goals as goal
use Rattle.hyperparams.proofs.whole_tolerance.Goals.{else-tolerance-via-then-tolerance+else-tolerance-2, else-tolerance-via-else-tolerance}

pub truncating_f64_to_u64-t-requires : goal.truncating_f64_to_u64-t-requires
unfolding of_bits
truncating_f64_to_u64-t-requires c =
    let i = inside c.args.tolerance c.if-tolerance.true c.if-tolerance-2.true in
    record { lower_bound = i.over_minus_one; upper_bound = i.under_width }

pub int_to_float-t : goal.int_to_float-t
unfolding of_bits
int_to_float-t c = in_float_lem c.args.tolerance _ c.truncating_f64_to_u64-t.ensures (inside c.args.tolerance c.if-tolerance.true c.if-tolerance-2.true)

pub returns-then-t-tolerance : goal.returns-then-t-tolerance
unfolding of_bits
returns-then-t-tolerance c = found c.args.tolerance _ c.truncating_f64_to_u64-t.ensures (inside c.args.tolerance c.if-tolerance.true c.if-tolerance-2.true) c.if-t-tolerance.true

pub returns-else-t-tolerance : goal.returns-else-t-tolerance
returns-else-t-tolerance c = none c.args.tolerance (uncut c.args.tolerance) (λ p. p.is_uncut) (rw c.truncating_f64_to_u64-t.ensures at c.if-t-tolerance.false)

pub returns-else-tolerance : goal.returns-else-tolerance
unfolding of_bits
returns-else-tolerance c = elim c.else-tolerance.branch [
  | else-tolerance-via-then-tolerance+else-tolerance-2 w ↦ none c.args.tolerance (under c.args.tolerance) (λ p. p.is_under) w.if-tolerance-2.false
  | else-tolerance-via-else-tolerance w ↦ none c.args.tolerance (above c.args.tolerance) (λ p. p.is_above) w.if-tolerance.false
]
