-- The far reach, each product within 64 bits.
use native.Mathlib.Omega.{arith}
use Rattle.core_cells.proofs.FarReach.{shifted, reachable, reach_is}
use Rattle.core_cells.proofs.asking.out_of_reach.Goals as goal

pub overflow_mul-four : goal.overflow_mul-four
overflow_mul-four c =
    let R = reachable c.args.t c.args.s c.args.square c.requires.0 c.requires.1 c.requires.2 in
    record { fits = omega (arith, R.two, R.four, R.reach, R.far, R.near) }

pub overflow_add-reach : goal.overflow_add-reach
overflow_add-reach c =
    let R = reachable c.args.t c.args.s c.args.square c.requires.0 c.requires.1 c.requires.2 in
    record { fits = omega (arith, R.two, R.four, R.reach, R.far, R.near) }

pub overflow_mul-reach : goal.overflow_mul-reach
overflow_mul-reach c =
    let R = reachable c.args.t c.args.s c.args.square c.requires.0 c.requires.1 c.requires.2 in
    record { fits = omega (arith, R.two, R.four, R.reach, R.far, R.near) }

pub overflow_mul-result : goal.overflow_mul-result
overflow_mul-result c =
    let R = reachable c.args.t c.args.s c.args.square c.requires.0 c.requires.1 c.requires.2 in
    record { fits = omega (arith, R.two, R.four, R.reach, R.far, R.near) }

pub overflow_add-result : goal.overflow_add-result
overflow_add-result c =
    let R = reachable c.args.t c.args.s c.args.square c.requires.0 c.requires.1 c.requires.2 in
    record { fits = omega (arith, R.two, R.four, R.reach, R.far, R.near) }

pub overflow_mul-result-2 : goal.overflow_mul-result-2
overflow_mul-result-2 c =
    let R = reachable c.args.t c.args.s c.args.square c.requires.0 c.requires.1 c.requires.2 in
    record { fits = omega (arith, R.two, R.four, R.reach, R.far, R.near) }

pub returns : goal.returns
returns c = reach_is c.args.t c.args.s c.args.square _ (shifted c.args.s c.requires.1)
