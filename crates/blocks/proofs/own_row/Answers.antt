-- Channel by channel from the last on.
use mathlib.Core.Path.{◌≡◌, sym, ap, ap₂, ◌∙◌}
use Prim.Native.Nat.{ℕ, ◌-◌, ◌^◌}
use native.Mathlib.Omega.{arith}
use lib.IntN.{pos}
use lib.ListN.{get_or}
use lib.Pow.{pow_mono}
use Rattle.lists.specs.OrderLaws.{below_at}
use Rattle.counting_tree.specs.Domain.{Count}
use Rattle.blocks.proofs.Edges.{own_from, own_next, own_few, own_end}
use Rattle.blocks.proofs.own_row.Goals as goal

pub loop-k-init : goal.loop-k-init
loop-k-init c = (c.args.frames.now.ready.settings.scale.some, sym (own_end c.args.width c.args.first c.frame-frame.result.now) ∙ ap (own_from c.args.width c.args.first c.frame-frame.result.now) c.frame-frame.ensures.long)

pub overflow_mul-row : goal.overflow_mul-row
overflow_mul-row c = record { fits = omega (arith, c.loop-k.invariant.1, own_few c.args.width c.args.first c.frame-frame.result.now c.loop-k.k, pow_mono {i = c.args.frames.now.v.channels - c.loop-k.k} {j = 4} (omega (arith, c.args.frames.now.ready.settings.scale.most)), ap (λ (d : ℕ). 2 ^ (d - c.loop-k.k)) c.frame-frame.ensures.long) }

pub second-requires : goal.second-requires
second-requires c = (below_at 65536 c.args.first (c.loop-k.k - 1) c.requires.1 (omega (arith, c.well_formed.1.1.0.1.0.1, c.loop-k.auto.k, c.loop-k-test.true, c.args.frames.now.ready.settings.scale.most)), c.requires.2)

pub overflow_add-row : goal.overflow_add-row
overflow_add-row c = record { fits = omega (arith, c.second.ensures.upper_bound, c.loop-k.invariant.1, own_few c.args.width c.args.first c.frame-frame.result.now c.loop-k.k, pow_mono {i = c.args.frames.now.v.channels - c.loop-k.k} {j = 4} (omega (arith, c.args.frames.now.ready.settings.scale.most)), ap (λ (d : ℕ). 2 ^ (d - c.loop-k.k)) c.frame-frame.ensures.long) }

pub loop-k-preserved : goal.loop-k-preserved
loop-k-preserved c =
    let a : Count (get_or c.frame-frame.result.now (c.loop-k.k - 1) (pos 0)) = omega arith in
    let m = c.args.frames.now.ready.settings.scale.most in
    let l = c.frame-frame.ensures.long in
    (omega arith, own_next c.args.width c.args.first c.frame-frame.result.now c.loop-k.k c.loop-k-test.true (omega (arith, c.well_formed.1.1.0.1.0.1, c.loop-k.auto.k, m)) (omega (arith, c.loop-k.auto.k, l)) a c.loop-k.invariant.1 c.second.ensures.value)

pub returns-clause-upper_bound : goal.returns-clause-upper_bound
returns-clause-upper_bound c =
    let e : c.loop-k.k ≡ 1 = omega (arith, c.loop-k.invariant.0, c.loop-k-test.false) in
    omega (arith, c.loop-k.invariant.1, own_few c.args.width c.args.first c.frame-frame.result.now c.loop-k.k, ap₂ (λ (d k : ℕ). 2 ^ (d - k)) c.frame-frame.ensures.long e)
