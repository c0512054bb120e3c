-- Channel by channel, until one differs or none is left.
use mathlib.Core.Path.{sym, ap, ap₂, ◌∙◌}
use mathlib.Core.Bool.{Bool, ◌&&◌}
use Prim.Native.Nat.{ℕ, ◌+◌, ◌-◌}
use native.Mathlib.Nat.{mod-lt}
use native.Mathlib.Omega.{arith}
use lib.IntN.{pos}
use lib.ListN.{get_or, take, drop}
use Rattle.std.proofs.lemmas.Grind.{common_steps}
use Rattle.lists.specs.OrderLaws.{below_at}
use Rattle.counting_tree.specs.Domain.{Count}
use Rattle.counting_tree.specs.Frames.{Frame}
use Rattle.blocks.specs.Blocks.{key_of, shifted, same_nats}
use Rattle.blocks.proofs.Edges.{same_from, same_next, one_differs, same_first, same_past, all_same}
use Rattle.blocks.proofs.in_row.Goals as goal
use Rattle.blocks.proofs.in_row.Goals.{else-k-frames-via-then-k-frames+else-not-holds, else-k-frames-via-else-k-frames}

pub holds-requires : goal.holds-requires
holds-requires c = (c.requires.1, c.requires.2, below_at 65536 c.args.first c.loop-k.k c.requires.3 (omega (arith, c.well_formed.1.1.0.1.0.1, c.loop-k-test.true)), c.requires.4 c.loop-k.k c.if-k-frames.true, mod-lt _ (omega arith))

pub returns-then-not-holds : goal.returns-then-not-holds
returns-then-not-holds c =
    let F = c.frame-frame.result.now in
    let a : Count (get_or F c.loop-k.k (pos 0)) = omega arith in
    let m = c.args.frames.now.ready.settings.scale.most in
    let l = c.frame-frame.ensures.long in
    let n = same_next c.args.width c.args.first F c.args.m (omega (arith, m, l, c.well_formed.1.1.0.1.0.1)) (omega (arith, l, c.if-k-frames.true)) c.loop-k.k c.loop-k.auto.k (omega (arith, l, c.if-k-frames.true)) a c.holds.ensures (grind arith) in
    one_differs c.args.width c.args.first F c.args.m c.loop-k.k n c.if-not-holds.true (grind (arith, common_steps)) ∙ c.loop-k.invariant
    ∙ same_first c.args.width c.args.first F c.args.m ∙ ap₂ (λ (f : Frame) (d : ℕ). same_nats (key_of c.args.width (drop 1 f)) (shifted c.args.width (take (d - 1) (drop 1 c.args.first)) c.args.m)) c.frame-frame.ensures.value l

pub loop-k-preserved : goal.loop-k-preserved
loop-k-preserved c =
    let F = c.frame-frame.result.now in
    let m = c.args.frames.now.ready.settings.scale.most in
    let s = c.args.frames.now.ready.settings.scale.some in
    let l = c.frame-frame.ensures.long in
    elim c.else-k-frames.branch [
      | else-k-frames-via-then-k-frames+else-not-holds w ↦
          let a : Count (get_or F c.loop-k.k (pos 0)) = omega arith in
          let n = same_next c.args.width c.args.first F c.args.m (omega (arith, m, l, c.well_formed.1.1.0.1.0.1)) (omega (arith, l, s)) c.loop-k.k c.loop-k.auto.k (omega (arith, l, w.if-k-frames.true)) a w.holds.ensures (grind arith) in
          sym (n ∙ ap (λ (t : Bool). t && same_from c.args.width c.args.first F c.args.m (c.loop-k.k + 1)) w.if-not-holds.false) ∙ c.loop-k.invariant
      | else-k-frames-via-else-k-frames w ↦
          same_past c.args.width c.args.first F c.args.m (omega (arith, m, l, c.well_formed.1.1.0.1.0.1)) (omega (arith, l, s)) c.loop-k.k (omega (arith, l, w.if-k-frames.false)) ∙ c.loop-k.invariant
    ]

pub returns : goal.returns
returns c =
    let F = c.frame-frame.result.now in
    let m = c.args.frames.now.ready.settings.scale.most in
    let s = c.args.frames.now.ready.settings.scale.some in
    let l = c.frame-frame.ensures.long in
    all_same c.args.width c.args.first F c.args.m (omega (arith, m, l, c.well_formed.1.1.0.1.0.1)) (omega (arith, l, s)) c.loop-k.k (omega (arith, l, m, c.loop-k-test.false)) (grind (arith, common_steps)) ∙ c.loop-k.invariant
    ∙ same_first c.args.width c.args.first F c.args.m ∙ ap₂ (λ (f : Frame) (d : ℕ). same_nats (key_of c.args.width (drop 1 f)) (shifted c.args.width (take (d - 1) (drop 1 c.args.first)) c.args.m)) c.frame-frame.ensures.value l
