use mathlib.Core.Path.{◌≡◌, refl, subst}
use Prim.Native.Nat.{◌+◌, ◌-◌}
use native.Mathlib.Omega.{arith}
use lib.IntN.{ℤ, pos}
use lib.ListN.{length, get_or}
use Rattle.counting_tree.specs.Domain.{Count}
use Rattle.counting_tree.proofs.Counts.{read}
use Rattle.counting_tree.proofs.Placed.{placed_more, placed_same}
use Rattle.counting_tree.proofs.points.map_counts.Goals as goal
use Rattle.counting_tree.proofs.points.map_counts.Goals.{then-k-frame, else-k-frame}

pub loop-k-preserved : goal.loop-k-preserved
loop-k-preserved g c =
    let k = c.loop-k.k in
    let n = length c.args.frame.now in
    elim c.if-k-frame.branch [
      | then-k-frame w ↦
          let e : k - (k - n) ≡ k = omega (arith, w.if-k-frame.true) in
          let d : k + 1 ≡ k + 1 - (k + 1 - n) = omega (arith, w.if-k-frame.true) in
          let h : Count (get_or c.args.frame.now k (pos 0)) = omega arith in
          let r = subst (λ (z : ℤ). goal.F-post g c.args.f z w.f.result) (read (get_or c.args.frame.now k (pos 0)) h) w.f.ensures in
          placed_same w.row-is d (placed_more (placed_same refl e c.loop-k.invariant) (omega arith) w.f.result h r)
      | else-k-frame w ↦
          let e : k - (k - n) ≡ k + 1 - (k + 1 - n) = omega (arith, w.if-k-frame.false) in
          placed_same w.row-is e c.loop-k.invariant
    ]
