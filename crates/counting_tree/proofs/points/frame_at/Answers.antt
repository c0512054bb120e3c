use mathlib.Core.Path.{◌≡◌, ap, ◌∙◌}
use mathlib.Core.List.{map-id}
use native.Mathlib.Omega.{arith}
use Prim.Native.Nat.{ℕ, ◌+◌, ◌-◌, ◌*◌}
use lib.IntN.{ℤ}
use lib.ListN.{take, drop}
use Rattle.std.proofs.Common.{rules}
use Rattle.counting_tree.specs.Arrays.{placed}
use Rattle.counting_tree.proofs.Placed.{placed_map}
use Rattle.counting_tree.proofs.points.frame_at.Goals as goal

pub returns : goal.returns
unfolding placed
returns c =
    let a = c.args.i * c.args.channels in
    let e : a + c.args.channels - a ≡ c.args.channels = omega arith in
    placed_map c.map_counts.ensures (λ (z : ℤ). z) (λ z x h r. search rules)
    ∙ ap placed (map-id (take (a + c.args.channels - a) (drop a c.args.points.now)) ∙ ap (λ (m : ℕ). take m (drop a c.args.points.now)) e)
