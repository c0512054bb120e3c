use mathlib.Core.Path.{refl, sym, ap, ◌∙◌}
use mathlib.Core.Bool.{true, false}
use mathlib.Core.List.{map}
use Prim.Native.Nat.{ℕ}
use native.Mathlib.Omega.{arith}
use lib.ListN.{take}
use lib.Seq.{length-take-le}
use lib.Ieee.{of_bits, of_int}
use Rattle.ieee754.specs.Root.{root}
use Rattle.counting_tree.specs.Box.{farthest}
use Rattle.counting_tree.specs.Farthest.{farthest_root}
use Rattle.counting_tree.proofs.Arrays.{at_most_sixteen, scan_step, scan_done}
use Rattle.counting_tree.proofs.boxes.farthest_corner.Goals as goal
use Rattle.counting_tree.proofs.boxes.farthest_corner.Goals.{then-far-sum, else-far-sum}

pub slice_bounds-all-end : goal.slice_bounds-all-end
slice_bounds-all-end c = omega (arith, at_most_sixteen c.args.channels c.requires, c.corner_count-n.ensures)

pub slice_bounds-row-items-end : goal.slice_bounds-row-items-end
slice_bounds-row-items-end c = sym (length-take-le c.corner_count-n.result c.args.all (omega (arith, at_most_sixteen c.args.channels c.requires, c.corner_count-n.ensures)))

pub loop-row-init : goal.loop-row-init
unfolding of_bits of_int
loop-row-init c = refl

pub loop-row-preserved : goal.loop-row-preserved
loop-row-preserved c =
    let step = scan_step c.args.channels (take c.args.channels c.args.q) (take c.corner_count-n.result c.args.all) c.loop-row.far c.square_sum-sum.result c.loop-row.row-index in
    elim c.if-far-sum.branch [
      | then-far-sum w ↦ rw w.far-is (step true (omega arith) c.square_sum-sum.ensures w.if-far-sum.true)
      | else-far-sum w ↦ rw w.far-is (step false (omega arith) c.square_sum-sum.ensures w.if-far-sum.false)
    ] ∙ c.loop-row.invariant

pub returns : goal.returns
returns c =
    let qs = take c.args.channels c.args.q in
    let rows = take c.corner_count-n.result c.args.all in
    c.root.ensures ∙ ap root (scan_done c.args.channels qs rows c.loop-row.far c.loop-row.row-index (omega arith) ∙ c.loop-row.invariant)
    ∙ farthest_root qs (map (take c.args.channels) rows) ∙ ap (λ (m : ℕ). farthest qs (map (take c.args.channels) (take m c.args.all))) c.corner_count-n.ensures
