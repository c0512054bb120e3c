use mathlib.Core.Path.{refl, ap, ◌∙◌}
use Prim.Native.Nat.{ℕ, ◌≤◌}
use native.Mathlib.Omega.{arith}
use lib.ListN.{replicate}
use lib.Ieee.{of_bits, of_int}
use Rattle.lists.proofs.LoopLaws.{fill_start, fill_step, fill_end}
use Rattle.lists.specs.Words.{over, column}
use Rattle.hyperparams.specs.Params.{float}
use Rattle.counting_tree.specs.Arrays.{row_of, rows_of}
use Rattle.counting_tree.proofs.Arrays.{at_most_sixteen}
use Rattle.counting_tree.proofs.boxes.get_corners.Goals as goal

pub loop-k-init : goal.loop-k-init
unfolding of_bits of_int
loop-k-init c =
    let h : c.args.channels ≤ 4 = omega arith in
    let s : c.corner_count-n.result ≤ 16 = omega (arith, at_most_sixteen c.args.channels h, c.corner_count-n.ensures) in
    (h, c.corner_count-n.ensures, s, c.half_side-e.ensures, refl, fill_start (omega arith))

pub loop-k-preserved : goal.loop-k-preserved
loop-k-preserved c = (c.loop-k.invariant.0, c.loop-k.invariant.1, c.loop-k.invariant.2, c.loop-k.invariant.3, c.loop-k.invariant.4, fill_step c.loop-k.invariant.5 (omega arith) c.corner.result c.loop-k.k (omega arith) c.corner.ensures)

pub returns : goal.returns
unfolding rows_of of_bits of_int
returns c = fill_end c.loop-k.invariant.5 (omega arith) ∙ ap (λ (m : ℕ). over (replicate 16 (replicate 4 (float 0))) 0 (column (row_of c.args.channels c.args.centre c.half_side-e.result) m)) c.loop-k.invariant.1 ∙ ap (rows_of c.args.channels c.args.centre) c.loop-k.invariant.3
