-- The index by its three branches; what is rounded up is small.
use mathlib.Core.Path.{refl, sym, ap, ◌∙◌}
use mathlib.Core.Bool.{true, false}
use lib.IntN.{ℤ, negsuc, ◌+ℤ◌}
use lib.Ieee.{binary64, of_int}
use mir.Facts.{to_z-of_z}
use Rattle.counting_tree.specs.InBox.{index_by}
use Rattle.counting_tree.proofs.Index.{by_tests, above_small, below_small, coordinate, ceiling_fits, less_fits}
use Rattle.counting_tree.proofs.grid.cell_index.Goals as goal

pub returns-then-around_zero : goal.returns-then-around_zero
unfolding index_by
returns-then-around_zero c =
    let x = ap (of_int binary64) (to_z-of_z c.ranges.c) in
    by_tests c.args.side c.half_side-half.result _ c.args.c c.half_side-half.ensures x true _ (sym c.around_zero.ensures ∙ c.if-around_zero.true) refl

pub ceiling-requires : goal.ceiling-requires
ceiling-requires c =
    let x = ap (of_int binary64) (to_z-of_z c.ranges.c) in
    above_small c.args.side c.half_side-half.result _ c.args.c c.half_side-half.ensures x c.requires (coordinate c.args.c c.ranges.c)

pub returns-then-x : goal.returns-then-x
unfolding index_by
returns-then-x c =
    let x = ap (of_int binary64) (to_z-of_z c.ranges.c) in
    let z = above_small c.args.side c.half_side-half.result _ c.args.c c.half_side-half.ensures x c.requires (coordinate c.args.c c.ranges.c) in
    to_z-of_z (ceiling_fits _ _ c.ceiling.ensures z) ∙ c.ceiling.ensures ∙ by_tests c.args.side c.half_side-half.result _ c.args.c c.half_side-half.ensures x false true (sym c.around_zero.ensures ∙ c.if-around_zero.false) c.if-x.true

pub ceiling-requires-2 : goal.ceiling-requires-2
ceiling-requires-2 c =
    let x = ap (of_int binary64) (to_z-of_z c.ranges.c) in
    below_small c.args.side c.half_side-half.result _ c.args.c c.half_side-half.ensures x c.requires (coordinate c.args.c c.ranges.c)

pub overflow_add-result : goal.overflow_add-result
overflow_add-result c =
    let x = ap (of_int binary64) (to_z-of_z c.ranges.c) in
    let z = below_small c.args.side c.half_side-half.result _ c.args.c c.half_side-half.ensures x c.requires (coordinate c.args.c c.ranges.c) in
    rw (to_z-of_z (ceiling_fits _ _ c.ceiling-2.ensures z)) (less_fits _ _ c.ceiling-2.ensures z)

pub returns : goal.returns
unfolding index_by
returns c =
    let x = ap (of_int binary64) (to_z-of_z c.ranges.c) in
    let z = below_small c.args.side c.half_side-half.result _ c.args.c c.half_side-half.ensures x c.requires (coordinate c.args.c c.ranges.c) in
    rw (to_z-of_z (ceiling_fits _ _ c.ceiling-2.ensures z), to_z-of_z (less_fits _ _ c.ceiling-2.ensures z))
    (ap (λ (k : ℤ). negsuc 0 +ℤ k) c.ceiling-2.ensures ∙ by_tests c.args.side c.half_side-half.result _ c.args.c c.half_side-half.ensures x false false (sym c.around_zero.ensures ∙ c.if-around_zero.false) c.if-x.false)
