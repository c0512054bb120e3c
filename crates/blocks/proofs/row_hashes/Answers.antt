-- Two parts a channel, and of each row the sum of its own.
use mathlib.Core.Path.{◌≡◌, sym, ap, subst, ◌∙◌}
use Prim.Native.Nat.{◌*◌}
use native.Mathlib.Omega.{arith}
use lib.ListN.{length, drop}
use Rattle.std.proofs.lemmas.List.{take_all}
use Rattle.lists.specs.Buckets.{hashes}
use Rattle.lists.specs.Lists.{Below}
use Rattle.lists.specs.OrderLaws.{below_at}
use Rattle.lists.specs.Words.{column}
use Rattle.blocks.specs.Blocks.{row_hash, shifted}
use Rattle.blocks.proofs.Hashes.{row_is, row_next, rows_below, part_small}
use Rattle.blocks.proofs.row_hashes.Goals as goal

pub parts-one-requires : goal.parts-one-requires
parts-one-requires c = (below_at 65536 c.args.first 1 c.requires.0 (omega (arith, c.well_formed.0.1.0.1)), c.requires.1, omega arith)

pub parts-two-requires : goal.parts-two-requires
parts-two-requires c = (below_at 65536 c.args.first 2 c.requires.0 (omega (arith, c.well_formed.0.1.0.1)), c.requires.1, omega arith)

pub parts-three-requires : goal.parts-three-requires
parts-three-requires c = (below_at 65536 c.args.first 3 c.requires.0 (omega (arith, c.well_formed.0.1.0.1)), c.requires.1, omega arith)

pub overflow_add-hashes : goal.overflow_add-hashes
overflow_add-hashes c =
    let a = part_small c.parts-one.result (ap length c.parts-one.ensures.value) c.parts-one.ensures.below in
    let b = part_small c.parts-two.result (ap length c.parts-two.ensures.value) c.parts-two.ensures.below in
    record { fits = grind (arith, a, b) }

pub overflow_add-hashes-in-loop-m : goal.overflow_add-hashes-in-loop-m
overflow_add-hashes-in-loop-m c =
    let a = part_small c.parts-one.result (ap length c.parts-one.ensures.value) c.parts-one.ensures.below in
    let b = part_small c.parts-two.result (ap length c.parts-two.ensures.value) c.parts-two.ensures.below in
    let d = part_small c.parts-three.result (ap length c.parts-three.ensures.value) c.parts-three.ensures.below in
    record { fits = grind (arith, a, b, d) }

pub loop-m-preserved : goal.loop-m-preserved
loop-m-preserved c =
    row_next (λ m. row_hash (shifted c.args.width (drop 1 c.args.first) m)) c.loop-m.hashes c.loop-m.m c.loop-m-test.true c.loop-m.invariant
    (row_is c.args.width c.args.first c.well_formed.0.1.0.1 c.parts-one.ensures.value c.parts-two.ensures.value c.parts-three.ensures.value c.loop-m.m (grind arith))

pub returns-clause-value : goal.returns-clause-value
returns-clause-value c =
    let m : c.loop-m.m ≡ 8 = omega (arith, c.loop-m.auto.m-end, c.loop-m-test.false) in
    sym (take_all c.loop-m.m c.loop-m.hashes (omega (arith, c.loop-m.invariant.0, m))) ∙ c.loop-m.invariant.1 ∙ ap (column (λ m. row_hash (shifted c.args.width (drop 1 c.args.first) m))) m

pub returns-clause-below : goal.returns-clause-below
returns-clause-below c =
    let e = sym (take_all c.loop-m.m c.loop-m.hashes (omega (arith, c.loop-m.invariant.0, c.loop-m-test.false))) ∙ c.loop-m.invariant.1 in
    subst (Below (3 * hashes)) (sym e) (rows_below (λ m. shifted c.args.width (drop 1 c.args.first) m) c.loop-m.m)
