use mathlib.Core.Path.{◌≡◌, ap, ◌∙◌}
use mathlib.Core.List.{List}
use Prim.Native.Nat.{ℕ, ◌<◌}
use native.Mathlib.Omega.{arith}
use lib.ListN.{length, get_or}
use Rattle.lists.specs.ListLaws.{at_numbers, length_numbers}
use Rattle.lists.proofs.LoopLaws.{fill_start, fill_step}
use Rattle.cells_grid.specs.Pairs.{others}
use Rattle.cells_grid.proofs.Core.{core_word, bits_end, yet_to_tell}
use Rattle.cells_grid.proofs.label_by_pairs.Goals as goal

pub loop-i-init : goal.loop-i-init
loop-i-init c = let f = c.args.sorted.now.grid.frames in fill_start (omega (arith, ap length c.count_pairs.ensures, length_numbers (others f.v f.n f.points.now) f.n))

pub core_counted-requires : goal.core_counted-requires
core_counted-requires c =
    let f = c.args.sorted.now.grid.frames in let i = c.loop-i.i in
    let l : i < f.n = omega (arith, c.loop-i-test.true, ap length c.count_pairs.ensures, length_numbers (others f.v f.n f.points.now) f.n) in
    (l, yet_to_tell c.loop-i.invariant ∙ ap (λ (z : List ℕ). get_or z i 0) c.count_pairs.ensures ∙ at_numbers (others f.v f.n f.points.now) 0 f.n i l)

pub loop-i-preserved : goal.loop-i-preserved
loop-i-preserved c =
    let f = c.args.sorted.now.grid.frames in
    fill_step c.loop-i.invariant (omega (arith, c.loop-i-test.true, ap length c.count_pairs.ensures, length_numbers (others f.v f.n f.points.now) f.n)) _ _ (omega arith) (core_word _ _ c.core_counted.ensures)

pub returns : goal.returns
returns c =
    let f = c.args.sorted.now.grid.frames in
    let e : length c.count_pairs.new.counts ≡ f.n = ap length c.count_pairs.ensures ∙ length_numbers (others f.v f.n f.points.now) f.n in
    bits_end e c.loop-i.invariant (omega (arith, c.loop-i-test.false, e))
