use Rattle.std.proofs.Common.{◌≡◌, ◌∙◌, ◌<◌, ◌≤◌, ℕ, ◌+◌, ◌*◌, ◌-◌, List, ap, sym, get_or, length, arith}
use Rattle.lists.specs.Words.{over, part}
use Rattle.lists.proofs.PartLaws.{part_at, part_below, part_snoc, part_length}
use Rattle.lists.proofs.WordLaws.{over_snoc}
use Rattle.appx_dbscan.proofs.copy_kinds.Goals as goal

-- the loop's word i is a word of the part of n words
word : (w : List ℕ) (n i : ℕ) → 10 * n ≤ length w → i < length (part w (9 * n) (10 * n - 9 * n)) → (i < n) × (get_or (part w (9 * n) (10 * n - 9 * n)) i 0 ≡ get_or w (9 * n + i) 0)
word w n i h l =
    let k : i < n = omega (arith, part_length w (9 * n) (10 * n - 9 * n) (omega arith)) in
    (k, part_at w (9 * n) (10 * n - 9 * n) i (omega arith))

pub overflow_cast-kinds : goal.overflow_cast-kinds
overflow_cast-kinds c =
    let p = word c.args.work.now c.args.n c.loop-i.i c.requires.0 c.loop-i-test.true in
    omega (arith, p.1, part_below 3 c.args.work.now (9 * c.args.n) c.args.n c.loop-i.i c.requires.2 (omega arith) p.0)

pub loop-i-preserved : goal.loop-i-preserved
loop-i-preserved c =
    let w = c.args.work.now in
    let at = 9 * c.args.n in
    let p = word w c.args.n c.loop-i.i c.requires.0 c.loop-i-test.true in
    rw (c.loop-i.invariant, p.1) (
    over_snoc c.args.kinds.now 0 c.loop-i.i (part w at c.loop-i.i) (get_or w (at + c.loop-i.i) 0) (omega (arith, part_length w at c.loop-i.i (omega arith))) (omega arith)
    ∙ ap (over c.args.kinds.now 0) (sym (part_snoc w at c.loop-i.i (omega arith)))
    )
