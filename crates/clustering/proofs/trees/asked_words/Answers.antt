-- `asked_words` meets its contract: it works in the leaders and in the second half of the words.
use Rattle.std.proofs.Common.{arith, ◌≡◌, ◌∙◌, sym, ◌++◌, drop, length, length-append, length-take-le}
use Rattle.clustering.proofs.InWords.{front_size, halves_laid}
use Rattle.clustering.proofs.trees.asked_words.Goals as goal

pub asked_at_last-requires : goal.asked_at_last-requires
asked_at_last-requires c =
    let e = c.listed_cells-cells.ensures in
    let r = c.requires.cells in
    let a = c.split_at_mut-leaders.ensures in
    let b = c.split_at_mut-runs.ensures in (
      length-take-le c.args.k _ (omega (arith, a.front_len, r.few)) ∙ sym e.1,
      length-take-le c.args.k _ (omega (arith, a.back_len, b.back_len, c.requires.sizes.0, r.few)) ∙ sym e.1,
      length-take-le c.args.k _ (omega (arith, b.front_len, r.few)) ∙ sym e.1,
      omega (arith, e.1, r.few, c.requires.sizes.1),
    )

pub returns-clause-words : goal.returns-clause-words
returns-clause-words c =
    let r = c.requires.cells in
    let a = c.split_at_mut-leaders.ensures in
    let b = c.split_at_mut-runs.ensures in
    let L = c.split_at_mut-leaders.result.0.now in
    let B = c.split_at_mut-runs.result.0.now in
    let K = c.split_at_mut-runs.result.1.now in
    let z = c.asked_at_last.auto in
    let rs = c.asked_at_last.new.runs in
    let ms = c.asked_at_last.new.marks in
    let kk : length K ≡ c.args.frames.n = omega (arith, a.back_len, b.back_len, c.requires.sizes.0) in
    let bb : length B ≡ c.args.frames.n = omega (arith, b.front_len) in
    let lb : length (rs ++ drop c.args.k B) ≡ c.args.frames.n = front_size rs B (z.runs ∙ length-take-le c.args.k B (omega (arith, b.front_len, r.few))) (omega (arith, b.front_len, r.few)) ∙ bb in
    let lk : length (ms ++ drop c.args.k K) ≡ c.args.frames.n = front_size ms K (z.marks ∙ length-take-le c.args.k K (omega (arith, kk, r.few))) (omega (arith, kk, r.few)) ∙ kk in
    halves_laid L c.split_at_mut-leaders.result.1.now c.asked_at_last.new.leaders ((rs ++ drop c.args.k B) ++ (ms ++ drop c.args.k K)) a.value a.front_len (omega (arith, a.back_len, c.requires.sizes.0)) r.few
    (z.leaders ∙ length-take-le c.args.k L (omega (arith, a.front_len, r.few)))
    (length-append (rs ++ drop c.args.k B) (ms ++ drop c.args.k K) ∙ omega (arith, lb, lk))
