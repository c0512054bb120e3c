use Rattle.std.proofs.Common.{◌≡◌, ℕ, ◌+◌, ◌*◌, ◌∙◌, ap, Bool, cond, List, ◌∷◌, zero, suc, refl, add-one, length, get_or, eqb, rules, arith}
use Rattle.std.specs.List.{range_with_len, filter}
use Rattle.std.proofs.lemmas.Iterator.{YieldsList-from_range}
use Rattle.std.proofs.lemmas.Iterator.Consumers.{count_from_yields_List, YieldsList-from_filter, YieldsList-at}
use borrow.Author.Tests.{tests}
use Rattle.lists.specs.Lists.{from, keep}
use Rattle.appx_dbscan.proofs.count_cores.Goals as goal

kept_from : (f : ℕ → Bool) (a n : ℕ) → filter f (range_with_len a n) ≡ keep f (from a n)
kept_from f a zero = refl
kept_from f a (suc n) = ap (λ (r : List ℕ). cond (f a) (a ∷ r) r) (ap (λ (b : ℕ). filter f (range_with_len b n)) (add-one a) ∙ kept_from f (suc a) n)

pub returns : goal.returns
returns c =
    let f : ℕ → Bool = λ i. eqb (get_or c.args.work.now (4 * c.args.n + i) 0) 1 in
    count_from_yields_List _ _ c.count.ensures.ran (YieldsList-from_filter _ f (YieldsList-at c.filter.ensures.source (YieldsList-from_range 0 c.args.n c.args.n refl (omega arith))) c.filter.ensures.closure (λ x r q k. search (rules, tests)))
    ∙ ap length (kept_from f 0 c.args.n)
