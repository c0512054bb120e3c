-- `find` meets its contract, by one step to the leader.
use Rattle.std.proofs.Common.{List, ℕ, sym, ◌∙◌}
use mathlib.Core.Path.{ap₂}
use lib.ListN.{set}
use Rattle.partitions.specs.LeaderLaws.{root_own, root_next, shorten_own, shorten_next}
use Rattle.partitions.proofs.+find.Goals as goal

pub returns-then-leader-c-clause-lowest : goal.returns-then-leader-c-clause-lowest
returns-then-leader-c-clause-lowest t c = sym (root_own _ _ c.if-leader-c.true)

pub returns-then-leader-c-clause-leaders : goal.returns-then-leader-c-clause-leaders
returns-then-leader-c-clause-leaders t c = sym (shorten_own _ _ c.if-leader-c.true)

pub returns-clause-lowest : goal.returns-clause-lowest
returns-clause-lowest t c = c.find-lowest.ensures.lowest ∙ sym (root_next c.requires.0 c.args.c)

pub returns-clause-leaders : goal.returns-clause-leaders
returns-clause-leaders t c =
    let n = c.args.c in
    let f = c.requires.0 in
    ap₂ (λ (q : List ℕ) (x : ℕ). set q n x) c.find-lowest.ensures.leaders (c.find-lowest.ensures.lowest ∙ sym (root_next f n)) ∙ sym (shorten_next f n c.if-leader-c.false)
