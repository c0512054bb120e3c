-- `asks_trees` meets its contract: each cell of the list is one of the cells.
use mathlib.Core.Path.{sym, subst}
use Prim.Native.Nat.{ℕ}
use Rattle.std.proofs.Common.{rules}
use Rattle.std.proofs.lemmas.Iterator.{YieldsList-from_slice}
use Rattle.std.proofs.lemmas.Iterator.Adapters.{serves_from_places}
use Rattle.lists.specs.Lists.{In}
use Rattle.lists.specs.ListLaws.{at_in}
use Rattle.clustering.proofs.trees.asks_trees.Goals as goal

pub any-requires-clause-callable : goal.any-requires-clause-callable
any-requires-clause-callable c =
    let ds = c.args.list.now in
    serves_from_places (YieldsList-from_slice ds cc) (λ x q r. search rules)
    (λ x k l e _ _ _ _ _ _ _. (c.requires.0, c.requires.1 x.now (subst (λ (d : ℕ). In d ds) (sym e) (at_in x.now ds k l))))
