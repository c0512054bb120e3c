-- `grow_trees` meets its contract.
use Prim.Native.Nat.{◌*◌}
use native.Mathlib.Omega.{arith}
use borrow.Author.Rules.{rules}
use Rattle.lists.proofs.PartLaws.{clear_within}
use Rattle.hyperparams.specs.Params.{levels}
use Rattle.core_cells.specs.ForestLaws.{limit_least}
use Rattle.appx_dbscan.proofs.Trees.{grew_scratch, grew_grown, rebuilt, built_clear, built_grown, written}
use Rattle.appx_dbscan.proofs.grow_trees.Goals as goal

pub build_trees-requires : goal.build_trees-requires
build_trees-requires c = record { ready = c.requires.0; s_in_bounds = (c.requires.1, clear_within c.args.work.now (10 * c.args.frames.now.n) (6 * c.args.frames.now.n) (10 * c.args.frames.now.n) (3 * c.args.frames.now.n) c.requires.2 (omega arith) (omega arith)) }

pub wanted-requires : goal.wanted-requires
wanted-requires c = (built_grown c.args.frames.now.ready c.requires.0 c.requires.1 c.path_limit-limit.result c.build_trees.ensures, search rules, built_clear c.args.frames.now.ready c.requires.0 c.requires.1 c.path_limit-limit.result c.build_trees.ensures c.requires.2)

pub build_trees-requires-then-wanted : goal.build_trees-requires-then-wanted
build_trees-requires-then-wanted c =
    let e₂ = written c.args.frames.now.ready c.requires.0 c.requires.1 c.path_limit-limit.result c.build_trees.ensures c.wanted.ensures in
    record { ready = (grew_grown c.args.frames.now.ready c.requires.0 c.requires.1 c.path_limit-limit.result e₂).cored; s_in_bounds = (search rules, grew_scratch c.args.frames.now.ready c.requires.0 c.requires.1 c.path_limit-limit.result e₂ c.requires.2) }

pub returns-then-wanted : goal.returns-then-wanted
returns-then-wanted c =
    let e₂ = written c.args.frames.now.ready c.requires.0 c.requires.1 c.path_limit-limit.result c.build_trees.ensures c.wanted.ensures in
    (64, rebuilt c.args.frames.now.ready c.requires.0 c.requires.1 c.path_limit-limit.result e₂ (omega (arith, c.path_limit-limit.ensures, limit_least (levels c.args.frames.now.v.s) c.args.frames.now.n c.args.k)) c.build_trees-then-wanted.ensures)

pub returns-else-wanted : goal.returns-else-wanted
returns-else-wanted c = (c.path_limit-limit.result, written c.args.frames.now.ready c.requires.0 c.requires.1 c.path_limit-limit.result c.build_trees.ensures c.wanted.ensures)
