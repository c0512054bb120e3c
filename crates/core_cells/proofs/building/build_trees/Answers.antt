use native.Mathlib.Omega.{arith}
use Rattle.core_cells.proofs.OneTree.{ripe}
use Rattle.core_cells.proofs.Growing.{growing_start, growing_length, growing_cored, growing_blank, growing_step, growing_end}
use Rattle.core_cells.proofs.building.build_trees.Goals as goal

pub overflow_mul-at : goal.overflow_mul-at
overflow_mul-at c = omega (arith, c.args.frames.now.ready.few)

pub loop-c-init : goal.loop-c-init
loop-c-init c = growing_start (ripe c.args.frames.now.ready c.requires.ready c.requires.s_in_bounds)

pub build_tree-at-requires : goal.build_tree-at-requires
build_tree-at-requires c = record { ready = growing_cored c.loop-c.invariant; c_lt_k = (c.loop-c-test.true, c.loop-c.invariant.place); s_in_bounds = (omega (arith, growing_length c.loop-c.invariant, c.requires.s_in_bounds.0), growing_blank c.loop-c.invariant) }

pub loop-c-preserved : goal.loop-c-preserved
loop-c-preserved c = growing_step c.loop-c.invariant c.loop-c-test.true c.build_tree-at.ensures.value c.build_tree-at.ensures.work_after

pub shape_of-work : goal.shape_of-work
shape_of-work c = growing_length c.loop-c.invariant

pub returns : goal.returns
returns c = growing_end c.loop-c.invariant c.loop-c-test.false
