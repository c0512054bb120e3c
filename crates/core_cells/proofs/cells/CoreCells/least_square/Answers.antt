use mathlib.Core.Path.{◌≡◌, ap, ◌∙◌}
use mathlib.Core.Bool.{cond}
use mathlib.Core.Logic.{inl, inr}
use lib.ListN.{get_or}
use native.Mathlib.Omega.{arith}
use Rattle.core_cells.specs.Nearest.{beyond, least_until}
use Rattle.counting_tree.specs.Geometry.{N}
use Rattle.counting_tree.specs.Given.{frame_list}
use Rattle.cells_grid.proofs.Held.{frame_low}
use Rattle.core_cells.proofs.Held.{core_frames}
use Rattle.core_cells.proofs.Looking.{looking_start, looking_skip, looking_less, looking_found, looking_end, least_found_of, passed_or_beyond}
use Rattle.core_cells.proofs.cells.CoreCells.least_square.Goals as goal
use Rattle.core_cells.proofs.cells.CoreCells.least_square.Goals.{then-apart-least+else-apart-enough, else-apart-least, else-loop-x-test, then-loop-x-test+then-apart-least+then-apart-enough, then-is_core, else-is_core}

pub loop-x-init : goal.loop-x-init
loop-x-init c = looking_start (let t = c.args.self.now.grid.frames.ready.settings in grind arith)

pub is_core-requires : goal.is_core-requires
is_core-requires c = frame_low c.args.self.now.grid c.requires.1 c.frames_of-x-items.ensures _ c.loop-x-test.true

pub square_apart-apart-requires : goal.square_apart-apart-requires
square_apart-apart-requires c = (c.requires.0, frame_low c.args.self.now.grid c.requires.1 c.frames_of-x-items.ensures _ c.loop-x-test.true)

pub loop-x-preserved : goal.loop-x-preserved
loop-x-preserved c =
    let seen : c.if-is_core.apart ≡ cond c.is_core.result (N c.args.self.now.grid.frames.v (frame_list c.args.self.now.grid.frames) c.args.q (get_or c.frames_of-x-items.result.now c.loop-x.x-index 0)) beyond
    = passed_or_beyond (elim c.if-is_core.branch [
      | then-is_core w ↦ inl (w.if-is_core.true, w.apart-is ∙ w.square_apart-apart.ensures.value)
      | else-is_core w ↦ inr (w.if-is_core.false, w.apart-is)
    ]) in
    elim c.if-apart-least.branch [
      | then-apart-least+else-apart-enough w ↦ rw w.least-is (looking_less c.loop-x.invariant c.loop-x-test.true c.is_core.result c.is_core.ensures seen w.if-apart-least.true w.if-apart-enough.false)
      | else-apart-least w ↦ rw w.least-is (looking_skip c.loop-x.invariant c.loop-x-test.true c.is_core.result c.is_core.ensures seen w.if-apart-least.false)
    ]

pub returns : goal.returns
returns c =
    let all = ap (least_until _ (N c.args.self.now.grid.frames.v (frame_list c.args.self.now.grid.frames) c.args.q) beyond) (core_frames c.args.self.now c.requires.1 c.frames_of-x-items.ensures) in
    elim c.loop-x-test.branch [
      | else-loop-x-test w ↦
          let z = least_found_of (omega (arith, w.least-is, c.loop-x.invariant.bound)) c.then_some.ensures in
          record { value = z.0 ∙ w.least-is ∙ looking_end c.loop-x.invariant w.loop-x-test.false ∙ all; bound = z.1 }
      | then-loop-x-test+then-apart-least+then-apart-enough w ↦
          let z = least_found_of (omega (arith, w.least-is, c.loop-x.invariant.bound, w.if-apart-least.true)) c.then_some.ensures in
          let seen : w.if-is_core.apart ≡ cond w.is_core.result (N c.args.self.now.grid.frames.v (frame_list c.args.self.now.grid.frames) c.args.q (get_or c.frames_of-x-items.result.now c.loop-x.x-index 0)) beyond
          = passed_or_beyond (elim w.if-is_core.branch [
            | then-is_core u ↦ inl (u.if-is_core.true, u.apart-is ∙ u.square_apart-apart.ensures.value)
            | else-is_core u ↦ inr (u.if-is_core.false, u.apart-is)
          ]) in
          let stop = looking_found c.loop-x.invariant w.loop-x-test.true w.is_core.result w.is_core.ensures seen w.if-apart-least.true w.if-apart-enough.true in
          record { value = z.0 ∙ w.least-is ∙ stop ∙ all; bound = z.1 }
    ]
