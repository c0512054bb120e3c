-- The edge of each count, and zeros after them.
use mathlib.Core.Path.{sym, ap, subst, ◌∙◌}
use Prim.Native.Nat.{◌-◌}
use lib.IntN.{ℤ}
use lib.ListN.{replicate}
use Rattle.std.proofs.Common.{rules}
use Rattle.lists.specs.Lists.{Below}
use Rattle.lists.specs.Words.{over}
use Rattle.counting_tree.specs.Frames.{Frame}
use Rattle.counting_tree.specs.Given.{frame_of}
use Rattle.counting_tree.specs.Ready.{ready_counts}
use Rattle.counting_tree.proofs.Placed.{placed_map}
use Rattle.blocks.specs.Blocks.{raise, edge, edges_of}
use Rattle.blocks.proofs.Edges.{edges_below}
use Rattle.blocks.proofs.edges_at.Goals as goal

pub returns : goal.returns
returns c =
    let r = c.args.frames.now in
    let w = c.args.width in
    let v = placed_map c.map_counts.ensures (λ (z : ℤ). edge w (raise z - c.args.down)) (λ z x h p. search rules)
    ∙ ap (λ (f : Frame). over (replicate 4 0) 0 (edges_of w c.args.down f)) c.frame.ensures.value in
    record { value = v; below = subst (Below 65536) (sym v) (edges_below w c.args.down (frame_of r c.args.i) (ready_counts r.ready r.counts c.args.i c.requires.0)) }
