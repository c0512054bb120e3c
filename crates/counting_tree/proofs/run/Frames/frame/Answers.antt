-- The counts from the frame's start on.
use mathlib.Core.Path.{◌≡◌, sym, ap, ◌∙◌}
use Prim.Native.Nat.{ℕ, ◌+◌, ◌-◌, ◌*◌}
use native.Mathlib.Omega.{arith}
use lib.ListN.{length, take, drop}
use Rattle.counting_tree.specs.FramesIn.{frame_at, frame_length}
use Rattle.counting_tree.proofs.run.Frames.frame.Goals as goal

pub returns : goal.returns
returns c =
    let f = c.args.self.now in
    let a = c.args.i * f.v.channels in
    let e : a + f.v.channels - a ≡ f.v.channels = omega arith in
    let v = ap (λ (m : ℕ). take m (drop a f.points.now)) e ∙ sym (frame_at f.n f.v.channels f.points.now c.args.i c.requires) in
    let l = ap length v ∙ frame_length f.n f.v.channels f.points.now c.args.i f.ready.room c.requires in
    record { value = v; long = l; few = omega (arith, l, f.ready.settings.scale.most) }
