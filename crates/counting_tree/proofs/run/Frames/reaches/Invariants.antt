-- What the path says from the level on is what it says from the root.
use Prim.Native.Nat.{◌-◌}
use Rattle.counting_tree.proofs.Walk.{Walking}
use Rattle.counting_tree.proofs.run.Frames.reaches.Given as goal

abbrev pub invariant-loop : goal.invariant-loop
invariant-loop l = Walking l.self.points.now l.self.v l.self.n l.q l.x l.side (l.self.v.s - l.counter)
