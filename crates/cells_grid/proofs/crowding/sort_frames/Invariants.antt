-- The invariant: the keys of the frames before j are written.
use Rattle.lists.proofs.LoopLaws.{Fill}
use Rattle.cells_grid.specs.Crowding.{frame_key}
use Rattle.cells_grid.proofs.crowding.sort_frames.Given as goal

abbrev pub invariant-loop-j : goal.invariant-loop-j
invariant-loop-j l = Fill (frame_key l.frames.v l.frames.n l.frames.points.now) l.initial.keys 0 l.n l.keys l.j
