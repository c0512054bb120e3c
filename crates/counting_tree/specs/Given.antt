-- What is said of the frames of a run: their list, each of them, their geometry.
use Rattle.std.specs.Prelude.{List, ℕ}
use Rattle.counting_tree.specs.declared.run.Frames.{Frames}
use Rattle.counting_tree.specs.Frames.{Frame, frames_in}
use Rattle.counting_tree.specs.Geometry.{Geometry, frame}
use Rattle.counting_tree.specs.Ready.{geometry_at}

abbrev pub frame_list : Frames → List Frame
frame_list f = frames_in f.n f.v.channels f.points.now

-- frame number i
abbrev pub frame_of : Frames → ℕ → Frame
frame_of f = frame f.v (frame_list f)

abbrev pub geometry : Frames → Geometry
geometry f = geometry_at f.v f.n f.points.now
