-- The geometry of frames and settings is lawful, with lists of any bound.
use Rattle.std.specs.Prelude.{List, ℕ, ℤ}
use Rattle.hyperparams.specs.declared.ValidParams.{ValidParams}
use Rattle.counting_tree.specs.Frames.{Frame, frames_in}
use Rattle.counting_tree.specs.Geometry.{geometry_of, short}
use Rattle.counting_tree.specs.Ready.{geometry_at, Ready}
use Rattle.counting_tree.specs.Sound.{same_self, same_turn, same_join, near_turn, box_same}
use Rattle.cells_grid.specs.Lawful.{Lawful}

pub lawful : (factor : ℕ) (v : ValidParams) (fs : List Frame) → Lawful (geometry_of factor v fs)
unfolding geometry_of
lawful factor v fs = record {
  same_self = same_self v fs;
  same_turn = same_turn v fs;
  same_join = same_join v fs;
  near_turn = near_turn v fs factor;
  box_same = box_same v fs;
}

pub ready_lawful : {ps : List ℤ} {v : ValidParams} {n : ℕ} → Ready ps v n → Lawful (geometry_at v n ps)
ready_lawful {ps} {v} {n} r = lawful short v (frames_in n v.channels ps)
