-- The geometry of frames and settings in the domain is sound: so demand 3 holds of what every accepted run leaves, whatever the bound of its lists.
use Rattle.std.specs.Prelude.{◌≡◌, List, ℕ, ◌/◌, ◌≤◌, ℤ, Ok}
use Rattle.std.proofs.Common.{sym, le_trans, lit≤}
use Rattle.std.proofs.Math.Path.{subst}
use Rattle.std.proofs.Math.ListN.{length}
use Rattle.lists.specs.Words.{over}
use Rattle.hyperparams.specs.Params.{max_frames}
use Rattle.hyperparams.specs.Accepted.{accepted}
use Rattle.hyperparams.specs.declared.Params.{Params}
use Rattle.hyperparams.specs.declared.ValidParams.{ValidParams}
use Rattle.counting_tree.specs.Frames.{Frame, frames_of}
use Rattle.counting_tree.specs.FramesIn.{frames_length}
use Rattle.counting_tree.specs.Geometry.{geometry_of, short, Nearer, FarReach}
use Rattle.counting_tree.specs.Domain.{Counts, Domain, domain_of}
use Rattle.counting_tree.specs.Sound as Boxes
use Rattle.cells_grid.specs.Ready.{lawful}
use Rattle.clustering.specs.Clusters.{none}
use Rattle.appx_dbscan.specs.Transform.{transform_of, run, labels_left, kinds_left, checked_call}
use Rattle.appx_dbscan.specs.Promise.{Promise}
use Rattle.appx_dbscan.specs.Sound.{Sound}
use Rattle.appx_dbscan.specs.Theorem.{promise_over}

module _ (factor : ℕ) (v : ValidParams) (fs : List Frame) where
  pub sound : Domain v fs → Sound (geometry_of factor v fs) (Nearer v fs) (FarReach v fs)
  unfolding geometry_of
  sound D = record {
    lawful = lawful factor v fs;
    disjoint = Boxes.disjoint v fs D;
    covered = Boxes.covered v fs D;
    last = Boxes.last v fs D;
    cell = Boxes.cell v fs D;
    far_turn = Boxes.far_turn v fs;
  }

-- a call that passes the table, on points that are signed 16-bit counts
module _ (p : Params) (ps : List ℤ) (labels kinds work : List ℕ) (v : ValidParams) (c : Counts ps) (e : checked_call p ps labels kinds work ≡ Ok v) where
  abbrev fs : List Frame
  fs = frames_of v.channels ps

  -- cluster numbers stay below the label for none
  few_frames : length fs ≤ none
  unfolding frames_of
  few_frames =
      let a = accepted p (length ps) (length labels) (length kinds) (length work) e in
      let few : length ps / v.channels ≤ max_frames = subst (λ (w : ValidParams). length ps / w.channels ≤ max_frames) (sym a.settings) a.few_frames in
      rw (frames_length (length ps / v.channels) v.channels ps) (le_trans few (lit≤ tt))

  -- demand 3 with lists of any bound
  pub promise_any_list : (factor : ℕ) → Promise factor v fs (over labels 0 (transform_of (geometry_of factor v fs)).labels) (over kinds 0 (transform_of (geometry_of factor v fs)).kinds)
  promise_any_list factor =
      promise_over (geometry_of factor v fs) (Nearer v fs) (FarReach v fs) (sound factor v fs (domain_of p ps (length labels) (length kinds) (length work) e c)) (unfold geometry_of in few_frames)
      labels kinds

  -- DEMAND 3 of every accepted run
  pub promise_accepted : Promise short v (frames_of v.channels ps) (labels_left (Ok v) ps labels) (kinds_left (Ok v) ps kinds)
  unfolding run
  promise_accepted = promise_any_list short
