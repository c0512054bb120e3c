-- Document 01, module 6: the answer of a run, and what it leaves in each slice lent to it. Definitions only.
use Rattle.std.specs.Prelude.{List, ℕ, ◌/◌, ℤ, length, replicate, Result, Ok, Err}
use Rattle.lists.specs.Lists.{numbers, how_many}
use Rattle.lists.specs.Words.{over, column}
use Rattle.hyperparams.specs.Params.{Verdict, checked_of, work_words}
use Rattle.hyperparams.specs.declared.Params.{Params}
use Rattle.hyperparams.specs.declared.ValidParams.{ValidParams}
use Rattle.hyperparams.specs.declared.Refusal.{Refusal}
use Rattle.counting_tree.specs.Frames.{frames_of}
use Rattle.counting_tree.specs.Geometry.{Geometry, geometry_of, short}
use Rattle.cells_grid.specs.Cells.{core}
use Rattle.clustering.specs.Clusters.{clusters, place, label_by, kind_of}
use Rattle.appx_dbscan.specs.declared.Counts.{Counts}

-- "Results: per frame a label .. and a kind byte ..; also the number of clusters and of core frames."
pub record Answer : Type 0 where
  pub labels : List ℕ
  pub kinds : List ℕ
  pub cluster_count : ℕ
  pub core_count : ℕ

-- "`transform` as above": of a geometry
unfoldable pub transform_of : Geometry → Answer
unfolding label_by kind_of clusters core
transform_of g =
    let sets = clusters g in
    record {
      labels = column (label_by g (λ c. place c sets)) g.frames;
      kinds = column (kind_of g) g.frames;
      cluster_count = length sets;
      core_count = how_many (core g) (numbers g.frames);
    }

-- the run of settings that passed the table on the points
unfoldable pub run : ValidParams → List ℤ → Answer
unfolding transform_of geometry_of frames_of
run v ps = transform_of (geometry_of short v (frames_of v.channels ps))

-- "receives labels or a number from document 01's table"
abbrev pub Outcome : Type 0
Outcome = Result Counts Refusal

abbrev pub outcome_of : Verdict → List ℤ → Outcome
outcome_of (Err r) ps = Err r
outcome_of (Ok v) ps = Ok (record { clusters = (run v ps).cluster_count; core_frames = (run v ps).core_count })

-- "a refusal changes nothing in the memory lent"; else the labels and the kinds stand first in their slices, "Past the needed length every lent slice is unchanged"
abbrev pub labels_left : Verdict → List ℤ → List ℕ → List ℕ
labels_left (Err r) ps labels = labels
labels_left (Ok v) ps labels = over labels 0 (run v ps).labels

abbrev pub kinds_left : Verdict → List ℤ → List ℕ → List ℕ
kinds_left (Err r) ps kinds = kinds
kinds_left (Ok v) ps kinds = over kinds 0 (run v ps).kinds

-- "After an accepted run the needed work words are zero."
abbrev pub work_left : Verdict → List ℤ → List ℕ → List ℕ
work_left (Err r) ps work = work
work_left (Ok v) ps work = over work 0 (replicate (work_words (length ps / v.channels) v.s) 0)

-- the table's verdict on a call
abbrev pub checked_call : Params → List ℤ → (labels kinds work : List ℕ) → Verdict
checked_call p ps labels kinds work = checked_of p (length ps) (length labels) (length kinds) (length work)
