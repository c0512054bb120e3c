-- "These stand-ins are shown to violate it": for each a named small input on which the promise, or the equation with the definitions, fails of it.
use Rattle.std.specs.Prelude.{◌≡◌, refl, Bool, false, not, ◌&&◌, List, [], ◌∷◌, ℕ, ◌+◌, ◌*◌, ◌^◌, ◌<◌, ℤ, pos, T, ltb, get_or, replicate, Ok, Err}
use Rattle.std.proofs.Common.{sym, ap, ◌∙◌, inl, inr, T_not, lit<, ltb→lt, lt→ltb}
use Rattle.std.proofs.Math.Bool.{cond}
use Rattle.std.proofs.Math.ListN.{length}
use Rattle.lists.specs.Lists.{numbers, any, how_many, nonzero}
use Rattle.lists.specs.Words.{column}
use Rattle.lists.specs.ListLaws.{T_or_not, and_both, any_in, numbers_in}
use Rattle.hyperparams.specs.declared.Params.{Params}
use Rattle.hyperparams.specs.declared.ValidParams.{ValidParams}
use Rattle.hyperparams.specs.declared.Refusal.{Refusal}
use Rattle.hyperparams.specs.Params.{Verdict, float, slack_at, whole_tolerance, slack_power, appx_tolerance_of, checked_of}
use Rattle.counting_tree.specs.Frames.{Frame}
use Rattle.counting_tree.specs.Geometry.{Geometry, geometry_of, short, N, FarReach}
use Rattle.cells_grid.specs.Cells.{first, listed, core, core_cells, count}
use Rattle.clustering.specs.Clusters.{connected, place, clusters, label_by, kind_of, none}
use Rattle.appx_dbscan.specs.declared.Counts.{Counts}
use Rattle.appx_dbscan.specs.Transform.{Outcome, Answer, transform_of, run, outcome_of, labels_left, checked_call}
use Rattle.appx_dbscan.specs.Promise.{Chain, alone, step, CoreFrame, into_listed, Border, Noise, Promise}
use Rattle.appx_dbscan.specs.Small.{params, minus, valid, frames, grid, differ, differ_at}

-- ---- the stand-ins, as answers that a run might give
module _ (g : Geometry) where
  -- the answer with other sets in place of the clusters
  abbrev with_sets : List (List ℕ) → Answer
  with_sets sets = record { labels = column (label_by g (λ c. place c sets)) g.frames; kinds = column (kind_of g) g.frames; cluster_count = length sets; core_count = how_many (core g) (numbers g.frames) }

  -- "core cells never united"
  unfoldable pub never_united : Answer
  unfolding label_by kind_of core core_cells
  never_united = with_sets (connected (λ c d. false) (core_cells g))

  -- "all core frames in one cluster"
  unfoldable pub one_cluster : Answer
  unfolding label_by kind_of core core_cells
  one_cluster = with_sets (core_cells g ∷ [])

  -- "noise said before the listed cells are tried"
  unfoldable pub noise_first : Answer
  unfolding core first clusters
  noise_first = record {
    labels = column (λ i. cond (core g i) (place (first g i) (clusters g)) none) g.frames;
    kinds = column (λ i. cond (core g i) 2 0) g.frames;
    cluster_count = length (clusters g);
    core_count = how_many (core g) (numbers g.frames);
  }

  -- "labels from the root box without its levels": no level below the root
  unfoldable pub root_only : Answer
  unfolding transform_of
  root_only = transform_of (record { frames = g.frames; least = g.least; levels = 0; same = g.same; near = g.near; within = g.within; box = g.box })

-- ---- tools
abbrev counts : (clusters core_frames : ℕ) → Counts
counts c m = record { clusters = c; core_frames = m }

-- the counts of an outcome, 0 where it is a refusal
abbrev clusters_in : Outcome → ℕ
clusters_in (Ok k) = k.clusters
clusters_in (Err r) = 0

abbrev cores_in : Outcome → ℕ
cores_in (Ok k) = k.core_frames
cores_in (Err r) = 0

core_frame : (g : Geometry) (p : ℕ) → T (ltb p g.frames) → T (core g p) → CoreFrame g p
core_frame g p h c = record { inside = ltb→lt p g.frames h; is_core = c }

module _ (v : ValidParams) (fs : List Frame) (low : ℕ → Bool) where
  abbrev far_test : ℕ → ℕ → Bool
  far_test p q = ltb (N v fs p q * 4 ^ v.s) (v.t * (2 ^ v.s + 1) * (v.t * (2 ^ v.s + 1)) + 4 ^ v.s)

  -- a far step from a low frame to one that is not
  abbrev leaves : ℕ → ℕ → Bool
  leaves p q = low p && (far_test p q && not (low q))

  abbrev n : ℕ
  n = (grid v fs).frames

  -- a chain does not leave a set of frames that no far step leaves
  stays : T (not (any (λ p. any (leaves p) (numbers n)) (numbers n))) → {p q : ℕ} → Chain (CoreFrame (grid v fs)) (FarReach v fs) p q → T (low p) → T (low q)
  stays h (alone c) l = l
  stays h (step {p} {q} c s t) l = stays h t (elim (T_or_not (low q)) [
    | inl k ↦ k
    | inr k ↦ absurd (T_not (any (λ x. any (leaves x) (numbers n)) (numbers n)) h
        (any_in (λ x. any (leaves x) (numbers n)) p (numbers n) (numbers_in n p c.inside)
        (any_in (leaves p) q (numbers n) (numbers_in n q (start t))
        (and_both (low p) (far_test p q && not (low q)) l (and_both (far_test p q) (not (low q)) (lt→ltb (N v fs p q * 4 ^ v.s) (v.t * (2 ^ v.s + 1) * (v.t * (2 ^ v.s + 1)) + 4 ^ v.s) s) k)))))
  ])
    where
      start : {q r : ℕ} → Chain (CoreFrame (grid v fs)) (FarReach v fs) q r → q < n
      start (alone c) = c.inside
      start (step c s t) = c.inside

-- a frame with a zero count everywhere is no border frame
not_border : (g : Geometry) (q : ℕ) → T (not (any (λ h. nonzero (count g q h)) (numbers g.frames))) → Border g q → ⊥
not_border g q n b = T_not (any (λ h. nonzero (count g q h)) (numbers g.frames)) n (any_in (λ h. nonzero (count g q h)) b.holder (numbers g.frames) (numbers_in g.frames b.holder b.holder_core.inside) b.counted)

-- ---- core cells never united: frames 1 and 2 lie less than t apart in two cells (t = 2, min_points 2, s = 0)
abbrev set_2 : ValidParams
set_2 = valid 2 2 0

abbrev pair : List Frame
pair = frames (pos 1 ∷ pos 2 ∷ [])

pub never_united_fails : Promise short set_2 pair (never_united (grid set_2 pair)).labels (never_united (grid set_2 pair)).kinds → ⊥
unfolding never_united core listed geometry_of whole_tolerance
never_united_fails p =
    differ (get_or (never_united (grid set_2 pair)).labels 0 0) (get_or (never_united (grid set_2 pair)).labels 1 0) tt
    (p.near 0 1 (step (core_frame (grid set_2 pair) 0 tt tt) (into_listed tt (lit< tt)) (alone (core_frame (grid set_2 pair) 1 tt tt))))

-- ---- all core frames in one cluster: two pairs far apart
abbrev two_pairs : List Frame
two_pairs = frames (pos 0 ∷ pos 0 ∷ pos 100 ∷ pos 100 ∷ [])

pub one_cluster_fails : Promise short set_2 two_pairs (one_cluster (grid set_2 two_pairs)).labels (one_cluster (grid set_2 two_pairs)).kinds → ⊥
unfolding one_cluster core geometry_of whole_tolerance slack_power
one_cluster_fails p =
    stays set_2 two_pairs (λ i. ltb i 2) tt
    (p.others.far 0 2 (core_frame (grid set_2 two_pairs) 0 tt tt) (core_frame (grid set_2 two_pairs) 2 tt tt) refl) tt

-- ---- noise said before the listed cells are tried: case (h), whose frame −1 is a border frame
abbrev set_h : ValidParams
set_h = valid 3 2 0

abbrev frames_h : List Frame
frames_h = frames (minus 1 ∷ pos 1 ∷ pos 3 ∷ [])

border_h : Border (grid set_h frames_h) 0
unfolding core listed count geometry_of whole_tolerance slack_power appx_tolerance_of
border_h = record { inside = lit< tt; not_core = tt; holder = 1; holder_core = core_frame (grid set_h frames_h) 1 tt tt; holder_listed = tt; counted = tt }

pub noise_first_fails : Promise short set_h frames_h (noise_first (grid set_h frames_h)).labels (noise_first (grid set_h frames_h)).kinds → ⊥
unfolding noise_first geometry_of whole_tolerance
noise_first_fails p = ((p.others.unlabelled 0 (lit< tt)).0 refl).no_border border_h

-- ---- labels from the root box without its levels, s = 1: the root box of the frames −1 intersects, no box below it is reached, and frame 3 is noise
abbrev set_root : ValidParams
set_root = valid 2 2 1

abbrev frames_root : List Frame
frames_root = frames (minus 1 ∷ minus 1 ∷ pos 3 ∷ [])

noise_root : Noise (grid set_root frames_root) 2
unfolding core count geometry_of whole_tolerance slack_power appx_tolerance_of
noise_root = record { inside = lit< tt; not_core = tt; no_border = not_border (grid set_root frames_root) 2 tt }

pub root_only_fails : Promise short set_root frames_root (root_only (grid set_root frames_root)).labels (root_only (grid set_root frames_root)).kinds → ⊥
unfolding root_only geometry_of whole_tolerance appx_tolerance_of slack_at
root_only_fails p = differ (get_or (root_only (grid set_root frames_root)).labels 2 0) none tt ((p.others.unlabelled 2 (lit< tt)).1 noise_root)

-- nor are these the labels of the definitions
pub root_only_differs : (root_only (grid set_root frames_root)).labels ≡ (transform_of (grid set_root frames_root)).labels → ⊥
unfolding root_only transform_of geometry_of whole_tolerance slack_power appx_tolerance_of slack_at
root_only_differs = differ_at 2 (root_only (grid set_root frames_root)).labels (transform_of (grid set_root frames_root)).labels tt

-- ---- an invented cluster or core count: no constant fits both the frames 1, 2 (one cluster, two core frames) and the two pairs (two clusters, four core frames)
pub constant_clusters_fail : (k : ℕ) → k ≡ (transform_of (grid set_2 pair)).cluster_count → k ≡ (transform_of (grid set_2 two_pairs)).cluster_count → ⊥
unfolding transform_of geometry_of whole_tolerance slack_power appx_tolerance_of
constant_clusters_fail k e f = differ 1 2 tt (sym e ∙ f)

pub constant_cores_fail : (k : ℕ) → k ≡ (transform_of (grid set_2 pair)).core_count → k ≡ (transform_of (grid set_2 two_pairs)).core_count → ⊥
unfolding transform_of geometry_of whole_tolerance slack_power appx_tolerance_of
constant_cores_fail k e f = differ 2 4 tt (sym e ∙ f)

-- a call of one channel, min_points 2, t = 2, s = 0, with room for the results
abbrev params_2 : Params
params_2 = params 1 2 (float 2) (slack_at 0)

abbrev verdict : List ℤ → Verdict
verdict ps = checked_call params_2 ps (replicate 2 7) (replicate 2 9) (replicate 48 5)

abbrev points_2 : List ℤ
points_2 = pos 1 ∷ pos 2 ∷ []

-- a cluster more, or a core frame more, is not the outcome of the call
pub invented_counts_fail : (Ok (counts 2 2) ≡ outcome_of (verdict points_2) points_2 → ⊥) × (Ok (counts 1 3) ≡ outcome_of (verdict points_2) points_2 → ⊥)
unfolding checked_of run
invented_counts_fail = (λ e. differ 2 1 tt (ap clusters_in e), λ e. differ 3 2 tt (ap cores_in e))

-- ---- labels left untouched
pub untouched_fails : labels_left (verdict points_2) points_2 (replicate 2 7) ≡ replicate 2 7 → ⊥
unfolding checked_of run
untouched_fails e = differ 0 7 tt (ap (λ (l : List ℕ). get_or l 0 0) e)

-- ---- the same labels or kinds for any frames: frame 0 is core among 5, 5 and noise among 5, 100
abbrev twice_5 : List Frame
twice_5 = frames (pos 5 ∷ pos 5 ∷ [])

abbrev once_5 : List Frame
once_5 = frames (pos 5 ∷ pos 100 ∷ [])

pub same_answer_fails : (labels : List ℕ) → labels ≡ (transform_of (grid set_2 twice_5)).labels → labels ≡ (transform_of (grid set_2 once_5)).labels → ⊥
unfolding transform_of geometry_of whole_tolerance slack_power appx_tolerance_of
same_answer_fails labels e f = differ_at 0 (transform_of (grid set_2 twice_5)).labels (transform_of (grid set_2 once_5)).labels tt (sym e ∙ f)

noise_once : Noise (grid set_2 once_5) 0
unfolding core count geometry_of whole_tolerance slack_power appx_tolerance_of
noise_once = record { inside = lit< tt; not_core = tt; no_border = not_border (grid set_2 once_5) 0 tt }

pub same_labels_fail : (labels kinds others : List ℕ) → Promise short set_2 twice_5 labels kinds → Promise short set_2 once_5 labels others → ⊥
unfolding core geometry_of whole_tolerance
same_labels_fail labels kinds others p q =
    T_not (core (grid set_2 twice_5) 0) ((p.others.unlabelled 0 (lit< tt)).0 ((q.others.unlabelled 0 (lit< tt)).1 noise_once)).not_core tt

pub same_kinds_fail : (labels others kinds : List ℕ) → Promise short set_2 twice_5 labels kinds → Promise short set_2 once_5 others kinds → ⊥
unfolding core geometry_of whole_tolerance
same_kinds_fail labels others kinds p q =
    T_not (core (grid set_2 twice_5) 0) ((p.others.kind_noise 0 (lit< tt)).0 ((q.others.kind_noise 0 (lit< tt)).1 noise_once)).not_core tt

-- ---- a refusal on everything
pub always_refused_fails : (r : Refusal) → Err r ≡ outcome_of (verdict points_2) points_2 → ⊥
unfolding checked_of run
always_refused_fails r e = differ 0 1 tt (ap clusters_in e)
