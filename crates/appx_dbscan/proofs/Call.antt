-- A call that passed the table: what `run` asks, and that what it leaves is what `transform` ensures.
use Rattle.std.specs.Prelude.{Ok}
use mathlib.Core.Path.{◌≡◌, sym, ap, ap₂, subst, ◌∙◌}
use mathlib.Core.List.{List}
use Prim.Native.Nat.{ℕ, ◌/◌, ◌≤◌}
use lib.IntN.{ℤ}
use lib.ListN.{length, replicate}
use Rattle.lists.specs.Words.{over}
use Rattle.hyperparams.specs.Params.{Verdict, work_words}
use Rattle.hyperparams.specs.Accepted.{Accepted, accepted}
use Rattle.hyperparams.specs.declared.Params.{Params}
use Rattle.hyperparams.specs.declared.ValidParams.{ValidParams}
use Rattle.counting_tree.specs.Frames.{frames_of}
use Rattle.counting_tree.specs.Geometry.{Geometry, short}
use Rattle.counting_tree.specs.Domain.{Counts}
use Rattle.counting_tree.specs.Ready.{geometry_at}
use Rattle.counting_tree.specs.Given.{geometry}
use Rattle.counting_tree.specs.declared.run.Frames.{Frames}
use Rattle.appx_dbscan.specs.Transform.{Outcome, transform_of, run, outcome_of, labels_left, kinds_left, work_left, checked_call}
use Rattle.appx_dbscan.specs.Promise.{Promise}
use Rattle.appx_dbscan.specs.Accepted.{promise_accepted}
use Rattle.appx_dbscan.specs.declared.Counts.{Counts as RunCounts}

module _ (p : Params) (ps : List ℤ) (labels kinds work : List ℕ) where
  abbrev c : Verdict
  c = checked_call p ps labels kinds work

  -- the answer, and the slices left
  pub record Told (r : Outcome) (labels' kinds' work' : List ℕ) : Type 0 where
    pub outcome : r ≡ outcome_of c ps
    pub labels_told : labels' ≡ labels_left c ps labels
    pub kinds_told : kinds' ≡ kinds_left c ps kinds
    pub work_told : work' ≡ work_left c ps work
    pub promise : (v : ValidParams) → c ≡ Ok v → Promise short v (frames_of v.channels ps) labels' kinds'

  -- an accepted call
  module _ {v : ValidParams} (e : c ≡ Ok v) where
    a : Accepted p v (length ps) (length labels) (length kinds) (length work)
    a = accepted p (length ps) (length labels) (length kinds) (length work) e

  -- and its frames
  module _ {v : ValidParams} (e : c ≡ Ok v) (f : Frames) (points_are : f.points.now ≡ ps) (settings_are : f.v ≡ v) (count_is : f.n ≡ length ps / v.channels) where
    geometry_is : geometry f ≡ geometry_at v (length ps / v.channels) ps
    geometry_is = ap (λ (x : List ℤ). geometry_at f.v f.n x) points_are ∙ ap₂ (λ (x : ValidParams) (m : ℕ). geometry_at x m ps) settings_are count_is

    words_are : work_words f.n f.v.s ≡ work_words (length ps / v.channels) v.s
    words_are = ap₂ (λ (m : ℕ) (x : ValidParams). work_words m x.s) count_is settings_are

    -- what `run` asks
    pub fits : (f.n ≤ length labels) × (f.n ≤ length kinds) × (work_words f.n f.v.s ≤ length work)
    fits =
        rw (words_are, count_is) (
          subst (λ (x : ValidParams). length ps / x.channels ≤ length labels) (sym (a e).settings) (a e).labels_fit,
          subst (λ (x : ValidParams). length ps / x.channels ≤ length kinds) (sym (a e).settings) (a e).kinds_fit,
          subst (λ (x : ValidParams). work_words (length ps / x.channels) x.s ≤ length work) (sym (a e).settings) (a e).work_fits,
        )

    -- what it leaves is the answer
    pub labelled : {k : RunCounts} {labels' kinds' work' : List ℕ}
        → k.clusters ≡ (transform_of (geometry f)).cluster_count → k.core_frames ≡ (transform_of (geometry f)).core_count
        → labels' ≡ over labels 0 (transform_of (geometry f)).labels → kinds' ≡ over kinds 0 (transform_of (geometry f)).kinds
        → work' ≡ over work 0 (replicate (work_words f.n f.v.s) 0)
        → Told (Ok k) labels' kinds' work'
    unfolding run frames_of
    labelled {k} {labels'} {kinds'} {work'} ec em el ek ew =
        let l : labels' ≡ labels_left c ps labels = el ∙ ap (λ (x : Geometry). over labels 0 (transform_of x).labels) geometry_is ∙ ap (λ (x : Verdict). labels_left x ps labels) (sym e) in
        let m : kinds' ≡ kinds_left c ps kinds = ek ∙ ap (λ (x : Geometry). over kinds 0 (transform_of x).kinds) geometry_is ∙ ap (λ (x : Verdict). kinds_left x ps kinds) (sym e) in
        record {
          outcome = ap₂ (λ (a b : ℕ). Ok (record { clusters = a; core_frames = b })) (ec ∙ ap (λ (x : Geometry). (transform_of x).cluster_count) geometry_is) (em ∙ ap (λ (x : Geometry). (transform_of x).core_count) geometry_is)
              ∙ ap (λ (x : Verdict). outcome_of x ps) (sym e);
          labels_told = l;
          kinds_told = m;
          work_told = ew ∙ ap (λ (x : ℕ). over work 0 (replicate x 0)) words_are ∙ ap (λ (x : Verdict). work_left x ps work) (sym e);
          promise = λ u q. rw (l ∙ ap (λ (x : Verdict). labels_left x ps labels) q, m ∙ ap (λ (x : Verdict). kinds_left x ps kinds) q) (promise_accepted p ps labels kinds work u (subst Counts points_are f.counts) q);
        }
