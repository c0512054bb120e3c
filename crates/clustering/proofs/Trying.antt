-- One pair: what a question and a union leave of the leaders is what the definition's step leaves.
use mathlib.Core.Path.{◌≡◌, refl, sym, ap, ◌∙◌}
use mathlib.Core.Bool.{Bool, true, false, cond}
use mathlib.Core.List.{List, [], ◌∷◌}
use Prim.Native.Nat.{ℕ, ◌+◌, ◌<◌, ◌≤◌}
use native.Mathlib.Numerals.{add-one}
use lib.Dec.{eqb}
use Rattle.std.specs.Prelude.{Result, Some, Ok, Err}
use Rattle.counting_tree.specs.Geometry.{Geometry}
use Rattle.cells_grid.specs.Arrangement.{cell_at}
use Rattle.partitions.specs.Leaders.{root, shorten_both, united}
use Rattle.partitions.specs.Trials.{Outcome, run, by_leaders}
use Rattle.partitions.specs.TrialLaws.{run_pass, run_try, run_stop}
use Rattle.clustering.specs.Clusters.{touches}
use Rattle.clustering.specs.declared.uniting.Progress.{Progress}
use Rattle.clustering.specs.Uniting.{pair_at, one_pair, touch_at, told_of}

module _ (g : Geometry) (trials used c d : ℕ) (p : List ℕ) where
  -- the definition's step
  abbrev step : Outcome (List ℕ)
  step = run by_leaders (touch_at g) trials used (one_pair g c d) p

  -- the leaders after the question
  abbrev asked : List ℕ
  asked = shorten_both p c d

  -- what is answered, and the leaders then, are those of the step
  abbrev Tried : Result ℕ Progress → List ℕ → Type 0
  Tried r q = (r ≡ told_of step) × (q ≡ step.sets)

  left : (o : Outcome (List ℕ)) → step ≡ o → {q : List ℕ} → q ≡ o.sets → Tried (told_of o) q
  left o e f = rw e (refl, f)

  pub no_pair : pair_at g c d ≡ false → Tried (Ok used) p
  unfolding one_pair run
  no_pair e = left (record { sets = p; used = used; left = [] }) (rw e refl) refl

  module _ (e : pair_at g c d ≡ true) where
    one : one_pair g c d ≡ (c, d) ∷ []
    unfolding one_pair
    one = rw e

    module _ {q : List ℕ} (eq : q ≡ shorten_both p c d) where
      pub in_one : eqb (root p c) (root p d) ≡ true → Tried (Ok used) q
      unfolding run
      in_one s = left (record { sets = asked; used = used; left = [] }) (ap (λ (ps : List (ℕ × ℕ)). run by_leaders (touch_at g) trials used ps p) one ∙ run_pass by_leaders (touch_at g) trials used c d [] p s) eq

      module _ (s : eqb (root p c) (root p d) ≡ false) where
        pub out_of_trials : trials ≤ used → Tried (Err (record { used = used; next = Some (c, d) })) q
        out_of_trials h =
            left (record { sets = asked; used = used; left = (c, d) ∷ [] })
            (ap (λ (ps : List (ℕ × ℕ)). run by_leaders (touch_at g) trials used ps p) one ∙ run_stop by_leaders (touch_at g) trials used c d [] p s h) eq

        module _ (h : used < trials) {t : Bool} (et : t ≡ touches g (cell_at g c) (cell_at g d)) where
          touch : touch_at g c d ≡ t
          unfolding touch_at
          touch = sym et

          step_try : step ≡ record { sets = cond t (united (shorten_both asked c d) c d) asked; used = used + 1; left = [] }
          unfolding run
          step_try =
              ap (λ (ps : List (ℕ × ℕ)). run by_leaders (touch_at g) trials used ps p) one
              ∙ run_try by_leaders (touch_at g) trials used c d [] p s h
              ∙ rw (touch, ← add-one used) refl

          pub apart : t ≡ false → Tried (Ok (used + 1)) q
          apart f = left (record { sets = asked; used = used + 1; left = [] }) (step_try ∙ rw f refl) eq

          pub joined : t ≡ true → {u : List ℕ} → u ≡ by_leaders.join q c d → Tried (Ok (used + 1)) u
          joined f eu = left (record { sets = by_leaders.join asked c d; used = used + 1; left = [] }) (step_try ∙ rw f refl) (eu ∙ ap (λ (z : List ℕ). by_leaders.join z c d) eq)
