-- The answer of a run from the work words: what they hold where all phases are done, and that clearing them leaves no trace.
use mathlib.Core.Path.{◌≡◌, refl, sym, ap, ◌∙◌}
use mathlib.Core.List.{List}
use Prim.Native.Nat.{ℕ, ◌+◌, ◌*◌, ◌≤◌}
use native.Mathlib.Omega.{arith}
use lib.IntN.{ℤ}
use lib.Dec.{eqb}
use lib.ListN.{length, get_or, replicate, length-replicate}
use Rattle.lists.specs.Lists.{numbers, how_many, Below}
use Rattle.lists.specs.Words.{over, part, column, Clear}
use Rattle.hyperparams.specs.Params.{work_words}
use Rattle.hyperparams.specs.declared.ValidParams.{ValidParams}
use Rattle.counting_tree.specs.Geometry.{Geometry}
use Rattle.counting_tree.specs.Ready.{geometry_at, Ready, at_frames}
use Rattle.cells_grid.specs.Cells.{core}
use Rattle.clustering.specs.Clusters.{clusters, place, label_by, kind_of}
use Rattle.appx_dbscan.specs.Transform.{transform_of}
use Rattle.appx_dbscan.specs.Filled.{filled}
use Rattle.lists.proofs.Within.{Within, within_self, within_join, within_over, within_cleared, made_clear}
use Rattle.appx_dbscan.proofs.Phases.{filled_within, filled_labels, filled_kinds, filled_low, filled_cores}

-- w are the words lent, w₁ the same with the scratch words cleared
module _ {ps : List ℤ} {v : ValidParams} {n : ℕ} (r : Ready ps v n) (w : List ℕ) (room : work_words n v.s ≤ length w)
    {w₁ : List ℕ} (e₁ : w₁ ≡ over w (10 * n) (replicate (14 * n) 0)) where
  abbrev g : Geometry
  g = geometry_at v n ps

  within₁ : Within (work_words n v.s) w w₁
  within₁ = rw e₁ (within_over (within_self (work_words n v.s) w) (10 * n) (replicate (14 * n) 0) (omega (arith, length-replicate {A = ℕ} (14 * n) 0)) room)

  room₁ : work_words n v.s ≤ length w₁
  room₁ = omega (arith, within₁.size)

  pub clear₁ : Clear w₁ (10 * n) (14 * n)
  clear₁ = rw e₁ (made_clear w (10 * n) (14 * n) (omega arith))

  -- w₂ are the words where all phases are done
  module _ {w₂ : List ℕ} (z : (few : ℕ) × (w₂ ≡ filled g n few w₁)) where
    abbrev few : ℕ
    few = z.0

    e₂ : w₂ ≡ filled g n few w₁
    e₂ = z.1

    pub low₂ : Below 3 (part w₂ (9 * n) n)
    low₂ = rw e₂ (filled_low r w₁ room₁ few)

    pub labels₂ : part w₂ (8 * n) n ≡ (transform_of g).labels
    unfolding transform_of
    labels₂ = ap (λ (x : List ℕ). part x (8 * n) n) e₂ ∙ filled_labels r w₁ room₁ few ∙ ap (column (label_by g (λ c. place c (clusters g)))) (sym (at_frames v n ps))

    pub kinds₂ : part w₂ (9 * n) n ≡ (transform_of g).kinds
    unfolding transform_of
    kinds₂ = ap (λ (x : List ℕ). part x (9 * n) n) e₂ ∙ filled_kinds r w₁ room₁ few ∙ ap (column (kind_of g)) (sym (at_frames v n ps))

    pub cores₂ : how_many (λ i. eqb (get_or w₂ (4 * n + i) 0) 1) (numbers n) ≡ (transform_of g).core_count
    unfolding transform_of
    cores₂ = ap (λ (x : List ℕ). how_many (λ (i : ℕ). eqb (get_or x (4 * n + i) 0) 1) (numbers n)) e₂ ∙ filled_cores r w₁ room₁ few ∙ ap (λ (f : ℕ). how_many (core g) (numbers f)) (sym (at_frames v n ps))

    pub cleared₂ : {m : ℕ} → m ≡ work_words n v.s → over w₂ 0 (replicate m 0) ≡ over w 0 (replicate (work_words n v.s) 0)
    cleared₂ e = rw e (within_cleared (within_join within₁ (rw e₂ (filled_within r w₁ room₁ few))))

-- the number of clusters
pub clusters_are : (g : Geometry) → length (clusters g) ≡ (transform_of g).cluster_count
unfolding transform_of
clusters_are g = refl
