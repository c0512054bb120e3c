-- The clusters of a run by the leaders of its cells: the numbers that they give are those of the definition.
use mathlib.Core.Path.{◌≡◌, sym, ap, ◌∙◌, subst}
use mathlib.Core.List.{List, []}
use Prim.Native.Nat.{ℕ, ◌*◌, ◌<◌}
use native.Mathlib.Nat.{mul-le-mul}
use native.Mathlib.Omega.{arith}
use lib.ListN.{length, get_or}
use Rattle.lists.specs.Lists.{numbers, how_many, nonzero}
use Rattle.lists.specs.Words.{column}
use Rattle.lists.specs.ListLaws.{map_same, in_numbers, at_numbers}
use Rattle.counting_tree.specs.Geometry.{Geometry}
use Rattle.counting_tree.specs.Given.{geometry}
use Rattle.cells_grid.specs.Listing.{core_at}
use Rattle.cells_grid.specs.Ready.{ready_lawful}
use Rattle.cells_grid.specs.declared.grid.CellsGrid.{CellsGrid}
use Rattle.cells_grid.proofs.Held as Grid
use Rattle.clustering.specs.Clusters.{clusters}
use Rattle.clustering.specs.Uniting.{uniting, lowest_at}
use Rattle.clustering.specs.Numbering.{Led, leads, number_by, cluster_word}
use Rattle.clustering.specs.NumberingLaws.{led_same, leads_same, number_same}
use Rattle.clustering.proofs.UnitingLaws.{uniting_finishes, lowest_led, cluster_total, cluster_word_lem}

module _ (s : CellsGrid) where
  abbrev g : Geometry
  g = geometry s.frames

  abbrev most : ℕ
  most = s.frames.n * s.frames.n

  done : (uniting g most).left ≡ []
  done = uniting_finishes g most (mul-le-mul (omega (arith, Grid.few s, s.arranged.count)) (omega (arith, Grid.few s, s.arranged.count)))

  led : Led (core_at g) (lowest_at g most) s.k
  led = subst (Led (core_at g) (lowest_at g most)) (sym s.arranged.count) (lowest_led g most)

  module _ (ls ts : List ℕ) (el : ls ≡ column (lowest_at (geometry s.frames) (s.frames.n * s.frames.n)) s.k) (lt : length ts ≡ s.k) (et : (c : ℕ) → c < s.k → nonzero (get_or ts c 0) ≡ core_at (geometry s.frames) c) where
    low_same : (c : ℕ) → c < s.k → get_or ls c 0 ≡ lowest_at g most c
    low_same c h = ap (λ (z : List ℕ). get_or z c 0) el ∙ at_numbers (lowest_at g most) 0 s.k c h

    pub can_number : Led (λ c. nonzero (get_or ts c 0)) (λ c. get_or ls c 0) (length ts)
    can_number = subst (Led (λ c. nonzero (get_or ts c 0)) (λ c. get_or ls c 0)) (sym lt) (led_same et low_same led)

    pub clusters_counted : {m : ℕ} → m ≡ how_many (leads (λ c. nonzero (get_or ts c 0)) (λ c. get_or ls c 0)) (numbers (length ts)) → m ≡ length (clusters (geometry s.frames))
    clusters_counted e =
        e ∙ ap (λ (m : ℕ). how_many (leads (λ c. nonzero (get_or ts c 0)) (λ c. get_or ls c 0)) (numbers m)) lt
        ∙ leads_same et low_same led s.k (omega arith) ∙ ap (λ (m : ℕ). how_many (leads (core_at g) (lowest_at g most)) (numbers m)) s.arranged.count ∙ sym (cluster_total g (ready_lawful s.frames.ready) most done)

    pub clusters_are : {ws : List ℕ} → ws ≡ column (number_by (λ c. nonzero (get_or ts c 0)) (λ c. get_or ls c 0)) (length ts) → ws ≡ column (cluster_word (geometry s.frames)) s.k
    clusters_are e =
        e ∙ ap (column (number_by (λ c. nonzero (get_or ts c 0)) (λ c. get_or ls c 0))) lt
        ∙ map_same (number_by (λ c. nonzero (get_or ts c 0)) (λ c. get_or ls c 0)) (cluster_word g) (numbers s.k) (λ c i.
        let h = in_numbers s.k c i in
        number_same et low_same led c h ∙ cluster_word_lem g (ready_lawful s.frames.ready) most done c (omega (arith, s.arranged.count)))
