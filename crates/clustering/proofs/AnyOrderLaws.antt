-- In whatever order the source's loop takes cells, lists and the children of nodes, and whichever leader a union keeps, it ends in the clusters of the definition.
use Rattle.std.specs.Prelude.{◌≡◌, ◌⊎◌, ◌↔◌, List, ℕ}
use Rattle.std.proofs.Common.{sym}
use Rattle.std.proofs.Math.Logic.{inl, inr}
use Rattle.std.proofs.Math.Dec.{T}
use Rattle.lists.specs.Lists.{any, concat, In, holds}
use Rattle.lists.specs.ListLaws.{or_cases, or_one, both_ways, keep_in, in_keep, any_in, concat_in, holds_in, in_holds}
use Rattle.lists.specs.Chains.{alone, step, chain_first, chain_join, chain_turn}
use Rattle.counting_tree.specs.Geometry.{Geometry}
use Rattle.cells_grid.specs.Cells.{cells, list, listed, core_cell, core_cells}
use Rattle.cells_grid.specs.Lawful.{Lawful}
use Rattle.cells_grid.proofs.CellLaws.{list_in_lem, in_list, listed_turn, core_cell_in, in_core_cell}
use Rattle.clustering.specs.Clusters.{touches, linked, clusters, place}
use Rattle.clustering.specs.Sets.{place_same, place_meet}
use Rattle.clustering.proofs.ClusterLaws.{Linked, linked_parts, parts_linked, link_turn, same_cluster}
use Rattle.clustering.specs.AnyOrder.{Partition, outer_rec, outer_joins, visit_sound, touches_by, united, Children, touches_by_lem, core_sets}

module _ (g : Geometry) where
  -- one cell, or two that a chain of links joins
  unfoldable Tied : ℕ → ℕ → Type 0
  Tied x y = (x ≡ y) ⊎ Linked g x y

module _ (g : Geometry) (L : Lawful g) where
  tied_turn : (x y : ℕ) → Tied g x y → Tied g y x
  unfolding Tied
  tied_turn x y (inl e) = inl (sym e)
  tied_turn x y (inr t) = inr (chain_turn (link_turn g L) t)

  tied_join : (x y z : ℕ) → Tied g x y → Tied g y z → Tied g x z
  unfolding Tied
  tied_join x y z (inl e) t = rw e t
  tied_join x y z (inr s) (inl e) = inr (rw e at s)
  tied_join x y z (inr s) (inr t) = inr (chain_join s t)

  module _ (P : Partition) (children : ℕ → ℕ → List ℕ → List (List ℕ)) (kids : Children g children) (order : List ℕ) (lists : ℕ → List ℕ) where
    abbrev one_set : ℕ → ℕ → Type 0
    one_set c d = T (P.same (united g P children order lists) c d)

    -- only cells that a chain of links joins end in one set: also where the loop was stopped, and not all cells or not all of a list were tried
    pub loop_sound : ((c : ℕ) → In c order → In c (cells g)) → ((c d : ℕ) → In d (lists c) → In d (list g c)) → (c d : ℕ) → In c (core_cells g) → one_set c d → Linked g c d
    unfolding united Tied
    loop_sound cells_in lists-in c d i t = elim (all c d t) [ inl e ↦ rw (← e) (alone i) | inr h ↦ h ]
      where
        link : (c d : ℕ) → In c order → T (core_cell g c) → In d (lists c) → T (core_cell g d) → T (touches_by g children c d) → Tied g c d
        link c d i h j k t =
            let w = in_list g c d (lists-in c d j) in
            let touch = or_one (touches g c d) (touches g d c) (rw (touches_by_lem g children kids c d) at t) in
            inr (step (core_cell_in g c (cells_in c i) h) (parts_linked g c d w.1 touch) (alone (core_cell_in g d w.0 k)))

        all : (c d : ℕ) → T (P.same (united g P children order lists) c d) → Tied g c d
        all = outer_rec P (core_cell g) (touches_by g children) (λ p. (x y : ℕ) → T (P.same p x y) → Tied g x y) lists order
            (λ c d i h j p s. visit_sound P (core_cell g) (touches_by g children) (Tied g) tied_turn tied_join c d p (link c d i h j) s)
            P.start (λ x y t. inl (P.start_apart x y t))

    module _ (cells_in : (c : ℕ) → In c order ↔ In c (cells g)) (lists-in : (c d : ℕ) → In d (lists c) ↔ In d (list g c)) where
      -- a pair is tried from c
      try : (c d : ℕ) → In c (core_cells g) → In d (core_cells g) → T (listed g c d) → T (touches g c d) → one_set c d
      unfolding united
      try c d i j l t =
          let a = in_core_cell g c i in
          let b = in_core_cell g d j in
          outer_joins P (core_cell g) (touches_by g children) lists order P.start c d ((cells_in c).1 a.0) a.1 ((lists-in c d).1 (list_in_lem g c d b.0 l)) b.1
          (rw (touches_by_lem g children kids c d) t)

      link_joins : (c d : ℕ) → In c (core_cells g) → In d (core_cells g) → T (linked g c d) → one_set c d
      link_joins c d i j h =
          let z = linked_parts g c d h in
          elim (or_cases (touches g c d) (touches g d c) z.1) [
            | inl t ↦ try c d i j z.0 t
            | inr t ↦ P.same_turn (united g P children order lists) d c (try d c j i (listed_turn g L c d z.0) t)
          ]

      pub loop_complete : {c d : ℕ} → Linked g c d → one_set c d
      loop_complete (alone {p = c} i) = P.same_self (united g P children order lists) c
      loop_complete (step {p = c} {q = d} {r = e} i h t) = P.same_join (united g P children order lists) c d e (link_joins c d i (chain_first t) h) (loop_complete t)

      -- THE ORDER DOES NOT MATTER: two core cells end in one set exactly if the definition gives them one number
      pub any_order : (c d : ℕ) → In c (core_cells g) → In d (core_cells g) → T (P.same (united g P children order lists) c d) ↔ (place c (clusters g) ≡ place d (clusters g))
      any_order c d i j = (
        λ t. (same_cluster g L c d i j).1 (loop_sound (λ c. (cells_in c).0) (λ c d. (lists-in c d).0) c d i t),
        λ e. loop_complete ((same_cluster g L c d i j).0 e),
      )

      -- "for set in grid.cells_mut().all_sets_mut()", "if core_cells_count > 0 { current_cluster_i += 1; }": a cell's number is that of its set among the sets with a core cell.
      -- In whatever order the sets are taken, two core cells have one number exactly if the definition gives them one.
      pub any_numbers : (sets : List (List ℕ)) → ((c : ℕ) → In c (cells g) → (s : List ℕ) × In s sets × In c s)
          → ((s : List ℕ) → In s sets → (c d : ℕ) → In c (cells g) → In d (cells g) → In c s → In d s ↔ one_set c d)
          → (c d : ℕ) → In c (core_cells g) → In d (core_cells g) → (place c (core_sets g sets) ≡ place d (core_sets g sets)) ↔ (place c (clusters g) ≡ place d (clusters g))
      any_numbers sets all exact c d i j = (
        λ e.
            let z = place_meet c d (core_sets g sets) (inside c i) (inside d j) e in
            (any_order c d i j).0 ((exact z.0 (in_keep (any (core_cell g)) z.0 sets z.1).0 c d (in_core_cell g c i).0 (in_core_cell g d j).0 z.2).0 z.3),
        λ e. place_same c d (core_sets g sets) (λ s k. both_ways (holds c s) (holds d s)
            (λ h. moved s k c d i j h ((any_order c d i j).1 e))
            (λ h. moved s k d c j i h ((any_order d c j i).1 (sym e)))),
      )
        where
          inside : (c : ℕ) → In c (core_cells g) → In c (concat (core_sets g sets))
          inside c i =
              let k = in_core_cell g c i in
              let z = all c k.0 in
              concat_in c z.0 (core_sets g sets) (keep_in (any (core_cell g)) z.0 sets z.1 (any_in (core_cell g) c z.0 z.2 k.1)) z.2

          moved : (s : List ℕ) → In s (core_sets g sets) → (c d : ℕ) → In c (core_cells g) → In d (core_cells g) → T (holds c s) → one_set c d → T (holds d s)
          moved s k c d i j h t = holds_in d s ((exact s (in_keep (any (core_cell g)) s sets k).0 c d (in_core_cell g c i).0 (in_core_cell g d j).0 (in_holds c s h)).1 t)
