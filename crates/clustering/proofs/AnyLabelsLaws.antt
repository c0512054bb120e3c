-- In any order the source's labels are those of the definition, up to the numbering and the choice for border frames.
use Rattle.std.specs.Prelude.{◌≡◌, refl, ◌↔◌, Bool, true, false, not, cond, ℕ, ◌≤◌, ◌<◌, T}
use Rattle.std.proofs.Common.{sym, ◌∙◌, inl, inr, le_trans, lt_of_lt_of_le, arith}
use Rattle.std.proofs.Math.Path.{ap}
use mathlib.Core.List.Permᴰ
use mathlib.Core.List.{List, Permᴰ}
use Rattle.std.proofs.Math.Option.{Option, none, some, map, none-ne-some, some-ne-none, some_inj, map-eq-some_iff}
use Rattle.lists.specs.Lists.{keep, In}
use Rattle.lists.specs.ListLaws.{T_or_not, cond_true, cond_false, keep_same, in_any, in_nonzero}
use Rattle.lists.specs.PermLaws.{perm_same}
use Rattle.counting_tree.specs.Geometry.{Geometry}
use Rattle.counting_tree.specs.Paths.{reaches}
use Rattle.cells_grid.specs.Cells.{members, first, cells, listed, list, core, core_members, core_cell, core_cells}
use Rattle.cells_grid.specs.Lawful.{Lawful}
use Rattle.cells_grid.proofs.CellLaws.{in_member, cell_first, first_cell, core_first, core_cell_in, count_path}
use Rattle.clustering.specs.Clusters.{touched}
use Rattle.clustering.specs.Clusters as Clusters
use Rattle.clustering.proofs.ClusterLaws.{in_touched, few_clusters, number_low}
use Rattle.clustering.proofs.AnyOrderLaws.{any_numbers}
use Rattle.clustering.specs.AnyList.{search, found_kind, found_label, core_by, counts_by, core_any, found_kind_lem, found_touched, label_ascending}
use Rattle.clustering.specs.AnyLabels as Labels
use Rattle.clustering.specs.AnyLabels.{Orders, SameLabels}

module _ (g : Geometry) (O : Orders g) where
  -- what the statement speaks of
  abbrev our_number : ℕ → ℕ
  our_number = Labels.our_number g

  abbrev our_labels : ℕ → ℕ
  our_labels = Labels.our_labels g

  abbrev source_number : ℕ → ℕ
  source_number = Labels.source_number g O

  abbrev neighbours : ℕ → List ℕ
  neighbours = Labels.neighbours g O

  abbrev chosen : (cs : List ℕ) → ℕ → Option ℕ
  chosen = Labels.chosen g O

  abbrev source_labels : ℕ → Option ℕ
  source_labels = Labels.source_labels g O

  module _ (L : Lawful g) where
    -- ---- lists, core frames and trees
    -- a cell's list is that of its frames
    list_first : (i : ℕ) → i < g.frames → list g (first g i) ≡ list g i
    unfolding list listed
    list_first i h = ap (λ (c : ℕ). keep (λ d. g.near c (first g d)) (cells g)) (cell_first g (first g i) (first_cell g L i h)).1

    own_list : (i : ℕ) → i < g.frames → Permᴰ (neighbours i) (list g i)
    own_list i h = rw (list_first i h) at (O.lists_all (first g i))

    core_same : (i : ℕ) → i < g.frames → core_by g (neighbours i) i ≡ core g i
    core_same i h = core_any g i (neighbours i) (own_list i h) L

    trees_same : (c : ℕ) → keep (λ i. core_by g (neighbours i) i) (members g c) ≡ core_members g c
    unfolding core_members
    trees_same c = keep_same (λ i. core_by g (neighbours i) i) (core g) (members g c) (λ i k. core_same i (in_member g c i k).0)

    -- ---- the cell whose number a frame gets
    touched_cell : (i c : ℕ) → In c (touched g i) → In c (core_cells g)
    unfolding core_cell
    touched_cell i c k =
        let t = in_touched g i c k in
        let z = in_any (reaches (g.box i) g.levels 0) (core_members g c) (rw (count_path g L i c) at t.2) in
        core_cell_in g c t.0 (in_nonzero z.0 (core_members g c) z.1)

    module _ (i : ℕ) (cs : List ℕ) (p : Permᴰ cs (list g i)) where
      chosen_core : T (core g i) → chosen cs i ≡ some (first g i)
      chosen_core t = cond_true (core_by g cs i) (some (first g i)) (search (counts_by g O.children i) cs) (rw (core_any g i cs p L) t)

      chosen_other : T (not (core g i)) → chosen cs i ≡ search (counts_by g O.children i) cs
      chosen_other t = cond_false (core_by g cs i) (some (first g i)) (search (counts_by g O.children i) cs) (rw (core_any g i cs p L) t)

      chosen_touched : (c : ℕ) → T (not (core g i)) → chosen cs i ≡ some c → In c (touched g i)
      chosen_touched c t e = found_touched g i cs p O.children O.children_all c (sym (chosen_other t) ∙ e)

      chosen_cell : i < g.frames → (c : ℕ) → chosen cs i ≡ some c → In c (core_cells g)
      chosen_cell h c e = elim (T_or_not (core g i)) [
        | inl t ↦ rw (some_inj.0 (sym (chosen_core t) ∙ e)) at (core_first g L i h t)
        | inr t ↦ touched_cell i c (chosen_touched c t e)
      ]

    -- some cell is chosen in any order, or none is
    chosen_kind : (i : ℕ) (cs ds : List ℕ) → Permᴰ cs (list g i) → Permᴰ ds (list g i) → found_kind (chosen cs i) ≡ found_kind (chosen ds i)
    chosen_kind i cs ds p q = elim (T_or_not (core g i)) [
      | inl t ↦ ap found_kind (chosen_core i cs p t ∙ sym (chosen_core i ds q t))
      | inr t ↦
          ap found_kind (chosen_other i cs p t) ∙ found_kind_lem g i cs p O.children O.children_all
          ∙ sym (ap found_kind (chosen_other i ds q t) ∙ found_kind_lem g i ds q O.children O.children_all)
    ]

    core_choice : (i : ℕ) → i < g.frames → T (core g i) → chosen (neighbours i) i ≡ chosen (list g i) i
    core_choice i h t = chosen_core i (neighbours i) (own_list i h) t ∙ sym (chosen_core i (list g i) (Permᴰ.refl (list g i)) t)

    ascending_choice : ((c : ℕ) → O.lists c ≡ list g c) → (i : ℕ) → i < g.frames → chosen (neighbours i) i ≡ chosen (list g i) i
    ascending_choice asc i h = ap (λ (cs : List ℕ). chosen cs i) (asc (first g i) ∙ list_first i h)

    -- our label is the number of the cell chosen in ascending order
    ours_chosen : (i : ℕ) → our_labels i ≡ found_label our_number (chosen (list g i) i)
    ours_chosen i = sym (label_ascending g L our_number O.children O.children_all i) ∙ go (core_by g (list g i) i)
      where
        s : Option ℕ
        s = search (counts_by g O.children i) (list g i)

        go : (b : Bool) → cond b (our_number (first g i)) (found_label our_number s) ≡ found_label our_number (cond b (some (first g i)) s)
        go true = refl
        go false = refl

    -- ---- the two numberings of chosen cells; by the domain there are at most 4,096 frames
    module _ (few : g.frames ≤ Clusters.none) where
      abbrev AllCore : Option ℕ → Type 0
      AllCore o = (c : ℕ) → o ≡ some c → In c (core_cells g)

      low : (c : ℕ) → In c (core_cells g) → our_number c ≡ Clusters.none → ⊥
      low c i e = let z = lt_of_lt_of_le (number_low g c i) (le_trans (few_clusters g) few) in omega (arith, z, e)

      both_none : (o p : Option ℕ) → found_kind o ≡ found_kind p → AllCore p → (map source_number o ≡ none) ↔ (found_label our_number p ≡ Clusters.none)
      both_none none none e w = (λ u. refl, λ u. refl)
      both_none none (some c) e w = absurd (omega (arith, e))
      both_none (some b) none e w = absurd (omega (arith, e))
      both_none (some b) (some c) e w = (λ u. absurd (some-ne-none (source_number b) u), λ u. absurd (low c (w c refl) u))

      both_same : (o p : Option ℕ) → AllCore o → AllCore p
          → (map source_number o ≡ map source_number p) ↔ (found_label our_number o ≡ found_label our_number p)
      both_same none none v w = (λ u. refl, λ u. refl)
      both_same none (some d) v w = (λ u. absurd (none-ne-some (source_number d) u), λ u. absurd (low d (w d refl) (sym u)))
      both_same (some c) none v w = (λ u. absurd (some-ne-none (source_number c) u), λ u. absurd (low c (v c refl) u))
      both_same (some c) (some d) v w =
          let z = any_numbers g L O.partition O.children O.children_all O.order O.lists O.order_all (λ c. perm_same (O.lists_all c)) O.sets O.sets_all O.sets_exact
          c d (v c refl) (w d refl) in
          (λ u. z.0 (some_inj.0 u), λ u. some_inj.1 (z.1 u))

      -- frames for which the source chooses as we do
      same_choice : (i j : ℕ) → i < g.frames → j < g.frames → chosen (neighbours i) i ≡ chosen (list g i) i → chosen (neighbours j) j ≡ chosen (list g j) j
          → (source_labels i ≡ source_labels j) ↔ (our_labels i ≡ our_labels j)
      same_choice i j h k e f =
          rw (e, f, ours_chosen i, ours_chosen j)
          (both_same (chosen (list g i) i) (chosen (list g j) j) (chosen_cell i (list g i) (Permᴰ.refl (list g i)) h) (chosen_cell j (list g j) (Permᴰ.refl (list g j)) k))

      -- IN ANY ORDER THE SOURCE'S LABELS ARE OURS, up to the numbering and the choice for border frames
      pub source_labels_lem : SameLabels g O
      source_labels_lem = record {
        same_core = core_same;
        same_trees = trees_same;
        none_exactly = λ i h.
            let asc = Permᴰ.refl (list g i) in
            rw (ours_chosen i) (both_none (chosen (neighbours i) i) (chosen (list g i) i) (chosen_kind i (neighbours i) (list g i) (own_list i h) asc) (chosen_cell i (list g i) asc h));
        core_frames = λ i j h k t u. same_choice i j h k (core_choice i h t) (core_choice j k u);
        border_frames = λ i n h t e.
            let z = (map-eq-some_iff source_number (chosen (neighbours i) i)).0 e in
            (z.0, chosen_touched i (neighbours i) (own_list i h) z.0 t z.1, z.2);
        ascending = λ asc i j h k. same_choice i j h k (ascending_choice asc i h) (ascending_choice asc j k);
      }
