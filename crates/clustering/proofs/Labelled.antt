-- The label and the kind of a frame, by the words of the clusters and by the first cell that the frame borders on.
use Prim.{grind}
use mathlib.Core.Path.{◌≡◌, refl, sym, ap, ◌∙◌, subst}
use mathlib.Core.Logic.{inl}
use mathlib.Core.Bool.{Bool, true, false, not, ◌&&◌}
use mathlib.Core.List.{List, [], ◌∷◌, map}
use Prim.Native.Nat.{ℕ, ◌<◌}
use native.Mathlib.Omega.{arith}
use lib.Dec.{T}
use lib.IntN.{ℤ}
use lib.ListN.{length, get_or}
use Rattle.std.specs.Prelude.{Option, None, Some, slice_get}
use Rattle.lists.specs.Lists.{numbers, keep, In, nonzero}
use Rattle.lists.specs.Words.{column}
use Rattle.lists.specs.ListLaws.{true_T, cond_true, and_right, in_keep, in_numbers, keep_same, at_numbers}
use Rattle.lists.specs.CountLaws.{keep_keep, keep_map}
use Rattle.hyperparams.specs.declared.ValidParams.{ValidParams}
use Rattle.counting_tree.specs.Geometry.{Geometry}
use Rattle.counting_tree.specs.Ready.{geometry_at, Ready, at_frames}
use Rattle.cells_grid.specs.Cells.{first, cells, cell_number, listed, core, core_cell, count}
use Rattle.cells_grid.specs.Lawful.{Lawful}
use Rattle.cells_grid.specs.Ready.{ready_lawful}
use Rattle.cells_grid.proofs.CellLaws.{first_same, first_in, number_cell, core_first, in_core_cell, core_cell_in}
use Rattle.cells_grid.specs.Arrangement.{cell_at}
use Rattle.cells_grid.proofs.ArrangementLaws.{cell_at_lem, list_by_number}
use Rattle.clustering.specs.Clusters.{place, clusters, touched, label_by, kind_of}
use Rattle.clustering.proofs.ClusterLaws.{number_low, core_label, border_label_lem, noise_label}
use Rattle.clustering.specs.Numbering.{cluster_word, borders_at}
use Rattle.clustering.proofs.Held.{counted_core}

module _ (g : Geometry) where
  pub cluster_of_lem : (c : ℕ) → T (core_cell g (cell_at g c)) → cluster_word g c ≡ place (cell_at g c) (clusters g)
  unfolding cluster_word
  cluster_of_lem c t = cond_true (core_cell g (cell_at g c)) (place (cell_at g c) (clusters g)) 0 t

  module _ (L : Lawful g) (i : ℕ) (h : i < g.frames) where
    own_first : cell_at g (cell_number g i) ≡ first g i
    own_first = number_cell g L i 0 h

    listed_own : (d : ℕ) → listed g i d ≡ listed g (cell_at g (cell_number g i)) d
    unfolding listed
    listed_own d = ap (λ (x : ℕ). g.near x (first g d)) (first_same g L i (first g i) h (first_in g L i h).1 ∙ ap (first g) (sym own_first))

    -- the cells that frame i borders on, by number
    abbrev bordering : List ℕ
    bordering = keep (borders_at g (cell_number g i) i) (numbers (length (cells g)))

    pub touched_by_number : touched g i ≡ map (cell_at g) bordering
    unfolding touched borders_at
    touched_by_number =
        let all = numbers (length (cells g)) in
        let hit : ℕ → Bool = λ d. nonzero (count g i d) in
        ap (keep hit) (list_by_number g i)
        ∙ keep_map hit (cell_at g) (keep (λ c. listed g i (cell_at g c)) all)
        ∙ ap (map (cell_at g)) (keep_keep (λ c. hit (cell_at g c)) (λ c. listed g i (cell_at g c)) all
        ∙ keep_same (λ c. listed g i (cell_at g c) && hit (cell_at g c)) (λ c. listed g (cell_at g (cell_number g i)) (cell_at g c) && hit (cell_at g c)) all
        (λ c j. ap (λ (x : Bool). x && hit (cell_at g c)) (listed_own (cell_at g c))))

    in_bordering : (c : ℕ) → In c bordering → (c < length (cells g)) × T (core_cell g (cell_at g c))
    unfolding borders_at
    in_bordering c j =
        let z = in_keep (borders_at g (cell_number g i) i) c (numbers (length (cells g))) j in
        (in_numbers (length (cells g)) c z.0, counted_core g i c (and_right (listed g (cell_at g (cell_number g i)) (cell_at g c)) (nonzero (count g i (cell_at g c))) z.1))

    -- without a cluster there is no core cell
    pub none_touched : length (clusters g) ≡ 0 → touched g i ≡ []
    none_touched z = go bordering touched_by_number in_bordering
      where
        go : (cs : List ℕ) → touched g i ≡ map (cell_at g) cs → ((c : ℕ) → In c cs → (c < length (cells g)) × T (core_cell g (cell_at g c))) → touched g i ≡ []
        go [] t m = t
        go (c ∷ cs) t m =
            let h = m c (inl refl) in
            absurd (omega (arith, number_low g (cell_at g c) (core_cell_in g (cell_at g c) (cell_at_lem g c h.0) h.1)))

    module _ (n : T (not (core g i))) where
      abbrev cluster : ℕ → ℕ
      cluster c = place c (clusters g)

      pub border_told : {b : ℕ} → Some b ≡ slice_get bordering 0 → (b < length (cells g)) × ((cluster_word g b ≡ label_by g cluster i) × (1 ≡ kind_of g i))
      border_told {b} f = go bordering touched_by_number in_bordering f
        where
          go : (cs : List ℕ) → touched g i ≡ map (cell_at g) cs → ((c : ℕ) → In c cs → (c < length (cells g)) × T (core_cell g (cell_at g c))) → Some b ≡ slice_get cs 0
              → (b < length (cells g)) × ((cluster_word g b ≡ label_by g cluster i) × (1 ≡ kind_of g i))
          go [] t m q = absurd (grind (arith, q))
          go (c ∷ cs) t m q =
              let e : b ≡ c = grind (arith, q) in
              let z = border_label_lem g cluster i n (cell_at g c) (map (cell_at g) cs) t in
              (rw e (m c (inl refl)).0, (ap (cluster_word g) e ∙ cluster_of_lem c (m c (inl refl)).1 ∙ sym z.0, sym z.1))

      pub noise_told : None ≡ slice_get bordering 0 → (65535 ≡ label_by g cluster i) × (0 ≡ kind_of g i)
      noise_told f = go bordering touched_by_number f
        where
          go : (cs : List ℕ) → touched g i ≡ map (cell_at g) cs → None ≡ slice_get cs 0 → (65535 ≡ label_by g cluster i) × (0 ≡ kind_of g i)
          go [] t q = let z = noise_label g cluster i n t in (sym z.0, sym z.1)
          go (c ∷ cs) t q = absurd (grind (arith, q))

    pub core_told : T (core g i) → (cluster_word g (cell_number g i) ≡ label_by g (λ c. place c (clusters g)) i) × (2 ≡ kind_of g i)
    core_told t =
        let z = core_label g (λ c. place c (clusters g)) i t in
        let k = subst (λ (f : ℕ). T (core_cell g f)) (sym own_first) (in_core_cell g (first g i) (core_first g L i h t)).1 in
        (cluster_of_lem (cell_number g i) k ∙ ap (λ (c : ℕ). place c (clusters g)) own_first ∙ sym z.0, sym z.1)

-- ---- by the words ws of the clusters
module _ {ps : List ℤ} {v : ValidParams} {n : ℕ} (r : Ready ps v n) {k : ℕ} (cell_count : k ≡ length (cells (geometry_at v n ps))) {i : ℕ} (h : i < n) where
  abbrev g : Geometry
  g = geometry_at v n ps

  abbrev Told : ℕ → ℕ → Type 0
  Told label kind = (label ≡ label_by g (λ c. place c (clusters g)) i) × (kind ≡ kind_of g i)

  frame : i < g.frames
  frame = omega (arith, at_frames v n ps)

  module _ {ws : List ℕ} (ew : ws ≡ column (cluster_word g) k) where
    word_is : (c : ℕ) → c < k → get_or ws c 0 ≡ cluster_word g c
    word_is c l = ap (λ (z : List ℕ). get_or z c 0) ew ∙ at_numbers (cluster_word g) 0 k c l

    pub label_core : core g i ≡ true → {own : ℕ} → own ≡ cell_number g i → own < k → Told (get_or ws own 0) 2
    label_core t {own} e l =
        let z = core_told g (ready_lawful r) i frame (true_T t) in
        (word_is own l ∙ ap (cluster_word g) e ∙ z.0, z.1)

    module _ (f : core g i ≡ false) where
      other : T (not (core g i))
      other = rw f tt

      pub label_none : {m : ℕ} → m ≡ length (clusters g) → m ≡ 0 → Told 65535 0
      label_none e q =
          let z = noise_label g (λ c. place c (clusters g)) i other (none_touched g (ready_lawful r) i frame (omega arith)) in
          (sym z.0, sym z.1)

      module _ {o : Option ℕ} (eo : o ≡ slice_get (keep (borders_at g (cell_number g i) i) (numbers k)) 0) where
        first_border : o ≡ slice_get (keep (borders_at g (cell_number g i) i) (numbers (length (cells g)))) 0
        first_border = eo ∙ ap (λ (m : ℕ). slice_get (keep (borders_at g (cell_number g i) i) (numbers m)) 0) cell_count

        pub border_low : {b : ℕ} → o ≡ Some b → b < k
        border_low q = omega (arith, (border_told g (ready_lawful r) i frame other (sym q ∙ first_border)).0, cell_count)

        pub label_border : {b : ℕ} → o ≡ Some b → Told (get_or ws b 0) 1
        label_border {b} q =
            let z = border_told g (ready_lawful r) i frame other (sym q ∙ first_border) in
            (word_is b (border_low q) ∙ z.1.0, z.1.1)

        pub label_noise : o ≡ None → Told 65535 0
        label_noise q = noise_told g (ready_lawful r) i frame other (sym q ∙ first_border)
