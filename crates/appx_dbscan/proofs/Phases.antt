-- The phases of a run in the work words: what each finds there, and what stands there in the end.
use mathlib.Core.Path.{◌≡◌, sym, ap, ap₂, subst, ◌∙◌}
use mathlib.Core.Bool.{Bool, true, false, cond}
use mathlib.Core.List.{List, [], ◌∷◌, ◌++◌}
use Prim.Native.Nat.{ℕ, ◌+◌, ◌*◌, ◌<◌, ◌≤◌}
use native.Mathlib.Omega.{arith}
use lib.IntN.{ℤ}
use lib.Dec.{eqb}
use lib.ListN.{length, get_or, length-append}
use Rattle.lists.specs.Lists.{numbers, how_many, Below}
use Rattle.lists.specs.Words.{over, part, column, Clear}
use Rattle.lists.specs.ListLaws.{length_numbers, in_map, in_numbers, keep_same}
use Rattle.lists.proofs.PartLaws.{over_cover, part_under, part_same, clear_within}
use Rattle.lists.proofs.WordLaws.{over_length, over_apart, over_next}
use Rattle.hyperparams.specs.Params.{work_words}
use Rattle.hyperparams.specs.declared.ValidParams.{ValidParams}
use Rattle.counting_tree.specs.Geometry.{Geometry}
use Rattle.counting_tree.specs.Ready.{geometry_at, Ready, at_frames}
use Rattle.cells_grid.specs.Cells.{cells, core}
use Rattle.cells_grid.specs.Lawful.{Lawful}
use Rattle.cells_grid.specs.Ready.{ready_lawful}
use Rattle.cells_grid.specs.Arrangement.{core_bit, Arranged, Cored}
use Rattle.cells_grid.proofs.ArrangementLaws as ArrangementLaws
use Rattle.cells_grid.proofs.ArrangementLaws.{cells_le, cored, core_word, populated_arranged}
use Rattle.cells_grid.specs.Places.{populated}
use Rattle.core_cells.specs.Forest.{tree_word, forest_to, Grown}
use Rattle.core_cells.specs.ForestLaws.{grown_over}
use Rattle.clustering.specs.Clusters.{clusters, place, touched, border_kind, label_by, kind_of}
use Rattle.clustering.specs.Uniting.{lowest_at}
use Rattle.clustering.specs.Numbering.{cluster_word}
use Rattle.appx_dbscan.specs.Filled.{treed, filled}
use Rattle.appx_dbscan.proofs.Trees.{part_short, trees_within, trees_grown, grew_clear, grew_grown}
use Rattle.lists.proofs.Within.{Within, within_join, within_over, within_more, within_clear}

-- a kind is 0, 1 or 2
kind_low : (g : Geometry) (i : ℕ) → kind_of g i < 3
unfolding kind_of
kind_low g i = by (core g i) (touched g i)
  where
    border : (cs : List ℕ) → border_kind cs < 3
    border [] = omega arith
    border (c ∷ cs) = omega arith

    by : (b : Bool) (cs : List ℕ) → cond b 2 (border_kind cs) < 3
    by true cs = omega arith
    by false cs = border cs

-- what `populate` needs of the fourteen words a frame that are clear
pub clear_populate : (n : ℕ) (w : List ℕ) → Clear w (10 * n) (14 * n) → Clear w (10 * n) (3 * n) × Clear w (16 * n) (8 * n)
clear_populate n w c = (clear_within w (10 * n) (14 * n) (10 * n) (3 * n) c (omega arith) (omega arith), clear_within w (10 * n) (14 * n) (16 * n) (8 * n) c (omega arith) (omega arith))

-- the first of the fourteen
first_clear : (n k : ℕ) (w : List ℕ) → k ≤ 14 * n → Clear w (10 * n) (14 * n) → Clear w (10 * n) k
first_clear n k w h c = clear_within w (10 * n) (14 * n) (10 * n) k c (omega arith) (omega arith)

-- words laid from 6n on and from 8n up to 10n, before those that `label` lays: nothing is left of them
relaid : (n : ℕ) (t us vs xs ys zs ks : List ℕ) → length us ≤ length xs → length vs ≤ 2 * n → length xs ≤ n → length ys ≤ n → length zs ≡ n → length ks ≡ n → 10 * n ≤ length t
    → over (over (over (over (over (over t (6 * n) us) (8 * n) vs) (6 * n) xs) (7 * n) ys) (8 * n) zs) (9 * n) ks
    ≡ over (over (over (over t (6 * n) xs) (7 * n) ys) (8 * n) zs) (9 * n) ks
relaid n t us vs xs ys zs ks lu lv lx ly lz lk h =
    let t₁ = over t (6 * n) us in
    let t₂ = over t (6 * n) xs in
    let t₃ = over t₂ (7 * n) ys in
    let l₁ : length t₁ ≡ length t = over_length t (6 * n) us (omega arith) in
    let l₂ : length t₂ ≡ length t = over_length t (6 * n) xs (omega arith) in
    let l₃ : length t₃ ≡ length t₂ = over_length t₂ (7 * n) ys (omega arith) in
    let l₄ : length (over t₃ (8 * n) vs) ≡ length t₃ = over_length t₃ (8 * n) vs (omega arith) in
    let e₂ : over (over t₁ (8 * n) vs) (6 * n) xs ≡ over t₂ (8 * n) vs =
    sym (over_apart t₁ (6 * n) (8 * n) xs vs (omega arith) (omega arith)) ∙ ap (λ (z : List ℕ). over z (8 * n) vs) (over_cover t (6 * n) (6 * n) us xs (omega arith) (omega arith) (omega arith)) in
    let e₃ : over (over t₂ (8 * n) vs) (7 * n) ys ≡ over t₃ (8 * n) vs = sym (over_apart t₂ (7 * n) (8 * n) ys vs (omega arith) (omega arith)) in
    let last : (x : List ℕ) → length x ≡ length t → over (over x (8 * n) zs) (9 * n) ks ≡ over x (8 * n) (zs ++ ks) = λ x l. over_next x (8 * n) (9 * n) zs ks (omega arith) (omega arith) in
    ap (λ (z : List ℕ). over (over z (8 * n) zs) (9 * n) ks) (ap (λ (z : List ℕ). over z (7 * n) ys) e₂ ∙ e₃)
    ∙ last (over t₃ (8 * n) vs) (omega arith)
    ∙ over_cover t₃ (8 * n) (8 * n) vs (zs ++ ks) (omega arith) (omega (arith, length-append zs ks)) (omega arith)
    ∙ sym (last t₃ (omega arith))

-- a run may be made on the frames, and w are the words before it
module _ {ps : List ℤ} {v : ValidParams} {n : ℕ} (r : Ready ps v n) (w : List ℕ) (room : work_words n v.s ≤ length w) where
  abbrev g : Geometry
  g = geometry_at v n ps

  abbrev k : ℕ
  k = length (cells g)

  L : Lawful g
  L = ready_lawful r

  e : g.frames ≡ n
  e = at_frames v n ps

  below : k ≤ n
  below = omega (arith, e, cells_le g)

  abbrev m : ℕ
  m = work_words n v.s

  abbrev cores : List ℕ
  cores = column (core_bit g) n

  abbrev labels : List ℕ
  labels = column (label_by g (λ c. place c (clusters g))) n

  abbrev kinds : List ℕ
  kinds = column (kind_of g) n

  -- ---- `populate`
  populated_within : Within (4 * n) w (populated g w)
  populated_within = subst (λ (f : ℕ). Within (4 * f) w (populated g w)) e (ArrangementLaws.populated_within g L w (omega (arith, e)))

  clear_after_populate : Clear w (10 * n) (14 * n) → Clear (populated g w) (10 * n) (14 * n)
  clear_after_populate = within_clear populated_within (10 * n) (14 * n) (omega arith)

  after_populate : Arranged g k (populated g w)
  after_populate = populated_arranged g L w (omega (arith, e))

  -- ---- `label_points`
  cored_within : Within (5 * n) w (over (populated g w) (4 * n) cores)
  cored_within = within_over (within_more populated_within (5 * n) (omega arith)) (4 * n) cores (omega (arith, length_numbers (core_bit g) n)) (omega arith)

  after_label_points : Cored g k (over (populated g w) (4 * n) cores)
  after_label_points = cored g after_populate n e (omega (arith, populated_within.size))

  clear_after_label_points : Clear w (10 * n) (14 * n) → Clear (over (populated g w) (4 * n) cores) (10 * n) (14 * n)
  clear_after_label_points = within_clear cored_within (10 * n) (14 * n) (omega arith)

  abbrev lowest : List ℕ
  lowest = column (lowest_at g (n * n)) k

  abbrev numbered : List ℕ
  numbered = column (cluster_word g) k

  -- ---- `build_trees`: cells with more core frames than this have a tree
  module _ (few : ℕ) where
    treed_within : Within m w (treed g n few w)
    unfolding treed
    treed_within = within_join (within_more cored_within m (omega arith)) (trees_within r after_label_points (omega (arith, cored_within.size)) few)

    treed_grown : Grown g k (treed g n few w)
    unfolding treed
    treed_grown = trees_grown r after_label_points (omega (arith, cored_within.size)) few

    -- ---- `label`
    lowest_within : Within m w (over (treed g n few w) (6 * n) lowest)
    lowest_within = within_over treed_within (6 * n) lowest (omega (arith, below, length_numbers (lowest_at g (n * n)) k)) room

    numbered_within : Within m w (over (over (treed g n few w) (6 * n) lowest) (7 * n) numbered)
    numbered_within = within_over lowest_within (7 * n) numbered (omega (arith, below, length_numbers (cluster_word g) k)) room

    labels_within : Within m w (over (over (over (treed g n few w) (6 * n) lowest) (7 * n) numbered) (8 * n) labels)
    labels_within = within_over numbered_within (8 * n) labels (omega (arith, length_numbers (label_by g (λ c. place c (clusters g))) n)) room

    pub filled_within : Within m w (filled g n few w)
    unfolding filled
    filled_within = within_over labels_within (9 * n) kinds (omega (arith, length_numbers (kind_of g) n)) room

    pub filled_labels : part (filled g n few w) (8 * n) n ≡ labels
    unfolding filled
    filled_labels =
        part_under _ (8 * n) n (9 * n) kinds (omega arith) (omega (arith, labels_within.size))
        ∙ part_same _ (8 * n) n labels (omega (arith, numbered_within.size)) (length_numbers (label_by g (λ c. place c (clusters g))) n)

    pub filled_kinds : part (filled g n few w) (9 * n) n ≡ kinds
    unfolding filled
    filled_kinds = part_same _ (9 * n) n kinds (omega (arith, labels_within.size)) (length_numbers (kind_of g) n)

    pub filled_low : Below 3 (part (filled g n few w) (9 * n) n)
    filled_low = rw filled_kinds (λ x i. let z = in_map (kind_of g) x (numbers n) i in rw z.2 (kind_low g z.0))

    filled_grown : Grown g k (filled g n few w)
    unfolding filled
    filled_grown =
        grown_over (grown_over (grown_over (grown_over treed_grown
        e (6 * n) lowest (omega arith) (omega (arith, below, length_numbers (lowest_at g (n * n)) k)) (omega (arith, treed_within.size)))
        e (7 * n) numbered (omega arith) (omega (arith, below, length_numbers (cluster_word g) k)) (omega (arith, lowest_within.size)))
        e (8 * n) labels (omega arith) (omega (arith, length_numbers (label_by g (λ c. place c (clusters g))) n)) (omega (arith, numbered_within.size)))
        e (9 * n) kinds (omega arith) (omega (arith, length_numbers (kind_of g) n)) (omega (arith, labels_within.size))

    pub filled_cores : how_many (λ i. eqb (get_or (filled g n few w) (4 * n + i) 0) 1) (numbers n) ≡ how_many (core g) (numbers n)
    filled_cores = ap length (keep_same (λ i. eqb (get_or (filled g n few w) (4 * n + i) 0) 1) (core g) (numbers n) (λ i h. core_word g filled_grown.cored n e i (in_numbers n i h)))

    -- where `grow_trees` leaves words us from 6n on and vs from 8n on, none are left
    grew_filled : (us vs : List ℕ) → length us ≤ k → length vs ≤ 2 * n
        → over (over (over (over (over (over (treed g n few w) (6 * n) us) (8 * n) vs) (6 * n) lowest) (7 * n) numbered) (8 * n) labels) (9 * n) kinds ≡ filled g n few w
    unfolding filled
    grew_filled us vs lu lv =
        relaid n (treed g n few w) us vs lowest numbered labels kinds
        (omega (arith, length_numbers (lowest_at g (n * n)) k)) lv (omega (arith, below, length_numbers (lowest_at g (n * n)) k)) (omega (arith, below, length_numbers (cluster_word g) k))
        (length_numbers (label_by g (λ c. place c (clusters g))) n) (length_numbers (kind_of g) n) (omega (arith, treed_within.size))

  -- ---- the same of the words that the phases leave, one after the other
  module _ {k₁ : ℕ} {w₁ : List ℕ} (p : k₁ ≡ k) (e₁ : w₁ ≡ populated g w) where
    pub arranged₁ : Arranged g k₁ w₁
    arranged₁ = rw (p, e₁) after_populate

    pub clear₁ : Clear w (10 * n) (14 * n) → Clear w₁ (10 * n) (14 * n)
    clear₁ c = rw e₁ (clear_after_populate c)

    module _ {w₂ : List ℕ} (e₂ : w₂ ≡ over w₁ (4 * n) cores) where
      same₂ : w₂ ≡ over (populated g w) (4 * n) cores
      same₂ = e₂ ∙ ap (λ (x : List ℕ). over x (4 * n) cores) e₁

      pub cored₂ : Cored g k₁ w₂
      cored₂ = rw (p, same₂) after_label_points

      pub clear₂ : Clear w (10 * n) (14 * n) → Clear w₂ (10 * n) (6 * n)
      clear₂ c = rw same₂ (first_clear n (6 * n) (over (populated g w) (4 * n) cores) (omega arith) (clear_after_label_points c))

      room₂ : work_words n v.s ≤ length w₂
      room₂ = omega (arith, ap length same₂, cored_within.size)

      module _ (few : ℕ) {w₃ : List ℕ}
          (e₃ : w₃ ≡ over (over (over (over w₂ (5 * n) (column (tree_word g few) k₁)) (16 * n) (forest_to g few k₁)) (6 * n) (part w₃ (6 * n) k₁)) (8 * n) (part w₃ (8 * n) (2 * n))) where
        pub grown₃ : Grown g k₁ w₃
        grown₃ = grew_grown r cored₂ room₂ few e₃

        pub clear₃ : Clear w (10 * n) (14 * n) → Clear w₃ (10 * n) (6 * n)
        clear₃ c = grew_clear r cored₂ room₂ few e₃ (clear₂ c)

        same₃ : w₃ ≡ over (over (treed g n few w) (6 * n) (part w₃ (6 * n) k₁)) (8 * n) (part w₃ (8 * n) (2 * n))
        unfolding treed
        same₃ =
            e₃
            ∙ ap₂ (λ (j : ℕ) (x : List ℕ). over (over (over (over x (5 * n) (column (tree_word g few) j)) (16 * n) (forest_to g few j)) (6 * n) (part w₃ (6 * n) k₁)) (8 * n) (part w₃ (8 * n) (2 * n))) p same₂

        pub filled₄ : {w₄ : List ℕ}
            → w₄ ≡ over (over (over (over w₃ (6 * n) (column (lowest_at g (n * n)) k₁)) (7 * n) (column (cluster_word g) k₁)) (8 * n) labels) (9 * n) kinds
            → w₄ ≡ filled g n few w
        filled₄ e₄ =
            e₄
            ∙ ap₂ (λ (j : ℕ) (x : List ℕ). over (over (over (over x (6 * n) (column (lowest_at g (n * n)) j)) (7 * n) (column (cluster_word g) j)) (8 * n) labels) (9 * n) kinds) p same₃
            ∙ grew_filled few (part w₃ (6 * n) k₁) (part w₃ (8 * n) (2 * n)) (omega (arith, part_short w₃ (6 * n) k₁)) (part_short w₃ (8 * n) (2 * n))
