-- Demand 3 holds of the labels and kinds of `transform_of`, for any sound geometry; and of any numbers of the clusters, as far as these keep linked cells together and others apart.
use Rattle.std.specs.Prelude.{◌≡◌, refl, ◌↔◌, not, List, [], ◌∷◌, ℕ, ◌+◌, ◌≤◌, ◌<◌, T, length, drop, get_or}
use Rattle.std.proofs.Math.Path.{sym, ap}
use Rattle.std.proofs.Common.{◌∙◌, inl, inr, le_trans, lt_of_lt_of_le, add-zero, arith, T_not, length-append}
use Rattle.std.proofs.Math.Nat.{le_of_eq}
use Rattle.std.proofs.Math.ListN.{get_or-append}
use Rattle.lists.specs.Lists.{In, nonzero}
use Rattle.lists.specs.ListLaws.{T_or_not, or_cases, or_one, any_in, in_any, at_numbers, length_numbers}
use Rattle.lists.specs.Words.{over}
use Rattle.lists.specs.Chains.{Chain, alone, step, chain_first, chain_last}
use Rattle.counting_tree.specs.Geometry.{Geometry}
use Rattle.counting_tree.specs.Paths.{reaches}
use Rattle.counting_tree.proofs.Reach.{far_path, near_path}
use Rattle.cells_grid.specs.Cells.{same_cell, first, listed, core, core_members, core_cells, count}
use Rattle.cells_grid.proofs.CellLaws.{cell_first, core_in_lem, in_core, in_core_cell, core_cell_frame, first_same, first_in, first_cell, core_first, count_same, listed_same, listed_turn, count_path}
use Rattle.clustering.specs.Clusters.{place, none, touches, linked, clusters, touched, label_by, kind_of}
use Rattle.clustering.proofs.ClusterLaws.{Linked, linked_parts, parts_linked, touched_in, in_touched, core_label, border_label_lem, noise_label, few_clusters, number_low, each_number, same_cluster}
use Rattle.appx_dbscan.specs.Transform.{transform_of}
use Rattle.appx_dbscan.specs.Promise.{CoreFrame, Border, Noise, NearStep, one_cell, into_listed, Reached, StoppedPromise, PromiseOf}
use Rattle.appx_dbscan.specs.Sound.{Sound}

-- the slices begin with the label of each frame, by `number` of its cell, and its kind
pub record LabelledBy (g : Geometry) (number : ℕ → ℕ) (labels kinds : List ℕ) : Type 0 where
  pub labels_fit : g.frames ≤ length labels
  pub kinds_fit : g.frames ≤ length kinds
  pub at_label : (q : ℕ) → q < g.frames → get_or labels q 0 ≡ label_by g number q
  pub at_kind : (q : ℕ) → q < g.frames → get_or kinds q 0 ≡ kind_of g q

module _ (g : Geometry) where
  -- the cluster of a core cell
  abbrev pub cluster_of : ℕ → ℕ
  cluster_of c = place c (clusters g)

  pub transform_labelled : LabelledBy g cluster_of (transform_of g).labels (transform_of g).kinds
  unfolding transform_of
  transform_labelled = record {
    labels_fit = le_of_eq (sym (length_numbers (label_by g cluster_of) g.frames));
    kinds_fit = le_of_eq (sym (length_numbers (kind_of g) g.frames));
    at_label = at_numbers (label_by g cluster_of) 0 g.frames;
    at_kind = at_numbers (kind_of g) 0 g.frames;
  }

  pub over_labelled : (labels kinds : List ℕ) → LabelledBy g cluster_of (over labels 0 (transform_of g).labels) (over kinds 0 (transform_of g).kinds)
  over_labelled labels kinds =
      let W = transform_labelled in
      record {
        labels_fit = longer (transform_of g).labels labels W.labels_fit;
        kinds_fit = longer (transform_of g).kinds kinds W.kinds_fit;
        at_label = λ q h. get_or-append (transform_of g).labels (drop (0 + length (transform_of g).labels) labels) 0 q (lt_of_lt_of_le h W.labels_fit) ∙ W.at_label q h;
        at_kind = λ q h. get_or-append (transform_of g).kinds (drop (0 + length (transform_of g).kinds) kinds) 0 q (lt_of_lt_of_le h W.kinds_fit) ∙ W.at_kind q h;
      }
    where
      longer : (ws xs : List ℕ) → g.frames ≤ length ws → g.frames ≤ length (over xs 0 ws)
      longer ws xs h = simp length-append (omega arith)

module _ (g : Geometry) (Near Far : ℕ → ℕ → Type 0) (S : Sound g Near Far) where
  -- a core frame nearer than t gives a non-zero count in its cell's tree
  pub near_count : (q p : ℕ) → q < g.frames → CoreFrame g p → Near q p → T (nonzero (count g q p))
  near_count q p h c n = rw (count_path g S.lawful q p)
      (any_in (reaches (g.box q) g.levels 0) p (core_members g p) (core_in_lem g p p c.inside c.is_core (S.lawful.same_self 0 p))
      (near_path (g.box q) g.levels p (λ l k e. S.disjoint q l p h c.inside k e n) g.levels 0 (add-zero g.levels)))

  -- a non-zero count comes from a core frame of that cell within the far reach
  pub far_count : (q i : ℕ) → q < g.frames → T (nonzero (count g q i)) → (x : ℕ) × CoreFrame g x × T (same_cell g i x) × Far q x
  far_count q i h n =
      let z = in_any (reaches (g.box q) g.levels 0) (core_members g i) (rw (count_path g S.lawful q i) at n) in
      let w = in_core g i z.0 z.1 in
      let far = far_path (g.box q) g.levels z.0 (λ l k e. S.covered q l z.0 h w.0 k e) (S.last q z.0 h w.0) in
      (z.0, record { inside = w.0; is_core = w.1 }, w.2, far g.levels 0 (add-zero g.levels) z.2)

  -- ---- links and near steps
  -- a core frame is in the cell of its first frame
  in_first : (p : ℕ) → CoreFrame g p → T (same_cell g (first g p) p)
  in_first p c = S.lawful.same_turn 0 p (first g p) (first_in g S.lawful p c.inside).1

  -- a near step into a listed cell makes a link
  near_link : (p q : ℕ) → CoreFrame g p → CoreFrame g q → T (listed g p q) → Near p q → T (linked g (first g p) (first g q))
  near_link p q c d l n =
      let L = S.lawful in
      let P = first g p in
      let Q = first g q in
      let b = (first_in g L q d.inside).1 in
      parts_linked g P Q
      (listed_turn g L Q P (rw (← listed_same g L Q p P c.inside (first_in g L p c.inside).1) (listed_turn g L p Q (rw (listed_same g L p q Q d.inside b) at l))))
      (or_one (touches g P Q) (touches g Q P)
      (unfold touches in any_in (λ x. nonzero (count g x Q)) p (core_members g P) (core_in_lem g P p c.inside c.is_core (in_first p c))
      (rw (count_same g L p q Q b) at (near_count p q c.inside d n))))

  -- ---- links and far steps
  in_cell : (p q c : ℕ) → CoreFrame g p → CoreFrame g q → T (same_cell g c p) → T (same_cell g c q) → Far p q
  in_cell p q c a b h k = S.cell p q a.inside b.inside (S.lawful.same_join 0 p c q (S.lawful.same_turn 0 c p h) k)

  -- a core frame of c with a non-zero count in d's tree is within the far reach of a core frame of d
  touch_step : (c d : ℕ) → T (touches g c d) → (x y : ℕ) × CoreFrame g x × T (same_cell g c x) × CoreFrame g y × T (same_cell g d y) × Far x y
  unfolding touches
  touch_step c d t =
      let z = in_any (λ p. nonzero (count g p d)) (core_members g c) t in
      let a = in_core g c z.0 z.1 in
      let w = far_count z.0 d a.0 z.2 in
      (z.0, w.0, record { inside = a.0; is_core = a.1 }, a.2, w.1, w.2, w.3)

  link_step : (c d : ℕ) → T (linked g c d) → (x y : ℕ) × CoreFrame g x × T (same_cell g c x) × CoreFrame g y × T (same_cell g d y) × Far x y
  link_step c d l = elim (or_cases (touches g c d) (touches g d c) (linked_parts g c d l).1) [
    | inl t ↦ touch_step c d t
    | inr t ↦ let z = touch_step d c t in (z.1, z.0, z.4, z.5, z.2, z.3, S.far_turn z.0 z.1 z.6)
  ]

  far_chain : {c d : ℕ} → Linked g c d → (p q : ℕ) → CoreFrame g p → T (same_cell g c p) → CoreFrame g q → T (same_cell g d q) → Chain (CoreFrame g) Far p q
  far_chain (alone {p = c} i) p q a h b k = step a (in_cell p q c a b h k) (alone b)
  far_chain (step {p = c} {q = d} i l t) p q a h b k =
      let z = link_step c d l in
      step a (in_cell p z.0 c a z.2 h z.3) (step z.2 z.6 (far_chain t z.1 q z.4 z.5 b k))

  -- ---- the listed cells in which a frame has a non-zero count: each is the cell of a core frame in reach
  touched_core : (q c : ℕ) → q < g.frames → In c (touched g q) → (x : ℕ) × CoreFrame g x × (first g x ≡ c) × Far q x × T (listed g q x) × T (nonzero (count g q x))
  touched_core q c h i =
      let L = S.lawful in
      let t = in_touched g q c i in
      let k = cell_first g c t.0 in
      let w = far_count q c h t.2 in
      (w.0, w.1, sym (first_same g L c w.0 k.0 w.2) ∙ k.1, w.3, rw (listed_same g L q c w.0 k.0 w.2) at t.1, rw (count_same g L q c w.0 w.2) at t.2)

  border_touched : (q : ℕ) → (b : Border g q) → In (first g b.holder) (touched g q)
  border_touched q b =
      let L = S.lawful in
      let p = b.holder in
      let h = b.holder_core.inside in
      let f = (first_in g L p h).1 in
      touched_in g q (first g p) (first_cell g L p h) (rw (listed_same g L q p (first g p) h f) at b.holder_listed) (rw (count_same g L q p (first g p) f) at b.counted)

  -- ---- a frame is core, border or noise, and its label and kind say which
  -- a core frame's cell is a core cell
  home : (p : ℕ) → CoreFrame g p → In (first g p) (core_cells g)
  home p c = core_first g S.lawful p c.inside c.is_core

  not_both : (q : ℕ) → CoreFrame g q → T (not (core g q)) → ⊥
  not_both q c n = T_not (core g q) n c.is_core

  module _ (number : ℕ → ℕ) where
    -- the label of a border frame is that of a core frame x within the far reach
    data Sort (q : ℕ) : Type 0 where
      a_core : CoreFrame g q → label_by g number q ≡ number (first g q) → kind_of g q ≡ 2 → Sort q
      a_border : Border g q → (x : ℕ) → CoreFrame g x → Far q x → label_by g number q ≡ number (first g x) → kind_of g q ≡ 1 → Sort q
      a_noise : Noise g q → label_by g number q ≡ none → kind_of g q ≡ 0 → Sort q

    sort : (q : ℕ) → q < g.frames → Sort q
    sort q h = elim (T_or_not (core g q)) [
      | inl c ↦ let z = core_label g number q c in a_core (record { inside = h; is_core = c }) z.0 z.1
      | inr n ↦ go n (touched g q) refl
    ]
      where
        go : T (not (core g q)) → (cs : List ℕ) → touched g q ≡ cs → Sort q
        go n [] e = let z = noise_label g number q n e in a_noise (record { inside = h; not_core = n; no_border = λ b. rw e at (border_touched q b) }) z.0 z.1
        go n (c ∷ cs) e =
            let z = border_label_lem g number q n c cs e in
            let x = touched_core q c h (rw e (inl refl)) in
            a_border (record { inside = h; not_core = n; holder = x.0; holder_core = x.1; holder_listed = x.4; counted = x.5 }) x.0 x.1 x.3 (z.0 ∙ ap number (sym x.2)) z.1

    -- ---- slices with the labels by these numbers, which tell cells apart that no chain of links joins
    module _ (low : (c : ℕ) → In c (core_cells g) → number c < none) (apart : (c d : ℕ) → In c (core_cells g) → In d (core_cells g) → number c ≡ number d → Linked g c d)
        (labels kinds : List ℕ) (W : LabelledBy g number labels kinds) where
      at_core : (q : ℕ) → CoreFrame g q → get_or labels q 0 ≡ number (first g q)
      at_core q c = W.at_label q c.inside ∙ (core_label g number q c.is_core).0

      far_frames : (p q : ℕ) → CoreFrame g p → CoreFrame g q → get_or labels p 0 ≡ get_or labels q 0 → Chain (CoreFrame g) Far p q
      far_frames p q a b e = far_chain (apart (first g p) (first g q) (home p a) (home q b) (sym (at_core p a) ∙ e ∙ at_core q b)) p q a (in_first p a) b (in_first q b)

      border_reached : (q : ℕ) → Border g q → Reached g Near Far labels q
      border_reached q b = elim (sort q b.inside) [
        | a_core d e k ↦ absurd (not_both q d b.not_core)
        | a_border b x c f e k ↦ record { frame = x; is_core = c; within_reach = f; same_label = W.at_label q b.inside ∙ e ∙ sym (at_core x c) }
        | a_noise n e k ↦ absurd (n.no_border b)
      ]

      no_near : (q p : ℕ) → Noise g q → CoreFrame g p → T (listed g q p) → Near q p → ⊥
      no_near q p n c l h = n.no_border (record { inside = n.inside; not_core = n.not_core; holder = p; holder_core = c; holder_listed = l; counted = near_count q p n.inside c h })

      -- the number of a core frame's cell is not none
      not_none : (q x : ℕ) → q < g.frames → CoreFrame g x → label_by g number q ≡ number (first g x) → get_or labels q 0 ≡ none → ⊥
      not_none q x h c e f = omega (arith, low (first g x) (home x c), W.at_label q h)

      none_exactly : (q : ℕ) → q < g.frames → (get_or labels q 0 ≡ none) ↔ Noise g q
      none_exactly q h = elim (sort q h) [
        | a_core c e k ↦ (λ f. absurd (not_none q q h c e f), λ n. absurd (not_both q c n.not_core))
        | a_border b x c r e k ↦ (λ f. absurd (not_none q x h c e f), λ n. absurd (n.no_border b))
        | a_noise n e k ↦ (λ f. n, λ m. W.at_label q h ∙ e)
      ]

      kind_2 : (q : ℕ) → q < g.frames → (get_or kinds q 0 ≡ 2) ↔ CoreFrame g q
      kind_2 q h = let at = W.at_kind q h in elim (sort q h) [
        | a_core c e k ↦ (λ f. c, λ d. at ∙ k)
        | a_border b x c r e k ↦ (λ f. absurd (omega arith), λ d. absurd (not_both q d b.not_core))
        | a_noise n e k ↦ (λ f. absurd (omega arith), λ d. absurd (not_both q d n.not_core))
      ]

      kind_1 : (q : ℕ) → q < g.frames → (get_or kinds q 0 ≡ 1) ↔ Border g q
      kind_1 q h = let at = W.at_kind q h in elim (sort q h) [
        | a_core c e k ↦ (λ f. absurd (omega arith), λ b. absurd (not_both q c b.not_core))
        | a_border b x c r e k ↦ (λ f. b, λ d. at ∙ k)
        | a_noise n e k ↦ (λ f. absurd (omega arith), λ b. absurd (n.no_border b))
      ]

      kind_0 : (q : ℕ) → q < g.frames → (get_or kinds q 0 ≡ 0) ↔ Noise g q
      kind_0 q h = let at = W.at_kind q h in elim (sort q h) [
        | a_core c e k ↦ (λ f. absurd (omega arith), λ n. absurd (not_both q c n.not_core))
        | a_border b x c r e k ↦ (λ f. absurd (omega arith), λ n. absurd (n.no_border b))
        | a_noise n e k ↦ (λ f. n, λ m. at ∙ k)
      ]

      -- ALL BUT THE NEAR PROMISE, for numbers that tell linked sets apart, as of a run stopped early
      pub stopped_by : StoppedPromise g Near Far labels kinds
      stopped_by = record {
        labels_fit = W.labels_fit;
        kinds_fit = W.kinds_fit;
        far = far_frames;
        border = border_reached;
        noise = no_near;
        unlabelled = none_exactly;
        kind_core = kind_2;
        kind_border = kind_1;
        kind_noise = kind_0;
      }

      -- DEMAND 3, where linked cells have one number too
      module _ (together : (c d : ℕ) → In c (core_cells g) → In d (core_cells g) → T (linked g c d) → number c ≡ number d) where
        near_step : (p q : ℕ) → CoreFrame g p → CoreFrame g q → NearStep g Near p q → number (first g p) ≡ number (first g q)
        near_step p q c d (one_cell e) = ap number (first_same g S.lawful p q c.inside e)
        near_step p q c d (into_listed l n) = together (first g p) (first g q) (home p c) (home q d) (near_link p q c d l n)

        near_chain : {p q : ℕ} → Chain (CoreFrame g) (NearStep g Near) p q → number (first g p) ≡ number (first g q)
        near_chain (alone c) = refl
        near_chain (step {p} {q} c s t) = near_step p q c (chain_first t) s ∙ near_chain t

        pub promise_by : PromiseOf g Near Far labels kinds
        promise_by = record { near = λ p q t. at_core p (chain_first t) ∙ near_chain t ∙ sym (at_core q (chain_last t)); others = stopped_by }

  -- ---- the labels and kinds of `transform_of`
  -- demand 3 of slices that hold the cluster of each frame
  promise_clusters : g.frames ≤ none → (labels kinds : List ℕ) → LabelledBy g (cluster_of g) labels kinds → PromiseOf g Near Far labels kinds
  promise_clusters few labels kinds W =
      promise_by (cluster_of g) (λ c i. lt_of_lt_of_le (number_low g c i) (le_trans (few_clusters g) few)) (λ c d i j. (same_cluster g S.lawful c d i j).0) labels kinds W
      (λ c d i j l. (same_cluster g S.lawful c d i j).1 (step i l (alone j)))

  -- DEMAND 3
  pub promise_holds : g.frames ≤ none → PromiseOf g Near Far (transform_of g).labels (transform_of g).kinds
  promise_holds few = promise_clusters few (transform_of g).labels (transform_of g).kinds (transform_labelled g)

  -- and of slices that go on after the frames
  pub promise_over : g.frames ≤ none → (labels kinds : List ℕ) → PromiseOf g Near Far (over labels 0 (transform_of g).labels) (over kinds 0 (transform_of g).kinds)
  promise_over few labels kinds = promise_clusters few (over labels 0 (transform_of g).labels) (over kinds 0 (transform_of g).kinds) (over_labelled g labels kinds)

  -- each label but none is below the number of clusters
  pub label_low : (q : ℕ) → q < g.frames → (get_or (transform_of g).labels q 0 ≡ none → ⊥) → get_or (transform_of g).labels q 0 < (transform_of g).cluster_count
  unfolding transform_of
  label_low q h f = rw ((transform_labelled g).at_label q h) (elim (sort (cluster_of g) q h) [
    | a_core c e k ↦ rw e (number_low g (first g q) (home q c))
    | a_border b x c r e k ↦ rw e (number_low g (first g x) (home x c))
    | a_noise n e k ↦ absurd (f ((transform_labelled g).at_label q h ∙ e))
  ])

  -- and each number below it is the label of a core frame
  pub each_label : (k : ℕ) → k < (transform_of g).cluster_count → (p : ℕ) × CoreFrame g p × (get_or (transform_of g).labels p 0 ≡ k)
  unfolding transform_of
  each_label k h =
      let z = each_number g k h in
      let c = in_core_cell g z.0 z.1 in
      let f = cell_first g z.0 c.0 in
      let w = core_cell_frame g z.0 c.1 in
      let m = in_core g z.0 w.0 w.1 in
      let same : first g w.0 ≡ z.0 = sym (first_same g S.lawful z.0 w.0 f.0 m.2) ∙ f.1 in
      (w.0, record { inside = m.0; is_core = m.1 }, (transform_labelled g).at_label w.0 m.0 ∙ (core_label g (cluster_of g) w.0 m.1).0 ∙ ap (cluster_of g) same ∙ z.2)
