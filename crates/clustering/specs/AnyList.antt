-- The source takes the cells of a list in the order in which linfa-nn's `within_range` gives them, and the children of a node in the order of a hash table.
-- In whatever order: its loops give the core frames of the definition, and the same frames are border and noise; the cell a border frame is put to is one of those that the definition chooses from.
use Rattle.std.specs.Prelude.{◌≡◌, refl, Bool, true, false, leb, length}
use Rattle.std.proofs.Math.Path.{sym, ap, ap₂}
use Rattle.std.proofs.Common.{◌∙◌, inl, zero-add, add-zero, add_assoc, arith, leb→le, le→leb}
use Rattle.std.proofs.Math.Bool.{cond}
use mathlib.Core.List.Permᴰ
use mathlib.Core.List.{List, [], ◌∷◌, Permᴰ}
use Rattle.std.proofs.Math.Option.{Option, none, some, none-ne-some, some-injective}
use Prim.Native.Nat.{ℕ, ◌+◌}
use Rattle.lists.specs.Lists.{keep, any, how_many, total, In, nonzero}
use Rattle.lists.specs.ListLaws.{true_T, T_true, any_shuffle, keep_in, in_keep, keep_same}
use Rattle.lists.specs.PermLaws.{perm_same, perm_total}
use Rattle.counting_tree.specs.Geometry.{Geometry}
use Rattle.counting_tree.specs.Paths.{counted_by, any_children}
use Rattle.cells_grid.specs.Cells.{members, first, list, dense, core, core_members, node, count}
use Rattle.cells_grid.specs.Lawful.{Lawful}
use Rattle.cells_grid.proofs.CellLaws.{core_by_cells}
use Rattle.clustering.specs.Clusters.{border_label, border_kind, touched, label_by, kind_of}
use Rattle.clustering.specs.Clusters as Clusters
use Rattle.clustering.specs.AnyOrder.{Children}

-- ---- the two loops over a list
-- `label_sparse`: "for n_index in &self.neighbour_cell_indexes { .. tot_pts += neighbour.points_in_range(..); if tot_pts >= params.min_points { break; } }", as `tot_pts` is after it
abbrev pub summed : (least : ℕ) → (in_range : ℕ → ℕ) → (tot : ℕ) → List ℕ → ℕ
summed least in_range tot [] = tot
summed least in_range tot (c ∷ cs) = let r = summed least in_range (tot + in_range c) cs in cond (leb least (tot + in_range c)) (tot + in_range c) r

-- `label_border_noise_points`: "'nbrs: for neighbour_i in cell.neighbours_indexes() { .. if neighbour.approximate_range_counting(..) > 0 { .. break 'nbrs; } }", as the neighbour at which it stops
abbrev pub search : (counts : ℕ → Bool) → List ℕ → Option ℕ
search counts [] = none
search counts (c ∷ cs) = let r = search counts cs in cond (counts c) (some c) r

-- the kind and the label that this gives a non-core frame
abbrev pub found_kind : Option ℕ → ℕ
found_kind none = 0
found_kind (some c) = 1

abbrev pub found_label : (cluster : ℕ → ℕ) → Option ℕ → ℕ
found_label cluster none = Clusters.none
found_label cluster (some c) = cluster c

-- ---- laws of the loops
-- the sum that is stopped early reaches `min_points` exactly if the whole one does
summed_total : (least : ℕ) (f : ℕ → ℕ) (tot : ℕ) (cs : List ℕ) → leb least (summed least f tot cs) ≡ leb least (tot + total f cs)
summed_total least f tot [] = ap (leb least) (sym (add-zero tot))
summed_total least f tot (c ∷ cs) = go (leb least (tot + f c)) refl (summed_total least f (tot + f c) cs) ∙ ap (leb least) (add_assoc tot (f c) (total f cs))
  where
    go : (b : Bool) → leb least (tot + f c) ≡ b → leb least (summed least f (tot + f c) cs) ≡ leb least (tot + f c + total f cs)
        → leb least (cond b (tot + f c) (summed least f (tot + f c) cs)) ≡ leb least (tot + f c + total f cs)
    go true e r = e ∙ sym (T_true (leb least (tot + f c + total f cs)) (le→leb least (tot + f c + total f cs) (omega (arith, leb→le least (tot + f c) (true_T e)))))
    go false e r = r

-- the search stops at the first cell that passes
abbrev head : List ℕ → Option ℕ
head [] = none
head (c ∷ cs) = some c

search_head : (f : ℕ → Bool) (cs : List ℕ) → search f cs ≡ head (keep f cs)
search_head f [] = refl
search_head f (c ∷ cs) = go (f c) (search_head f cs)
  where
    go : (b : Bool) → search f cs ≡ head (keep f cs) → cond b (some c) (search f cs) ≡ head (cond b (c ∷ keep f cs) (keep f cs))
    go true r = refl
    go false r = r

head_in : (cs : List ℕ) (c : ℕ) → head cs ≡ some c → In c cs
head_in [] c e = absurd (none-ne-some c e)
head_in (d ∷ cs) c e = inl (sym (some-injective d c e))

head_label : (cluster : ℕ → ℕ) (cs : List ℕ) → found_label cluster (head cs) ≡ border_label cluster cs
head_label cluster [] = refl
head_label cluster (c ∷ cs) = refl

head_kind : (cs : List ℕ) → found_kind (head cs) ≡ border_kind cs
head_kind [] = refl
head_kind (c ∷ cs) = refl

-- the kind is border exactly if some cell passes, whatever the order
kept_kind : (f : ℕ → Bool) (cs : List ℕ) → border_kind (keep f cs) ≡ cond (any f cs) 1 0
kept_kind f [] = refl
kept_kind f (c ∷ cs) = go (f c) (kept_kind f cs)
  where
    go : (b : Bool) → border_kind (keep f cs) ≡ cond (any f cs) 1 0 → border_kind (cond b (c ∷ keep f cs) (keep f cs)) ≡ cond (cond b true (any f cs)) 1 0
    go true r = refl
    go false r = r

-- ---- the loops on a frame i of a run; cs is the list of its cell, in the order in which the source has it
module _ (g : Geometry) where
  -- `label`: "if self.points.len() >= params.min_points { self.label_dense(..); } else { self.label_sparse(..); }", "points_in_range" of a cell being how many of its frames lie within t.
  -- It reads the frames of each cell and no label, so the order in which `label_points` takes the cells plays no part.
  unfoldable pub core_by : (cs : List ℕ) → ℕ → Bool
  core_by cs i = cond (dense g i) true (leb g.least (summed g.least (λ c. how_many (g.within i) (members g c)) 0 cs))

  -- "neighbour.approximate_range_counting(curr_point, self) > 0", where the nodes of the tree of c have their children in the order of `children c`; a cell that is not core has no tree and counts 0
  unfoldable pub counts_by : (children : ℕ → ℕ → List ℕ → List (List ℕ)) → ℕ → ℕ → Bool
  counts_by children i c = nonzero (length (counted_by (children c) (g.box i) g.levels 0 (core_members g c)))

  -- the kind of frame i, and its label where `cluster` gives the number of a core cell
  abbrev pub kind_by : (children : ℕ → ℕ → List ℕ → List (List ℕ)) → (cs : List ℕ) → ℕ → ℕ
  kind_by children cs i = cond (core_by cs i) 2 (found_kind (search (counts_by children i) cs))

  abbrev pub label_in : (cluster : ℕ → ℕ) → (children : ℕ → ℕ → List ℕ → List (List ℕ)) → (cs : List ℕ) → ℕ → ℕ
  label_in cluster children cs i = cond (core_by cs i) (cluster (first g i)) (found_label cluster (search (counts_by children i) cs))

  module _ (i : ℕ) (cs : List ℕ) (order : Permᴰ cs (list g i)) where
    -- THE SAME CORE FRAMES
    pub core_any : Lawful g → core_by cs i ≡ core g i
    unfolding core_by
    core_any L =
        let in_range : ℕ → ℕ = λ c. how_many (g.within i) (members g c) in
        ap (cond (dense g i) true) (summed_total g.least in_range 0 cs ∙ ap (leb g.least) (zero-add (total in_range cs) ∙ perm_total in_range order)) ∙ sym (core_by_cells g L i)

    module _ (children : ℕ → ℕ → List ℕ → List (List ℕ)) (kids : Children g children) where
      counts_same : (c : ℕ) → counts_by children i c ≡ nonzero (count g i c)
      unfolding counts_by count node
      counts_same c = any_children g.same (g.box i) (children c) (kids c) g.levels 0 (core_members g c)

      -- the search finds a neighbour exactly if the frame has a non-zero count in some listed cell
      pub found_kind_lem : found_kind (search (counts_by children i) cs) ≡ border_kind (touched g i)
      unfolding touched
      found_kind_lem =
          ap found_kind (search_head (counts_by children i) cs) ∙ head_kind (keep (counts_by children i) cs) ∙ kept_kind (counts_by children i) cs
          ∙ ap (λ (b : Bool). cond b 1 0) (any_shuffle (counts_by children i) (λ c. nonzero (count g i c)) cs (list g i) (λ c k. counts_same c) (perm_same order))
          ∙ sym (kept_kind (λ c. nonzero (count g i c)) (list g i))

      -- THE SAME CHOICE OF BORDER OR NOISE
      pub kind_any : Lawful g → kind_by children cs i ≡ kind_of g i
      unfolding kind_of
      kind_any L = ap₂ (λ (b : Bool) (k : ℕ). cond b 2 k) (core_any L) found_kind_lem

      -- and that neighbour is one of the listed cells in which the frame has a non-zero count
      pub found_touched : (c : ℕ) → search (counts_by children i) cs ≡ some c → In c (touched g i)
      unfolding touched
      found_touched c e =
          let z = in_keep (counts_by children i) c cs (head_in (keep (counts_by children i) cs) c (sym (search_head (counts_by children i) cs) ∙ e)) in
          keep_in (λ d. nonzero (count g i d)) c (list g i) ((perm_same order c).0 z.0) (rw (counts_same c) at z.1)

  -- in ascending cell number the label is that of the definition
  pub label_ascending : Lawful g → (cluster : ℕ → ℕ) (children : ℕ → ℕ → List ℕ → List (List ℕ)) → Children g children → (i : ℕ)
      → label_in cluster children (list g i) i ≡ label_by g cluster i
  unfolding label_by touched
  label_ascending L cluster children kids i =
      let same = Permᴰ.refl (list g i) in
      ap₂ (λ (b : Bool) (k : ℕ). cond b (cluster (first g i)) k) (core_any i (list g i) same L)
      (ap (found_label cluster) (search_head (counts_by children i) (list g i)) ∙ head_label cluster (keep (counts_by children i) (list g i))
      ∙ ap (border_label cluster) (keep_same (counts_by children i) (λ c. nonzero (count g i c)) (list g i) (λ c k. counts_same i (list g i) same children kids c)))
