-- The source's `unite_neighbouring_cells` visits the cells in the order of a hash table, tries each pair from the visited cell only, and skips pairs already in one set.
-- In whatever order it takes cells, lists and the children of nodes, and whichever leader a union keeps, it ends in the clusters of the definition.
use Rattle.std.specs.Prelude.{◌≡◌, refl, ◌⊎◌, ◌↔◌, Bool, true, false, not, ◌||◌, cond, List, [], ◌∷◌, ℕ, length}
use Rattle.std.proofs.Math.Logic.{inl, inr}
use Rattle.std.proofs.Math.Dec.{T}
use Rattle.lists.specs.Lists.{keep, any, groups, In, nonzero}
use Rattle.lists.specs.ListLaws.{true_T, T_true, any_shuffle}
use Rattle.counting_tree.specs.Geometry.{Geometry}
use Rattle.counting_tree.specs.Paths.{counted_by, any_children}
use Rattle.cells_grid.specs.Cells.{core_members, core_cell, node, count}
use Rattle.clustering.specs.Clusters.{touches}

-- x and y are in one set after those of c and d are joined
abbrev pub OneAfter : (same : ℕ → ℕ → Bool) → ℕ → ℕ → ℕ → ℕ → Type 0
OneAfter same c d x y = T (same x y) ⊎ (T (same x c) × T (same d y)) ⊎ (T (same x d) × T (same c y))

-- ---- `PartitionVec`, by what it does to the sets: how it holds them, and which leader a union keeps, is left open
pub record Partition : Type 1 where
  pub State : Type 0
  -- `same_set`
  pub same : State → ℕ → ℕ → Bool
  -- `union`
  pub unite : ℕ → ℕ → State → State
  -- each cell in a set of its own
  pub start : State
  pub start_apart : (x y : ℕ) → T (same start x y) → x ≡ y
  pub same_self : (p : State) (x : ℕ) → T (same p x x)
  pub same_turn : (p : State) (x y : ℕ) → T (same p x y) → T (same p y x)
  pub same_join : (p : State) (x y z : ℕ) → T (same p x y) → T (same p y z) → T (same p x z)
  -- a union joins the two sets, and no others
  pub unite_joins : (c d : ℕ) (p : State) → T (same (unite c d p) c d)
  pub unite_keeps : (c d : ℕ) (p : State) (x y : ℕ) → T (same p x y) → T (same (unite c d p) x y)
  pub unite_only : (c d : ℕ) (p : State) (x y : ℕ) → T (same (unite c d p) x y) → OneAfter (same p) c d x y

-- ---- the loop
module _ (P : Partition) (is_core : ℕ → Bool) (touch : ℕ → ℕ → Bool) where
  -- "if !neighbour.is_core() || self.cells.same_set(*cell_i, n_index) { continue; }", else "union" if a core frame of cell c has a non-zero count in the tree of d
  abbrev pub visit : ℕ → ℕ → P.State → P.State
  visit c d p = cond (not (is_core d) || P.same p c d) p (cond (touch c d) (P.unite c d p) p)

  -- "for n_index in neighbours_indexes"
  abbrev pub inner : ℕ → List ℕ → P.State → P.State
  inner c [] p = p
  inner c (d ∷ ds) p = inner c ds (visit c d p)

  -- "for cell_i in self.table.values()", "if !self.cells[*cell_i].is_core() { continue; }"
  abbrev pub outer : (ℕ → List ℕ) → List ℕ → P.State → P.State
  outer lists [] p = p
  outer lists (c ∷ cs) p = outer lists cs (cond (is_core c) (inner c (lists c) p) p)

  -- ---- laws of the loop
  -- what each visit keeps, the loop keeps
  inner_rec : (Q : P.State → Type 0) (c : ℕ) (ds : List ℕ) → ((d : ℕ) → In d ds → (p : P.State) → Q p → Q (visit c d p)) → (p : P.State) → Q p → Q (inner c ds p)
  inner_rec Q c [] f p q = q
  inner_rec Q c (d ∷ ds) f p q = inner_rec Q c ds (λ e i. f e (inr i)) (visit c d p) (f d (inl refl) p q)

  pub outer_rec : (Q : P.State → Type 0) (lists : ℕ → List ℕ) (cs : List ℕ) → ((c d : ℕ) → In c cs → T (is_core c) → In d (lists c) → (p : P.State) → Q p → Q (visit c d p))
      → (p : P.State) → Q p → Q (outer lists cs p)
  outer_rec Q lists [] f p q = q
  outer_rec Q lists (c ∷ cs) f p q = outer_rec Q lists cs (λ b d i. f b d (inr i)) (cond (is_core c) (inner c (lists c) p) p) (go (is_core c) (λ h d. f c d (inl refl) h))
    where
      go : (b : Bool) → (T b → (d : ℕ) → In d (lists c) → (p : P.State) → Q p → Q (visit c d p)) → Q (cond b (inner c (lists c) p) p)
      go true h = inner_rec Q c (lists c) (h tt) p q
      go false h = q

  visit_keeps : (x y c d : ℕ) (p : P.State) → T (P.same p x y) → T (P.same (visit c d p) x y)
  visit_keeps x y c d p t = go (not (is_core d) || P.same p c d) (touch c d)
    where
      go : (a b : Bool) → T (P.same (cond a p (cond b (P.unite c d p) p)) x y)
      go true b = t
      go false true = P.unite_keeps c d p x y t
      go false false = t

  visit_joins : (c d : ℕ) (p : P.State) → T (is_core d) → T (touch c d) → T (P.same (visit c d p) c d)
  visit_joins c d p h k = go (is_core d) (P.same p c d) refl (touch c d) h k
    where
      go : (a b : Bool) → P.same p c d ≡ b → (e : Bool) → T a → T e → T (P.same (cond (not a || b) p (cond e (P.unite c d p) p)) c d)
      go true true q e h k = true_T q
      go true false q true h k = P.unite_joins c d p
      go true false q false h k = absurd k
      go false b q e h k = absurd h

  inner_joins : (c : ℕ) (ds : List ℕ) (p : P.State) (d : ℕ) → In d ds → T (is_core d) → T (touch c d) → T (P.same (inner c ds p) c d)
  inner_joins c [] p d i h k = absurd i
  inner_joins c (a ∷ ds) p d (inl e) h k = inner_rec (λ q. T (P.same q c d)) c ds (λ b i q. visit_keeps c d c b q) (visit c a p) (rw (← e) (visit_joins c d p h k))
  inner_joins c (a ∷ ds) p d (inr i) h k = inner_joins c ds (visit c a p) d i h k

  pub outer_joins : (lists : ℕ → List ℕ) (cs : List ℕ) (p : P.State) (c d : ℕ) → In c cs → T (is_core c) → In d (lists c) → T (is_core d) → T (touch c d) → T (P.same (outer lists cs p) c d)
  outer_joins lists [] p c d i h j k t = absurd i
  outer_joins lists (a ∷ cs) p c d (inl e) h j k t =
      outer_rec (λ q. T (P.same q c d)) lists cs (λ x y i m n q. visit_keeps c d x y q) (cond (is_core a) (inner a (lists a) p) p)
      (rw (← e, T_true (is_core c) h) (inner_joins c (lists c) p d j k t))
  outer_joins lists (a ∷ cs) p c d (inr i) h j k t = outer_joins lists cs (cond (is_core a) (inner a (lists a) p) p) c d i h j k t

  -- a relation that holds wherever a pair is united holds in each set
  module _ (R : ℕ → ℕ → Type 0) (turn : (x y : ℕ) → R x y → R y x) (join : (x y z : ℕ) → R x y → R y z → R x z) where
    pub visit_sound : (c d : ℕ) (p : P.State) → (T (is_core d) → T (touch c d) → R c d) → ((x y : ℕ) → T (P.same p x y) → R x y) → (x y : ℕ) → T (P.same (visit c d p) x y) → R x y
    visit_sound c d p f s x y = go (is_core d) (P.same p c d) (touch c d) f
      where
        go : (a b e : Bool) → (T a → T e → R c d) → T (P.same (cond (not a || b) p (cond e (P.unite c d p) p)) x y) → R x y
        go true true e f t = s x y t
        go true false true f t = elim (P.unite_only c d p x y t) [
          | inl h ↦ s x y h
          | inr (inl h) ↦ join x c y (s x c h.0) (join c d y (f tt tt) (s d y h.1))
          | inr (inr h) ↦ join x d y (s x d h.0) (join d c y (turn c d (f tt tt)) (s c y h.1))
        ]
        go true false false f t = s x y t
        go false b e f t = s x y t

-- ---- the loop on the cells of a run
module _ (g : Geometry) where
  -- whether a core frame of c has a non-zero count in d's tree, where the nodes of that tree have their children in the order of `children d`
  unfoldable pub touches_by : (children : ℕ → ℕ → List ℕ → List (List ℕ)) → ℕ → ℕ → Bool
  touches_by children c d = any (λ p. nonzero (length (counted_by (children d) (g.box p) g.levels 0 (core_members g d)))) (core_members g c)

  -- each cell in a set of its own, then the loop: cells in the order of `order`, the list of each in that of `lists`
  unfoldable pub united : (P : Partition) → (children : ℕ → ℕ → List ℕ → List (List ℕ)) → (order : List ℕ) → (lists : ℕ → List ℕ) → P.State
  united P children order lists = outer P (core_cell g) (touches_by children) lists order P.start

  -- `children` has the children of each node, in any order
  abbrev pub Children : (ℕ → ℕ → List ℕ → List (List ℕ)) → Type 0
  Children children = (d l : ℕ) (xs s : List ℕ) → In s (children d l xs) ↔ In s (groups (g.same l) xs)

  pub touches_by_lem : (children : ℕ → ℕ → List ℕ → List (List ℕ)) → Children children → (c d : ℕ) → touches_by children c d ≡ touches g c d
  unfolding touches_by touches count node
  touches_by_lem children kids c d =
      any_shuffle (λ p. nonzero (length (counted_by (children d) (g.box p) g.levels 0 (core_members g d)))) (λ p. nonzero (count g p d)) (core_members g c) (core_members g c)
      (λ p i. any_children g.same (g.box p) (children d) (kids d) g.levels 0 (core_members g d)) (λ p. (λ i. i, λ i. i))

  -- the sets with a core cell
  abbrev pub core_sets : List (List ℕ) → List (List ℕ)
  core_sets sets = keep (any (core_cell g)) sets
