-- Laws of the trees of the core cells: their nodes fit, what the words of one tree are, where a tree stands among all, and what words that hold them say.
use Rattle.std.specs.Prelude.{◌≡◌, Bool, ◌||◌, eqb, leb, ltb, take, drop, get_or}
use Rattle.std.proofs.Math.Path.{refl, ap}
use Rattle.std.proofs.Common.{sym, subst, ◌∙◌, arith, le_refl, le_trans, mul-le-mul, mul-le-mul_right, add-one, length-take, length-drop, drop_at, take_at}
use Rattle.std.proofs.Math.Logic.{inl, inr}
use Rattle.std.proofs.Math.Bool.{true, false, cond}
use mathlib.Core.List.{List, [], ◌∷◌, ◌++◌, append-nil, append_assoc}
use Prim.Native.Nat.{ℕ, zero, suc, ◌+◌, ◌*◌, ◌<◌, ◌≤◌, zero-le}
use borrow.Author.Tests.{lt-ltb, le-ltb, ltb-true}
use Rattle.std.proofs.Math.Dec.{ltb→lt, nltb→le}
use Rattle.std.proofs.Math.ListN.{length, length-append, take-append-drop}
use Rattle.lists.specs.Lists.{keep, Below, nonzero}
use Rattle.lists.specs.Words.{over, part, column}
use Rattle.lists.specs.ListLaws.{true_T, nonzero_true, T_or_not, keep_same, length_numbers}
use Rattle.lists.specs.CountLaws.{keep_le}
use Rattle.lists.proofs.WordLaws.{over_length}
use Rattle.lists.proofs.PartLaws.{part_under, part_above, part_same, holds_at}
use Rattle.hyperparams.specs.Params.{max_frames}
use Rattle.counting_tree.specs.declared.IntersectionType.{IntersectionType}
use Rattle.counting_tree.specs.declared.IntersectionType.TheVariants.{Disjoint, FullyCovered, Intersecting}
use Rattle.counting_tree.specs.Tree.{by_box, counted}
use Rattle.counting_tree.specs.Geometry.{Geometry}
use Rattle.cells_grid.specs.Cells.{members, cells, core, core_members, core_cell, node}
use Rattle.cells_grid.specs.Lawful.{Lawful}
use Rattle.cells_grid.proofs.CellLaws.{in_member, in_core}
use Rattle.cells_grid.specs.Arrangement.{cell_at, start_at, Cored}
use Rattle.cells_grid.specs.Places.{end_in}
use Rattle.cells_grid.proofs.ArrangementLaws.{start_next, start_le, cells_le, cell_places, core_word, cored_over}
use Rattle.tree_structure.specs.Encode.{size, encode, TreeAt, encode_length, size_le}
use Rattle.tree_structure.specs.Work.{max_levels, max_nodes}
use Rattle.tree_structure.proofs.Levels.{size_pos}
use Rattle.core_cells.specs.Forest.{core_among, is_marked, path_limit, tree_frames, is_core, is_large, tree_size, tree_words, nodes_to, forest_to, tree_word, Grown}
use Rattle.core_cells.specs.HasTrees.{Holds}

-- a run never takes a number below 64
pub limit_least : (levels n k : ℕ) → 64 ≤ path_limit levels n k
unfolding path_limit
limit_least levels n k = go (leb levels 1 || (leb k 1 || leb (16 * k) n))
  where
    go : (b : Bool) → 64 ≤ cond b max_frames 64
    go true = omega arith
    go false = omega arith

-- ---- no frames, no count
by_box_nil : (v : IntersectionType) → by_box v [] [] ≡ []
by_box_nil Disjoint = refl
by_box_nil FullyCovered = refl
by_box_nil Intersecting = refl

counted_nil : (same : ℕ → ℕ → ℕ → Bool) (box : ℕ → ℕ → IntersectionType) (k l : ℕ) → counted same box k l [] ≡ []
unfolding counted
counted_nil same box zero l = by_box_nil (box l 0)
counted_nil same box (suc k) l = by_box_nil (box l 0)

nil : (xs : List ℕ) → nonzero (length xs) ≡ false → xs ≡ []
nil [] e = refl
nil (x ∷ xs) e = absurd (true_T (sym e))

module _ (g : Geometry) where
  -- ---- the core frames of one cell
  pub frames_below : (c : ℕ) → Below g.frames (tree_frames g c)
  frames_below c x i = (in_core g (cell_at g c) x i).0

  pub frames_le : (c : ℕ) → length (tree_frames g c) ≤ length (members g (cell_at g c))
  unfolding core_members
  frames_le c = keep_le (core g) (members g (cell_at g c))

  pub core_frames : (c : ℕ) → is_core g c ≡ nonzero (length (tree_frames g c))
  unfolding core_cell
  core_frames c = refl

  module _ (c : ℕ) (e : is_core g c ≡ false) where
    pub no_core_frames : tree_frames g c ≡ []
    no_core_frames = nil (tree_frames g c) (sym (core_frames c) ∙ e)

    pub no_core_word : (few : ℕ) → tree_word g few c ≡ 0
    unfolding tree_word
    no_core_word few = rw e

    pub no_tree_node : (q : ℕ) → node g q (cell_at g c) ≡ []
    unfolding node
    no_tree_node q = ap (counted g.same (g.box q) g.levels 0) no_core_frames ∙ counted_nil g.same (g.box q) g.levels 0

  module _ (few : ℕ) where
    -- ---- the tree of one cell
    pub word_core : (c : ℕ) → nonzero (tree_word g few c) ≡ is_core g c
    unfolding tree_word
    word_core c = go (is_core g c) (is_large g few c)
      where
        go : (b l : Bool) → nonzero (cond b (cond l (2 + nodes_to g few c) 1) 0) ≡ b
        go true true = nonzero_true (2 + nodes_to g few c) (λ z. omega arith)
        go true false = refl
        go false l = refl

    pub word_large : (c : ℕ) → 1 < tree_word g few c → few < length (tree_frames g c)
    unfolding tree_word
    word_large c h = ltb-true few (length (tree_frames g c)) (go (is_core g c) (is_large g few c) h)
      where
        go : (b l : Bool) → 1 < cond b (cond l (2 + nodes_to g few c) 1) 0 → l ≡ true
        go true true h = refl
        go true false h = absurd (omega arith)
        go false l h = absurd (omega arith)

    module _ (c : ℕ) (s : length (tree_frames g c) ≤ few) where
      small : is_large g few c ≡ false
      small = le-ltb few (length (tree_frames g c)) s

      pub small_word : is_core g c ≡ true → tree_word g few c ≡ 1
      unfolding tree_word
      small_word e = rw (e, small)

      pub small_words : tree_words g few c ≡ []
      unfolding tree_words
      small_words = rw small

      pub small_size : tree_size g few c ≡ 0
      unfolding tree_size
      small_size = rw small

    module _ (c : ℕ) (h : few < length (tree_frames g c)) where
      large : is_large g few c ≡ true
      large = lt-ltb few (length (tree_frames g c)) h

      pub tree_word_lem : tree_word g few c ≡ 2 + nodes_to g few c
      unfolding tree_word
      tree_word_lem =
          let e : is_core g c ≡ true = core_frames c ∙ nonzero_true (length (tree_frames g c)) (λ z. omega arith) in
          rw (e, large)

      pub tree_words_lem : tree_words g few c ≡ encode g.same g.levels 0 (tree_frames g c)
      unfolding tree_words
      tree_words_lem = rw large

      pub tree_size_lem : tree_size g few c ≡ size g.same g.levels 0 (tree_frames g c)
      unfolding tree_size
      tree_size_lem = rw large

    pub tree_length : (c : ℕ) → length (tree_words g few c) ≡ 4 * tree_size g few c
    unfolding tree_words tree_size
    tree_length c = go (is_large g few c)
      where
        go : (b : Bool) → length (cond b (encode g.same g.levels 0 (tree_frames g c)) []) ≡ 4 * cond b (size g.same g.levels 0 (tree_frames g c)) 0
        go true = encode_length g.same g.levels 0 (tree_frames g c)
        go false = refl

    size_fits : (c : ℕ) → tree_size g few c ≤ length (members g (cell_at g c)) * (g.levels + 1)
    size_fits c = elim (T_or_not (is_large g few c)) [
      | inl t ↦
          let h = ltb→lt few (length (tree_frames g c)) t in
          omega (arith, tree_size_lem c h, size_le g.same g.levels 0 (tree_frames g c) (omega arith), mul-le-mul_right (g.levels + 1) (frames_le c))
      | inr f ↦ omega (arith, small_size c (nltb→le few (length (tree_frames g c)) f))
    ]

    size_fewer : (more : ℕ) → few ≤ more → (c : ℕ) → tree_size g more c ≤ tree_size g few c
    unfolding tree_size
    size_fewer more h c = elim (T_or_not (is_large g more c)) [
      | inl t ↦
          let l = ltb→lt more (length (tree_frames g c)) t in
          rw (lt-ltb more (length (tree_frames g c)) l, lt-ltb few (length (tree_frames g c)) (omega arith)) (le_refl (size g.same g.levels 0 (tree_frames g c)))
      | inr f ↦ rw (le-ltb more (length (tree_frames g c)) (nltb→le more (length (tree_frames g c)) f)) zero-le
    ]

    -- ---- the trees of all cells
    pub forest_length : (c : ℕ) → length (forest_to g few c) ≡ 4 * nodes_to g few c
    unfolding forest_to nodes_to
    forest_length zero = refl
    forest_length (suc c) = length-append (forest_to g few c) (tree_words g few c) ∙ omega (arith, forest_length c, tree_length c)

    pub forest_next : (c : ℕ) → forest_to g few (c + 1) ≡ forest_to g few c ++ tree_words g few c
    unfolding forest_to
    forest_next c = ap (forest_to g few) (add-one c)

    pub nodes_next : (c : ℕ) → nodes_to g few (c + 1) ≡ nodes_to g few c + tree_size g few c
    unfolding nodes_to
    nodes_next c = ap (nodes_to g few) (add-one c)

    -- the tree of the cell with number c among those of the first k cells
    pub forest_split : (c k : ℕ) → c < k → (R : List ℕ) × (forest_to g few k ≡ forest_to g few c ++ (tree_words g few c ++ R))
    unfolding forest_to
    forest_split c zero h = absurd (omega arith)
    forest_split c (suc k) h = elim (T_or_not (ltb c k)) [
      | inl t ↦
          let z = forest_split c k (ltb→lt c k t) in
          (z.0 ++ tree_words g few k, ap (λ (l : List ℕ). l ++ tree_words g few k) z.1 ∙ simp append_assoc)
      | inr f ↦
          let e : k ≡ c = omega (arith, nltb→le c k f) in
          ([], rw (e, append-nil))
    ]

    -- a larger number leaves no more nodes
    pub nodes_fewer : (more : ℕ) → few ≤ more → (c : ℕ) → nodes_to g more c ≤ nodes_to g few c
    unfolding nodes_to
    nodes_fewer more h zero = zero-le
    nodes_fewer more h (suc c) = omega (arith, nodes_fewer more h c, size_fewer more h c)

    -- at most a node for each frame of these cells and level
    nodes_start : (c : ℕ) → c ≤ length (cells g) → nodes_to g few c ≤ start_at g c * (g.levels + 1)
    unfolding nodes_to
    nodes_start zero h = zero-le
    nodes_start (suc c) h =
        let e : start_at g (suc c) ≡ start_at g c + length (members g (cell_at g c)) = ap (start_at g) (sym (add-one c)) ∙ start_next g c h in
        rw e (omega (arith, nodes_start c (omega arith), size_fits c))

    pub nodes_fit : Lawful g → (c : ℕ) → c ≤ length (cells g) → nodes_to g few c ≤ g.frames * (g.levels + 1)
    nodes_fit L c h = omega (arith, nodes_start c h, mul-le-mul_right (g.levels + 1) (start_le g L c h))

    -- so their number fits a word
    pub nodes_most : Lawful g → g.frames ≤ max_frames → g.levels ≤ max_levels → (c : ℕ) → c ≤ length (cells g) → nodes_to g few c ≤ max_nodes
    nodes_most L most low c h = le_trans (nodes_fit L c h) (mul-le-mul {n₂ = max_frames} {m₂ = max_levels + 1} most (omega arith))

-- ---- what words that hold them say
module _ {g : Geometry} {k few : ℕ} {w u : List ℕ} (H : Holds g k w u few) {n : ℕ} (e : g.frames ≡ n) where
  words : part w (5 * n) k ≡ column (tree_word g few) k
  words = ap (λ (x : ℕ). part w (5 * x) k) (sym e) ∙ H.trees

  pub word_room : (c : ℕ) → c < k → 5 * n + c < length w
  word_room c h = omega (arith, ap length words, length-take k (drop (5 * n) w), length-drop (5 * n) w, length_numbers (tree_word g few) k)

  pub word_at : (c : ℕ) → c < k → get_or w (5 * n + c) 0 ≡ tree_word g few c
  word_at c h = holds_at w (5 * n) k (tree_word g few) c words h

  pub is_core_cell : (c : ℕ) → c < k → nonzero (get_or w (5 * n + c) 0) ≡ core_cell g (cell_at g c)
  is_core_cell c h = ap nonzero (word_at c h) ∙ word_core g few c

  -- the nodes from those of c's tree on
  nodes_at : (c : ℕ) → c < k → (R : List ℕ) × (drop (4 * nodes_to g few c) u ≡ tree_words g few c ++ R)
  nodes_at c h =
      let A = forest_to g few k in
      let F = forest_to g few c in
      let W = tree_words g few c in
      let z = forest_split g few c k h in
      let V = drop (length A) u in
      let p : u ≡ F ++ ((W ++ z.0) ++ V) = sym (take-append-drop (length A) u) ∙ ap (λ (l : List ℕ). l ++ V) (H.forest ∙ z.1) ∙ append_assoc F (W ++ z.0) V in
      (z.0 ++ V, ap (drop (4 * nodes_to g few c)) p ∙ drop_at F ((W ++ z.0) ++ V) (4 * nodes_to g few c) (forest_length g few c) ∙ append_assoc W z.0 V)

  module _ (c : ℕ) (h : c < k) (l : few < length (tree_frames g c)) where
    pub tree_inside : 4 * nodes_to g few c ≤ length u
    tree_inside =
        let z = nodes_at c h in
        let m = length-append (tree_words g few c) z.0 in
        omega (arith, length-drop (4 * nodes_to g few c) u, ap length z.1, m, tree_length g few c, tree_size_lem g few c l, size_pos g.same g.levels 0 (tree_frames g c))

    pub tree_at : TreeAt g.same n (drop (4 * nodes_to g few c) u) 0 g.levels 0 (tree_frames g c)
    tree_at =
        let z = nodes_at c h in
        record {
          node = record { some = omega arith; below = subst (λ (x : ℕ). Below x (tree_frames g c)) e (frames_below g c) };
          words = rw (← tree_words_lem g few c l) (ap (take (length (tree_words g few c))) z.1 ∙ take_at (tree_words g few c) z.0 (length (tree_words g few c)) refl);
        }

-- words that hold both, in one list
module _ {g : Geometry} {k : ℕ} {w : List ℕ} (gr : Grown g k w) {n : ℕ} (e : g.frames ≡ n) where
  -- words laid from 6n up to 16n keep it
  pub grown_over : (b : ℕ) (ws : List ℕ) → 6 * n ≤ b → b + length ws ≤ 16 * n → b ≤ length w → Grown g k (over w b ws)
  grown_over b ws h l f = record {
    few = gr.few;
    cored = cored_over g b ws (omega arith) f gr.cored;
    trees = part_under w (5 * g.frames) k b ws (omega (arith, gr.cored.cells.count, cells_le g)) f ∙ gr.trees;
    forest = part_above w (16 * g.frames) (length (forest_to g gr.few k)) b ws (omega arith) f ∙ gr.forest;
  }

pub cell_below : (g : Geometry) (i : ℕ) {n : ℕ} → g.frames ≡ n → Below n (members g i)
cell_below g i e x m = omega (arith, (in_member g i x m).0)

-- those of a cell's frames that words say are core are those of its tree
pub marked_core : {g : Geometry} {k : ℕ} {w : List ℕ} → Cored g k w → {n : ℕ} → g.frames ≡ n → (c : ℕ) (us : List ℕ) → ((i : ℕ) → i < n → get_or us (4 * n + i) 0 ≡ get_or w (4 * n + i) 0)
    → {xs : List ℕ} → xs ≡ members g (cell_at g c) → keep (is_marked us n) xs ≡ tree_frames g c
unfolding core_members
marked_core {g} {k} {w} C {n} e c us same ex =
    ap (keep (is_marked us n)) ex
    ∙ keep_same (is_marked us n) (core g) (members g (cell_at g c))
    (λ i j. let l = cell_below g (cell_at g c) e i j in ap (λ (y : ℕ). eqb y 1) (same i l) ∙ core_word g C n e i l)

-- the core frames among a cell's places are those of its tree
pub among_core : {g : Geometry} {k : ℕ} {w : List ℕ} → Lawful g → Cored g k w → {n : ℕ} → g.frames ≡ n → (c : ℕ) → c < k
    → {from to : ℕ} → from ≡ get_or w (2 * n + c) 0 → to ≡ end_in w n k c → core_among w n from to ≡ tree_frames g c
unfolding core_among
among_core {g} {k} {w} L C {n} e c h ef et = marked_core C e c w (λ i j. refl) (cell_places g L C.cells n e c h ef et)

-- what `build_trees` lays holds them
pub grown : {g : Geometry} {k : ℕ} {w : List ℕ} → Cored g k w → {n : ℕ} → g.frames ≡ n → 16 * n ≤ length w → (few : ℕ)
    → Grown g k (over (over w (5 * n) (column (tree_word g few) k)) (16 * n) (forest_to g few k))
grown {g} {k} {w} C {n} e h few =
    let C₁ = column (tree_word g few) k in
    let F = forest_to g few k in
    let w₁ = over w (5 * n) C₁ in
    let lk : k ≤ n = omega (arith, C.cells.count, cells_le g) in
    let lc : length C₁ ≡ k = length_numbers (tree_word g few) k in
    let l₁ : length w₁ ≡ length w = over_length w (5 * n) C₁ (omega arith) in
    record {
      few = few;
      cored = cored_over g (16 * n) F (omega arith) (omega arith) (cored_over g (5 * n) C₁ (omega arith) (omega arith) C);
      trees = ap (λ (x : ℕ). part (over w₁ (16 * n) F) (5 * x) k) e
          ∙ part_under w₁ (5 * n) k (16 * n) F (omega arith) (omega arith) ∙ part_same w (5 * n) k C₁ (omega arith) lc;
      forest = ap (λ (x : ℕ). part (over w₁ (16 * n) F) (16 * x) (length F)) e
          ∙ part_same w₁ (16 * n) (length F) F (omega arith) refl;
    }
