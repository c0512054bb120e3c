-- Laws of links and clusters: links go either way, two core cells have one number exactly if a chain of links joins them, and numbers go from 0 by lowest cell.
use Rattle.std.specs.Prelude.{◌≡◌, ◌↔◌, Bool, true, false, not, ◌||◌, cond, List, [], ◌∷◌, ℕ, ◌≤◌, ◌<◌, T, length}
use Rattle.std.proofs.Math.Bool.{or_comm}
use Rattle.std.proofs.Math.Nat.{le_trans}
use Rattle.std.proofs.Common.{le_of_eq}
use Rattle.lists.specs.Lists.{numbers, head_or, In, nonzero}
use Rattle.lists.specs.ListLaws.{cond_true, cond_false, keep_in, in_keep, head_in, length_from}
use Rattle.lists.specs.CountLaws.{keep_le}
use Rattle.counting_tree.specs.Geometry.{Geometry}
use Rattle.cells_grid.specs.Cells.{first, is_cell, cells, listed, list, core, core_cell, core_cells, count}
use Rattle.cells_grid.specs.Lawful.{Lawful}
use Rattle.cells_grid.proofs.CellLaws.{in_list, list_in_lem, listed_turn, core_cells_ascending}
use Rattle.clustering.specs.Clusters.{place, border_label, border_kind, touches, linked, clusters, touched, label_by, kind_of}
use Rattle.clustering.specs.Sets as Sets
use Rattle.clustering.specs.Sets.{Joined, inside, joined, connected_le, in_sets, sets_in, one_number, number_joins, ranked, some_place, rank_place}

cond_and : (a b : Bool) → T (cond a b false) → T a × T b
cond_and true b t = (tt, t)
cond_and false b t = absurd t

and_cond : (a b : Bool) → T a → T b → T (cond a b false)
and_cond true b h k = k
and_cond false b h k = h

module _ (g : Geometry) where
  pub parts_linked : (c d : ℕ) → T (listed g c d) → T (touches g c d || touches g d c) → T (linked g c d)
  unfolding linked
  parts_linked c d h k = and_cond (listed g c d) (touches g c d || touches g d c) h k

  pub linked_parts : (c d : ℕ) → T (linked g c d) → T (listed g c d) × T (touches g c d || touches g d c)
  unfolding linked
  linked_parts c d t = cond_and (listed g c d) (touches g c d || touches g d c) t

  -- a chain of links joins two core cells
  abbrev pub Linked : ℕ → ℕ → Type 0
  Linked = Joined (linked g) (core_cells g)

  -- ---- the listed cells in which a frame has a non-zero count
  pub touched_in : (q c : ℕ) → In c (cells g) → T (listed g q c) → T (nonzero (count g q c)) → In c (touched g q)
  unfolding touched
  touched_in q c i l n = keep_in (λ d. nonzero (count g q d)) c (list g q) (list_in_lem g q c i l) n

  pub in_touched : (q c : ℕ) → In c (touched g q) → In c (cells g) × T (listed g q c) × T (nonzero (count g q c))
  unfolding touched
  in_touched q c i =
      let z = in_keep (λ d. nonzero (count g q d)) c (list g q) i in
      let w = in_list g q c z.0 in
      (w.0, w.1, z.1)

  -- ---- labels and kinds: "65,535 for none", "0 noise, 1 border, 2 core"
  module _ (cluster : ℕ → ℕ) (q : ℕ) where
    pub core_label : T (core g q) → (label_by g cluster q ≡ cluster (first g q)) × (kind_of g q ≡ 2)
    unfolding label_by kind_of
    core_label c = (cond_true (core g q) (cluster (first g q)) (border_label cluster (touched g q)) c, cond_true (core g q) 2 (border_kind (touched g q)) c)

    other_label : T (not (core g q)) → (cs : List ℕ) → touched g q ≡ cs → (label_by g cluster q ≡ border_label cluster cs) × (kind_of g q ≡ border_kind cs)
    unfolding label_by kind_of
    other_label n cs e = rw (← e) (cond_false (core g q) (cluster (first g q)) (border_label cluster (touched g q)) n, cond_false (core g q) 2 (border_kind (touched g q)) n)

    pub border_label_lem : T (not (core g q)) → (c : ℕ) (cs : List ℕ) → touched g q ≡ c ∷ cs → (label_by g cluster q ≡ cluster c) × (kind_of g q ≡ 1)
    border_label_lem n c cs e = other_label n (c ∷ cs) e

    pub noise_label : T (not (core g q)) → touched g q ≡ [] → (label_by g cluster q ≡ 65535) × (kind_of g q ≡ 0)
    noise_label n e = other_label n [] e

  -- ---- there are no more clusters than frames, and each number is one of them
  pub few_clusters : length (clusters g) ≤ g.frames
  unfolding clusters core_cells cells
  few_clusters =
      le_trans (connected_le (linked g) (core_cells g)) (le_trans (keep_le (core_cell g) (cells g)) (le_trans (keep_le (is_cell g) (numbers g.frames)) (le_of_eq (length_from 0 g.frames))))

  pub number_low : (c : ℕ) → In c (core_cells g) → place c (clusters g) < length (clusters g)
  unfolding clusters
  number_low c i = Sets.number_low (linked g) (core_cells g) c i

  -- "numbered from 0": each number below the number of clusters is some core cell's
  pub each_number : (k : ℕ) → k < length (clusters g) → (c : ℕ) × In c (core_cells g) × (place c (clusters g) ≡ k)
  unfolding clusters
  each_number k h =
      let z = some_place (clusters g) (ranked (linked g) (core_cells g) (core_cells_ascending g)) k h in
      (z.0, sets_in (linked g) (core_cells g) z.0 z.1, z.2)

  -- the lowest cell of c's cluster is lower than each cell of d's
  pub record Lower (c d : ℕ) : Type 0 where
    pub lowest : ℕ
    pub is_core_cell : In lowest (core_cells g)
    pub same_set : place lowest (clusters g) ≡ place c (clusters g)
    pub below : (f : ℕ) → In f (core_cells g) → place f (clusters g) ≡ place d (clusters g) → lowest < f

  module _ (L : Lawful g) where
    pub link_turn : (c d : ℕ) → T (linked g c d) → T (linked g d c)
    link_turn c d t = let z = linked_parts c d t in parts_linked d c (listed_turn g L c d z.0) (rw (or_comm (touches g d c) (touches g c d)) z.1)

    -- "Clusters are the connected sets of linked core cells"
    pub same_cluster : (c d : ℕ) → In c (core_cells g) → In d (core_cells g) → (place c (clusters g) ≡ place d (clusters g)) ↔ Linked c d
    unfolding clusters
    same_cluster c d i j = (number_joins (linked g) link_turn (core_cells g) c d i j, one_number (linked g) link_turn (core_cells g) c d)

    -- "by lowest cell number"
    pub by_lowest_lem : (c d : ℕ) → In c (core_cells g) → In d (core_cells g) → place c (clusters g) < place d (clusters g) → Lower c d
    unfolding clusters
    by_lowest_lem c d i j l =
        let link = linked g in
        let cs = core_cells g in
        let z = rank_place (clusters g) (ranked link cs (core_cells_ascending g)) c d (in_sets link cs c i) (in_sets link cs d j) l in
        let m = head_in 0 c z.0 z.2 in
        record {
          lowest = head_or 0 z.0;
          is_core_cell = inside link cs z.0 z.1 (head_or 0 z.0) m;
          same_set = one_number link link_turn cs (head_or 0 z.0) c (joined link link_turn cs z.0 z.1 (head_or 0 z.0) c m z.2);
          below = λ f k e. z.3 f (in_sets link cs f k) e;
        }
