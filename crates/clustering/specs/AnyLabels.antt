-- The labels of the source's `transform`, in whatever order it takes cells, lists, children and sets, are those of the definition
-- "up to the numbering of clusters and the choice among a border frame's clusters, which document 01 fixes" (mission, demand 2).
use Rattle.std.specs.Prelude.{◌≡◌, ◌↔◌, not, cond, ℕ, ◌<◌, T}
use mathlib.Core.List.Permᴰ
use mathlib.Core.List.{List, Permᴰ}
use Rattle.std.proofs.Math.Option.{Option, none, some, map}
use Rattle.lists.specs.Lists.{keep, groups, In}
use Rattle.lists.specs.ListLaws.{keep_in, in_keep}
use Rattle.lists.proofs.GroupLaws.{groups_in_lem, group_is}
use Rattle.counting_tree.specs.Geometry.{Geometry}
use Rattle.cells_grid.specs.Cells.{members, first, cells, list, core, core_members}
use Rattle.clustering.specs.Clusters.{place, clusters, touched, label_by}
use Rattle.clustering.specs.Clusters as Clusters
use Rattle.clustering.specs.AnyOrder.{Partition, united, Children, core_sets}
use Rattle.clustering.specs.AnyList.{search, core_by, counts_by}

module _ (g : Geometry) where
  -- ---- what the source leaves open
  pub record Orders : Type 1 where
    -- "pub type CellVector<F> = PartitionVec<Cell<F>>"
    pub partition : Partition
    -- the children of a node of the tree of a cell
    pub children : ℕ → ℕ → List ℕ → List (List ℕ)
    pub children_all : Children g children
    -- "for cell_i in self.table.values()"
    pub order : List ℕ
    pub order_all : (c : ℕ) → In c order ↔ In c (cells g)
    -- "let neighbors = nn.within_range(spatial_index, range).unwrap();", of each cell
    pub lists : ℕ → List ℕ
    pub lists_all : (c : ℕ) → Permᴰ (lists c) (list g c)
    -- "for set in grid.cells_mut().all_sets_mut()", after `unite_neighbouring_cells`: each cell is in a set, and two are in one set as `same_set` says
    pub sets : List (List ℕ)
    pub sets_all : (c : ℕ) → In c (cells g) → (s : List ℕ) × In s sets × In c s
    pub sets_exact : (s : List ℕ) → In s sets → (c d : ℕ) → In c (cells g) → In d (cells g) → In c s → In d s ↔ T (partition.same (united g partition children order lists) c d)

  -- there is one with cells and lists in ascending order, whatever holds the sets
  abbrev pub ascending_orders : Partition → Orders
  ascending_orders P =
      let kids : ℕ → ℕ → List ℕ → List (List ℕ) = λ d l. groups (g.same l) in
      let end = united g P kids (cells g) (list g) in
      let one = P.same end in
      record {
        partition = P;
        children = kids;
        children_all = λ d l xs s. (λ i. i, λ i. i);
        order = cells g;
        order_all = λ c. (λ i. i, λ i. i);
        lists = list g;
        lists_all = λ c. Permᴰ.refl (list g c);
        sets = groups one (cells g);
        sets_all = λ c i. groups_in_lem one c (cells g) i;
        sets_exact = λ s k c d i j m.
            let e = group_is one (P.same_self end) (P.same_turn end) (P.same_join end) c s (cells g) k m in
            (λ n. (in_keep (one c) d (cells g) (rw e at n)).1, λ t. rw e (keep_in (one c) d (cells g) j t));
      }

  -- ---- the labels
  -- of the definition
  abbrev pub our_number : ℕ → ℕ
  our_number c = place c (clusters g)

  abbrev pub our_labels : ℕ → ℕ
  our_labels = label_by g our_number

  -- of the source
  module _ (O : Orders) where
    -- `label_connected_components`: "cell.assign_to_cluster(current_cluster_i, ..)" for the core cells of a set, and "if core_cells_count > 0 { current_cluster_i += 1; }"
    abbrev pub source_number : ℕ → ℕ
    source_number c = place c (core_sets g O.sets)

    -- "cell.neighbours_indexes()" of frame i's cell
    abbrev pub neighbours : ℕ → List ℕ
    neighbours i = O.lists (first g i)

    -- the cell whose number frame i gets, where its cell's list is cs: its own, "for s_point in self.points.iter().filter(|p| p.is_core) { labels[s_point.point_index] = Some(cluster_i); }";
    -- or for "filter(|x| !x.is_core())" the neighbour at which `label_border_noise_points` stops, "clusters[cp_index] = Some(neighbour.cluster_i()..); break 'nbrs;"
    abbrev pub chosen : (cs : List ℕ) → ℕ → Option ℕ
    chosen cs i = cond (core_by g cs i) (some (first g i)) (search (counts_by g O.children i) cs)

    -- "let mut labels = Array1::from_elem(observations.dim().0, None);", then the two loops
    abbrev pub source_labels : ℕ → Option ℕ
    source_labels i = map source_number (chosen (neighbours i) i)

    -- the two are the same up to the numbering and the choice for border frames
    pub record SameLabels : Type 0 where
      -- the frames with "s_point.is_core = true" are the core frames,
      pub same_core : (i : ℕ) → i < g.frames → core_by g (neighbours i) i ≡ core g i
      -- so each tree is of the frames that we take: "root: TreeStructure::build_structure(core_points, params)"
      pub same_trees : (c : ℕ) → keep (λ i. core_by g (neighbours i) i) (members g c) ≡ core_members g c
      -- a frame has no label exactly if it has none of ours
      pub none_exactly : (i : ℕ) → i < g.frames → (source_labels i ≡ none) ↔ (our_labels i ≡ Clusters.none)
      -- two core frames share the source's number exactly if they share ours
      pub core_frames : (i j : ℕ) → i < g.frames → j < g.frames → T (core g i) → T (core g j) → (source_labels i ≡ source_labels j) ↔ (our_labels i ≡ our_labels j)
      -- a border frame has the number of one of the cells that we choose from
      pub border_frames : (i n : ℕ) → i < g.frames → T (not (core g i)) → source_labels i ≡ some n → (c : ℕ) × In c (touched g i) × (source_number c ≡ n)
      -- where lists are ascending, as in `ascending_orders`, it is the one that we choose: any two frames share the source's label exactly if they share ours
      pub ascending : ((c : ℕ) → O.lists c ≡ list g c) → (i j : ℕ) → i < g.frames → j < g.frames → (source_labels i ≡ source_labels j) ↔ (our_labels i ≡ our_labels j)
