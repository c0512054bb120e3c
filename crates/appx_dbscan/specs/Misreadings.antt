-- Document 01, "Misreadings that the first draft will have": each as an answer that a run might give, and a small input on which its labels are wrong.
use Rattle.std.specs.Prelude.{◌≡◌, refl, Bool, false, ◌||◌, List, [], ◌∷◌, map, ℕ, ◌*◌, ℤ, pos, neg_ℤ, ltb, length, Float}
use Rattle.std.proofs.Math.Bool.{cond}
use Rattle.std.proofs.Math.Dec.{leb}
use Rattle.std.specs.Float.{binary64}
use Rattle.std.specs.Float.Ieee.{neg, add, div, of_int}
use Rattle.lists.specs.Lists.{keep, any, nonzero}
use Rattle.lists.specs.Words.{column}
use Rattle.ieee754.specs.Ceil.{ceil}
use Rattle.hyperparams.specs.declared.ValidParams.{ValidParams}
use Rattle.hyperparams.specs.Params.{whole_tolerance, slack_power, appx_tolerance_of}
use Rattle.counting_tree.specs.Frames.{Frame, squared, floats}
use Rattle.counting_tree.specs.Grid.{half, indexes, centre}
use Rattle.counting_tree.specs.Box.{intersection}
use Rattle.counting_tree.specs.Tree.{counted}
use Rattle.counting_tree.specs.Geometry.{Geometry, geometry_of, same_ints, side, frame}
use Rattle.cells_grid.specs.Cells.{first, members, listed, list, core, core_members, core_cell, core_cells, node, count}
use Rattle.clustering.specs.Clusters.{connected, place, clusters, touches, linked, touched, border_label, label_by, none}
use Rattle.appx_dbscan.specs.Transform.{transform_of}
use Rattle.appx_dbscan.specs.Small.{minus, valid, frames, grid, valid_j, frames_j, differ_at}

-- ---- "Listing by cell index instead of first frame": case (j) becomes one cluster
module _ (v : ValidParams) (fs : List Frame) where
  unfoldable pub by_index : Geometry
  unfolding geometry_of indexes side
  by_index =
      let g = grid v fs in
      record {
        frames = g.frames;
        least = g.least;
        levels = g.levels;
        same = g.same;
        near = λ c d. leb (squared (indexes (side v fs 0) (frame v fs c)) (indexes (side v fs 0) (frame v fs d))) (4 * (v.t * v.t));
        within = g.within;
        box = g.box;
      }

pub by_index_fails : (transform_of (by_index valid_j frames_j)).labels ≡ (transform_of (grid valid_j frames_j)).labels → ⊥
unfolding by_index transform_of geometry_of whole_tolerance slack_power appx_tolerance_of
by_index_fails = differ_at 2 (transform_of (by_index valid_j frames_j)).labels (transform_of (grid valid_j frames_j)).labels tt

-- ---- "Treating cells as half open everywhere": the index is the whole part of (c + half) / side. Of −4, −7, −7 with t = 2 the frame −4 is noise, and would be border
unfoldable pub half_open : Float → ℤ → ℤ
unfolding ceil neg div add half of_int
half_open s c = neg_ℤ (ceil (neg (div binary64 (add binary64 (of_int binary64 c) (half s)) s)))

module _ (v : ValidParams) (fs : List Frame) where
  abbrev open_indexes : ℕ → ℕ → List ℤ
  open_indexes l i = map (half_open (side v fs l)) (frame v fs i)

  unfoldable pub open_cells : Geometry
  unfolding geometry_of half_open side intersection centre
  open_cells =
      let g = grid v fs in
      record {
        frames = g.frames;
        least = g.least;
        levels = g.levels;
        same = λ l i j. same_ints (open_indexes l i) (open_indexes l j);
        near = g.near;
        within = g.within;
        box = λ q l x. intersection v.channels v.tolerance v.appx_tolerance (side v fs l) (map (centre (side v fs l)) (open_indexes l x)) (floats (frame v fs q));
      }

abbrev frames_edge : List Frame
frames_edge = frames (minus 4 ∷ minus 7 ∷ minus 7 ∷ [])

pub half_open_fails : (transform_of (open_cells (valid 2 2 0) frames_edge)).labels ≡ (transform_of (grid (valid 2 2 0) frames_edge)).labels → ⊥
unfolding open_cells transform_of geometry_of whole_tolerance slack_power appx_tolerance_of
half_open_fails = differ_at 0 (transform_of (open_cells (valid 2 2 0) frames_edge)).labels (transform_of (grid (valid 2 2 0) frames_edge)).labels tt

-- ---- the labels with other links, or with another tree of each cell
module _ (g : Geometry) (tree : ℕ → List ℕ) where
  abbrev count_in : ℕ → ℕ → ℕ
  count_in q i = length (counted g.same (g.box q) g.levels 0 (tree i))

  abbrev touches_in : ℕ → ℕ → Bool
  touches_in c d = any (λ p. nonzero (count_in p d)) (core_members g c)

  abbrev either_side : ℕ → ℕ → Bool
  either_side c d = cond (listed g c d) (touches_in c d || touches_in d c) false

  -- the link tried from the lower cell only
  abbrev from_lower : ℕ → ℕ → Bool
  from_lower c d = cond (listed g c d) (cond (ltb c d) (touches_in c d) (touches_in d c)) false

  abbrev border_in : List (List ℕ) → ℕ → ℕ
  border_in sets i = border_label (λ c. place c sets) (keep (λ c. nonzero (count_in i c)) (list g i))

  unfoldable pub labels_by : (link : ℕ → ℕ → Bool) → List ℕ
  unfolding counted core first listed list core_members core_cells
  labels_by link = let sets = connected link (core_cells g) in column (λ i. cond (core g i) (place (first g i) sets) (border_in sets i)) g.frames

  -- non-core frames of a core cell are passed over
  unfoldable pub labels_dropped : List ℕ
  unfolding counted core first listed list core_members core_cells core_cell
  labels_dropped =
      let sets = connected either_side (core_cells g) in
      column (λ i. cond (core g i) (place (first g i) sets) (cond (core_cell g i) none (border_in sets i))) g.frames

-- with links from either side and the core frames in the trees these are the labels of the definitions
right_labels : (g : Geometry) → labels_by g (core_members g) (either_side g (core_members g)) ≡ (transform_of g).labels
unfolding labels_by transform_of label_by clusters linked touches touched count node
right_labels g = refl

-- ---- "Counting non-core frames into the tree": of −6, −2, −1, 5 with t = 4, min_points 3, s = 1 the frame 5 is noise, and would be border
abbrev all_members : Geometry → ℕ → List ℕ
all_members g i = cond (core_cell g i) (members g i) []

abbrev g_tree : Geometry
g_tree = grid (valid 3 4 1) (frames (minus 6 ∷ minus 2 ∷ minus 1 ∷ pos 5 ∷ []))

pub non_core_counted_fails : labels_by g_tree (all_members g_tree) (either_side g_tree (all_members g_tree)) ≡ (transform_of g_tree).labels → ⊥
unfolding labels_by members core_cell transform_of geometry_of whole_tolerance slack_power appx_tolerance_of
non_core_counted_fails = differ_at 3 (labels_by g_tree (all_members g_tree) (either_side g_tree (all_members g_tree))) (transform_of g_tree).labels tt

-- ---- "Trying a link from one side only": −4, −4, −7, −7 with t = 2 are one cluster by the link from −7 alone
abbrev g_link : Geometry
g_link = grid (valid 2 2 0) (frames (minus 4 ∷ minus 4 ∷ minus 7 ∷ minus 7 ∷ []))

pub one_side_fails : labels_by g_link (core_members g_link) (from_lower g_link (core_members g_link)) ≡ (transform_of g_link).labels → ⊥
unfolding labels_by core_members listed counted transform_of geometry_of whole_tolerance slack_power appx_tolerance_of
one_side_fails = differ_at 2 (labels_by g_link (core_members g_link) (from_lower g_link (core_members g_link))) (transform_of g_link).labels tt

-- ---- ".. or dropping non-core frames of a core cell": of −3, −5, −6 with t = 2, min_points 3 the frame −6 is a border frame in the cell of the core frame −5
abbrev g_drop : Geometry
g_drop = grid (valid 3 2 0) (frames (minus 3 ∷ minus 5 ∷ minus 6 ∷ []))

pub dropped_fails : labels_dropped g_drop (core_members g_drop) ≡ (transform_of g_drop).labels → ⊥
unfolding labels_dropped core_members transform_of geometry_of whole_tolerance slack_power appx_tolerance_of
dropped_fails = differ_at 2 (labels_dropped g_drop (core_members g_drop)) (transform_of g_drop).labels tt
