-- What stands in the work words before labels and kinds are copied out: each region a list that frames and settings determine. Definitions only.
use Rattle.std.specs.Prelude.{List, ℕ, ◌*◌}
use Rattle.std.proofs.Math.ListN.{length}
use Rattle.lists.specs.Words.{over, column}
use Rattle.counting_tree.specs.Geometry.{Geometry}
use Rattle.cells_grid.specs.Cells.{cells}
use Rattle.cells_grid.specs.Arrangement.{core_bit}
use Rattle.cells_grid.specs.Places.{populated}
use Rattle.core_cells.specs.Forest.{tree_word, forest_to}
use Rattle.clustering.specs.Clusters.{clusters, place, label_by, kind_of}
use Rattle.clustering.specs.Uniting.{lowest_at}
use Rattle.clustering.specs.Numbering.{cluster_word}

-- n frames. A cell with more core frames than `few` has a tree: the number is free, since nothing that is copied out depends on it.
module _ (g : Geometry) (n few : ℕ) where
  -- the words w with what `populate`, `label_points` and `build_trees` write
  unfoldable pub treed : List ℕ → List ℕ
  treed w =
      let k = length (cells g) in
      over (over (over (populated g w) (4 * n) (column (core_bit g) n)) (5 * n) (column (tree_word g few) k)) (16 * n) (forest_to g few k)

  -- and what `label` writes
  unfoldable pub filled : List ℕ → List ℕ
  unfolding treed
  filled w =
      let k = length (cells g) in
      over (over (over (over (treed w) (6 * n) (column (lowest_at g (n * n)) k)) (7 * n) (column (cluster_word g) k))
      (8 * n) (column (label_by g (λ c. place c (clusters g))) n))
      (9 * n) (column (kind_of g) n)
