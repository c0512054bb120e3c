-- Clusters numbered by their lowest cells, labels and kinds by cell number. Definitions only.
use Rattle.std.specs.Prelude.{◌≡◌, Bool, ◌&&◌, ℕ, ◌<◌, ◌≤◌, T, eqb}
use Rattle.std.proofs.Math.Bool.{cond}
use Rattle.lists.specs.Lists.{numbers, how_many, nonzero}
use Rattle.counting_tree.specs.Geometry.{Geometry}
use Rattle.cells_grid.specs.Cells.{cells, listed, core_cell, count}
use Rattle.cells_grid.specs.Arrangement.{cell_at}
use Rattle.clustering.specs.Clusters.{place, clusters}

module _ (core : ℕ → Bool) (lowest : ℕ → ℕ) where
  -- each core cell below k has the lowest cell of its set, a core cell too
  pub record Led (k : ℕ) : Type 0 where
    pub lower : (c : ℕ) → c < k → T (core c) → lowest c ≤ c
    pub itself : (c : ℕ) → c < k → T (core c) → T (core (lowest c)) × (lowest (lowest c) ≡ lowest c)

  -- c is the lowest cell of a cluster
  unfoldable pub leads : ℕ → Bool
  leads c = core c && eqb (lowest c) c

  -- the number of c's cluster, which is how many have a lower lowest cell; 0 where c is no core cell
  unfoldable pub number_by : ℕ → ℕ
  unfolding leads
  number_by c = cond (core c) (how_many leads (numbers (lowest c))) 0

module _ (g : Geometry) where
  -- the number of the cluster of the cell with number c; 0 where it is no core cell
  unfoldable pub cluster_word : ℕ → ℕ
  unfolding core_cell clusters cells
  cluster_word c = cond (core_cell g (cell_at g c)) (place (cell_at g c) (clusters g)) 0

  -- the cell with number `own` lists that with number c, in whose tree frame i has a non-zero count
  unfoldable pub borders_at : ℕ → ℕ → ℕ → Bool
  unfolding listed count cells
  borders_at own i c = listed g (cell_at g own) (cell_at g c) && nonzero (count g i (cell_at g c))
