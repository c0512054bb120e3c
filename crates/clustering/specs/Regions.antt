-- Slices that hold the cells of a run as they stand sorted. Definitions only.
use Rattle.std.specs.Prelude.{◌≡◌, List, ℕ, ◌*◌, ◌≤◌, ℤ, length}
use Rattle.lists.specs.Words.{part, Clear}
use Rattle.hyperparams.specs.declared.ValidParams.{ValidParams}
use Rattle.counting_tree.specs.Ready.{geometry_at}
use Rattle.cells_grid.specs.Arrangement.{Arranged}
use Rattle.cells_grid.specs.Listing.{cell_ends, cell_places}
use Rattle.core_cells.specs.HasTrees.{HasTrees}

-- a list that is lent to work in, ds before and es after: if it was clear, it is again
abbrev pub ClearAgain : (ds es : List ℕ) → Type 0
ClearAgain ds es = Clear ds 0 (length ds) → es ≡ ds

-- the words w hold k cells, the words u the nodes of their trees, and the words z where the cells of each bucket end, and from 4n on the cells by bucket
pub record Listable (v : ValidParams) (n : ℕ) (ps : List ℤ) (k : ℕ) (w z u : List ℕ) : Type 0 where
  pub cells : Arranged (geometry_at v n ps) k w
  pub trees : HasTrees (geometry_at v n ps) k w u
  pub few : k ≤ n
  pub size : length z ≡ 5 * n
  pub ends : part z 0 (4 * k) ≡ cell_ends v n ps
  pub places : part z (4 * n) k ≡ cell_places v n ps
