-- Leaders of cells. Definition only.
use Rattle.std.specs.Prelude.{◌≡◌, ◌≤◌, List, ℕ, length}
use Rattle.partitions.specs.Leaders.{Falling}

-- the words ls are leaders of k cells: one for each, none larger than its cell, and each cell's number fits a word
pub record Leading (k : ℕ) (ls : List ℕ) : Type 0 where
  pub size : length ls ≡ k
  pub few : k ≤ 65536
  pub falling : Falling ls
