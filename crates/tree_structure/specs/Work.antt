-- What building a tree asks.
use Rattle.std.specs.Prelude.{List, ℕ, ◌+◌, ◌*◌, ◌<◌, ◌≤◌, length}
use Rattle.lists.specs.Lists.{Below}
use Rattle.hyperparams.specs.Params.{levels, max_frames}
use Rattle.tree_structure.specs.Encode.{Same, size}

-- levels below the root: at most those of s = 10
abbrev pub max_levels : ℕ
max_levels = levels 10

-- nodes of a tree: at most one for each frame and level
abbrev pub max_nodes : ℕ
max_nodes = max_frames * (max_levels + 1)

-- what building the tree of the frames xs asks, with k levels below the root: as many words to sort them in, and its words
pub record CanBuild (same : Same) (n k : ℕ) (xs scratch nodes : List ℕ) : Type 0 where
  pub some : 0 < length xs
  pub few : length xs ≤ max_frames
  pub below : Below n xs
  pub sorting : length xs ≤ length scratch
  pub room : 4 * size same k 0 xs ≤ length nodes

-- room to build a tree of level l, k levels above the last: the same, and its nodes can be counted
pub record Room (same : Same) (n k l : ℕ) (xs scratch nodes : List ℕ) : Type 0 where
  pub some : 0 < length xs
  pub few : length xs ≤ max_frames
  pub below : Below n xs
  pub sorting : length xs ≤ length scratch
  pub most : size same k l xs ≤ max_nodes
  pub room : 4 * size same k l xs ≤ length nodes
