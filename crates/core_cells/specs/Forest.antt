-- The trees of the core cells with more than a few core frames, in the lent work words: where each cell's tree begins, and the nodes of all trees
-- in ascending cell number. Definitions only.
use Rattle.std.specs.Prelude.{◌≡◌, Bool, ◌||◌, cond, List, [], ◌++◌, ℕ, zero, suc, ◌+◌, ◌-◌, ◌*◌, eqb, leb, ltb, length, get_or}
use Rattle.lists.specs.Lists.{keep}
use Rattle.lists.specs.Words.{part, column}
use Rattle.hyperparams.specs.Params.{max_frames}
use Rattle.counting_tree.specs.Geometry.{Geometry}
use Rattle.cells_grid.specs.Cells.{core_members, core_cell}
use Rattle.cells_grid.specs.Arrangement.{cell_at, Cored}
use Rattle.tree_structure.specs.Encode.{size, encode}

-- the frames at the places from `from` up to `to` of which the words w say that they are core
unfoldable pub core_among : List ℕ → (n from to : ℕ) → List ℕ
core_among w n from to = keep (λ i. eqb (get_or w (4 * n + i) 0) 1) (part w (3 * n + from) (to - from))

-- whether the words w say that frame i is core
abbrev pub is_marked : List ℕ → ℕ → ℕ → Bool
is_marked w n i = eqb (get_or w (4 * n + i) 0) 1

-- a run of n frames in k cells at first builds the trees of those with more core frames than this: none where there is one level below the root,
-- or one cell, or sixteen frames or more to a cell
unfoldable pub path_limit : (levels n k : ℕ) → ℕ
path_limit levels n k = cond (leb levels 1 || (leb k 1 || leb (16 * k) n)) max_frames 64

module _ (g : Geometry) where
  -- the core frames of the cell with number c, and whether there are any
  abbrev pub tree_frames : ℕ → List ℕ
  tree_frames c = core_members g (cell_at g c)

  abbrev pub is_core : ℕ → Bool
  is_core c = core_cell g (cell_at g c)

  module _ (few : ℕ) where
    -- it has a tree: there are more than `few`
    abbrev pub is_large : ℕ → Bool
    is_large c = ltb few (length (tree_frames c))

    -- the nodes of its tree and their words: none where it has no tree
    unfoldable pub tree_size : ℕ → ℕ
    tree_size c = cond (is_large c) (size g.same g.levels 0 (tree_frames c)) 0

    unfoldable pub tree_words : ℕ → List ℕ
    tree_words c = cond (is_large c) (encode g.same g.levels 0 (tree_frames c)) []

    -- the nodes of the trees of the cells with numbers below c, and their words
    unfoldable pub nodes_to : ℕ → ℕ
    nodes_to zero = 0
    nodes_to (suc c) = nodes_to c + tree_size c

    unfoldable pub forest_to : ℕ → List ℕ
    forest_to zero = []
    forest_to (suc c) = forest_to c ++ tree_words c

    -- where the tree of the cell with number c begins: 0 where it is no core cell, 1 where it is one without a tree,
    -- else two more than the number of the tree's first node
    unfoldable pub tree_word : ℕ → ℕ
    tree_word c = cond (is_core c) (cond (is_large c) (2 + nodes_to c) 1) 0

  -- the words hold k cells and which frames are core, from 5n where each cell's tree begins, from 16n the nodes
  pub record Grown (k : ℕ) (w : List ℕ) : Type 0 where
    pub few : ℕ
    pub cored : Cored g k w
    pub trees : part w (5 * g.frames) k ≡ column (tree_word few) k
    pub forest : part w (16 * g.frames) (length (forest_to few k)) ≡ forest_to few k
