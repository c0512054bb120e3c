-- What the run keeps of cells in the lent work words: regions of one word a frame, each a list that frames and settings determine. Definitions only.
use Rattle.std.specs.Prelude.{◌≡◌, List, map, ℕ, ◌*◌, length, get_or, take}
use Rattle.std.proofs.Math.Bool.{cond}
use Rattle.std.proofs.Props.{props}
use Rattle.lists.specs.Lists.{concat, total}
use Rattle.lists.specs.Words.{part, column}
use Rattle.counting_tree.specs.Geometry.{Geometry}
use Rattle.cells_grid.specs.Cells.{members, cells, cell_number, core}

module _ (g : Geometry) where
  -- the first frame of the cell with number c
  abbrev pub cell_at : ℕ → ℕ
  cell_at c = get_or (cells g) c 0

  -- the frames by cell number, then by frame number
  unfoldable pub arranged : List ℕ
  arranged = concat (map (members g) (cells g))

  -- where the frames of the cell with number c begin among them
  unfoldable pub start_at : ℕ → ℕ
  start_at c = total (λ f. length (members g f)) (take c (cells g))

  -- 1 for a core frame, else 0
  unfoldable pub core_bit : ℕ → ℕ
  unfolding core
  core_bit i = cond (core g i) 1 0

  -- the words hold k cells: from 0 each frame's cell number, from n the first frame of each cell, from 2n where its frames begin, from 3n the frames by cell
  pub record Arranged (k : ℕ) (w : List ℕ) : Type 0 where
    pub count : k ≡ length (cells g)
    pub numbers : part w 0 g.frames ≡ column (cell_number g) g.frames
    pub firsts : part w g.frames k ≡ cells g
    pub starts : part w (2 * g.frames) k ≡ column start_at k
    pub places : part w (3 * g.frames) g.frames ≡ arranged

  pub Arranged_prop : (k : ℕ) (w : List ℕ) → IsProp (Arranged k w)
  Arranged_prop k w = Prim.hlevel props

  -- and from 4n which frames are core
  pub record Cored (k : ℕ) (w : List ℕ) : Type 0 where
    pub cells : Arranged k w
    pub cores : part w (4 * g.frames) g.frames ≡ column core_bit g.frames
