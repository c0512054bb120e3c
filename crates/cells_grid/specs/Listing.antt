-- The core cells that a cell lists, in the order in which a search by blocks finds them, and what is marked among them. Definitions only.
use Rattle.std.specs.Prelude.{◌≡◌, Bool, not, ◌&&◌, List, [], ◌++◌, ℕ, zero, suc, ◌+◌, ◌-◌, ◌*◌, ◌^◌, ◌<◌, ◌≤◌, ℤ, eqb, leb, length, get_or, take}
use Rattle.lists.specs.Lists.{keep}
use Rattle.lists.specs.Words.{part, column}
use Rattle.lists.specs.Sorting.{start_of, places_of}
use Rattle.hyperparams.specs.declared.ValidParams.{ValidParams}
use Rattle.counting_tree.specs.Geometry.{Geometry}
use Rattle.counting_tree.specs.Ready.{geometry_at}
use Rattle.blocks.specs.Blocks.{same_nats, row_of, row_around, own_row, key_for, found_in, found}
use Rattle.cells_grid.specs.Cells.{cells, core_cell}
use Rattle.cells_grid.specs.Arrangement.{cell_at}

-- how far the counts of the first frames of cells that list each other can differ: "at most 4 × t × t"
abbrev pub reach_of : ValidParams → ℕ
reach_of v = 2 * v.t

-- whether the cell with number c is a core cell
abbrev pub core_at : Geometry → ℕ → Bool
core_at g c = core_cell g (cell_at g c)

-- of the cells ds those that do not have this mark
unfoldable pub unmarked : List ℕ → (mark : ℕ) → List ℕ → List ℕ
unmarked ms mark ds = keep (λ d. not (eqb (get_or ms d 0) mark)) ds

-- of a cell's list the cells that do not have its mark
abbrev pub unlike : List ℕ → (lists : ℕ → List ℕ) → ℕ → List ℕ
unlike ms lists c = unmarked ms (get_or ms c 0) (lists c)

-- one of the sorted cells zs that has this mark is followed by as many with it as its run says
abbrev pub MarkedRuns : (zs ms rs : List ℕ) → (mark : ℕ) → Type 0
MarkedRuns zs ms rs mark = (p j : ℕ) → p + j < length zs → get_or ms (get_or zs p 0) 0 ≡ mark → j ≤ get_or rs p 0 → get_or ms (get_or zs (p + j) 0) 0 ≡ mark

-- each cell has a mark, and each place among the sorted cells a run of the mark of the cell that stands there
pub record Marked (zs ms rs : List ℕ) : Type 0 where
  pub marks : length ms ≡ length zs
  pub runs : length rs ≡ length zs
  pub all : (mark : ℕ) → MarkedRuns zs ms rs mark

module _ (v : ValidParams) (n : ℕ) (ps : List ℤ) where
  abbrev pub geo : Geometry
  geo = geometry_at v n ps

  -- how many buckets there are for the core cells
  abbrev pub cell_buckets : ℕ
  cell_buckets = 4 * length (cells geo) - 1

  -- the bucket of each core cell, by the block of its first frame
  abbrev pub cell_key : ℕ → ℕ
  cell_key = key_for (reach_of v) v n ps cell_buckets (cell_at geo) (core_at geo)

  -- whether the first frame of cell d lies near frame i
  abbrev pub near_at : ℕ → ℕ → Bool
  near_at i d = geo.near i (cell_at geo d)

  -- whether it does, and the cell's number is a or more
  abbrev pub near_from : ℕ → ℕ → ℕ → Bool
  near_from i a d = leb a d && near_at i d

  -- whether the first frame lies in row r of those around frame i besides
  abbrev pub near_in : ℕ → ℕ → ℕ → ℕ → Bool
  near_in i a r d = same_nats (row_of (reach_of v) v n ps (cell_at geo d)) (row_around (reach_of v) v n ps i r) && near_from i a d

  -- the core cells with numbers from a on whose first frames lie in row r around frame i, and near it, in the order in which they are found
  unfoldable pub list_in : ℕ → ℕ → ℕ → List ℕ
  unfolding found_in
  list_in i a r = found_in (reach_of v) v n ps cell_buckets (cell_at geo) (core_at geo) (length (cells geo)) i (near_from i a) r

  -- those of m rows from row r on, and of row r only those with numbers from a on
  abbrev pub list_from : ℕ → ℕ → ℕ → ℕ → List ℕ
  list_from i a r zero = []
  list_from i a r (suc m) = list_in i a r ++ list_from i 0 (suc r) m

  -- the core cells that cell c lists, row by row
  unfoldable pub list_of : ℕ → List ℕ
  unfolding found
  list_of c = found (reach_of v) v n ps cell_buckets (cell_at geo) (core_at geo) (length (cells geo)) (cell_at geo c) (near_at (cell_at geo c))

  -- of these, those in the rows from its own on, and of its own row those with numbers above c: of two cells that list each other, one finds the other
  unfoldable pub later_of : ℕ → List ℕ
  unfolding list_in own_row
  later_of c = let o = own_row (reach_of v) v n ps (cell_at geo c) in list_from (cell_at geo c) (c + 1) o (2 ^ (v.channels - 1) - o)

  -- where the cells of each bucket end, and the cells by bucket: the core cells, then the others
  unfoldable pub cell_ends : List ℕ
  unfolding start_of
  cell_ends = let k = length (cells geo) in column (λ b. start_of cell_key k (b + 1)) (4 * k)

  unfoldable pub cell_places : List ℕ
  unfolding places_of
  cell_places = let k = length (cells geo) in places_of cell_key k (4 * k)

  -- the core cells among them: those before the last key, which the other cells have
  unfoldable pub sorted_core : List ℕ
  unfolding cell_places start_of
  sorted_core = take (start_of cell_key (length (cells geo)) cell_buckets) cell_places

  -- of the sorted cells from place a up to b those with numbers from `after` on that lie in row r around frame i, and near it
  abbrev pub near_by : (i after r : ℕ) → List ℕ → (a b : ℕ) → List ℕ
  near_by i after r zs a b = keep (near_in i after r) (part zs a (b - a))
