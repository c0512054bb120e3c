-- The span of a cell: the lowest and the highest raised count of its frames in each channel; and how far two spans lie apart. Definitions only.
use Rattle.std.specs.Prelude.{Bool, cond, ◌&&◌, List, [], ◌∷◌, map, ℕ, ◌-◌, ◌*◌, ◌<◌, ℤ, length, get_or, replicate, min, max}
use Rattle.std.proofs.Math.Dec.{ltb}
use Rattle.lists.specs.Lists.{numbers, total}
use Rattle.lists.specs.Words.{over, column}
use Rattle.hyperparams.specs.declared.ValidParams.{ValidParams}
use Rattle.counting_tree.specs.Frames.{frames_in}
use Rattle.counting_tree.specs.Geometry.{Geometry, frame}
use Rattle.counting_tree.specs.Ready.{geometry_at}
use Rattle.blocks.specs.Blocks.{raise}
use Rattle.cells_grid.specs.Cells.{members}
use Rattle.cells_grid.specs.Arrangement.{cell_at}
use Rattle.core_cells.specs.declared.spans.Span.{Span}
use Rattle.core_cells.specs.Nearest.{out_of_reach}

-- a cell with more frames than this has many
abbrev pub many : ℕ
many = 64

-- the lower and the higher of two rows of counts, in each channel
unfoldable pub lowest : List ℕ → List ℕ → List ℕ
lowest a b = column (λ i. min (get_or a i 0) (get_or b i 0)) 4

unfoldable pub highest : List ℕ → List ℕ → List ℕ
highest a b = column (λ i. max (get_or a i 0) (get_or b i 0)) 4

-- s, taken by h with f of each element in turn
abbrev pub through : (List ℕ → List ℕ → List ℕ) → (ℕ → List ℕ) → List ℕ → List ℕ → List ℕ
through h f s [] = s
through h f s (x ∷ xs) = through h f (h s (f x)) xs

-- the span of x and xs, where f gives the counts of each
unfoldable pub span_from : (ℕ → List ℕ) → ℕ → List ℕ → Span
unfolding lowest highest
span_from f x xs = record { low = through lowest f (f x) xs; high = through highest f (f x) xs }

-- the low ends of a span are raised counts
abbrev pub LowEnds : Span → Type 0
LowEnds s = (i : ℕ) → i < 4 → get_or s.low i 0 < 65536

-- the square of how far the numbers from `low` to `high` lie from those from `low2` to `high2`, 0 where they meet
unfoldable pub gap : (low high low2 high2 : ℕ) → ℕ
gap low high low2 high2 = let d = cond (ltb high low2) (low2 - high) (low - high2) in d * d

-- the sum of these squares over the channels
unfoldable pub square_gap : Span → Span → ℕ
unfolding gap
square_gap a b = total (λ i. gap (get_or a.low i 0) (get_or a.high i 0) (get_or b.low i 0) (get_or b.high i 0)) (numbers 4)

module _ (v : ValidParams) (n : ℕ) (ps : List ℤ) where
  abbrev geo : Geometry
  geo = geometry_at v n ps

  -- the raised counts of frame i, with zeros in the channels that are not used
  unfoldable pub raised_at : ℕ → List ℕ
  raised_at i = over (replicate 4 0) 0 (map raise (frame v (frames_in n v.channels ps) i))

  -- the span of the frames of the cell with number c
  unfoldable pub cell_span : ℕ → Span
  unfolding span_from raised_at members
  cell_span c = span_from raised_at (cell_at geo c) (members geo (cell_at geo c))

  -- whether the cells with numbers c and d have many frames, and their spans lie out of reach
  unfoldable pub apart_by_spans : ℕ → ℕ → Bool
  unfolding cell_span square_gap out_of_reach members
  apart_by_spans c d = ltb many (length (members geo (cell_at geo c))) && (ltb many (length (members geo (cell_at geo d))) && out_of_reach v.t v.s (square_gap (cell_span c) (cell_span d)))
