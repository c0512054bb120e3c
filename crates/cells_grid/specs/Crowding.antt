-- Frames near a frame, counted row by row. Definitions only.
use Rattle.std.specs.Prelude.{Bool, true, ◌&&◌, List, ℕ, ◌-◌, ◌*◌, ℤ}
use Rattle.std.proofs.Math.ListN.{length}
use Rattle.hyperparams.specs.declared.ValidParams.{ValidParams}
use Rattle.counting_tree.specs.Ready.{geometry_at}
use Rattle.blocks.specs.Blocks.{same_nats, row_of, row_around, bucket_around, key_for, pair_at, found_in}
use Rattle.cells_grid.specs.Cells.{neighbour}

-- a frame stands for itself
abbrev pub itself : ℕ → ℕ
itself j = j

-- and every frame is sorted
abbrev pub every : ℕ → Bool
every j = true

module _ (v : ValidParams) (n : ℕ) (ps : List ℤ) where
  -- of 8 × n − 1 buckets that of each frame, by blocks for the reach t
  abbrev pub frame_key : ℕ → ℕ
  frame_key = key_for v.t v n ps (8 * n - 1) itself every

  -- whether frame j is a neighbour of frame i in row r of those around it
  abbrev pub neighbour_in : ℕ → ℕ → ℕ → Bool
  neighbour_in i r j = same_nats (row_of v.t v n ps j) (row_around v.t v n ps i r) && neighbour (geometry_at v n ps) i j

  -- the frames that are looked at for row r around frame i: those of two buckets
  unfoldable pub frames_near : ℕ → ℕ → List ℕ
  unfolding pair_at bucket_around
  frames_near i r = pair_at v.t v n ps (8 * n - 1) itself every n (bucket_around v.t v n ps (8 * n - 1) i r)

  -- how many are found there
  unfoldable pub neighbours_in : ℕ → ℕ → ℕ
  unfolding found_in
  neighbours_in i r = length (found_in v.t v n ps (8 * n - 1) itself every n i (neighbour (geometry_at v n ps) i) r)
