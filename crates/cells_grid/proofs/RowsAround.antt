-- What is known of the rows around a frame, by the facts that their struct keeps.
use mathlib.Core.Path.{◌≡◌, ap, ap₂, ◌∙◌}
use mathlib.Core.Bool.{Bool}
use mathlib.Core.List.{List}
use Prim.Native.Nat.{ℕ, ◌-◌, ◌%◌, ◌^◌, ◌<◌}
use lib.IntN.{ℤ}
use lib.ListN.{get_or, take, drop}
use Rattle.hyperparams.specs.declared.ValidParams.{ValidParams}
use Rattle.blocks.specs.Blocks.{width, key_of, shifted, own_block, same_nats, frame_at, row_of, row_around, own_row, bucket_at, bucket_around}
use Rattle.blocks.specs.AroundLaws.{Rows, rows_multiple, rows_row, rows_low, rows_along}
use Rattle.blocks.specs.OwnRowLaws.{rows_own}
use Rattle.cells_grid.specs.declared.around.Around.{Around}

-- the rows that begin at these edges, and what is asked of a frame there
module _ {reach : ℕ} {v : ValidParams} {n : ℕ} {ps : List ℤ} {i : ℕ} {first : List ℕ} (R : Rows reach v n ps i first) where
  pub edges_multiple : {x : ℕ} → x ≡ width reach → (q : ℕ) → get_or first q 0 % x ≡ 0
  edges_multiple e q = ap (λ (z : ℕ). get_or first q 0 % z) e ∙ rows_multiple R q

  pub edges_row : {x : ℕ} → x ≡ width reach → (m j : ℕ) {b : Bool} → b ≡ same_nats (key_of x (drop 1 (frame_at reach v n ps j))) (shifted x (take (v.channels - 1) (drop 1 first)) m)
      → b ≡ same_nats (row_of reach v n ps j) (row_around reach v n ps i m)
  edges_row e m j q =
      let f = frame_at reach v n ps j in
      q ∙ ap (λ (z : ℕ). same_nats (key_of z (drop 1 f)) (shifted z (take (v.channels - 1) (drop 1 first)) m)) e ∙ ap (same_nats (key_of (width reach) (drop 1 f))) (rows_row R m)

module _ (a : Around) where
  abbrev pub rows : Rows a.reach a.frames.now.v a.frames.now.n a.frames.now.points.now a.i a.first
  rows = record { ready = a.frames.now.ready; below = a.inside; begin = a.begin; small = a.small }

  pub multiple : {x : ℕ} → x ≡ width a.reach → (q : ℕ) → get_or a.first q 0 % x ≡ 0
  multiple e q = edges_multiple rows e q

  pub row_is : {x : ℕ} → x ≡ width a.reach → (m j : ℕ) {b : Bool} → b ≡ same_nats (key_of x (drop 1 (frame_at a.reach a.frames.now.v a.frames.now.n a.frames.now.points.now j))) (shifted x (take (a.frames.now.v.channels - 1) (drop 1 a.first)) m)
      → b ≡ same_nats (row_of a.reach a.frames.now.v a.frames.now.n a.frames.now.points.now j) (row_around a.reach a.frames.now.v a.frames.now.n a.frames.now.points.now a.i m)
  row_is e m j q = edges_row rows e m j q

  pub own_is : {x : ℕ} → x ≡ width a.reach → {r : ℕ} → r ≡ own_block x (drop 1 a.first) (drop 1 (frame_at a.reach a.frames.now.v a.frames.now.n a.frames.now.points.now a.i)) → r ≡ own_row a.reach a.frames.now.v a.frames.now.n a.frames.now.points.now a.i
  own_is e q = q ∙ ap (λ (z : ℕ). own_block z (drop 1 a.first) (drop 1 (frame_at a.reach a.frames.now.v a.frames.now.n a.frames.now.points.now a.i))) e ∙ rows_own rows

  pub along_low : a.along < 65536
  along_low = rows_low rows a.block

  pub bucket_is : (size m : ℕ) → m < 2 ^ (a.frames.now.v.channels - 1) → {b : ℕ} → b ≡ bucket_at size (get_or a.hashes m 0) a.along → b ≡ bucket_around a.reach a.frames.now.v a.frames.now.n a.frames.now.points.now size a.i m
  unfolding bucket_around
  bucket_is size m l q = q ∙ ap₂ (bucket_at size) (a.hashed m l) (a.block ∙ rows_along rows)
