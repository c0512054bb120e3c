-- A search for neighbours is one for the reach t: what its rows say, for that reach.
use mathlib.Core.Path.{◌≡◌, sym, ap, ap₂, subst, ◌∙◌}
use mathlib.Core.Bool.{Bool}
use mathlib.Core.List.{List, ◌++◌}
use Prim.Native.Nat.{ℕ, ◌+◌, ◌-◌, ◌*◌, ◌%◌, ◌^◌, ◌≤◌, min}
use lib.ListN.{length, take, replicate}
use Rattle.lists.specs.Words.{over, part}
use lib.IntN.{ℤ}
use Rattle.lists.specs.Sorting.{Sorted}
use Rattle.hyperparams.specs.declared.ValidParams.{ValidParams}
use Rattle.cells_grid.specs.Cells.{first}
use Rattle.lists.specs.Lists.{how_many, Below}
use Rattle.counting_tree.specs.Given.{geometry, frame_of}
use Rattle.counting_tree.specs.Ready.{geometry_at, at_least}
use Rattle.blocks.specs.declared.Stretch.{Stretch}
use Rattle.blocks.specs.Blocks.{same_nats, width, edges_of, row_of, row_around, own_row, bucket_around, stretch_in}
use Rattle.blocks.specs.OwnRowLaws.{own_which}
use Rattle.cells_grid.specs.Crowding.{frame_key, frames_near, neighbour_in, neighbours_in}
use Rattle.cells_grid.specs.Pairs.{row_for}
use Rattle.cells_grid.specs.declared.around.Around.{Around}
use Rattle.counting_tree.specs.declared.run.Frames.{Frames}
use Rattle.cells_grid.specs.declared.crowding.Search.{Search}
use Rattle.cells_grid.proofs.Neighbours as Neighbours

-- the count of a row, where the rows begin with row `start`
pub turned_sum : (a : Around) (start r count : ℕ) {rows m more : ℕ} → rows ≡ 2 ^ (a.frames.now.v.channels - 1) → m ≡ (start + r) % rows → (let f = a.frames.now in more ≡ min f.v.min_points (count + neighbours_in f.v f.n f.points.now a.i m))
    → let f = a.frames.now in more ≡ min (geometry f).least (count + neighbours_in f.v f.n f.points.now a.i ((start + r) % 2 ^ (f.v.channels - 1)))
turned_sum a start r count e q p =
    let f = a.frames.now in
    p ∙ ap₂ (λ (x y : ℕ). min x (count + neighbours_in f.v f.n f.points.now a.i y)) (sym (at_least f.v f.n f.points.now)) (q ∙ ap (λ (x : ℕ). (start + r) % x) e)

-- the two stretches of row m
module _ (a : Around) (m : ℕ) (A B : List ℕ) (e : let f = a.frames.now in A ++ B ≡ frames_near f.v f.n f.points.now a.i m) where
  pub stretch_low : Below a.frames.now.n A
  stretch_low = let f = a.frames.now in Neighbours.stretch_low f.v f.n f.points.now a.i m A B e

  pub rest_low : Below a.frames.now.n B
  rest_low = let f = a.frames.now in Neighbours.rest_low f.v f.n f.points.now a.i m A B e

  pub row_sum : let f = a.frames.now in neighbours_in f.v f.n f.points.now a.i m ≡ how_many (neighbour_in f.v f.n f.points.now a.i m) A + how_many (neighbour_in f.v f.n f.points.now a.i m) B
  row_sum = let f = a.frames.now in Neighbours.row_sum f.v f.n f.points.now a.i m A B e

module _ (s : Search) where
  -- what is said of the frames of the cells is said of those of the rows: they are the same
  pub moved : (P : ValidParams → ℕ → List ℤ → Type 0) → (let f = s.sorted.grid.frames in P f.v f.n f.points.now) → let f = s.around.frames.now in P f.v f.n f.points.now
  moved P p =
      let a = s.around.frames.now in let f = s.sorted.grid.frames in
      subst (λ (v : ValidParams). P v a.n a.points.now) (sym s.same.0) (subst (λ (n : ℕ). P f.v n a.points.now) (sym s.same.1) (subst (P f.v f.n) (sym s.same.2) p))

  -- and the other way
  pub back : (P : ValidParams → ℕ → List ℤ → Type 0) → (let f = s.around.frames.now in P f.v f.n f.points.now) → let f = s.sorted.grid.frames in P f.v f.n f.points.now
  back P p =
      let a = s.around.frames.now in let f = s.sorted.grid.frames in
      subst (P f.v f.n) s.same.2 (subst (λ (n : ℕ). P f.v n a.points.now) s.same.1 (subst (λ (v : ValidParams). P v a.n a.points.now) s.same.0 p))

  pub by_block : let f = s.around.frames.now in Sorted (frame_key f.v f.n f.points.now) f.n (8 * f.n) (2 * f.n) 0 s.sorted.sorted.now
  by_block = moved (λ v n ps. Sorted (frame_key v n ps) n (8 * n) (2 * n) 0 s.sorted.sorted.now) s.sorted.by_block

  -- the first frame of frame j's cell, and whether frame j lies in row m, for the reach t
  pub first_is : (j : ℕ) {x : ℕ} → x ≡ first (geometry s.sorted.grid.frames) j → x ≡ first (geometry s.around.frames.now) j
  first_is j {x} = moved (λ v n ps. x ≡ first (geometry_at v n ps) j)

  pub row_is : (m j : ℕ) {b : Bool} → (let a = s.around in let f = a.frames.now in b ≡ same_nats (row_of a.reach f.v f.n f.points.now j) (row_around a.reach f.v f.n f.points.now a.i m))
      → let a = s.around in let f = a.frames.now in b ≡ same_nats (row_of f.v.t f.v f.n f.points.now j) (row_around f.v.t f.v f.n f.points.now a.i m)
  row_is m j q =
      let a = s.around in let f = a.frames.now in
      q ∙ ap (λ (z : ℕ). same_nats (row_of z f.v f.n f.points.now j) (row_around z f.v f.n f.points.now a.i m)) s.reach_is

  pub begin_is : let a = s.around in let f = a.frames.now in a.first ≡ over (replicate 4 0) 0 (edges_of (width f.v.t) f.v.t (frame_of f a.i))
  begin_is = let a = s.around in a.begin ∙ ap (λ (z : ℕ). over (replicate 4 0) 0 (edges_of (width z) z (frame_of a.frames.now a.i))) s.reach_is

  pub own_is : {r : ℕ} → (let a = s.around in let f = a.frames.now in r ≡ own_row a.reach f.v f.n f.points.now a.i) → let a = s.around in let f = a.frames.now in r ≡ row_for f.v f.n f.points.now a.i a.i
  own_is q =
      let a = s.around in let f = a.frames.now in
      q ∙ ap (λ (z : ℕ). own_row z f.v f.n f.points.now a.i) s.reach_is ∙ own_which f.v.t f.v f.n f.points.now a.i

  -- the stretch x of row m
  pub row_room : 10 * s.around.frames.now.n ≤ length s.sorted.sorted.now
  row_room = let a = s.around in let f = a.frames.now in Neighbours.sorted_room f.v f.n f.points.now a.i 0 a.inside by_block

  module _ (m : ℕ) {x : Stretch} (e : let a = s.around in let f = a.frames.now in x ≡ stretch_in s.sorted.sorted.now (2 * f.n) (bucket_around a.reach f.v f.n f.points.now (8 * f.n - 1) a.i m) (8 * f.n - 1)) where
    stretch_is : let a = s.around in let f = a.frames.now in x ≡ stretch_in s.sorted.sorted.now (2 * f.n) (bucket_around f.v.t f.v f.n f.points.now (8 * f.n - 1) a.i m) (8 * f.n - 1)
    stretch_is =
        let a = s.around in let f = a.frames.now in
        e ∙ ap (λ (z : ℕ). stretch_in s.sorted.sorted.now (2 * f.n) (bucket_around z f.v f.n f.points.now (8 * f.n - 1) a.i m) (8 * f.n - 1)) s.reach_is

    pub row_fits : let n = s.around.frames.now.n in (x.«from» ≤ x.to) × (x.to ≤ n) × (x.rest ≤ n)
    row_fits = let a = s.around in let f = a.frames.now in Neighbours.stretch_fits f.v f.n f.points.now a.i m a.inside by_block stretch_is

    pub row_near : {«from» to : ℕ} → «from» ≡ x.«from» → to ≡ x.to
        → let a = s.around in let f = a.frames.now in part s.sorted.sorted.now «from» (to - «from») ++ take x.rest s.sorted.sorted.now ≡ frames_near f.v f.n f.points.now a.i m
    row_near p q =
        let a = s.around in let f = a.frames.now in
        ap₂ (λ (y z : ℕ). part s.sorted.sorted.now y (z - y) ++ take x.rest s.sorted.sorted.now) p q ∙ Neighbours.near_is f.v f.n f.points.now a.i m a.inside by_block stretch_is

-- what is said of the frames and frame i of a search is said of those that it was made of, and the other way
module _ (P : Frames → ℕ → Type 0) (s : Search) {f : Frames} {i : ℕ} (e : (s.around.frames.now ≡ f) × (s.around.i ≡ i)) where
  pub into_search : P f i → P s.around.frames.now s.around.i
  into_search p = subst (λ (z : Frames). P z s.around.i) (sym e.0) (subst (P f) (sym e.1) p)

  pub of_search : P s.around.frames.now s.around.i → P f i
  of_search p = subst (P f) e.1 (subst (λ (z : Frames). P z s.around.i) e.0 p)
