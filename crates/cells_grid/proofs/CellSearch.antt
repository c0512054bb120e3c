-- What is known in a search for the cells near a frame: its slices, whether a cell is found, and where its rows stand.
use mathlib.Core.Path.{◌≡◌, sym, ap, ap₂, subst, ◌∙◌}
use mathlib.Core.Bool.{Bool, true, false, ◌&&◌, and-true, and-false}
use mathlib.Core.List.{List, ◌++◌}
use Prim.Native.Nat.{ℕ, ◌+◌, ◌-◌, ◌*◌, ◌<◌, ◌≤◌}
use native.Mathlib.Omega.{arith}
use lib.ListN.{length, get_or}
use borrow.Author.Tests.{le-leb, lt-leb}
use Rattle.std.specs.Prelude.{Option}
use Rattle.lists.specs.Lists.{keep}
use Rattle.lists.specs.Words.{part}
use Rattle.lists.specs.CountLaws.{keep_append}
use Rattle.counting_tree.specs.declared.run.Frames.{Frames}
use Rattle.counting_tree.specs.Given.{geometry}
use Rattle.counting_tree.specs.Ready.{at_frames}
use Rattle.blocks.specs.declared.Stretch.{Stretch}
use Rattle.blocks.specs.Blocks.{same_nats, row_of, row_around, own_row, bucket_around, stretch_in, pair_at, found_in}
use Rattle.blocks.specs.RowLaws.{around_low}
use Rattle.cells_grid.specs.Cells.{cells}
use Rattle.cells_grid.specs.Arrangement.{cell_at}
use Rattle.cells_grid.specs.Listing.{reach_of, cell_key, near_at, near_in, near_by, list_in, cell_ends, cell_places}
use Rattle.cells_grid.specs.declared.grid.CellsGrid.{CellsGrid}
use Rattle.cells_grid.specs.declared.listing.Passed.{Passed}
use Rattle.cells_grid.specs.declared.listing.Search.{Search}
use Rattle.cells_grid.proofs.ArrangementLaws.{cell_at_below}
use Rattle.cells_grid.proofs.ListingLaws.{few}
use Rattle.cells_grid.proofs.SortedLaws.{places_length, ends_length, place_below}
use Rattle.cells_grid.proofs.SortedStretch.{stretch_high, stretch_both}

-- the first frame of each cell, in the words of the cells
pub firsts_of : (s : CellsGrid) → part s.work.now s.frames.n (s.frames.n + s.k - s.frames.n) ≡ cells (geometry s.frames)
firsts_of s =
    let e : s.frames.n + s.k - s.frames.n ≡ s.k = omega arith in
    ap (part s.work.now s.frames.n) e ∙ subst (λ (m : ℕ). part s.work.now m s.k ≡ cells (geometry s.frames)) (at_frames s.frames.v s.frames.n s.frames.points.now) s.arranged.firsts

module _ (s : Search) where
  abbrev f : Frames
  f = s.around.frames.now

  abbrev i : ℕ
  i = s.around.i

  -- ---- its slices
  pub long : length s.places.now ≡ length (cells (geometry s.around.frames.now))
  long = ap length s.placed ∙ places_length f.ready

  pub first_long : length s.firsts.now ≡ length s.places.now
  first_long = ap length s.firsts_are ∙ sym long

  pub ends_long : length s.ends.now ≡ 4 * length (cells (geometry s.around.frames.now))
  ends_long = ap length s.ended ∙ ends_length f.ready

  pub most : 4 * length s.places.now ≤ 65535
  most = omega (arith, long, few f.ready, f.ready.few)

  pub place_low : (p : ℕ) → p < length s.places.now → get_or s.places.now p 0 < length s.places.now
  place_low p h = omega (arith, ap (λ (z : List ℕ). get_or z p 0) s.placed, place_below f.ready p (omega (arith, h, long)), long)

  -- ---- cell d
  module _ {d : ℕ} (h : d < length s.places.now) where
    first_is : get_or s.firsts.now d 0 ≡ cell_at (geometry f) d
    first_is = ap (λ (z : List ℕ). get_or z d 0) s.firsts_are

    pub first_low : get_or s.firsts.now d 0 < s.around.frames.now.n
    first_low = omega (arith, first_is, cell_at_below (geometry f) d (omega (arith, h, long)), at_frames f.v f.n f.points.now)

    -- whether it is found: its number first, then whether its first frame is near, then its row
    module _ (after r : ℕ) where
      abbrev S : Bool
      S = same_nats (row_of (reach_of f.v) f.v f.n f.points.now (cell_at (geometry f) d)) (row_around (reach_of f.v) f.v f.n f.points.now i r)

      pub found_before : d < after → false ≡ (let a = s.around in let f = a.frames.now in near_in f.v f.n f.points.now a.i after r d)
      found_before a = sym (ap (λ (z : Bool). S && (z && near_at f.v f.n f.points.now i d)) (lt-leb after d a) ∙ and-false S)

      module _ (a : after ≤ d) {t : Bool} (l : t ≡ (geometry s.around.frames.now).near s.around.i (get_or s.firsts.now d 0)) where
        unless : {b : Bool} → b ≡ S && t → b ≡ near_in f.v f.n f.points.now i after r d
        unless k = k ∙ ap (λ (z : Bool). S && z) (l ∙ ap ((geometry f).near i) first_is ∙ sym (ap (λ (z : Bool). z && near_at f.v f.n f.points.now i d) (le-leb after d a)))

        pub found_near : t ≡ true → {b : Bool} → (let a = s.around in let f = a.frames.now in b ≡ same_nats (row_of a.reach f.v f.n f.points.now (get_or s.firsts.now d 0)) (row_around a.reach f.v f.n f.points.now a.i r))
            → (let a = s.around in let f = a.frames.now in b ≡ near_in f.v f.n f.points.now a.i after r d)
        found_near k {b} q = unless (
            q ∙ ap (λ (z : ℕ). same_nats (row_of z f.v f.n f.points.now (get_or s.firsts.now d 0)) (row_around z f.v f.n f.points.now i r)) s.reach_is
            ∙ ap (λ (u : ℕ). same_nats (row_of (reach_of f.v) f.v f.n f.points.now u) (row_around (reach_of f.v) f.v f.n f.points.now i r)) first_is
            ∙ sym (ap (λ (z : Bool). S && z) k ∙ and-true S)
            )

        pub found_far : t ≡ false → t ≡ (let a = s.around in let f = a.frames.now in near_in f.v f.n f.points.now a.i after r d)
        found_far k = k ∙ unless (sym (ap (λ (z : Bool). S && z) k ∙ and-false S))

  pub own_is : {r : ℕ} → (let a = s.around in let f = a.frames.now in r ≡ own_row a.reach f.v f.n f.points.now a.i) → let a = s.around in let f = a.frames.now in r ≡ own_row (reach_of f.v) f.v f.n f.points.now a.i
  own_is q = q ∙ ap (λ (z : ℕ). own_row z f.v f.n f.points.now i) s.reach_is

  -- ---- row r, which the stretch x gives
  module _ (after r : ℕ) {x : Stretch} (q : let a = s.around in let f = a.frames.now in x ≡ stretch_in s.ends.now 0 (bucket_around a.reach f.v f.n f.points.now (length s.ends.now - 1) a.i r) (length s.ends.now - 1)) where
    abbrev K : ℕ
    K = length (cells (geometry f))

    abbrev at : ℕ
    at = bucket_around (reach_of f.v) f.v f.n f.points.now (4 * K - 1) i r

    some : 0 < K
    some = omega (arith, s.some, long)

    at_low : at < 4 * K - 1
    at_low = around_low (reach_of f.v) f.v f.n f.points.now (4 * K - 1) (omega (arith, some)) i r

    places_long : length (cell_places f.v f.n f.points.now) ≡ K
    places_long = places_length f.ready

    here : x ≡ stretch_in (cell_ends f.v f.n f.points.now) 0 at (4 * K - 1)
    here = q ∙ ap₂ (λ (z k : ℕ). stretch_in s.ends.now 0 (bucket_around z f.v f.n f.points.now (k - 1) i r) (k - 1)) s.reach_is ends_long ∙ ap (λ (z : List ℕ). stretch_in z 0 at (4 * K - 1)) s.ended

    pub row_high : (x.to ≤ length s.places.now) × (x.rest ≤ length s.places.now)
    unfolding cell_ends cell_places
    row_high = let H = stretch_high (cell_key f.v f.n f.points.now) K (4 * K) places_long (omega (arith, some)) at_low here in (omega (arith, H.0, long), omega (arith, H.1, long))

    pub row_is : let a = s.around in let f = a.frames.now in near_by f.v f.n f.points.now a.i after r s.places.now x.«from» x.to ++ near_by f.v f.n f.points.now a.i after r s.places.now 0 x.rest ≡ list_in f.v f.n f.points.now a.i after r
    unfolding cell_ends cell_places list_in found_in pair_at
    row_is =
        ap (λ (z : List ℕ). near_by f.v f.n f.points.now i after r z x.«from» x.to ++ near_by f.v f.n f.points.now i after r z 0 x.rest) s.placed
        ∙ sym (keep_append (near_in f.v f.n f.points.now i after r) (part (cell_places f.v f.n f.points.now) x.«from» (x.to - x.«from»)) (part (cell_places f.v f.n f.points.now) 0 (x.rest - 0)))
        ∙ ap (keep (near_in f.v f.n f.points.now i after r)) (stretch_both (cell_key f.v f.n f.points.now) K (4 * K) places_long (omega (arith, some)) at_low here)

-- what is said of the frames, frame i and the cells that are passed in a search is said of those that it was made of, and the other way
module _ (P : Frames → ℕ → Option Passed → Type 0) (s : Search) {f : Frames} {i : ℕ} {zs : List ℕ} {o : Option Passed} (e : (s.around.frames.now ≡ f) × (s.around.i ≡ i) × (s.places.now ≡ zs) × (s.passed ≡ o)) where
  pub into_search : P f i o → P s.around.frames.now s.around.i s.passed
  into_search p = subst (λ (z : Frames). P z s.around.i s.passed) (sym e.0) (subst (λ (z : ℕ). P f z s.passed) (sym e.1) (subst (P f i) (sym e.3) p))

  pub of_search : P s.around.frames.now s.around.i s.passed → P f i o
  of_search p = subst (P f i) e.3 (subst (λ (z : ℕ). P f z s.passed) e.1 (subst (λ (z : Frames). P z s.around.i s.passed) e.0 p))
