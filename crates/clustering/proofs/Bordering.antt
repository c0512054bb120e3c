-- The lowest cell on the list of a frame's own cell in whose tree the frame has a non-zero count, from that list.
use mathlib.Core.Logic.{inl}
use mathlib.Core.Path.{◌≡◌, refl, sym, ap, ap₂, ◌∙◌, subst}
use mathlib.Core.Bool.{Bool, true, false}
use mathlib.Core.List.{List, [], ◌∷◌}
use Rattle.std.proofs.Common.{take_at}
use Rattle.std.specs.Prelude.{Option, None, Some, slice_get, unwrap_or, IfSome, MatchOption, IsTrue}
use Prim.Native.Nat.{ℕ, ◌+◌, ◌<◌, ◌≤◌}
use native.Mathlib.Omega.{arith}
use borrow.Author.Tests.{lt-ltb, ltb-true, ltb-false}
use lib.Dec.{T, ltb}
use lib.ListN.{length, take, drop, get_or}
use Rattle.lists.specs.Lists.{numbers, keep, head_or, In, nonzero}
use Rattle.lists.specs.Words.{over}
use Rattle.lists.specs.OrderLaws.{below_at}
use Rattle.lists.specs.ListLaws.{in_keep, in_numbers}
use Rattle.lists.proofs.LoopLaws.{Lowest, lowest_start, lowest_same, lowest_less, lowest_end}
use Rattle.counting_tree.specs.Geometry.{Geometry}
use Rattle.counting_tree.specs.Given.{geometry}
use Rattle.cells_grid.specs.Cells.{cells, cell_number, listed, count}
use Rattle.cells_grid.specs.Arrangement.{cell_at}
use Rattle.cells_grid.specs.Listing.{list_of}
use Rattle.cells_grid.specs.declared.grid.CellsGrid.{CellsGrid}
use Rattle.cells_grid.proofs.ListingLaws.{list_sound, list_complete}
use Rattle.clustering.specs.Numbering.{borders_at}
use Rattle.clustering.proofs.Held.{counted_core}

-- frame i has a non-zero count in the tree of the cell with number c
abbrev pub counts : Geometry → ℕ → ℕ → Bool
counts g i c = nonzero (count g i (cell_at g c))

-- o is the lowest of the first j cells of a list that pass f, each of which is below k
abbrev pub LowestSoFar : (f : ℕ → Bool) → (k : ℕ) → List ℕ → Option ℕ → (j : ℕ) → Type 0
LowestSoFar f k xs o j = Lowest f k xs (unwrap_or o k) j × IfSome o (λ c. c < k)

pub none_so_far : (f : ℕ → Bool) (k : ℕ) (xs : List ℕ) → LowestSoFar f k xs None 0
none_so_far f k xs = (lowest_start f k xs, tt)

-- r is whether c is below what is kept, of which P tells the same by its value
below_kept : (o : Option ℕ) {k c : ℕ} {r : Bool} {P : ℕ → Type 0} → MatchOption o (IsTrue r) P → ((x : ℕ) → P x → r ≡ ltb c x) → c < k → r ≡ ltb c (unwrap_or o k)
below_kept None t p l = t ∙ sym (lt-ltb _ _ l)
below_kept (Some x) m p l = p x m

first_of : {k : ℕ} (o : Option ℕ) (xs : List ℕ) → ((x : ℕ) → In x xs → x < k) → IfSome o (λ c. c < k) → unwrap_or o k ≡ head_or k xs → o ≡ slice_get xs 0
first_of None [] b l e = refl
first_of None (x ∷ xs) b l e = absurd (omega (arith, e, b x (inl refl)))
first_of (Some c) [] b l e = absurd (omega (arith, e, l))
first_of (Some c) (x ∷ xs) b l e = ap Some e

-- xs are the cells that the cell of frame i lists
pub record Lists (s : CellsGrid) (i : ℕ) (xs : List ℕ) : Type 0 where
  pub low : cell_number (geometry s.frames) i < s.k
  pub items : xs ≡ list_of s.frames.v s.frames.n s.frames.points.now (cell_number (geometry s.frames) i)

-- they are the first words of the list that is written
pub lists : (s : CellsGrid) (ws : List ℕ) {q : CellsGrid} {i own m : ℕ} {us : List ℕ} → q ≡ s → own ≡ cell_number (geometry s.frames) i → own < s.k
    → m ≡ length (list_of q.frames.v q.frames.n q.frames.points.now own) → us ≡ over ws 0 (list_of q.frames.v q.frames.n q.frames.points.now own) → Lists s i (take m us)
lists s ws {q} {i} {own} {m} eq eo l em eu =
    let L : CellsGrid → ℕ → List ℕ = λ q o. list_of q.frames.v q.frames.n q.frames.points.now o in
    record {
      low = omega (arith, eo, l);
      items = ap (take m) eu ∙ take_at (L q own) (drop (0 + length (L q own)) ws) m (sym em) ∙ ap₂ L eq eo;
    }

module _ {s : CellsGrid} {i : ℕ} {xs : List ℕ} (z : Lists s i xs) where
  abbrev g : Geometry
  g = geometry s.frames

  abbrev own : ℕ
  own = cell_number g i

  abbrev L : List ℕ
  L = list_of s.frames.v s.frames.n s.frames.points.now own

  own_cell : own < length (cells g)
  own_cell = omega (arith, z.low, s.arranged.count)

  abbrev near : ℕ → Bool
  near d = listed g (cell_at g own) (cell_at g d)

  -- the cells on the list are listed ones,
  sound : (d : ℕ) → In d L → (d < s.k) × T (near d)
  sound d j = let y = list_sound s.frames.ready own own_cell d j in (omega (arith, y.0, s.arranged.count), y.2)

  -- and those in which frame i has a non-zero count are there: they are core cells
  complete : (d : ℕ) → d < s.k → T (near d) → T (counts g i d) → In d L
  complete d h t u = list_complete s.frames.ready own own_cell d (omega (arith, s.arranged.count)) (counted_core g i d u) t

  -- ---- at place j
  module _ {j : ℕ} (h : j < length xs) where
    inside : j < length L
    inside = omega (arith, ap length z.items)

    is_listed : get_or xs j 0 ≡ get_or L j 0
    is_listed = ap (λ (y : List ℕ). get_or y j 0) z.items

    pub listed_low : get_or xs j 0 < s.k
    listed_low = omega (arith, is_listed, below_at s.k L j (λ d i. (sound d i).0) inside)

    module _ (o : Option ℕ) (low : LowestSoFar (counts (geometry s.frames) i) s.k (list_of s.frames.v s.frames.n s.frames.points.now (cell_number (geometry s.frames) i)) o j) where
      pub not_lower : {r : Bool} {P : ℕ → Type 0} → MatchOption o (IsTrue r) P → ((x : ℕ) → P x → r ≡ ltb (get_or xs j 0) x) → r ≡ false
          → LowestSoFar (counts (geometry s.frames) i) s.k (list_of s.frames.v s.frames.n s.frames.points.now (cell_number (geometry s.frames) i)) o (j + 1)
      not_lower m p e = (lowest_same low.0 inside is_listed (λ t. ltb-false _ _ (sym (below_kept o m p listed_low) ∙ e)), low.1)

      pub no_count : {a : Bool} → a ≡ counts (geometry s.frames) i (get_or xs j 0) → a ≡ false
          → LowestSoFar (counts (geometry s.frames) i) s.k (list_of s.frames.v s.frames.n s.frames.points.now (cell_number (geometry s.frames) i)) o (j + 1)
      no_count q f = (lowest_same low.0 inside is_listed (λ t. absurd (subst T (sym q ∙ f) t)), low.1)

      pub lower : {r : Bool} {P : ℕ → Type 0} → MatchOption o (IsTrue r) P → ((x : ℕ) → P x → r ≡ ltb (get_or xs j 0) x) → r ≡ true → {a : Bool} → a ≡ counts (geometry s.frames) i (get_or xs j 0) → a ≡ true
          → LowestSoFar (counts (geometry s.frames) i) s.k (list_of s.frames.v s.frames.n s.frames.points.now (cell_number (geometry s.frames) i)) (Some (get_or xs j 0)) (j + 1)
      lower m p e q f = (lowest_less low.0 inside is_listed (ltb-true _ _ (sym (below_kept o m p listed_low) ∙ e)) (sym q ∙ f), listed_low)

  pub lowest_border : {o : Option ℕ} {j : ℕ} → LowestSoFar (counts (geometry s.frames) i) s.k (list_of s.frames.v s.frames.n s.frames.points.now (cell_number (geometry s.frames) i)) o j → length xs ≤ j
      → o ≡ slice_get (keep (borders_at (geometry s.frames) (cell_number (geometry s.frames) i) i) (numbers s.k)) 0
  unfolding borders_at
  lowest_border {o} low h =
      first_of o (keep (borders_at g own i) (numbers s.k)) (λ x p. in_numbers s.k x (in_keep (borders_at g own i) x (numbers s.k) p).0) low.1 (lowest_end low.0 (omega (arith, ap length z.items)) near sound complete).0
