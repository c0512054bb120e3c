-- The cells and frames as they stand sorted, their marks and runs and the counts that rise, all in words of one slice, each from an offset on: what such words hold, and what laying others does to them.
use Rattle.std.specs.Prelude.{◌≡◌, refl, ◌⊎◌, Bool, ℤ, get_or, replicate, drop}
use Rattle.std.proofs.Math.Path.{sym, ap, ap₂, subst}
use Rattle.std.proofs.Common.{◌∙◌, arith, get_or-drop, eq-eqb, ne_eqb}
use Rattle.std.proofs.Math.Logic.{inl, inr}
use Rattle.std.proofs.Math.Bool.{not, cond}
use mathlib.Core.List.{List, [], ◌++◌}
use Prim.Native.Nat.{ℕ, ◌+◌, ◌-◌, ◌*◌, ◌<◌, ◌≤◌}
use Rattle.std.proofs.Math.Dec.{eqb}
use Rattle.std.proofs.Math.ListN.{length, set}
use Rattle.std.proofs.lemmas.List.{length-replicate}
use Rattle.lists.specs.Lists.{numbers, keep, how_many, Below}
use Rattle.lists.specs.Words.{over, part, column, Clear}
use Rattle.lists.specs.Sorting.{places_of, begin_in, Sorted}
use Rattle.lists.specs.ListLaws.{keep_same, at_in, map_same, in_numbers, at_numbers, length_numbers}
use Rattle.lists.proofs.WordLaws.{over_length, over_self, over_again, set_laid}
use Rattle.lists.proofs.PartLaws.{get_under, get_laid, get_above, part_at, part_above, column_part, column_set, clear_over, clear_within}
use Rattle.lists.proofs.SortLaws.{sorted_over, start_le, start_of_all, places_of_length, places_of_below, begin_at}
use Rattle.hyperparams.specs.declared.ValidParams.{ValidParams}
use Rattle.counting_tree.specs.Ready.{geometry_at, Ready, at_frames}
use Rattle.cells_grid.specs.Cells.{cells}
use Rattle.cells_grid.specs.Arrangement.{Arranged}
use Rattle.cells_grid.specs.Crowding.{frame_key}
use Rattle.cells_grid.specs.Listing.{unmarked, cell_key, list_of, later_of}
use Rattle.cells_grid.specs.Pairs.{raised}
use Rattle.cells_grid.proofs.ArrangementLaws.{arranged_over}
use Rattle.cells_grid.proofs.ListingLaws.{few, cell_key_below, list_length, unmarked_later_length}
use Rattle.cells_grid.proofs.RaisedLaws.{often_append, often_replicate}

-- words laid over words that are 0, and made 0 again
laid_cleared : (w : List ℕ) (a : ℕ) (ws : List ℕ) (m : ℕ) → m ≡ length ws → a + m ≤ length w → Clear w a m → over (over w a ws) a (replicate m 0) ≡ w
laid_cleared w a ws m e h z = over_again w a ws (replicate m 0) (omega arith) (length-replicate m 0 ∙ e) ∙ clear_over w a m h z

-- ---- marks
-- of the cells ds those whose word from `marks` on is not `mark`
unfoldable pub unmarked_at : List ℕ → (marks mark : ℕ) → List ℕ → List ℕ
unmarked_at w marks mark ds = keep (λ d. not (eqb (get_or w (marks + d) 0) mark)) ds

module _ (w : List ℕ) (a m : ℕ) where
  -- the marks as a list of their own
  pub unmarked_drop : (ds : List ℕ) → unmarked_at w a m ds ≡ unmarked (drop a w) m ds
  unfolding unmarked_at unmarked
  unmarked_drop ds = keep_same _ _ ds (λ d i. ap (λ (x : ℕ). not (eqb x m)) (sym (get_or-drop a w d 0)))

  -- words laid after the marks change nothing
  pub unmarked_over : (n b : ℕ) (ws ds : List ℕ) → Below n ds → a + n ≤ b → b ≤ length w → unmarked_at (over w b ws) a m ds ≡ unmarked_at w a m ds
  unfolding unmarked_at
  unmarked_over n b ws ds l h k = keep_same _ _ ds (λ d i. ap (λ (x : ℕ). not (eqb x m)) (get_under w b (a + d) ws (omega (arith, l d i)) k))

-- a marked one of the k sorted cells is followed by as many marked ones as its word from 8n on says
abbrev pub MarkedRunsAt : List ℕ → (n k marks mark : ℕ) → Type 0
MarkedRunsAt w n k marks mark = (p j : ℕ) → p + j < k → get_or w (marks + get_or w (14 * n + p) 0) 0 ≡ mark → j ≤ get_or w (8 * n + p) 0 → get_or w (marks + get_or w (14 * n + (p + j)) 0) 0 ≡ mark

-- ---- the cells as they stand sorted
-- how many core cells stand sorted: those before the last key, which the other cells have
abbrev pub sorted_count : List ℕ → (n k : ℕ) → ℕ
sorted_count w n k = begin_in w (10 * n) (4 * k - 1)

-- the words hold the core cells by bucket: from 10n where those of each bucket end, from 14n the cells
abbrev pub CellsSorted : ValidParams → ℕ → List ℤ → List ℕ → Type 0
CellsSorted v n ps w = Sorted (cell_key v n ps) (length (cells (geometry_at v n ps))) (4 * length (cells (geometry_at v n ps))) (10 * n) (14 * n) w

module _ {ps : List ℤ} {v : ValidParams} {n : ℕ} (r : Ready ps v n) where
  abbrev k : ℕ
  k = length (cells (geometry_at v n ps))

  -- some cells, written over words that are 0, and cleared
  few_cleared : (w ds : List ℕ) → length ds ≤ length (cells (geometry_at v n ps)) → 16 * n ≤ length w → Clear w (15 * n) n → over (over w (15 * n) ds) (15 * n) (replicate (length ds) 0) ≡ w
  few_cleared w ds s l z =
      let b : length ds ≤ n = omega (arith, few r) in
      laid_cleared w (15 * n) ds (length ds) refl (omega arith) (clear_within w (15 * n) n (15 * n) (length ds) z (omega arith) (omega arith))

  module _ (c : ℕ) (h : c < length (cells (geometry_at v n ps))) where
    -- a list that was written over words that are 0, and cleared
    pub list_cleared : (w : List ℕ) → 16 * n ≤ length w → Clear w (15 * n) n → over (over w (15 * n) (list_of v n ps c)) (15 * n) (replicate (length (list_of v n ps c)) 0) ≡ w
    list_cleared w l z = few_cleared w (list_of v n ps c) (list_length r c h) l z

    pub unmarked_later_cleared : (u : List ℕ) (a m : ℕ) (w : List ℕ) → 16 * n ≤ length w → Clear w (15 * n) n
        → over (over w (15 * n) (unmarked_at u a m (later_of v n ps c))) (15 * n) (replicate (length (unmarked_at u a m (later_of v n ps c))) 0) ≡ w
    unmarked_later_cleared u a m w l z =
        few_cleared w (unmarked_at u a m (later_of v n ps c)) (omega (arith, ap length (unmarked_drop u a m (later_of v n ps c)), unmarked_later_length r c h (drop a u) m)) l z

  -- words laid below or above the sorted cells keep them
  pub cells_sorted_over : {w : List ℕ} (b : ℕ) (ws : List ℕ) → b ≤ length w → (b + length ws ≤ 10 * n) ⊎ (15 * n ≤ b) → CellsSorted v n ps w → CellsSorted v n ps (over w b ws)
  cells_sorted_over b ws h (inl l) H = sorted_over H b ws (inr l) (inr (omega arith)) h
  cells_sorted_over b ws h (inr l) H = sorted_over H b ws (inl (omega (arith, few r))) (inl (omega (arith, few r))) h

  module _ {w : List ℕ} (H : CellsSorted v n ps w) where
    pub sorted_few : sorted_count w n (length (cells (geometry_at v n ps))) ≤ length (cells (geometry_at v n ps))
    sorted_few = omega (arith, begin_at H (4 * k - 1) (omega arith), start_le (cell_key v n ps) k (4 * k - 1))

    pub sorted_cell : (p : ℕ) → p < length (cells (geometry_at v n ps)) → get_or w (14 * n + p) 0 < length (cells (geometry_at v n ps))
    sorted_cell p h =
        let P = places_of (cell_key v n ps) k (4 * k) in
        let l : length P ≡ k = places_of_length (cell_key v n ps) k (4 * k) ∙ start_of_all (cell_key v n ps) k (4 * k) (cell_key_below r) in
        let e : get_or w (14 * n + p) 0 ≡ get_or P p 0 = sym (part_at w (14 * n) k p h) ∙ ap (λ (z : List ℕ). get_or z p 0) H.numbers in
        omega (arith, places_of_below (cell_key v n ps) k (4 * k) (get_or P p 0) (at_in 0 P p (omega arith)))

    -- words laid above the sorted cells keep the runs
    pub marked_runs_over : {k mark : ℕ} (marks : ℕ) → k ≤ length (cells (geometry_at v n ps)) → marks + n ≤ 10 * n → MarkedRunsAt w n k marks mark
        → (b : ℕ) (ws : List ℕ) → 15 * n ≤ b → b ≤ length w → MarkedRunsAt (over w b ws) n k marks mark
    marked_runs_over {k} {mark} marks s a M b ws l h p j e m t =
        mark_kept (p + j) e ∙ M p j e (sym (mark_kept p (omega arith)) ∙ m) (omega (arith, t, get_under w b (8 * n + p) ws (omega (arith, few r)) h))
      where
        mark_kept : (q : ℕ) → q < k → get_or (over w b ws) (marks + get_or (over w b ws) (14 * n + q) 0) 0 ≡ get_or w (marks + get_or w (14 * n + q) 0) 0
        mark_kept q z = ap (λ (x : ℕ). get_or (over w b ws) (marks + x) 0) (get_under w b (14 * n + q) ws (omega (arith, few r)) h)
            ∙ get_under w b (marks + get_or w (14 * n + q) 0) ws (omega (arith, few r, sorted_cell q (omega arith))) h

-- ---- words that rise
-- n words of w from a on, each with as much added as its number stands among js
unfoldable pub raised_at : List ℕ → (a n : ℕ) → List ℕ → List ℕ
raised_at w a n js = over w a (column (λ x. get_or w (a + x) 0 + how_many (λ j. eqb x j) js) n)

module _ (w : List ℕ) (a n : ℕ) (fit : a + n ≤ length w) where
  -- what the words become
  abbrev value : List ℕ → ℕ → ℕ
  value js x = get_or w (a + x) 0 + how_many (λ j. eqb x j) js

  -- the words of a slice, laid where they stood
  pub raised_is : (js : List ℕ) → raised_at w a n js ≡ over w a (raised n (part w a n) js)
  unfolding raised_at raised
  raised_is js = ap (over w a) (map_same (value js) (λ x. get_or (part w a n) x 0 + how_many (λ j. eqb x j) js) (numbers n) (λ x i. omega (arith, part_at w a n x (in_numbers n x i))))

  pub raised_length : (js : List ℕ) → length (raised_at w a n js) ≡ length w
  unfolding raised_at
  raised_length js = over_length w a (column (value js) n) (omega (arith, length_numbers (value js) n))

  pub raised_at_lem : (js : List ℕ) (x : ℕ) → x < n → get_or (raised_at w a n js) (a + x) 0 ≡ get_or w (a + x) 0 + how_many (λ j. eqb x j) js
  unfolding raised_at
  raised_at_lem js x h = get_laid w a x (column (value js) n) (omega (arith, length_numbers (value js) n)) (omega arith) ∙ at_numbers (value js) 0 n x h

  self : over w a (column (λ x. get_or w (a + x) 0) n) ≡ w
  self = over_self w a n (column (λ x. get_or w (a + x) 0) n) (sym (column_part w a n fit)) fit

  pub raised_none : raised_at w a n [] ≡ w
  unfolding raised_at
  raised_none = ap (over w a) (map_same (value []) (λ x. get_or w (a + x) 0) (numbers n) (λ x i. omega arith)) ∙ self

  pub raised_append : (xs ys : List ℕ) → raised_at (raised_at w a n xs) a n ys ≡ raised_at w a n (xs ++ ys)
  unfolding raised_at
  raised_append xs ys =
      let u = raised_at w a n xs in
      let D : ℕ → ℕ = λ x. get_or u (a + x) 0 + how_many (λ j. eqb x j) ys in
      over_again w a (column (value xs) n) (column D n) (omega arith) (length_numbers D n ∙ sym (length_numbers (value xs) n))
      ∙ ap (over w a) (map_same D (value (xs ++ ys)) (numbers n) (λ x i. omega (arith, raised_at_lem xs x (in_numbers n x i), often_append (λ j. eqb x j) xs ys)))

  -- words after them are as they were
  pub raised_part : (js : List ℕ) (b m : ℕ) → a + n ≤ b → part (raised_at w a n js) b m ≡ part w b m
  unfolding raised_at
  raised_part js b m h = part_above w b m a (column (value js) n) (omega (arith, length_numbers (value js) n)) (omega arith)

  pub raised_above : (js : List ℕ) (x : ℕ) → a + n ≤ x → get_or (raised_at w a n js) x 0 ≡ get_or w x 0
  unfolding raised_at
  raised_above js x h = get_above w a x (column (value js) n) (omega (arith, length_numbers (value js) n)) (omega arith)

  -- a number found m times
  pub raised_set : (j m : ℕ) → j < n → set w (a + j) (get_or w (a + j) 0 + m) ≡ raised_at w a n (replicate m j)
  unfolding raised_at
  raised_set j m h =
      let k : ℕ → ℕ = value (replicate m j) in
      let e : get_or w (a + j) 0 + m ≡ k j = ap (λ (z : ℕ). get_or w (a + j) 0 + z) (sym (often_replicate (λ y. eqb j y) m j ∙ ap (λ (b : Bool). cond b m 0) (eq-eqb j j refl))) in
      ap₂ (λ (z : List ℕ) (x : ℕ). set z (a + j) x) (sym self) e
      ∙ set_laid w a (column (λ x. get_or w (a + x) 0) n) j (k j) (omega arith) (omega (arith, length_numbers (λ x. get_or w (a + x) 0) n))
      ∙ ap (over w a) (column_set (λ x. get_or w (a + x) 0) k n j h
      (λ d l o. omega (arith, often_replicate (λ y. eqb d y) m j ∙ ap (λ (b : Bool). cond b m 0) (ne_eqb d j o))))

-- ---- the words hold the cells and the sorted frames
module _ (v : ValidParams) (n : ℕ) (ps : List ℤ) where
  pub record Laid (w : List ℕ) : Type 0 where
    pub ready : Ready ps v n
    pub arranged : Arranged (geometry_at v n ps) (length (cells (geometry_at v n ps))) w
    pub sorted : Sorted (frame_key v n ps) n (8 * n) (16 * n) (14 * n) w
    pub fit : 24 * n ≤ length w

module _ {v : ValidParams} {n : ℕ} {ps : List ℤ} {w : List ℕ} (L : Laid v n ps w) where
  pub laid_over : (b : ℕ) (us : List ℕ) → 4 * n ≤ b → b + length us ≤ 14 * n → Laid v n ps (over w b us)
  laid_over b us h k = record {
    ready = L.ready;
    arranged = arranged_over (geometry_at v n ps) b us (omega (arith, at_frames v n ps)) (omega (arith, L.fit)) L.arranged;
    sorted = sorted_over L.sorted b us (inr (omega arith)) (inr (omega arith)) (omega (arith, L.fit));
    fit = omega (arith, L.fit, over_length w b us (omega (arith, L.fit)));
  }

  pub laid_raised : (js : List ℕ) {u : List ℕ} → u ≡ raised_at w (10 * n) n js → Laid v n ps u
  unfolding raised_at
  laid_raised js e =
      let value : ℕ → ℕ = λ x. get_or w (10 * n + x) 0 + how_many (λ j. eqb x j) js in
      subst (Laid v n ps) (sym e) (laid_over (10 * n) (column value n) (omega arith) (omega (arith, length_numbers value n)))
