-- Cells taken with the cells of lists: what a list of core cells gives, and the pairs that are still to be met.
use mathlib.Core.Path.{◌≡◌, refl, sym, ap, ap₂, ◌∙◌, subst}
use mathlib.Core.Bool.{Bool, true, false}
use mathlib.Core.List.{List, [], ◌∷◌, ◌++◌, map}
use Prim.Native.Nat.{ℕ, ◌+◌, ◌-◌, ◌<◌, ◌≤◌}
use native.Mathlib.Omega.{arith}
use native.Mathlib.Numerals.{add-one}
use lib.Dec.{T}
use lib.ListN.{length, take, drop, get_or, drop_of_length-le}
use lib.Seq.{drop-cons}
use Rattle.lists.specs.Lists.{In, Below}
use Rattle.lists.specs.Words.{over, rest}
use Rattle.lists.specs.ListLaws.{true_T, at_in, in_map, in_from}
use Rattle.lists.specs.CountLaws.{keep_all}
use Rattle.lists.proofs.PartLaws.{part_same}
use Rattle.lists.proofs.LoopLaws.{rest_step, rest_end}
use Rattle.counting_tree.specs.Geometry.{Geometry}
use Rattle.counting_tree.specs.Given.{geometry}
use Rattle.cells_grid.specs.Cells.{cells, core_cell}
use Rattle.cells_grid.specs.Arrangement.{cell_at}
use Rattle.cells_grid.specs.Listing.{cell_places, later_of, unlike, MarkedRuns, Marked}
use Rattle.cells_grid.specs.declared.grid.CellsGrid.{CellsGrid}
use Rattle.cells_grid.proofs.ListingLaws.{in_unmarked, later_sound}
use Rattle.cells_grid.proofs.SortedLaws.{places_length}
use Rattle.partitions.specs.TrialLaws.{Within}
use Rattle.clustering.specs.Uniting.{pair_at, pairs_with}
use Rattle.clustering.proofs.UnitingLaws.{parts_pair, with_none}
use Rattle.clustering.specs.UniteAll.{meet, meet_all, by_own_leaders, pairs_by}
use Rattle.clustering.proofs.UniteAllLaws.{by_within}
use Rattle.clustering.specs.Leading.{Leading}
use Rattle.clustering.proofs.Meeting.{Met, all_lead, met_on, met_next, met_end}

-- ---- cell c with the cells ds
abbrev pub with : ℕ → List ℕ → List (ℕ × ℕ)
with c ds = map {B = ℕ × ℕ} (λ d. (c, d)) ds

pub with_within : {k : ℕ} (c : ℕ) (ds : List ℕ) → c < k → Below k ds → Within k (with c ds)
with_within {k} c ds h l a b j = let x = in_map (λ d. (c, d)) (a, b) ds j in subst (λ (z : ℕ × ℕ). (z.0 < k) × (z.1 < k)) (sym x.2) (h, l x.0 x.1)

pub listed_low : {k : ℕ} (ds : List ℕ) → Below k ds → {j : ℕ} → j < length ds → get_or ds j 0 < k
listed_low {k} ds l {j} h = l (get_or ds j 0) (at_in 0 ds j h)

-- of which the first j are met
module _ {k : ℕ} {link : ℕ → ℕ → Bool} (c : ℕ) (ds : List ℕ) (j : ℕ) {p₀ p : List ℕ} (i : Met k link (with c ds) (with c (drop j ds)) p₀ p) where
  pub list_on : c < k → Below k ds → j < length ds → (d : ℕ) → d ≡ get_or ds j 0 → {q : List ℕ} → q ≡ meet by_own_leaders link c d p → Met k link (with c ds) (with c (drop (j + 1) ds)) p₀ q
  list_on h l m d e eq =
      met_next link i c d (with c (drop (j + 1) ds))
      (ap (with c) (drop-cons ds j 0 m ∙ ap₂ (λ (x m : ℕ). x ∷ drop m ds) (sym e) (sym (add-one j))))
      h (l d (subst (λ (x : ℕ). In x ds) (sym e) (at_in 0 ds j m))) eq

  pub list_end : length ds ≤ j → p ≡ meet_all by_own_leaders link (with c ds) p₀
  list_end h = met_end link i (ap (with c) (drop_of_length-le ds {i = j} h))

-- ---- what a cell finds from its own row on, but for the cells of its mark
module _ (s : CellsGrid) where
  abbrev g : Geometry
  g = geometry s.frames

  abbrev later : ℕ → List ℕ
  later = later_of s.frames.v s.frames.n s.frames.points.now

  pub is_cell : {c : ℕ} → c < s.k → c < length (cells (geometry s.frames))
  is_cell h = omega (arith, s.arranged.count)

  module _ (ms : List ℕ) {c : ℕ} (h : c < s.k) where
    abbrev ds : List ℕ
    ds = unlike ms later c

    sound : (d : ℕ) → In d ds → (d < s.k) × (T (core_cell g (cell_at g c)) → T (pair_at g c d))
    sound d j =
        let z = later_sound s.frames.ready c (is_cell h) d (in_unmarked ms (get_or ms c 0) d (later c) j).0 in
        (omega (arith, z.0, s.arranged.count), λ t. parts_pair g c d t z.1 z.2)

    pub found_below : Below s.k (unlike ms (later_of s.frames.v s.frames.n s.frames.points.now) c)
    found_below d j = (sound d j).0

    -- of a core cell all these are pairs
    found_pairs : T (core_cell g (cell_at g c)) → pairs_with g c ds ≡ with c ds
    unfolding pairs_with
    found_pairs t = ap (with c) (keep_all (pair_at g c) ds (λ d j. (sound d j).1 t))

  -- so are those of any of the cells, and what meeting them leaves are leaders
  pub rows_lead : (link : ℕ → ℕ → Bool) (ms : List ℕ) (from to : ℕ) → to ≤ s.k → {p : List ℕ} → Leading s.k p → {q : List ℕ}
      → q ≡ meet_all by_own_leaders link (pairs_by (geometry s.frames) (unlike ms (later_of s.frames.v s.frames.n s.frames.points.now)) (rest to from)) p → Leading s.k q
  rows_lead link ms from to h L e =
      subst (Leading s.k) (sym e)
      (all_lead L link _ (by_within g (unlike ms later) (λ c l. found_below ms l) (rest to from) (λ c j. let z = in_from from (to - from) c j in omega (arith, z.0, z.1))))

  -- ---- the cells from `from` up to `to` are met, each with what it finds: those from c on are left, and p are the leaders now
  pub record Rows (link : ℕ → ℕ → Bool) (ms : List ℕ) (from to c : ℕ) (p₀ p : List ℕ) : Type 0 where
    pub met : Met s.k link (pairs_by g (unlike ms later) (rest to from)) (pairs_by g (unlike ms later) (rest to c)) p₀ p

module _ {s : CellsGrid} {link : ℕ → ℕ → Bool} {ms : List ℕ} {from to c : ℕ} {p₀ p : List ℕ} (i : Rows s link ms from to c p₀ p) where
  -- the pairs of some cells
  abbrev rows : List ℕ → List (ℕ × ℕ)
  rows = pairs_by (g s) (unlike ms (later s))

  pub rows_end : to ≤ c → p ≡ meet_all by_own_leaders link (pairs_by (geometry s.frames) (unlike ms (later_of s.frames.v s.frames.n s.frames.points.now)) (rest to from)) p₀
  unfolding pairs_by
  rows_end h = met_end link i.met (ap rows (rest_end to c h))

  -- cell d is the next, after which those from n on are left
  module _ (most : to ≤ s.k) (h : c < to) {d n : ℕ} (ed : d ≡ c) (en : n ≡ c + 1) {b : Bool} (eb : b ≡ core_cell (geometry s.frames) (cell_at (geometry s.frames) d)) where
    l : d < s.k
    l = omega arith

    split : (row : List (ℕ × ℕ)) → pairs_with (g s) d (unlike ms (later s) d) ≡ row → rows (rest to c) ≡ row ++ rows (rest to n)
    unfolding pairs_by
    split row e = ap rows (rest_step to c h ∙ ap₂ (λ (x y : ℕ). x ∷ rest to y) (sym ed) (sym en)) ∙ ap (λ (r : List (ℕ × ℕ)). r ++ rows (rest to n)) e

    pub rows_skip : b ≡ false → Rows s link ms from to n p₀ p
    unfolding meet_all
    rows_skip f = record { met = met_on link i.met [] (rows (rest to n)) (split [] (with_none (g s) d (unlike ms (later s) d) (sym eb ∙ f))) (λ a b j. absurd j) refl }

    pub rows_on : b ≡ true → {ds : List ℕ} → ds ≡ unlike ms (later_of s.frames.v s.frames.n s.frames.points.now) d → {q : List ℕ} → q ≡ meet_all by_own_leaders link (with d ds) p → Rows s link ms from to n p₀ q
    rows_on t {ds} e eq = record {
      met = met_on link i.met (with d ds) (rows (rest to n)) (split _ (found_pairs s ms l (true_T (sym eb ∙ t)) ∙ ap (with d) (sym e)))
          (with_within d ds l (subst (Below s.k) (sym e) (found_below s ms l))) eq;
    }

-- ---- a list that is written, of cells t, is that of the same cells s
abbrev found : CellsGrid → List ℕ → ℕ → List ℕ
found s ms = unlike ms (later_of s.frames.v s.frames.n s.frames.points.now)

-- each cell has a mark
pub marked_low : (s : CellsGrid) {zs ms rs : List ℕ} → zs ≡ cell_places s.frames.v s.frames.n s.frames.points.now → Marked zs ms rs → {c : ℕ} → c < s.k → c < length ms
marked_low s ez m h = omega (arith, h, m.marks, ap length ez, places_length s.frames.ready, s.arranged.count)

-- and, where the same cells stand, runs
pub runs_there : {zs ys ms rs : List ℕ} → ys ≡ zs → Marked zs ms rs → (mark : ℕ) → MarkedRuns ys ms rs mark
runs_there {zs} {ys} {ms} {rs} e m mark = subst (λ (xs : List ℕ). MarkedRuns xs ms rs mark) (sym e) (m.all mark)

pub list_is : {s t : CellsGrid} → t ≡ s → (ms xs : List ℕ) (c : ℕ) {ys : List ℕ} {m : ℕ} → m ≡ length (unlike ms (later_of t.frames.v t.frames.n t.frames.points.now) c)
    → ys ≡ over xs 0 (unlike ms (later_of t.frames.v t.frames.n t.frames.points.now) c) → take m ys ≡ unlike ms (later_of s.frames.v s.frames.n s.frames.points.now) c
list_is {s} {t} et ms xs c {ys} {m} em e =
    subst (λ (z : CellsGrid). take m ys ≡ found z ms c) et (ap (take m) e ∙ part_same xs 0 m (found t ms c) (omega arith) (sym em))
