-- What the words of a grid hold of its cells.
use mathlib.Core.Path.{◌≡◌, refl, sym, ap, ap₂, subst, ◌∙◌}
use mathlib.Core.Bool.{Bool, true, false, not}
use mathlib.Core.List.{List, [], ◌∷◌}
use Prim.Native.Nat.{ℕ, ◌+◌, ◌-◌, ◌*◌, ◌<◌, ◌≤◌}
use native.Mathlib.Omega.{arith}
use lib.Dec.{T_not, leb}
use Rattle.std.specs.Bool.{MatchBool}
use lib.ListN.{length, get_or}
use Rattle.std.specs.List.{filter, range_with_len, AllWithin, HoldsAt}
use Rattle.std.proofs.lemmas.List.FromFn.{get_or-range_with_len, length-range_with_len}
use mathlib.Core.Bool.{cond}
use Rattle.lists.specs.Lists.{numbers, keep, any, how_many, In}
use Rattle.lists.specs.Words.{part}
use Rattle.lists.specs.ListLaws.{at_in, true_T, T_true, any_in, any_none, in_numbers, numbers_in}
use Rattle.counting_tree.specs.Given.{geometry}
use Rattle.counting_tree.specs.Geometry.{Geometry}
use Rattle.counting_tree.specs.Ready.{at_frames, at_least}
use Rattle.cells_grid.specs.Cells.{members, first, cell_number, listed, dense}
use Rattle.cells_grid.specs.Lawful.{Lawful}
use Rattle.cells_grid.specs.Ready.{ready_lawful}
use Rattle.cells_grid.specs.Arrangement.{cell_at}
use Rattle.cells_grid.specs.Places.{end_in}
use Rattle.cells_grid.specs.declared.grid.CellsGrid.{CellsGrid}
use Rattle.cells_grid.proofs.CellLaws.{in_member, number_cell}
use Rattle.cells_grid.proofs.ArrangementLaws.{words_count, words_room, number_word, number_below, first_word, first_word_low, cell_size, cell_end_le, cell_places, listed_at, members_number}

-- what a chain of `filter` and `count` counts
pub kept_many : (f : ℕ → Bool) (xs : List ℕ) → length (filter f xs) ≡ how_many f xs
kept_many f xs = ap length (kept xs)
  where
    kept : (ys : List ℕ) → filter f ys ≡ keep f ys
    kept [] = refl
    kept (y ∷ ys) = ap (λ (r : List ℕ). cond (f y) (y ∷ r) r) (kept ys)

-- what a chain of `all` over the numbers below n says
pub all_pass : (P : ℕ → Bool) (n : ℕ) (r : Bool) → MatchBool r (AllWithin (λ d. P d ≡ true) (range_with_len 0 n) 0 (length (range_with_len 0 n))) ((k : ℕ) × (k < length (range_with_len 0 n)) × HoldsAt (λ d. P d ≡ false) (range_with_len 0 n) k)
    → r ≡ not (any (λ c. not (P c)) (numbers n))
all_pass P n true h = sym (ap not (any_none (λ c. not (P c)) (numbers n) (λ c i t. T_not (P c) t (true_T (each c (in_numbers n c i))))))
  where
    each : (c : ℕ) → c < n → P c ≡ true
    each c l =
        let z : get_or (range_with_len 0 n) c 0 ≡ c = omega (arith, get_or-range_with_len 0 n c 0 l) in
        ap P (sym z) ∙ h c 0 (omega arith) (omega (arith, length-range_with_len 0 n))
all_pass P n false h =
    let l : h.0 < n = omega (arith, h.1, length-range_with_len 0 n) in
    let z : get_or (range_with_len 0 n) h.0 0 ≡ h.0 = omega (arith, get_or-range_with_len 0 n h.0 0 l) in
    sym (ap not (T_true (any (λ c. not (P c)) (numbers n)) (any_in (λ c. not (P c)) h.0 (numbers n) (numbers_in n h.0 l) (true_T (ap not (ap P (sym z) ∙ h.2 0))))))

module _ (s : CellsGrid) where
  abbrev g : Geometry
  g = geometry s.frames

  abbrev n : ℕ
  n = s.frames.n

  abbrev w : List ℕ
  w = s.work.now

  e : g.frames ≡ n
  e = at_frames s.frames.v n s.frames.points.now

  L : Lawful g
  L = ready_lawful s.frames.ready

  pub few : s.k ≤ s.frames.n
  few = words_count g L s.arranged n e

  pub room : 4 * s.frames.n ≤ length s.work.now
  room = words_room g L s.arranged n e

  -- frame i
  pub own_is : {i : ℕ} → i < s.frames.n → {c : ℕ} → c ≡ get_or s.work.now i 0 → c ≡ cell_number (geometry s.frames) i
  own_is {i} h z = z ∙ number_word g L s.arranged n e i h

  pub own_low : {i : ℕ} → i < s.frames.n → {c : ℕ} → c ≡ get_or s.work.now i 0 → c < s.k
  own_low {i} h z = omega (arith, own_is h z, number_below g L i (omega (arith, h, e)), s.arranged.count)

  -- cell c
  module _ {c : ℕ} (h : c < s.k) where
    pub first_is : {x : ℕ} → x ≡ get_or s.work.now (s.frames.n + c) 0 → x ≡ cell_at (geometry s.frames) c
    first_is z = z ∙ first_word g L s.arranged n e c h

    pub first_low : {x : ℕ} → x ≡ get_or s.work.now (s.frames.n + c) 0 → x < s.frames.n
    first_low z = omega (arith, z, first_word_low g L s.arranged n e c h)

    -- its frames
    module _ {from to : ℕ} (ef : from ≡ get_or s.work.now (2 * s.frames.n + c) 0) (et : to ≡ end_in s.work.now s.frames.n s.k c) where
      pub places : (from ≤ to) × (to ≤ s.frames.n)
      places = (omega (arith, cell_size g L s.arranged n e c h ef et), cell_end_le g L s.arranged n e c h ef et)

      pub frames_are : part s.work.now (3 * s.frames.n + from) (3 * s.frames.n + to - (3 * s.frames.n + from)) ≡ members (geometry s.frames) (cell_at (geometry s.frames) c)
      frames_are =
          let l : 3 * n + to - (3 * n + from) ≡ to - from = omega arith in
          ap (part w (3 * n + from)) l ∙ cell_places g L s.arranged n e c h ef et

    -- they are frames
    pub in_cell : {xs : List ℕ} → xs ≡ members (geometry s.frames) (cell_at (geometry s.frames) c) → (d i : ℕ) → i < length xs → get_or xs i d < s.frames.n
    in_cell {xs} q d i l = omega (arith, (in_member g (cell_at g c) (get_or xs i d) (subst (In (get_or xs i d)) q (at_in d xs i l))).0, e)

    pub frame_low : {xs : List ℕ} → xs ≡ members (geometry s.frames) (cell_at (geometry s.frames) c) → (i : ℕ) → i < length xs → get_or xs i 0 < s.frames.n
    frame_low q i l = in_cell q 0 i l

  -- the first frame of frame i's cell
  pub own_first_is : {i : ℕ} → i < s.frames.n → {c x : ℕ} → c ≡ cell_number (geometry s.frames) i → x ≡ cell_at (geometry s.frames) c → x ≡ first (geometry s.frames) i
  own_first_is {i} h p q = q ∙ ap (cell_at g) p ∙ number_cell g L i 0 (omega (arith, h, e))

  -- cell c lists cell d
  pub listed_is : {c d : ℕ} → c < s.k → d < s.k → {x y : ℕ} → x ≡ cell_at (geometry s.frames) c → y ≡ cell_at (geometry s.frames) d → g.near x y ≡ listed (geometry s.frames) (cell_at (geometry s.frames) c) (cell_at (geometry s.frames) d)
  listed_is {c} {d} h l p q = ap₂ g.near p q ∙ sym (listed_at g c d (omega (arith, h, s.arranged.count)) (omega (arith, l, s.arranged.count)))

  -- cell c is dense
  pub dense_is : (c : ℕ) {xs : List ℕ} → xs ≡ members (geometry s.frames) (cell_at (geometry s.frames) c) → leb s.frames.v.min_points (length xs) ≡ dense (geometry s.frames) (cell_at (geometry s.frames) c)
  unfolding dense
  dense_is c q = ap₂ leb (sym (at_least s.frames.v n s.frames.points.now)) (ap length q)

  -- that of frame i
  pub dense_own : {i : ℕ} → i < s.frames.n → {c : ℕ} → c ≡ cell_number (geometry s.frames) i → dense (geometry s.frames) (cell_at (geometry s.frames) c) ≡ dense (geometry s.frames) i
  unfolding dense
  dense_own {i} h q = ap (λ (ms : List ℕ). leb g.least (length ms)) (ap (λ (d : ℕ). members g (cell_at g d)) q ∙ members_number g L i (omega (arith, h, e)))

  -- those of cell c that pass a test
  pub within_count : (f : ℕ → Bool) (c : ℕ) {xs : List ℕ} → xs ≡ members (geometry s.frames) (cell_at (geometry s.frames) c) → length (filter f xs) ≡ how_many f (members (geometry s.frames) (cell_at (geometry s.frames) c))
  within_count f c {xs} q = kept_many f xs ∙ ap (how_many f) q
