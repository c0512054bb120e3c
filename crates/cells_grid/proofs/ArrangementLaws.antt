-- Laws of cell numbers and of the arrangement by cell: cells by number, lists by number, the places of a cell are its frames; and what words that hold them say.
use Rattle.std.specs.Prelude.{◌≡◌, get_or}
use Rattle.std.proofs.Math.Path.{refl, sym, ap, ap₂}
use Rattle.std.proofs.Common.{subst, ◌∙◌, T_not, lt→ltb, eqb→eq, length-take, length-drop, drop_at, ext_get_or}
use Rattle.std.proofs.Math.Logic.{inl, inr}
use Rattle.std.proofs.Math.Bool.{Bool}
use mathlib.Core.List.{List, [], ◌∷◌, ◌++◌, map, map-append, map-map}
use Prim.Native.Nat.{ℕ, zero, suc, ◌+◌, ◌-◌, ◌*◌, ◌<◌, ◌≤◌}
use native.Mathlib.Omega.{arith}
use Rattle.std.proofs.Math.Numerals.{add-one}
use Rattle.std.proofs.Math.Dec.{ltb, eqb, ltb→lt, nltb→le, eqb_refl}
use Rattle.std.proofs.Math.ListN.{length, take, drop}
use Rattle.std.proofs.Math.Seq.{take-suc, take-length, split_at, take_at}
use Rattle.lists.specs.Lists.{numbers, keep, lose, how_many, total, concat, In, Below}
use Rattle.lists.specs.Words.{over, part, column}
use Rattle.lists.specs.ListLaws.{T_true, T_false, T_or_not, both_ways, bit_eqb, lose_in, keep_same, keep_more, at_in, in_map, map_same, in_some, in_concat, in_numbers, at_numbers, length_numbers}
use Rattle.lists.specs.CountLaws.{keep_map, parts_length, total_append, length_concat, concat_append}
use Rattle.lists.specs.OrderLaws.{at_rank, kept_le}
use Rattle.lists.proofs.WordLaws.{over_length}
use Rattle.lists.proofs.PartLaws.{part_part, part_under, part_same, part_at, part_below, holds_at, holds_at_0}
use Rattle.lists.proofs.Parts.{part_front_of}
use Rattle.lists.proofs.Within.{Within, within_self, within_over}
use Rattle.lists.specs.Sorting.{numbered, size_of, start_of, places_of}
use Rattle.lists.proofs.SortLaws as Sorting
use Rattle.lists.proofs.SortLaws.{start_of_none, start_of_next, start_of_all}
use Rattle.counting_tree.specs.Geometry.{Geometry}
use Rattle.cells_grid.specs.Cells.{same_cell, members, first, is_cell, cells, cell_number, listed, list, core}
use Rattle.cells_grid.specs.Lawful.{Lawful}
use Rattle.cells_grid.proofs.CellLaws.{in_member, members_same, first_in, cell_first, cells_ascending, first_cell, number_cell, number_same}
use Rattle.cells_grid.specs.Arrangement.{cell_at, arranged, start_at, core_bit, Arranged, Cored}
use Rattle.cells_grid.specs.Places.{end_in, populated}

-- ---- cells by number
module _ (g : Geometry) where
  pub cell_at_lem : (c : ℕ) → c < length (cells g) → In (cell_at g c) (cells g)
  cell_at_lem c h = at_in 0 (cells g) c h

  pub cell_at_below : (c : ℕ) → c < length (cells g) → cell_at g c < g.frames
  cell_at_below c h = (cell_first g (cell_at g c) (cell_at_lem c h)).0

  pub cell_at_first : (c : ℕ) → c < length (cells g) → first g (cell_at g c) ≡ cell_at g c
  cell_at_first c h = (cell_first g (cell_at g c) (cell_at_lem c h)).1

  pub cells_le : length (cells g) ≤ g.frames
  unfolding cells
  cells_le = kept_le (is_cell g) g.frames

  -- the first frame of the cell with number c has the cell number c
  pub number_at : (c : ℕ) → c < length (cells g) → cell_number g (cell_at g c) ≡ c
  unfolding cell_number
  number_at c h = ap (λ (f : ℕ). how_many (λ d. ltb d f) (cells g)) (cell_at_first c h) ∙ at_rank 0 (cells g) c (cells_ascending g) h

  pub cell_at_one : (c d : ℕ) → c < length (cells g) → d < length (cells g) → cell_at g c ≡ cell_at g d → c ≡ d
  cell_at_one c d h k e = sym (number_at c h) ∙ ap (cell_number g) e ∙ number_at d k

  pub cell_at_order : (c d : ℕ) → c < d → d < length (cells g) → cell_at g c < cell_at g d
  cell_at_order c d l k = elim (T_or_not (ltb (cell_at g c) (cell_at g d))) [
    | inl t ↦ ltb→lt (cell_at g c) (cell_at g d) t
    | inr f ↦
        let le : cell_at g d ≤ cell_at g c = nltb→le (cell_at g c) (cell_at g d) f in
        absurd (omega (
          arith,
          at_rank 0 (cells g) c (cells_ascending g) (omega arith),
          at_rank 0 (cells g) d (cells_ascending g) k,
          keep_more (λ x. ltb x (cell_at g d)) (λ x. ltb x (cell_at g c)) (cells g) (λ x i t. lt→ltb x (cell_at g c) (omega (arith, ltb→lt x (cell_at g d) t))),
        ))
  ]

  pub cells_by_number : cells g ≡ column (cell_at g) (length (cells g))
  cells_by_number = ext_get_or 0 (cells g) (column (cell_at g) (length (cells g))) (sym (length_numbers (cell_at g) (length (cells g)))) (λ c h. sym (at_numbers (cell_at g) 0 (length (cells g)) c h))

  -- the list of frame i's cell, by number
  pub list_by_number : (i : ℕ) → list g i ≡ map (cell_at g) (keep (λ c. listed g i (cell_at g c)) (numbers (length (cells g))))
  unfolding list
  list_by_number i = ap (keep (listed g i)) cells_by_number ∙ keep_map (listed g i) (cell_at g) (numbers (length (cells g)))

  -- a cell's first frame is that of its list
  pub listed_at : (c d : ℕ) → c < length (cells g) → d < length (cells g) → listed g (cell_at g c) (cell_at g d) ≡ g.near (cell_at g c) (cell_at g d)
  unfolding listed
  listed_at c d h k = ap₂ g.near (cell_at_first c h) (cell_at_first d k)

  -- ---- where the frames of a cell begin
  pub start_none : start_at g 0 ≡ 0
  unfolding start_at
  start_none = refl

  pub start_next : (c : ℕ) → c < length (cells g) → start_at g (c + 1) ≡ start_at g c + length (members g (cell_at g c))
  unfolding start_at
  start_next c h =
      ap (total (λ f. length (members g f))) (ap (λ (k : ℕ). take k (cells g)) (add-one c) ∙ take-suc (cells g) c 0 h)
      ∙ total_append (λ f. length (members g f)) (take c (cells g)) (cell_at g c ∷ [])
      ∙ omega arith

  -- the places of a cell are its frames
  pub places : (c : ℕ) → c < length (cells g) → part (arranged g) (start_at g c) (length (members g (cell_at g c))) ≡ members g (cell_at g c)
  unfolding arranged start_at
  places c h =
      let M = members g (cell_at g c) in
      let P = concat (map (members g) (take c (cells g))) in
      let R = concat (map (members g) (drop (suc c) (cells g))) in
      let e : concat (map (members g) (cells g)) ≡ P ++ (M ++ R) =
      ap (λ (l : List ℕ). concat (map (members g) l)) (split_at (cells g) c 0 h)
      ∙ ap concat (map-append (members g) (take c (cells g)) (cell_at g c ∷ drop (suc c) (cells g)))
      ∙ concat_append (map (members g) (take c (cells g))) (M ∷ map (members g) (drop (suc c) (cells g))) in
      ap (λ (l : List ℕ). part l (start_at g c) (length M)) e
      ∙ ap (take (length M)) (drop_at P (M ++ R) (start_at g c) (length_concat (members g) (take c (cells g))))
      ∙ take_at M R (length M) refl

module _ (g : Geometry) (L : Lawful g) where
  pub number_below : (i : ℕ) → i < g.frames → cell_number g i < length (cells g)
  unfolding cell_number
  number_below i h =
      let f : ℕ → Bool = λ c. ltb c (first g i) in
      let z = lose_in f (first g i) (cells g) (first_cell g L i h) (rw (T_false (ltb (first g i) (first g i)) (λ t. omega (arith, ltb→lt (first g i) (first g i) t))) tt) in
      omega (arith, parts_length f (cells g), in_some (first g i) (lose f (cells g)) z)

  -- a frame's cell, by its number: its frames
  pub members_number : (i : ℕ) → i < g.frames → members g (cell_at g (cell_number g i)) ≡ members g i
  members_number i h = ap (members g) (number_cell g L i 0 h) ∙ sym (members_same g L i (first g i) (first_in g L i h).1)

  -- the frames of the cell with number c are those with the cell number c
  pub members_by_number : (c : ℕ) → c < length (cells g) → members g (cell_at g c) ≡ numbered (cell_number g) g.frames c
  unfolding members numbered
  members_by_number c h = keep_same (same_cell g (cell_at g c)) (λ i. eqb (cell_number g i) c) (numbers g.frames) (λ i k. one i (in_numbers g.frames i k))
    where
      one : (i : ℕ) → i < g.frames → same_cell g (cell_at g c) i ≡ eqb (cell_number g i) c
      one i k =
          let z = number_same g L (cell_at g c) i (cell_at_below g c h) k in
          both_ways (same_cell g (cell_at g c) i) (eqb (cell_number g i) c)
          (λ t. rw (sym (z.1 t) ∙ number_at g c h) (eqb_refl c))
          (λ t. z.0 (number_at g c h ∙ sym (eqb→eq (cell_number g i) c t)))

  pub start_by_number : (c : ℕ) → c ≤ length (cells g) → start_at g c ≡ start_of (cell_number g) g.frames c
  unfolding size_of
  start_by_number zero h = start_none g ∙ sym (start_of_none (cell_number g) g.frames)
  start_by_number (suc c) h =
      let l : c < length (cells g) = h in
      rw (← add-one c) (omega (arith, start_next g c l, start_of_next (cell_number g) g.frames c, start_by_number c (omega arith), ap length (members_by_number c l)))

  pub arranged_by_number : arranged g ≡ places_of (cell_number g) g.frames (length (cells g))
  unfolding arranged places_of
  arranged_by_number =
      ap (λ (l : List ℕ). concat (map (members g) l)) (cells_by_number g)
      ∙ ap concat (map-map (members g) (cell_at g) (numbers (length (cells g)))
      ∙ map_same (λ c. members g (cell_at g c)) (numbered (cell_number g) g.frames) (numbers (length (cells g))) (λ c i. members_by_number c (in_numbers (length (cells g)) c i)))

  pub start_le : (c : ℕ) → c ≤ length (cells g) → start_at g c ≤ g.frames
  start_le c h = omega (arith, start_by_number c h, Sorting.start_le (cell_number g) g.frames c)

  -- after the last cell come no frames
  pub start_end : start_at g (length (cells g)) ≡ g.frames
  start_end = start_by_number (length (cells g)) (omega arith) ∙ start_of_all (cell_number g) g.frames (length (cells g)) number_below

  pub arranged_length : length (arranged g) ≡ g.frames
  unfolding arranged start_at
  arranged_length = length_concat (members g) (cells g) ∙ ap (total (λ f. length (members g f))) (sym (take-length (cells g))) ∙ start_end

  pub arranged_below : Below g.frames (arranged g)
  unfolding arranged
  arranged_below x i =
      let z = in_concat x (map (members g) (cells g)) i in
      let y = in_map (members g) z.0 (cells g) z.1 in
      (in_member g y.0 x (rw y.2 at z.2)).0

-- ---- what words that hold an arrangement say
module _ (g : Geometry) (L : Lawful g) {k : ℕ} {w : List ℕ} (A : Arranged g k w) (n : ℕ) (e : g.frames ≡ n) where
  laid : part w (3 * n) n ≡ arranged g
  laid = subst (λ m. part w (3 * m) m ≡ arranged g) e A.places

  pub words_count : k ≤ n
  words_count = omega (arith, A.count, cells_le g)

  pub words_room : 4 * n ≤ length w
  words_room = omega (arith, length-take n (drop (3 * n) w), length-drop (3 * n) w, ap length laid, arranged_length g L)

  pub number_word : (i : ℕ) → i < n → get_or w i 0 ≡ cell_number g i
  number_word i h = holds_at_0 w n (cell_number g) i (subst (λ m. part w 0 m ≡ column (cell_number g) m) e A.numbers) h

  pub first_word : (c : ℕ) → c < k → get_or w (n + c) 0 ≡ cell_at g c
  first_word c h = sym (part_at w n k c h) ∙ ap (λ (z : List ℕ). get_or z c 0) (subst (λ m. part w m k ≡ cells g) e A.firsts)

  pub first_word_low : (c : ℕ) → c < k → get_or w (n + c) 0 < n
  first_word_low c h = omega (arith, first_word c h, cell_at_below g c (omega (arith, A.count)), e)

  pub start_word : (c : ℕ) → c < k → get_or w (2 * n + c) 0 ≡ start_at g c
  start_word c h = holds_at w (2 * n) k (start_at g) c (subst (λ m. part w (2 * m) k ≡ column (start_at g) k) e A.starts) h

  pub end_word : (c : ℕ) → c < k → end_in w n k c ≡ start_at g (c + 1)
  unfolding end_in
  end_word c h = elim (T_or_not (ltb (c + 1) k)) [
    | inl t ↦ rw (T_true (ltb (c + 1) k) t) (start_word (c + 1) (ltb→lt (c + 1) k t))
    | inr f ↦
        let p : length (cells g) ≡ c + 1 = omega (arith, nltb→le (c + 1) k f, A.count) in
        rw (T_false (ltb (c + 1) k) (T_not (ltb (c + 1) k) f)) (sym e ∙ sym (start_end g L) ∙ ap (start_at g) p)
  ]

  -- the frames of a cell stand from its start to its end
  module _ (c : ℕ) (h : c < k) {start end : ℕ} (p : start ≡ get_or w (2 * n + c) 0) (q : end ≡ end_in w n k c) where
    low : c < length (cells g)
    low = omega (arith, A.count)

    pub cell_size : start + length (members g (cell_at g c)) ≡ end
    cell_size = omega (arith, p, q, start_word c h, end_word c h, start_next g c low)

    pub cell_end_le : end ≤ n
    cell_end_le = omega (arith, q, end_word c h, start_le g L (c + 1) (omega (arith, low)))

    pub cell_places : part w (3 * n + start) (end - start) ≡ members g (cell_at g c)
    cell_places =
        let s : start ≡ start_at g c = p ∙ start_word c h in
        let m : end - start ≡ length (members g (cell_at g c)) = omega (arith, cell_size) in
        ap (part w (3 * n + start)) m
        ∙ sym (part_part w (3 * n) n start (length (members g (cell_at g c))) (omega (arith, cell_size, cell_end_le)))
        ∙ ap₂ (λ (z : List ℕ) (a : ℕ). part z a (length (members g (cell_at g c)))) laid s
        ∙ places g c low

  pub place_below : (p : ℕ) → p < n → get_or w (3 * n + p) 0 < n
  place_below p h = part_below n w (3 * n) n p (λ x i. omega (arith, arranged_below g L x (subst (In x) laid i))) (omega (arith, words_room)) h

module _ (g : Geometry) where
  -- the first m words have all of it
  pub arranged_front : {k : ℕ} {w : List ℕ} (m : ℕ) → 4 * g.frames ≤ m → Arranged g k w → Arranged g k (take m w)
  arranged_front {k} {w} m h A = record {
    count = A.count;
    numbers = part_front_of w m 0 g.frames (omega arith) ∙ A.numbers;
    firsts = part_front_of w m g.frames k (omega (arith, A.count, cells_le g)) ∙ A.firsts;
    starts = part_front_of w m (2 * g.frames) k (omega (arith, A.count, cells_le g)) ∙ A.starts;
    places = part_front_of w m (3 * g.frames) g.frames (omega arith) ∙ A.places;
  }

  -- words laid above keep it
  pub arranged_over : {k : ℕ} {w : List ℕ} (b : ℕ) (ws : List ℕ) → 4 * g.frames ≤ b → b ≤ length w → Arranged g k w → Arranged g k (over w b ws)
  arranged_over {k} {w} b ws h l A = record {
    count = A.count;
    numbers = part_under w 0 g.frames b ws (omega arith) l ∙ A.numbers;
    firsts = part_under w g.frames k b ws (omega (arith, A.count, cells_le g)) l ∙ A.firsts;
    starts = part_under w (2 * g.frames) k b ws (omega (arith, A.count, cells_le g)) l ∙ A.starts;
    places = part_under w (3 * g.frames) g.frames b ws (omega arith) l ∙ A.places;
  }

  pub cored_over : {k : ℕ} {w : List ℕ} (b : ℕ) (ws : List ℕ) → 5 * g.frames ≤ b → b ≤ length w → Cored g k w → Cored g k (over w b ws)
  cored_over {k} {w} b ws h l C = record {
    cells = arranged_over b ws (omega arith) l C.cells;
    cores = part_under w (4 * g.frames) g.frames b ws (omega arith) l ∙ C.cores;
  }

  -- what `label_points` lays
  pub cored : {k : ℕ} {w : List ℕ} → Arranged g k w → (n : ℕ) → g.frames ≡ n → 4 * n ≤ length w → Cored g k (over w (4 * n) (column (core_bit g) n))
  cored {k} {w} A n e h = record {
    cells = arranged_over (4 * n) (column (core_bit g) n) (omega arith) h A;
    cores = ap (λ (m : ℕ). part (over w (4 * n) (column (core_bit g) n)) (4 * m) m) e
        ∙ part_same w (4 * n) n (column (core_bit g) n) h (length_numbers (core_bit g) n)
        ∙ ap (column (core_bit g)) (sym e);
  }

  pub core_word : {k : ℕ} {w : List ℕ} → Cored g k w → (n : ℕ) → g.frames ≡ n → (i : ℕ) → i < n → eqb (get_or w (4 * n + i) 0) 1 ≡ core g i
  unfolding core_bit
  core_word {k} {w} C n e i h = ap (λ (x : ℕ). eqb x 1) (holds_at w (4 * n) n (core_bit g) i (subst (λ m. part w (4 * m) m ≡ column (core_bit g) m) e C.cores) h) ∙ bit_eqb (core g i)

-- what `populate` lays is the arrangement
pub populated_arranged : (g : Geometry) → Lawful g → (w : List ℕ) → 4 * g.frames ≤ length w → Arranged g (length (cells g)) (populated g w)
unfolding populated
populated_arranged g L w h =
    let n = g.frames in
    let k = length (cells g) in
    let C = column (cell_number g) n in
    let S = column (start_at g) k in
    let w₁ = over w 0 C in
    let w₂ = over w₁ n (cells g) in
    let w₃ = over w₂ (2 * n) S in
    let lk : k ≤ n = cells_le g in
    let lc : length C ≡ n = length_numbers (cell_number g) n in
    let ls : length S ≡ k = length_numbers (start_at g) k in
    let l₁ : length w₁ ≡ length w = over_length w 0 C (omega arith) in
    let l₂ : length w₂ ≡ length w = over_length w₁ n (cells g) (omega arith) ∙ l₁ in
    let l₃ : length w₃ ≡ length w = over_length w₂ (2 * n) S (omega arith) ∙ l₂ in
    record {
      count = refl;
      numbers = part_under w₃ 0 n (3 * n) (arranged g) (omega arith) (omega arith)
          ∙ part_under w₂ 0 n (2 * n) S (omega arith) (omega arith)
          ∙ part_under w₁ 0 n n (cells g) (omega arith) (omega arith)
          ∙ part_same w 0 n C (omega arith) lc;
      firsts = part_under w₃ n k (3 * n) (arranged g) (omega arith) (omega arith)
          ∙ part_under w₂ n k (2 * n) S (omega arith) (omega arith)
          ∙ part_same w₁ n k (cells g) (omega arith) refl;
      starts = part_under w₃ (2 * n) k (3 * n) (arranged g) (omega arith) (omega arith)
          ∙ part_same w₂ (2 * n) k S (omega arith) ls;
      places = part_same w₃ (3 * n) n (arranged g) (omega arith) (arranged_length g L);
    }

-- and nothing else changes
pub populated_within : (g : Geometry) → Lawful g → (w : List ℕ) → 4 * g.frames ≤ length w → Within (4 * g.frames) w (populated g w)
unfolding populated
populated_within g L w h =
    let n = g.frames in
    let k = length (cells g) in
    let few : k ≤ n = cells_le g in
    within_over (within_over (within_over (within_over (within_self (4 * n) w)
    0 (column (cell_number g) n) (omega (arith, length_numbers (cell_number g) n)) h)
    n (cells g) (omega arith) h)
    (2 * n) (column (start_at g) k) (omega (arith, length_numbers (start_at g) k)) h)
    (3 * n) (arranged g) (omega (arith, arranged_length g L)) h
