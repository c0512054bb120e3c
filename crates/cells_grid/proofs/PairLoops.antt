-- Pairs are counted stretch by stretch, row by row, frame by frame: what has risen so far, and what is still to be found.
use mathlib.Core.Path.{◌≡◌, refl, sym, ap, subst, ◌∙◌}
use mathlib.Core.Bool.{Bool, true, false, cond, ◌&&◌, and-false}
use mathlib.Core.List.{List, [], ◌∷◌, ◌++◌, map, append_assoc, append-nil}
use Prim.Native.Nat.{ℕ, ◌+◌, ◌-◌, ◌*◌, ◌^◌, ◌<◌, ◌≤◌}
use native.Mathlib.Omega.{arith}
use lib.IntN.{ℤ}
use lib.Dec.{leb}
use lib.ListN.{length, get_or, drop, set, replicate, length-append}
use Rattle.std.proofs.Math.ListN.{drop_of_length-le}
use borrow.Author.Tests.{eq-eqb, ne_eqb, le-leb, lt-leb}
use Rattle.lists.specs.Lists.{keep, how_many, concat}
use Rattle.lists.specs.Words.{column, rest}
use Rattle.lists.specs.CountLaws.{keep_le}
use Rattle.lists.proofs.LoopLaws.{rest_start, rest_step, rest_end}
use Rattle.hyperparams.specs.declared.ValidParams.{ValidParams}
use Rattle.counting_tree.specs.Domain.{Counts}
use Rattle.counting_tree.specs.Ready.{geometry_at, Ready}
use Rattle.blocks.specs.Blocks.{same_nats, row_of, row_around}
use Rattle.cells_grid.specs.Cells.{neighbour}
use Rattle.cells_grid.specs.Crowding.{frames_near, neighbour_in}
use Rattle.cells_grid.specs.Pairs.{raised, Room, row_for, low_in, later_in, later_row, later_of, risen, others}
use Rattle.cells_grid.proofs.RaisedLaws.{raised_set, many_fits, Raising, raising_start, raising_length, raising_room, raising_more, raising_end, raising_left}
use Rattle.cells_grid.proofs.PairLaws.{later_few, all_room, all_counted}
use Rattle.cells_grid.proofs.Neighbours.{drop_next, row_parts, near_few}

-- ---- one frame
module _ (v : ValidParams) (n : ℕ) (ps : List ℤ) (i low m j : ℕ) where
  abbrev here : Bool
  here = same_nats (row_of v.t v n ps j) (row_around v.t v n ps i m)

  pub later_not : j < low → leb low j ≡ later_in v n ps i low m j
  later_not h = lt-leb low j h ∙ sym (ap (λ (b : Bool). here && (b && neighbour (geometry_at v n ps) i j)) (lt-leb low j h) ∙ and-false here)

  pub later_is : low ≤ j → {b : Bool} → b ≡ neighbour_in v n ps i m j → b ≡ later_in v n ps i low m j
  later_is h e = e ∙ sym (ap (λ (b : Bool). here && (b && neighbour (geometry_at v n ps) i j)) (le-leb low j h))

-- ---- a stretch
-- of the frames xs the first p are walked: those of them that pass f have risen, and `sum` is how many they are
pub record Walking (f : ℕ → Bool) (n : ℕ) (w₀ w xs : List ℕ) (sum p : ℕ) : Type 0 where
  pub raising : Raising n w₀ (keep f xs) (keep f (drop p xs)) w
  pub count : sum + how_many f (drop p xs) ≡ how_many f xs
  pub few : sum ≤ p

pub walking_start : {f : ℕ → Bool} {n : ℕ} {w₀ xs : List ℕ} → Room n w₀ (keep f xs) → Walking f n w₀ w₀ xs 0 0
walking_start r = record { raising = raising_start r; count = omega arith; few = omega arith }

module _ {f : ℕ → Bool} {n : ℕ} {w₀ w xs : List ℕ} {sum p : ℕ} (W : Walking f n w₀ w xs sum p) where
  -- frame j is next
  module _ (h : p < length xs) {j : ℕ} (e : j ≡ get_or xs p 0) where
    now_left : {t : Bool} → t ≡ f j → keep f (drop p xs) ≡ cond t (j ∷ keep f (drop (p + 1) xs)) (keep f (drop (p + 1) xs))
    now_left {t} q =
        ap (keep f) (drop_next xs p h ∙ ap (λ (z : ℕ). z ∷ drop (p + 1) xs) (sym e))
        ∙ ap (λ (s : Bool). cond s (j ∷ keep f (drop (p + 1) xs)) (keep f (drop (p + 1) xs))) (sym q)

    pub walking_miss : {t : Bool} → t ≡ f j → t ≡ false → Walking f n w₀ w xs sum (p + 1)
    walking_miss q r =
        let z = now_left (sym r ∙ q) in
        record { raising = raising_left W.raising z; count = ap (λ (l : List ℕ). sum + length l) (sym z) ∙ W.count; few = omega (arith, W.few) }

    module _ (low : j < n) {t : Bool} (q : t ≡ f j) (r : t ≡ true) where
      found : keep f (drop p xs) ≡ replicate 1 j ++ keep f (drop (p + 1) xs)
      found = now_left (sym r ∙ q)

      pub walking_fits : (j < length w) × (get_or w j 0 + 1 ≤ 65535)
      walking_fits = many_fits 1 j low (raising_room W.raising (replicate 1 j) (keep f (drop (p + 1) xs)) found)

      pub walking_hit : {u : List ℕ} → u ≡ set w j (get_or w j 0 + 1) → Walking f n w₀ u xs (sum + 1) (p + 1)
      walking_hit d = record {
        raising = raising_more W.raising (replicate 1 j) (keep f (drop (p + 1) xs)) found (d ∙ raised_set n w (raising_length W.raising) j 1 low);
        count = omega (arith, W.count, ap length found);
        few = omega (arith, W.few);
      }

  pub walking_end : length xs ≤ p → (sum ≡ how_many f xs) × (w ≡ raised n w₀ (keep f xs))
  walking_end h =
      let y : keep f (drop p xs) ≡ [] = ap (keep f) (drop_of_length-le xs h) in
      (omega (arith, W.count, ap length y), raising_end W.raising y)

-- ---- a row, in two stretches
module _ (v : ValidParams) (n : ℕ) (ps : List ℤ) (i low m : ℕ) (A B : List ℕ) (e : A ++ B ≡ frames_near v n ps i m) {w₀ : List ℕ} (r : Room n w₀ (later_row v n ps i low m)) where
  abbrev of : List ℕ → List ℕ
  of xs = keep (later_in v n ps i low m) xs

  row_is : later_row v n ps i low m ≡ of A ++ of B
  unfolding later_row
  row_is = row_parts v n ps i m A B e (λ j. leb low j && neighbour (geometry_at v n ps) i j)

  pub row_room : Room n w₀ (keep (later_in v n ps i low m) A)
  row_room = raising_room (raising_start r) (of A) (of B) row_is

  module _ {x : ℕ} (d : x ≡ how_many (later_in v n ps i low m) A) {u : List ℕ} (g : u ≡ raised n w₀ (keep (later_in v n ps i low m) A)) where
    row_next : Raising n w₀ (later_row v n ps i low m) (of B) u
    row_next = raising_more (raising_start r) (of A) (of B) row_is g

    rest_left : of B ≡ of B ++ []
    rest_left = sym (append-nil (of B))

    pub rest_room : Room n u (keep (later_in v n ps i low m) B)
    rest_room = raising_room row_next (of B) [] rest_left

    module _ {y : ℕ} (k : y ≡ how_many (later_in v n ps i low m) B) where
      pub row_count : x + y ≡ length (later_row v n ps i low m)
      row_count = omega (arith, d, k, ap length row_is, length-append (of A) (of B))

      pub row_few : x + y ≤ 2 * n
      row_few = omega (arith, d, k, keep_le (later_in v n ps i low m) A, keep_le (later_in v n ps i low m) B, length-append A B, ap length e, near_few v n ps i m)

      pub row_end : {t : List ℕ} → t ≡ raised n u (keep (later_in v n ps i low m) B) → t ≡ raised n w₀ (later_row v n ps i low m)
      row_end q = raising_end (raising_more row_next (of B) [] rest_left q) refl

-- ---- a frame
module _ (v : ValidParams) (n : ℕ) (ps : List ℤ) (i : ℕ) where
  -- the rows around it
  abbrev pub rows_of : ℕ
  rows_of = 2 ^ (v.channels - 1)

  -- what is found from row m on
  abbrev pub later_from : ℕ → List ℕ
  later_from m = concat (map (λ r. later_row v n ps i (low_in v n ps i r) r) (rest rows_of m))

  -- row m is next
  pub record InFrame (w₀ w : List ℕ) (m low sum : ℕ) : Type 0 where
    pub own : row_for v n ps i i ≤ m
    pub start : low ≡ low_in v n ps i m
    pub raising : Raising n w₀ (risen v n ps i) (later_from m ++ replicate (length (later_of v n ps i)) i) w
    pub count : sum + length (later_from m) ≡ length (later_of v n ps i)

module _ {v : ValidParams} {n : ℕ} {ps : List ℤ} {i : ℕ} {w₀ : List ℕ} (L : Ready ps v n) (C : Counts ps) (h : i < n) (r : Room n w₀ (risen v n ps i)) where
  abbrev own : ℕ
  own = row_for v n ps i i

  abbrev back : List ℕ
  back = replicate (length (later_of v n ps i)) i

  pub frame_start : {m : ℕ} → m ≡ row_for v n ps i i → InFrame v n ps i w₀ w₀ m (i + 1) 0
  unfolding risen later_of
  frame_start {m} e = subst (λ (z : ℕ). InFrame v n ps i w₀ w₀ z (i + 1) 0) (sym e) record {
    own = omega arith;
    start = ap (λ (b : Bool). cond b (i + 1) 0) (sym (eq-eqb own own refl));
    raising = raising_start r;
    count = omega arith;
  }

  module _ {w : List ℕ} {m low sum : ℕ} (I : InFrame v n ps i w₀ w m low sum) where
    module _ (l : m < 2 ^ (v.channels - 1)) where
      next_left : later_from v n ps i m ≡ later_row v n ps i low m ++ later_from v n ps i (m + 1)
      next_left =
          ap (λ (rs : List ℕ). concat (map (λ r. later_row v n ps i (low_in v n ps i r) r) rs)) (rest_step (rows_of v n ps i) m l)
          ∙ ap (λ (z : ℕ). later_row v n ps i z m ++ later_from v n ps i (m + 1)) (sym I.start)

      all_left : later_from v n ps i m ++ back ≡ later_row v n ps i low m ++ (later_from v n ps i (m + 1) ++ back)
      all_left = ap (λ (z : List ℕ). z ++ back) next_left ∙ append_assoc (later_row v n ps i low m) (later_from v n ps i (m + 1)) back

      pub frame_room : Room n w (later_row v n ps i low m)
      frame_room = raising_room I.raising (later_row v n ps i low m) (later_from v n ps i (m + 1) ++ back) all_left

      module _ {x : ℕ} (d : x ≡ length (later_row v n ps i low m)) where
        frame_sums : sum + x + length (later_from v n ps i (m + 1)) ≡ length (later_of v n ps i)
        frame_sums = omega (arith, d, I.count, ap length next_left, length-append (later_row v n ps i low m) (later_from v n ps i (m + 1)))

        pub frame_sum : sum + x ≤ n
        frame_sum = omega (arith, frame_sums, later_few L C i h)

        pub frame_next : {u : List ℕ} → u ≡ raised n w (later_row v n ps i low m) → InFrame v n ps i w₀ u (m + 1) 0 (sum + x)
        frame_next f = record {
          own = omega (arith, I.own);
          start = ap (λ (b : Bool). cond b (i + 1) 0) (sym (ne_eqb (m + 1) own (λ z. omega (arith, I.own))));
          raising = raising_more I.raising (later_row v n ps i low m) (later_from v n ps i (m + 1) ++ back) all_left f;
          count = frame_sums;
        }

    -- the last row is done
    module _ (l : 2 ^ (v.channels - 1) ≤ m) where
      none : later_from v n ps i m ≡ []
      none = ap (λ (rs : List ℕ). concat (map (λ r. later_row v n ps i (low_in v n ps i r) r) rs)) (rest_end (rows_of v n ps i) m l)

      own_left : later_from v n ps i m ++ back ≡ replicate sum i ++ []
      own_left =
          let z : length (later_of v n ps i) ≡ sum = omega (arith, I.count, ap length none) in
          ap (λ (x : List ℕ). x ++ back) none ∙ ap (λ (x : ℕ). replicate x i) z ∙ sym (append-nil (replicate sum i))

      pub frame_fits : (i < length w) × (get_or w i 0 + sum ≤ 65535)
      frame_fits = many_fits sum i h (raising_room I.raising (replicate sum i) [] own_left)

      pub frame_end : {u : List ℕ} → u ≡ set w i (get_or w i 0 + sum) → u ≡ raised n w₀ (risen v n ps i)
      frame_end d = raising_end (raising_more I.raising (replicate sum i) [] own_left (d ∙ raised_set n w (raising_length I.raising) i sum h)) refl

-- ---- all frames
-- what the frames from i on raise is left
pub record InFrames (v : ValidParams) (n : ℕ) (ps : List ℤ) (w₀ w : List ℕ) (i : ℕ) : Type 0 where
  pub high : i ≤ n
  pub raising : Raising n w₀ (concat (column (risen v n ps) n)) (concat (map (risen v n ps) (rest n i))) w

module _ {v : ValidParams} {n : ℕ} {ps : List ℤ} {w₀ : List ℕ} (L : Ready ps v n) (C : Counts ps) (z : w₀ ≡ replicate n 0) where
  pub frames_start : InFrames v n ps w₀ w₀ 0
  frames_start = record {
    high = omega arith;
    raising = raising_left (raising_start (all_room L C z)) (ap (λ (rs : List ℕ). concat (map (risen v n ps) rs)) (sym (rest_start n)));
  }

  module _ {w : List ℕ} {i : ℕ} (I : InFrames v n ps w₀ w i) where
    module _ (l : i < n) where
      next : concat (map (risen v n ps) (rest n i)) ≡ risen v n ps i ++ concat (map (risen v n ps) (rest n (i + 1)))
      next = ap (λ (rs : List ℕ). concat (map (risen v n ps) rs)) (rest_step n i l)

      pub frames_room : Room n w (risen v n ps i)
      frames_room = raising_room I.raising (risen v n ps i) (concat (map (risen v n ps) (rest n (i + 1)))) next

      pub frames_next : {u : List ℕ} → u ≡ raised n w (risen v n ps i) → InFrames v n ps w₀ u (i + 1)
      frames_next d = record { high = omega arith; raising = raising_more I.raising (risen v n ps i) (concat (map (risen v n ps) (rest n (i + 1)))) next d }

    pub frames_end : n ≤ i → w ≡ column (others v n ps) n
    frames_end l = raising_end I.raising (ap (λ (rs : List ℕ). concat (map (risen v n ps) rs)) (rest_end n i l)) ∙ all_counted L C z
