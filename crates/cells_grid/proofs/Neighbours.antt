-- Frames near a frame are counted row by row, and each row along its stretch of the sorted frames, until there are enough.
use mathlib.Core.Path.{◌≡◌, refl, sym, ap, ap₂, subst, ◌∙◌}
use mathlib.Core.Logic.{inl, inr}
use mathlib.Core.Bool.{Bool, true, false, ◌&&◌, cond, and-true, and-false}
use mathlib.Core.List.{List, ◌∷◌, ◌++◌}
use Rattle.std.proofs.Common.{zero-add, add-one, take}
use Rattle.std.proofs.Math.Nat.{sub-zero}
use Rattle.std.proofs.Math.Seq.{drop-cons}
use Rattle.std.proofs.Math.ListN.{drop_of_length-le}
use Rattle.std.proofs.lemmas.List.{length-take, length-drop}
use Prim.Native.Nat.{ℕ, ◌+◌, ◌-◌, ◌*◌, ◌%◌, ◌^◌, ◌<◌, ◌≤◌, min}
use native.Mathlib.Omega.{arith}
use lib.IntN.{ℤ}
use lib.Dec.{T, eqb, leb, leb→le}
use lib.ListN.{length, get_or, drop, length-append}
use Rattle.lists.specs.Lists.{numbers, keep, how_many, total, In, Below}
use Rattle.lists.specs.Words.{part}
use Rattle.lists.specs.Sorting.{numbered, start_of, Sorted}
use Rattle.lists.specs.ListLaws.{T_false, and_right, in_keep, in_append, append_one, append_two, in_numbers, length_numbers}
use Rattle.lists.specs.OrderLaws.{kept_le, total_round}
use Rattle.lists.specs.CountLaws.{keep_append, how_many_cons, length_concat}
use Rattle.lists.specs.PermLaws.{perm_length}
use Rattle.lists.proofs.LoopLaws.{Sum, sum_start, sum_stop, sum_more, sum_end}
use Rattle.hyperparams.specs.declared.ValidParams.{ValidParams}
use Rattle.counting_tree.specs.Frames.{frames_in, squared}
use Rattle.counting_tree.specs.Geometry.{Geometry, geometry_of}
use Rattle.counting_tree.specs.Domain.{Counts}
use Rattle.counting_tree.specs.Sound.{within_whole}
use Rattle.counting_tree.specs.Ready.{geometry_at, Ready, at_frames, at_least, ready_domain}
use Rattle.blocks.specs.declared.Stretch.{Stretch}
use Rattle.blocks.specs.Blocks.{same_nats, stretch_in, frame_at, row_of, row_around, bucket_around, pair_at, found_in, found}
use Rattle.blocks.specs.RowLaws.{around_low, found_order}
use Rattle.blocks.specs.SortedLaws.{Stretched, stretch_holds}
use Rattle.cells_grid.specs.Cells.{first, listed, neighbour}
use Rattle.cells_grid.proofs.CellLaws.{first_in}
use Rattle.cells_grid.specs.Ready.{ready_lawful}
use Rattle.cells_grid.specs.Crowding.{itself, every, frame_key, frames_near, neighbour_in, neighbours_in}

pub drop_next : (xs : List ℕ) (p : ℕ) → p < length xs → drop p xs ≡ get_or xs p 0 ∷ drop (p + 1) xs
drop_next xs p h = drop-cons xs p 0 h ∙ ap (λ (z : ℕ). get_or xs p 0 ∷ drop z xs) (sym (add-one p))

-- ---- along a stretch xs: `sum` are counted with those before place p that pass f, `all` with every one
pub record Tally (f : ℕ → Bool) (xs : List ℕ) (least all sum p : ℕ) : Type 0 where
  pub left : sum + how_many f (drop p xs) ≡ all
  pub few : sum < least

pub tally_start : {f : ℕ → Bool} {xs : List ℕ} {least start : ℕ} → start < least → Tally f xs least (start + how_many f xs) start 0
tally_start h = record { left = refl; few = h }

module _ {f : ℕ → Bool} {xs : List ℕ} {least all sum p : ℕ} (t : Tally f xs least all sum p) where
  pub tally_end : length xs ≤ p → sum ≡ min least all
  tally_end h = omega (arith, t.left, t.few, ap (how_many f) (drop_of_length-le xs h))

  -- frame j is next
  module _ (h : p < length xs) {j : ℕ} (q : j ≡ get_or xs p 0) where
    next : (b : Bool) → f j ≡ b → sum + (cond b 1 0 + how_many f (drop (p + 1) xs)) ≡ all
    next b r =
        ap (λ (c : Bool). sum + (cond c 1 0 + how_many f (drop (p + 1) xs))) (sym r)
        ∙ ap (λ (z : ℕ). sum + z) (sym (how_many_cons f j (drop (p + 1) xs)) ∙ ap (λ (x : ℕ). how_many f (x ∷ drop (p + 1) xs)) q ∙ ap (how_many f) (sym (drop_next xs p h)))
        ∙ t.left

    pub tally_stop : f j ≡ true → least ≤ sum + 1 → sum + 1 ≡ min least all
    tally_stop r k = omega (arith, next true r, t.few)

    pub tally_hit : f j ≡ true → sum + 1 < least → Tally f xs least all (sum + 1) (p + 1)
    tally_hit r k = record { left = omega (arith, next true r); few = k }

    pub tally_miss : f j ≡ false → Tally f xs least all sum (p + 1)
    tally_miss r = record { left = omega (arith, next false r); few = t.few }

-- ---- row by row
module _ {ps : List ℤ} {v : ValidParams} {n i : ℕ} (r : Ready ps v n) (c : Counts ps) (h : i < n) where
  abbrev g : Geometry
  g = geometry_at v n ps

  abbrev R : ℕ
  R = 2 ^ (v.channels - 1)

  near : (j : ℕ) → j < n → T (neighbour g i j) → squared (frame_at v.t v n ps i) (frame_at v.t v n ps j) ≤ v.t * v.t
  unfolding neighbour geometry_of
  near j l t =
      let fs = frames_in n v.channels ps in
      let e = at_frames v n ps in
      leb→le (squared (frame_at v.t v n ps i) (frame_at v.t v n ps j)) (v.t * v.t)
      (subst T (within_whole v fs (ready_domain r c) i j (omega (arith, e)) (omega (arith, e))) (and_right (listed g i j) (g.within i j) t))

  -- counted from row b on, and round
  module _ {b : ℕ} (k : b < 2 ^ (v.channels - 1)) where
    -- how many are found in the row j after it
    abbrev pub turned_of : ℕ → ℕ
    turned_of j = neighbours_in v n ps i ((b + j) % 2 ^ (v.channels - 1))

    crowd : total turned_of (numbers R) ≡ how_many (neighbour g i) (numbers n)
    unfolding found neighbours_in
    crowd =
        total_round (neighbours_in v n ps i) b R k
        ∙ sym (length_concat (found_in v.t v n ps (8 * n - 1) itself every n i (neighbour g i)) (numbers R))
        ∙ perm_length (found_order v.t v n ps r.room r.settings.scale.some (8 * n - 1) itself every n (omega arith) (λ x l. l) i h (neighbour g i) (λ j l s t. near j l t))

    pub rows_start : Sum turned_of (2 ^ (v.channels - 1)) g.least 0 0
    rows_start = sum_start (omega (arith, at_least v n ps, r.least))

    module _ {m count more : ℕ} (s : Sum turned_of (2 ^ (v.channels - 1)) g.least count m) (l : m < 2 ^ (v.channels - 1)) (q : more ≡ min g.least (count + turned_of m)) where
      pub rows_stop : v.min_points ≤ more → true ≡ leb g.least (how_many (neighbour g i) (numbers n))
      rows_stop k = sym (ap (leb g.least) (sym crowd) ∙ sum_stop s l refl (omega (arith, q, at_least v n ps)))

      pub rows_more : more < v.min_points → Sum turned_of (2 ^ (v.channels - 1)) g.least more (m + 1)
      rows_more k =
          let e : count + turned_of m ≡ more = omega (arith, q, at_least v n ps) in
          subst (λ (z : ℕ). Sum turned_of R g.least z (m + 1)) e (sum_more s l refl (omega (arith, e, at_least v n ps)))

    pub rows_end : {m count : ℕ} → Sum turned_of (2 ^ (v.channels - 1)) g.least count m → 2 ^ (v.channels - 1) ≤ m → false ≡ leb g.least (how_many (neighbour g i) (numbers n))
    rows_end s l = sym (ap (leb g.least) (sym crowd) ∙ sum_end s l)

-- fewer frames than are needed
pub too_few : (g : Geometry) (i n : ℕ) → n < g.least → false ≡ leb g.least (how_many (neighbour g i) (numbers n))
too_few g i n h = sym (T_false (leb g.least (how_many (neighbour g i) (numbers n))) (λ t. omega (arith, leb→le g.least (how_many (neighbour g i) (numbers n)) t, kept_le (neighbour g i) n)))

-- the first frame of frame i's cell
pub own_below : {ps : List ℤ} {v : ValidParams} {n i own : ℕ} → Ready ps v n → i < n → own ≡ first (geometry_at v n ps) i → own < n
own_below {ps} {v} {n} {i} r h q = omega (arith, q, (first_in (geometry_at v n ps) (ready_lawful r) i (omega (arith, at_frames v n ps))).0, at_frames v n ps)

-- the tests of a frame j in turn: in the block (s), within the tolerance of frame i, in a cell that frame i's lists
module _ (g : Geometry) (i j : ℕ) (s : Bool) where
  pub not_here : s ≡ false → false ≡ s && neighbour g i j
  not_here a = sym (ap (λ (t : Bool). t && neighbour g i j) a)

  pub not_within : g.within i j ≡ false → false ≡ s && neighbour g i j
  unfolding neighbour
  not_within b = sym (ap (λ (t : Bool). s && (listed g i j && t)) b ∙ ap (λ (t : Bool). s && t) (and-false (listed g i j)) ∙ and-false s)

  pub by_list : s ≡ true → g.within i j ≡ true → {own f : ℕ} → own ≡ first g i → f ≡ first g j → g.near own f ≡ s && neighbour g i j
  unfolding neighbour listed
  by_list a b p q = ap₂ g.near p q ∙ sym (ap₂ (λ (t u : Bool). t && (g.near (first g i) (first g j) && u)) a b ∙ and-true (g.near (first g i) (first g j)))

-- ---- what is asked of one frame, one test after the other
module _ (v : ValidParams) (n : ℕ) (ps : List ℤ) (i m j : ℕ) where
  abbrev G : Geometry
  G = geometry_at v n ps

  abbrev here : Bool
  here = same_nats (row_of v.t v n ps j) (row_around v.t v n ps i m)

  pub tests_within : {u : Bool} → u ≡ G.within i j → u ≡ false → false ≡ neighbour_in v n ps i m j
  tests_within k c = not_within G i j here (sym k ∙ c)

  module _ {b : Bool} (q : b ≡ here) where
    pub tests_row : b ≡ false → false ≡ neighbour_in v n ps i m j
    tests_row a = not_here G i j here (sym q ∙ a)

    pub tests_list : b ≡ true → {u : Bool} → u ≡ G.within i j → u ≡ true → {own f : ℕ} → own ≡ first G i → f ≡ first G j → {t : Bool} → t ≡ G.near own f → t ≡ neighbour_in v n ps i m j
    tests_list a k c o f r = r ∙ by_list G i j here (sym q ∙ a) (sym k ∙ c) o f

-- ---- the frames that are looked at for a row
pub near_few : (v : ValidParams) (n : ℕ) (ps : List ℤ) (i m : ℕ) → length (frames_near v n ps i m) ≤ 2 * n
unfolding frames_near pair_at numbered
near_few v n ps i m =
    let key = frame_key v n ps in
    let b = bucket_around v.t v n ps (8 * n - 1) i m in
    omega (arith, length-append (numbered key n b) (numbered key n ((b + 1) % (8 * n - 1))), kept_le (λ x. eqb (key x) b) n, kept_le (λ x. eqb (key x) ((b + 1) % (8 * n - 1))) n)

-- in two stretches
module _ (v : ValidParams) (n : ℕ) (ps : List ℤ) (i m : ℕ) (A B : List ℕ) (e : A ++ B ≡ frames_near v n ps i m) where
  low : (x : ℕ) → In x (A ++ B) → x < n
  unfolding frames_near pair_at numbered
  low x j =
      let key = frame_key v n ps in
      let b = bucket_around v.t v n ps (8 * n - 1) i m in
      elim (in_append x (numbered key n b) (numbered key n ((b + 1) % (8 * n - 1))) (subst (In x) e j)) [
        | inl a ↦ in_numbers n x (in_keep _ x (numbers n) a).0
        | inr a ↦ in_numbers n x (in_keep _ x (numbers n) a).0
      ]

  pub stretch_low : Below n A
  stretch_low x j = low x (append_one x A B j)

  pub rest_low : Below n B
  rest_low x j = low x (append_two x A B j)

  -- those that pass a test in the row
  pub row_parts : (f : ℕ → Bool) → found_in v.t v n ps (8 * n - 1) itself every n i f m
      ≡ keep (λ x. same_nats (row_of v.t v n ps x) (row_around v.t v n ps i m) && f x) A ++ keep (λ x. same_nats (row_of v.t v n ps x) (row_around v.t v n ps i m) && f x) B
  unfolding found_in frames_near
  row_parts f =
      let h : ℕ → Bool = λ x. same_nats (row_of v.t v n ps x) (row_around v.t v n ps i m) && f x in
      ap (keep h) (sym e) ∙ keep_append h A B

  pub row_sum : neighbours_in v n ps i m ≡ how_many (neighbour_in v n ps i m) A + how_many (neighbour_in v n ps i m) B
  unfolding neighbours_in
  row_sum = ap length (row_parts (neighbour (geometry_at v n ps) i)) ∙ length-append (keep (neighbour_in v n ps i m) A) (keep (neighbour_in v n ps i m) B)

-- as they stand sorted
module _ (v : ValidParams) (n : ℕ) (ps : List ℤ) (i m : ℕ) {w : List ℕ} (h : i < n) (S : Sorted (frame_key v n ps) n (8 * n) (2 * n) 0 w) where
  pub sorted_room : 10 * n ≤ length w
  sorted_room = omega (arith, ap length S.ends, length_numbers (λ b. start_of (frame_key v n ps) n (b + 1)) (8 * n), length-take (8 * n) (drop (2 * n) w), length-drop (2 * n) w)

  module _ {s : Stretch} (e : s ≡ stretch_in w (2 * n) (bucket_around v.t v n ps (8 * n - 1) i m) (8 * n - 1)) where
    abbrev b : ℕ
    b = bucket_around v.t v n ps (8 * n - 1) i m

    H : Stretched (frame_key v n ps) n 0 b (8 * n - 1) w s
    H = let d : 8 * n ≡ 8 * n - 1 + 1 = omega arith in stretch_holds S d (around_low v.t v n ps (8 * n - 1) (omega arith) i m) e

    pub stretch_fits : (s.«from» ≤ s.to) × (s.to ≤ n) × (s.rest ≤ n)
    stretch_fits = (H.low, H.high, omega (arith, H.high, H.rest_low))

    pub near_is : part w s.«from» (s.to - s.«from») ++ take s.rest w ≡ frames_near v n ps i m
    unfolding frames_near pair_at
    near_is = ap (λ (z : ℕ). part w z (s.to - s.«from») ++ take s.rest w) (sym (zero-add s.«from»)) ∙ ap (λ (z : ℕ). part w (0 + s.«from») (s.to - s.«from») ++ take z w) (sym (sub-zero s.rest)) ∙ H.both
