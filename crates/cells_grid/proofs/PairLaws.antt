-- Of two neighbours exactly one finds the other from its own row on: so the counts that rise are the numbers of neighbours.
use Rattle.std.specs.Prelude.{◌≡◌, Bool, ◌&&◌, ℤ, length, drop, replicate}
use Rattle.std.proofs.Math.Path.{refl, sym, ap, ap₂, subst}
use Rattle.std.proofs.Common.{◌∙◌, zero-mul, suc-mul, add_comm, arith, le→leb, eqb→eq, eq-eqb, ne_eqb, le-leb}
use Rattle.std.proofs.Math.Logic.{inl, inr}
use Rattle.std.proofs.Math.Bool.{true, false, not, cond}
use mathlib.Core.List.{List, [], ◌∷◌, map, Permᴰ}
use Prim.Native.Nat.{ℕ, zero, suc, ◌+◌, ◌-◌, ◌*◌, ◌^◌, ◌<◌, ◌≤◌}
use Rattle.std.proofs.Math.Nat.{one-mul}
use Rattle.std.proofs.Math.Decide.{dec_lt}
use Rattle.std.proofs.Math.Dec.{T, leb, eqb, leb→le}
use Rattle.std.proofs.Math.ListN.{get_or, length-replicate}
use Rattle.std.proofs.lemmas.List.{get_or-replicate}
use Rattle.std.proofs.lemmas.Bool.{lt-leb}
use Rattle.lists.specs.Lists.{numbers, keep, how_many, total, concat, In}
use Rattle.lists.specs.Words.{column, rest}
use Rattle.lists.specs.ListLaws.{true_T, T_true, T_false, T_or_not, not_turn, and_left, and_right, and_both, both_ways, keep_same, in_keep, in_from, from_in, in_numbers, numbers_in, map_same, in_append, in_concat, in_map}
use Rattle.lists.specs.CountLaws.{keep_keep, keep_all, total_same, total_plus, total_bool}
use Rattle.lists.specs.OrderLaws.{kept_le, from_ascending, numbers_ascending, once}
use Rattle.lists.specs.PermLaws.{perm_same, perm_total, perm_length}
use Rattle.hyperparams.specs.declared.ValidParams.{ValidParams}
use Rattle.counting_tree.specs.Frames.{Frame, frames_in, squared}
use Rattle.counting_tree.specs.FramesIn.{frame_length, squared_swap}
use Rattle.counting_tree.specs.Triangle.{squared_self}
use Rattle.counting_tree.specs.Geometry.{Geometry, geometry_of, near}
use Rattle.counting_tree.specs.Domain.{Counts}
use Rattle.counting_tree.specs.Sound.{within_whole}
use Rattle.counting_tree.specs.Ready.{geometry_at, Ready, at_frames, ready_domain}
use Rattle.blocks.specs.Blocks.{same_nats, frame_at, row_of, row_around, found_in}
use Rattle.blocks.specs.BlockLaws.{which_below, by_values, concat_perm}
use Rattle.blocks.specs.RowLaws.{rest_long, apart_first, near_within, row_all, in_one}
use Rattle.blocks.specs.OwnRowLaws.{which_turn}
use Rattle.cells_grid.specs.Cells.{first, listed, neighbour}
use Rattle.cells_grid.proofs.CellLaws.{listed_turn}
use Rattle.cells_grid.specs.Ready.{ready_lawful}
use Rattle.cells_grid.specs.Crowding.{itself, every}
use Rattle.cells_grid.specs.Pairs.{raised, Room, row_for, low_in, later_row, later_of, risen, others}
use Rattle.cells_grid.proofs.RaisedLaws.{often_append, often_replicate}

-- how often x stands in what is kept of the numbers below n
often_kept : (f : ℕ → Bool) (n x : ℕ) → x < n → how_many (λ j. eqb x j) (keep f (numbers n)) ≡ cond (f x) 1 0
often_kept f n x h =
    ap length (keep_keep (λ j. eqb x j) f (numbers n) ∙ keep_same _ (λ j. eqb j x && f x) (numbers n) (λ j i. one j) ∙ sym (keep_keep (λ j. f x) (λ j. eqb j x) (numbers n)) ∙ ap (keep (λ j. f x)) (once (numbers n) (numbers_ascending n) (numbers_in n x h)))
    ∙ go (f x)
  where
    one : (j : ℕ) → f j && eqb x j ≡ eqb j x && f x
    one j = both_ways (f j && eqb x j) (eqb j x && f x)
        (λ t. let e = eqb→eq x j (and_right (f j) (eqb x j) t) in and_both (eqb j x) (f x) (true_T (eq-eqb j x (sym e))) (subst (λ (z : ℕ). T (f z)) (sym e) (and_left (f j) (eqb x j) t)))
        (λ t. let e = eqb→eq j x (and_left (eqb j x) (f x) t) in and_both (f j) (eqb x j) (subst (λ (z : ℕ). T (f z)) (sym e) (and_right (eqb j x) (f x) t)) (true_T (eq-eqb x j (sym e))))

    go : (b : Bool) → length (keep (λ j. b) (x ∷ [])) ≡ cond b 1 0
    go true = refl
    go false = refl

-- how often x stands in lists one after the other
often_concat : (f : ℕ → Bool) (g : ℕ → List ℕ) (xs : List ℕ) → how_many f (concat (map g xs)) ≡ total (λ x. how_many f (g x)) xs
often_concat f g [] = refl
often_concat f g (x ∷ xs) = omega (arith, often_append f (g x) (concat (map g xs)), often_concat f g xs)

-- a sum of h over the elements that are x
total_once : (h : ℕ → ℕ) (x : ℕ) (xs : List ℕ) → total (λ i. cond (eqb x i) (h i) 0) xs ≡ how_many (λ i. eqb x i) xs * h x
total_once h x [] = sym (zero-mul (h x))
total_once h x (i ∷ xs) = go (eqb x i) (λ t. ap h (sym (eqb→eq x i t))) (total_once h x xs)
  where
    go : (b : Bool) → (T b → h i ≡ h x) → total (λ i. cond (eqb x i) (h i) 0) xs ≡ how_many (λ i. eqb x i) xs * h x
        → cond b (h i) 0 + total (λ i. cond (eqb x i) (h i) 0) xs ≡ length (cond b (i ∷ keep (λ i. eqb x i) xs) (keep (λ i. eqb x i) xs)) * h x
    go true e f = omega (arith, e tt, f, suc-mul (how_many (λ i. eqb x i) xs) (h x))
    go false e f = omega (arith, f)

in_replicate : (m i x : ℕ) → In x (replicate m i) → x ≡ i
in_replicate zero i x q = absurd q
in_replicate (suc m) i x (inl e) = e
in_replicate (suc m) i x (inr q) = in_replicate m i x q

-- two frames: the rows in which each lies around the other, and around itself
one_finds : (x y a b p q : ℕ) → a + b ≡ p + q → (x ≡ y → (a ≡ p) × (b ≡ q))
    → cond (leb p a && leb (cond (eqb a p) (x + 1) 0) y) 1 0 + cond (leb q b && leb (cond (eqb b q) (y + 1) 0) x) 1 0 ≡ cond (not (eqb x y)) 1 0
one_finds x y a b p q e s = elim (dec_lt a p) [
  | yes l ↦ rw (lt-leb p a l, le-leb q b (omega arith), ne_eqb b q (λ z. omega arith), ne_eqb x y (λ z. omega (arith, (s z).0)), le-leb 0 x (omega arith))
  | no l ↦ elim (dec_lt p a) [
    | yes k ↦ rw (le-leb p a (omega arith), lt-leb q b (omega arith), ne_eqb a p (λ z. omega arith), ne_eqb x y (λ z. omega (arith, (s z).0)), le-leb 0 y (omega arith))
    | no k ↦ same (omega arith) (omega arith)
  ]
]
  where
    same : a ≡ p → b ≡ q → cond (leb p a && leb (cond (eqb a p) (x + 1) 0) y) 1 0 + cond (leb q b && leb (cond (eqb b q) (y + 1) 0) x) 1 0 ≡ cond (not (eqb x y)) 1 0
    same f t = elim (dec_lt x y) [
      | yes l ↦ rw (le-leb p a (omega arith), le-leb q b (omega arith), eq-eqb a p f, eq-eqb b q t, le-leb (x + 1) y (omega arith), lt-leb (y + 1) x (omega arith), ne_eqb x y (λ z. omega arith))
      | no l ↦ elim (dec_lt y x) [
        | yes k ↦ rw (le-leb p a (omega arith), le-leb q b (omega arith), eq-eqb a p f, eq-eqb b q t, lt-leb (x + 1) y (omega arith), le-leb (y + 1) x (omega arith), ne_eqb x y (λ z. omega arith))
        | no k ↦ let z : x ≡ y = omega arith in rw (le-leb p a (omega arith), le-leb q b (omega arith), eq-eqb a p f, eq-eqb b q t, lt-leb (x + 1) y (omega arith), lt-leb (y + 1) x (omega arith), eq-eqb x y z)
      ]
    ]

pub others_few : (v : ValidParams) (n : ℕ) (ps : List ℤ) (i : ℕ) → others v n ps i ≤ n
unfolding others
others_few v n ps i = kept_le (λ j. neighbour (geometry_at v n ps) i j && not (eqb i j)) n

module _ {ps : List ℤ} {v : ValidParams} {n : ℕ} (r : Ready ps v n) (c : Counts ps) where
  abbrev g : Geometry
  g = geometry_at v n ps

  abbrev R : ℕ
  R = 2 ^ (v.channels - 1)

  abbrev F : ℕ → Frame
  F = frame_at v.t v n ps

  abbrev row : ℕ → ℕ → ℕ
  row = row_for v n ps

  within_is : (i j : ℕ) → i < n → j < n → g.within i j ≡ leb (squared (F i) (F j)) (v.t * v.t)
  unfolding geometry_of
  within_is i j h k = within_whole v (frames_in n v.channels ps) (ready_domain r c) i j (omega (arith, at_frames v n ps)) (omega (arith, at_frames v n ps))

  -- ---- neighbours
  near_squared : (i j : ℕ) → i < n → j < n → T (neighbour g i j) → squared (F i) (F j) ≤ v.t * v.t
  unfolding neighbour
  near_squared i j h k t = leb→le (squared (F i) (F j)) (v.t * v.t) (subst T (within_is i j h k) (and_right (listed g i j) (g.within i j) t))

  neighbour_turn : (i j : ℕ) → i < n → j < n → T (neighbour g i j) → T (neighbour g j i)
  unfolding neighbour
  neighbour_turn i j h k t = and_both (listed g j i) (g.within j i)
      (listed_turn g (ready_lawful r) i j (and_left (listed g i j) (g.within i j) t))
      (subst T (sym (within_is j i k h)) (subst (λ (z : ℕ). T (leb z (v.t * v.t))) (squared_swap (F i) (F j)) (subst T (within_is i j h k) (and_right (listed g i j) (g.within i j) t))))

  pub neighbour_self : (i : ℕ) → i < n → T (neighbour (geometry_at v n ps) i i)
  unfolding neighbour listed geometry_of near
  neighbour_self i h = and_both (listed g i i) (g.within i i)
      (le→leb (squared (F (first g i)) (F (first g i))) (4 * (v.t * v.t)) (omega (arith, squared_self (F (first g i)))))
      (subst T (sym (within_is i i h h)) (le→leb (squared (F i) (F i)) (v.t * v.t) (omega (arith, squared_self (F i)))))

  -- the rows in which two neighbours lie, the one around the other
  rows_turn : (i j : ℕ) → i < n → j < n → T (neighbour g i j) → row i j + row j i ≡ row i i + row j j
  rows_turn i j h k t = which_turn v.t (drop 1 (F i)) (drop 1 (F j)) (apart_first v.t v n ps r.room r.settings.scale.some (F i) (F j) (omega (arith, r.settings.scale.some, long)) (near_within v.t v n ps r.room r.settings.scale.some i j h k (near_squared i j h k t))).1
    where
      long : 1 ≤ length (F i)
      long = omega (arith, r.settings.scale.some, frame_length n v.channels ps i r.room h)

  -- ---- frame i finds frame j from its own row on
  abbrev later : ℕ → ℕ → Bool
  later i j = neighbour g i j && (leb (row i i) (row i j) && leb (low_in v n ps i (row i j)) j)

  -- of two frames one finds the other, if they are neighbours
  bits : (x y : ℕ) → x < n → y < n → cond (later y x) 1 0 + cond (later x y) 1 0 ≡ cond (neighbour g x y && not (eqb x y)) 1 0
  bits x y h k = elim (T_or_not (neighbour g x y)) [
    | inl t ↦
        let d = one_finds x y (row x y) (row y x) (row x x) (row y y) (rows_turn x y h k t) (λ e. (ap (row x) (sym e), ap (row y) e)) in
        let a : later x y ≡ leb (row x x) (row x y) && leb (low_in v n ps x (row x y)) y = ap (λ (b : Bool). b && (leb (row x x) (row x y) && leb (low_in v n ps x (row x y)) y)) (T_true (neighbour g x y) t) in
        let b : later y x ≡ leb (row y y) (row y x) && leb (low_in v n ps y (row y x)) x = ap (λ (b : Bool). b && (leb (row y y) (row y x) && leb (low_in v n ps y (row y x)) x)) (T_true (neighbour g y x) (neighbour_turn x y h k t)) in
        ap₂ (λ (s u : Bool). ◌+◌ (cond s 1 0) (cond u 1 0)) b a ∙ add_comm _ _ ∙ d ∙ sym (ap (λ (s : Bool). cond (s && not (eqb x y)) 1 0) (T_true (neighbour g x y) t))
    | inr t ↦
        let a : neighbour g x y ≡ false = not_turn (neighbour g x y) true (T_true (not (neighbour g x y)) t) in
        let b : neighbour g y x ≡ false = T_false (neighbour g y x) (λ u. subst T a (neighbour_turn y x k h u)) in
        ap₂ (λ (s u : Bool). ◌+◌ (cond (s && (leb (row y y) (row y x) && leb (low_in v n ps y (row y x)) x)) 1 0) (cond (u && (leb (row x x) (row x y) && leb (low_in v n ps x (row x y)) y)) 1 0)) b a
        ∙ sym (ap (λ (s : Bool). cond (s && not (eqb x y)) 1 0) a)
  ]

  module _ (i : ℕ) (h : i < n) where
    row_below : (j : ℕ) → row i j < R
    row_below j = subst (λ (d : ℕ). row i j < 2 ^ d) (rest_long v.t v n ps r.room r.settings.scale.some i h) (which_below v.t (drop 1 (F i)) (drop 1 (F j)))

    -- what is asked in row m
    abbrev asked : ℕ → ℕ → Bool
    asked m j = leb (low_in v n ps i m) j && neighbour g i j

    abbrev here : ℕ → ℕ → Bool
    here m j = same_nats (row_of v.t v n ps j) (row_around v.t v n ps i m)

    nearby : (m j : ℕ) → j < n → T (every j) → T (asked m j) → squared (F i) (F (itself j)) ≤ v.t * v.t
    nearby m j k s t = near_squared i j h k (and_right (leb (low_in v n ps i m) j) (neighbour g i j) t)

    in_row : (m j : ℕ) → j < n → T (asked m j) → m < R → here m j ≡ eqb (row i j) m
    in_row m j k t l = in_one v.t v n ps r.room r.settings.scale.some (8 * n - 1) itself every n (omega arith) (λ x q. q) i h (asked m) (nearby m) j m k t l

    asked_later : (m j : ℕ) → row i i ≤ m → m < R → j < n → here m j && (every j && asked m j) ≡ later i j && eqb (row i j) m
    asked_later m j o l k = both_ways (here m j && asked m j) (later i j && eqb (row i j) m)
        (λ t.
        let a = and_right (here m j) (asked m j) t in
        let e : row i j ≡ m = eqb→eq (row i j) m (subst T (in_row m j k a l) (and_left (here m j) (asked m j) t)) in
        and_both (later i j) (eqb (row i j) m)
        (and_both (neighbour g i j) (leb (row i i) (row i j) && leb (low_in v n ps i (row i j)) j) (and_right (leb (low_in v n ps i m) j) (neighbour g i j) a)
        (and_both (leb (row i i) (row i j)) (leb (low_in v n ps i (row i j)) j) (le→leb (row i i) (row i j) (omega (arith, e))) (subst (λ (z : ℕ). T (leb (low_in v n ps i z) j)) (sym e) (and_left (leb (low_in v n ps i m) j) (neighbour g i j) a))))
        (true_T (eq-eqb (row i j) m e)))
        (λ t.
        let u = and_left (later i j) (eqb (row i j) m) t in
        let e : row i j ≡ m = eqb→eq (row i j) m (and_right (later i j) (eqb (row i j) m) t) in
        let s = and_right (neighbour g i j) (leb (row i i) (row i j) && leb (low_in v n ps i (row i j)) j) u in
        let a : T (asked m j) = and_both (leb (low_in v n ps i m) j) (neighbour g i j) (subst (λ (z : ℕ). T (leb (low_in v n ps i z) j)) e (and_right (leb (row i i) (row i j)) (leb (low_in v n ps i (row i j)) j) s)) (and_left (neighbour g i j) (leb (row i i) (row i j) && leb (low_in v n ps i (row i j)) j) u) in
        and_both (here m j) (asked m j) (subst T (sym (in_row m j k a l)) (true_T (eq-eqb (row i j) m e))) a)

    row_found : (m : ℕ) → row i i ≤ m → m < R → Permᴰ (later_row v n ps i (low_in v n ps i m) m) (keep (λ j. later i j && eqb (row i j) m) (numbers n))
    unfolding later_row
    row_found m o l =
        subst (λ (z : List ℕ). Permᴰ (found_in v.t v n ps (8 * n - 1) itself every n i (asked m) m) z)
        (keep_same (λ j. here m j && (every j && asked m j)) (λ j. later i j && eqb (row i j) m) (numbers n) (λ j q. asked_later m j o l (in_numbers n j q)))
        (row_all v.t v n ps r.room r.settings.scale.some (8 * n - 1) itself every n (omega arith) (λ x q. q) i h (asked m) (nearby m) m)

    later_found : Permᴰ (later_of v n ps i) (keep (later i) (numbers n))
    unfolding later_of
    later_found = Permᴰ.trans
        (concat_perm (λ m. later_row v n ps i (low_in v n ps i m) m) (λ m. keep (λ j. later i j && eqb (row i j) m) (numbers n)) (rest R (row i i))
        (λ m q. let z = in_from (row i i) (R - row i i) m q in row_found m z.0 (omega (arith, z.1, row_below i))))
        (by_values (row i) (later i) (rest R (row i i)) (numbers n) (from_ascending (row i i) (R - row i i))
        (λ j q t. from_in (row i i) (R - row i i) (row i j) (leb→le (row i i) (row i j) (and_left (leb (row i i) (row i j)) (leb (low_in v n ps i (row i j)) j) (and_right (neighbour g i j) (leb (row i i) (row i j) && leb (low_in v n ps i (row i j)) j) t))) (omega (arith, row_below j, row_below i))))

    pub later_few : length (later_of v n ps i) ≤ n
    later_few = omega (arith, perm_length later_found, kept_le (later i) n)

    later_low : (x : ℕ) → In x (later_of v n ps i) → x < n
    later_low x q = in_numbers n x (in_keep (later i) x (numbers n) ((perm_same later_found x).0 q)).0

    risen_low : (x : ℕ) → In x (risen v n ps i) → x < n
    unfolding risen
    risen_low x q = elim (in_append x (later_of v n ps i) (replicate (length (later_of v n ps i)) i) q) [
      | inl a ↦ later_low x a
      | inr a ↦ omega (arith, in_replicate (length (later_of v n ps i)) i x a)
    ]

    -- how much the count of frame x rises by frame i's search
    risen_often : (x : ℕ) → x < n → how_many (λ j. eqb x j) (risen v n ps i) ≡ cond (later i x) 1 0 + cond (eqb x i) (how_many (later i) (numbers n)) 0
    unfolding risen
    risen_often x k =
        often_append (λ j. eqb x j) (later_of v n ps i) (replicate (length (later_of v n ps i)) i)
        ∙ ap₂ ◌+◌
        (sym (total_bool (λ j. eqb x j) (later_of v n ps i)) ∙ perm_total (λ j. cond (eqb x j) 1 0) later_found ∙ total_bool (λ j. eqb x j) (keep (later i) (numbers n)) ∙ often_kept (later i) n x k)
        (often_replicate (λ j. eqb x j) (length (later_of v n ps i)) i ∙ ap (λ (m : ℕ). cond (eqb x i) m 0) (perm_length later_found))

  -- ---- all frames
  abbrev all : List ℕ
  all = concat (column (risen v n ps) n)

  often_once : (x : ℕ) → x < n → how_many (λ j. eqb x j) (numbers n) ≡ 1
  often_once x h = ap (how_many (λ j. eqb x j)) (sym (keep_all (λ j. true) (numbers n) (λ y i. tt))) ∙ often_kept (λ j. true) n x h

  counts_are : (x : ℕ) → x < n → how_many (λ j. eqb x j) all ≡ others v n ps x
  unfolding others
  counts_are x h =
      let ns = numbers n in
      let H : ℕ → ℕ = λ i. how_many (later i) ns in
      let A : ℕ → ℕ = λ i. cond (later i x) 1 0 in
      let B : ℕ → ℕ = λ i. cond (eqb x i) (H i) 0 in
      let D : ℕ → ℕ = λ y. cond (later x y) 1 0 in
      often_concat (λ j. eqb x j) (risen v n ps) ns
      ∙ total_same (λ i. how_many (λ j. eqb x j) (risen v n ps i)) (λ i. A i + B i) ns (λ i q. risen_often i (in_numbers n i q) x h)
      ∙ total_plus (λ i. A i + B i) A B ns (λ i. refl)
      ∙ ap (λ (z : ℕ). total A ns + z) (total_once H x ns ∙ ap (λ (z : ℕ). z * H x) (often_once x h) ∙ one-mul (H x) ∙ sym (total_bool (later x) ns))
      ∙ sym (total_plus (λ y. A y + D y) A D ns (λ y. refl))
      ∙ total_same (λ y. A y + D y) (λ y. cond (neighbour g x y && not (eqb x y)) 1 0) ns (λ y q. bits x y h (in_numbers n y q))
      ∙ total_bool (λ y. neighbour g x y && not (eqb x y)) ns

  -- from 0 on
  module _ {w : List ℕ} (z : w ≡ replicate n 0) where
    zero_at : (x : ℕ) → x < n → get_or w x 0 ≡ 0
    zero_at x h = ap (λ (u : List ℕ). get_or u x 0) z ∙ get_or-replicate n x 0 0 h

    pub all_room : Room n w (concat (column (risen v n ps) n))
    all_room = record {
      many = ap length z ∙ length-replicate n 0;
      below = λ x q.
          let s = in_concat x (column (risen v n ps) n) q in
          let t = in_map (risen v n ps) s.0 (numbers n) s.1 in
          risen_low t.0 (in_numbers n t.0 t.1) x (subst (In x) t.2 s.2);
      small = λ x h. omega (arith, zero_at x h, counts_are x h, others_few v n ps x, r.few);
    }

    pub all_counted : raised n w (concat (column (risen v n ps) n)) ≡ column (others v n ps) n
    unfolding raised
    all_counted = map_same (λ x. get_or w x 0 + how_many (λ j. eqb x j) all) (others v n ps) (numbers n) (λ x q. let h = in_numbers n x q in omega (arith, zero_at x h, counts_are x h))

  -- with the frame itself
  pub others_more : (i : ℕ) → i < n → how_many (neighbour (geometry_at v n ps) i) (numbers n) ≡ 1 + others v n ps i
  unfolding others
  others_more i h =
      let ns = numbers n in
      let A : ℕ → ℕ = λ j. cond (eqb i j) 1 0 in
      let B : ℕ → ℕ = λ j. cond (neighbour g i j && not (eqb i j)) 1 0 in
      sym (total_bool (neighbour g i) ns)
      ∙ total_same (λ j. cond (neighbour g i j) 1 0) (λ j. A j + B j) ns (λ j q. part (eqb i j) (neighbour g i j) (λ t. subst (λ (x : ℕ). T (neighbour g i x)) (eqb→eq i j t) (neighbour_self i h)))
      ∙ total_plus (λ j. A j + B j) A B ns (λ j. refl)
      ∙ ap₂ ◌+◌ (total_bool (λ j. eqb i j) ns ∙ often_once i h) (total_bool (λ j. neighbour g i j && not (eqb i j)) ns)
    where
      part : (e b : Bool) → (T e → T b) → cond b 1 0 ≡ cond e 1 0 + cond (b && not e) 1 0
      part true true f = refl
      part true false f = absurd (f tt)
      part false true f = refl
      part false false f = refl
