-- Laws of the list of a cell: it has the core cells that the cell lists, each once, in some order; and of those on it that do not have a mark.
use Rattle.std.specs.Prelude.{◌≡◌, refl, ◌⊎◌, Bool, ◌&&◌, ℤ, leb, get_or, drop}
use Rattle.std.proofs.Math.Path.{sym, ap, subst}
use Rattle.std.proofs.Common.{ap₂, le_trans, add-mul, mul-add, arith, leb→le, le→leb, length-append, eq-eqb, ne_eqb}
use Rattle.std.proofs.Math.Logic.{inl, inr}
use Rattle.std.proofs.Math.Bool.{true, false, not, cond, and-true, and-false}
use mathlib.Core.List.{List, ◌∷◌, ◌++◌, map, Permᴰ}
use Prim.Native.Nat.{ℕ, zero, suc, ◌+◌, ◌-◌, ◌*◌, ◌%◌, ◌^◌, ◌<◌, ◌≤◌}
use Rattle.std.proofs.Math.Decide.{dec_lt}
use Rattle.std.proofs.Math.Dec.{T, eqb, leb-zero}
use Rattle.std.proofs.Math.ListN.{length}
use Rattle.lists.specs.Lists.{from, numbers, keep, concat, In, Below}
use Rattle.lists.specs.Sorting.{numbered}
use Rattle.lists.specs.ListLaws.{true_T, and_left, and_right, and_both, in_keep, keep_in, keep_same, keep_more, in_append, append_one, append_two, in_numbers, numbers_in}
use Rattle.lists.specs.CountLaws.{keep_append, keep_le, keep_all}
use Rattle.lists.specs.OrderLaws.{kept_le}
use Rattle.lists.specs.PermLaws.{perm_same, perm_length}
use Rattle.hyperparams.specs.declared.ValidParams.{ValidParams}
use Rattle.counting_tree.specs.Frames.{squared}
use Rattle.counting_tree.specs.Geometry.{Geometry, geometry_of, near}
use Rattle.counting_tree.specs.Ready.{geometry_at, Ready, at_frames}
use Rattle.blocks.specs.Blocks.{same_nats, frame_at, row_of, row_around, own_row, bucket_around, pair_at, found_in, found}
use Rattle.blocks.specs.BlockLaws.{which}
use Rattle.blocks.specs.RowLaws.{key_below, row_low, in_found, found_in_lem, found_order}
use Rattle.blocks.specs.OwnRowLaws.{own_row_low, rows_turn}
use Rattle.cells_grid.specs.Cells.{cells, listed, core_cell}
use Rattle.cells_grid.specs.Arrangement.{cell_at}
use Rattle.cells_grid.specs.Ready.{ready_lawful}
use Rattle.cells_grid.proofs.ArrangementLaws.{cells_le, cell_at_below, listed_at}
use Rattle.cells_grid.specs.Listing.{reach_of, core_at, unmarked, geo, cell_buckets, cell_key, near_at, near_from, near_in, list_in, list_from, list_of, later_of}

-- ---- the cells of some that do not have a mark
module _ (ms : List ℕ) (mark : ℕ) where
  abbrev free : ℕ → Bool
  free d = not (eqb (get_or ms d 0) mark)

  free_of : (d : ℕ) → (get_or ms d 0 ≡ mark → ⊥) → T (free d)
  free_of d h = true_T (ap not (ne_eqb (get_or ms d 0) mark h))

  pub in_unmarked : (d : ℕ) (ds : List ℕ) → In d (unmarked ms mark ds) → In d ds × (get_or ms d 0 ≡ mark → ⊥)
  unfolding unmarked
  in_unmarked d ds i =
      let z = in_keep free d ds i in
      (z.0, λ e. subst T (ap not (eq-eqb (get_or ms d 0) mark e)) z.1)

  pub unmarked_all : (ds : List ℕ) → ((d : ℕ) → In d ds → get_or ms d 0 ≡ mark → ⊥) → unmarked ms mark ds ≡ ds
  unfolding unmarked
  unmarked_all ds h = keep_all free ds (λ d i. free_of d (h d i))

  pub unmarked_le : (ds : List ℕ) → length (unmarked ms mark ds) ≤ length ds
  unfolding unmarked
  unmarked_le ds = keep_le free ds

  pub unmarked_append : (xs ys : List ℕ) → unmarked ms mark (xs ++ ys) ≡ unmarked ms mark xs ++ unmarked ms mark ys
  unfolding unmarked
  unmarked_append xs ys = keep_append free xs ys

  -- one cell more, if it passes
  pub unmarked_more : (b : Bool) (d : ℕ) (ds : List ℕ) → unmarked ms mark (cond b (d ∷ ds) ds) ≡ cond (not (eqb (get_or ms d 0) mark) && b) (d ∷ unmarked ms mark ds) (unmarked ms mark ds)
  unfolding unmarked
  unmarked_more true d ds = ap (λ (t : Bool). cond t (d ∷ keep free ds) (keep free ds)) (sym (and-true (free d)))
  unmarked_more false d ds = ap (λ (t : Bool). cond t (d ∷ keep free ds) (keep free ds)) (sym (and-false (free d)))

-- "at most 4 × t × t" is at most the reach squared
near_reach : (v : ValidParams) (n : ℕ) (ps : List ℤ) (i j : ℕ) → T ((geometry_at v n ps).near i j) → squared (frame_at (reach_of v) v n ps i) (frame_at (reach_of v) v n ps j) ≤ reach_of v * reach_of v
unfolding geometry_of near
near_reach v n ps i j h = omega (arith, leb→le (squared (frame_at (reach_of v) v n ps i) (frame_at (reach_of v) v n ps j)) (4 * (v.t * v.t)) h, four v.t)
  where
    four : (t : ℕ) → 4 * (t * t) ≡ 2 * t * (2 * t)
    four t =
        let e : 2 * t ≡ t + t = omega arith in
        rw (e, add-mul t t (t + t), mul-add t t t) (omega arith)

-- ---- rows around frame i
module _ (v : ValidParams) (n : ℕ) (ps : List ℤ) (i : ℕ) where
  -- all that are found in a row
  in_all : (q : ℕ) → list_in v n ps i 0 q ≡ found_in (reach_of v) v n ps (cell_buckets v n ps) (cell_at (geo v n ps)) (core_at (geo v n ps)) (length (cells (geo v n ps))) i (near_at v n ps i) q
  unfolding list_in found_in
  in_all q = keep_same _ _ (pair_at (reach_of v) v n ps (cell_buckets v n ps) (cell_at (geo v n ps)) (core_at (geo v n ps)) (length (cells (geo v n ps))) (bucket_around (reach_of v) v n ps (cell_buckets v n ps) i q))
      (λ d l. ap (λ (b : Bool). same_nats (row_of (reach_of v) v n ps (cell_at (geo v n ps) d)) (row_around (reach_of v) v n ps i q) && (b && near_at v n ps i d)) (leb-zero d))

  from_all : (m q : ℕ) → list_from v n ps i 0 q m
      ≡ concat (map (found_in (reach_of v) v n ps (cell_buckets v n ps) (cell_at (geo v n ps)) (core_at (geo v n ps)) (length (cells (geo v n ps))) i (near_at v n ps i)) (from q m))
  from_all zero q = refl
  from_all (suc m) q = ap₂ ◌++◌ (in_all q) (from_all m (suc q))

  -- fewer numbers, or fewer rows, are no more cells
  in_fewer : (a q : ℕ) → length (list_in v n ps i a q) ≤ length (list_in v n ps i 0 q)
  unfolding list_in found_in
  in_fewer a q = keep_more (near_in v n ps i a q) (near_in v n ps i 0 q) (pair_at (reach_of v) v n ps (cell_buckets v n ps) (cell_at (geo v n ps)) (core_at (geo v n ps)) (length (cells (geo v n ps))) (bucket_around (reach_of v) v n ps (cell_buckets v n ps) i q))
      (λ d l t.
      let S = same_nats (row_of (reach_of v) v n ps (cell_at (geo v n ps) d)) (row_around (reach_of v) v n ps i q) in
      and_both S (near_from v n ps i 0 d) (and_left S (near_from v n ps i a d) t) (and_both (leb 0 d) (near_at v n ps i d) (true_T (leb-zero d)) (and_right (leb a d) (near_at v n ps i d) (and_right S (near_from v n ps i a d) t))))

  from_fewer : (m a q : ℕ) → length (list_from v n ps i a q m) ≤ length (list_from v n ps i 0 q m)
  from_fewer zero a q = omega arith
  from_fewer (suc m) a q = omega (arith, in_fewer a q, length-append (list_in v n ps i a q) (list_from v n ps i 0 (suc q) m), length-append (list_in v n ps i 0 q) (list_from v n ps i 0 (suc q) m))

  rest_fewer : (x q s m t : ℕ) → s ≡ q + x → t ≡ x + m → length (list_from v n ps i 0 s m) ≤ length (list_from v n ps i 0 q t)
  rest_fewer zero q s m t e f =
      let a : s ≡ q = omega arith in
      let b : t ≡ m = omega arith in
      rw (a, b) (omega arith)
  rest_fewer (suc x) q s m zero e f = absurd (omega arith)
  rest_fewer (suc x) q s m (suc t) e f = omega (arith, rest_fewer x (suc q) s m t (omega arith) (omega arith), length-append (list_in v n ps i 0 q) (list_from v n ps i 0 (suc q) t))

  -- a cell of the first row, with a number from a on, and one of a later row
  from_first : (m a q d : ℕ) → 0 < m → In d (list_in v n ps i a q) → In d (list_from v n ps i a q m)
  from_first zero a q d h l = absurd (omega arith)
  from_first (suc m) a q d h l = append_one d (list_in v n ps i a q) (list_from v n ps i 0 (suc q) m) l

  from_later : (m a q s d : ℕ) → q < s → s < q + m → In d (list_in v n ps i 0 s) → In d (list_from v n ps i a q m)
  from_later zero a q s d h k l = absurd (omega arith)
  from_later (suc m) a q s d h k l = append_two d (list_in v n ps i a q) (list_from v n ps i 0 (suc q) m) (elim (dec_lt (suc q) s) [
    | yes z ↦ from_later m 0 (suc q) s d z (omega arith) l
    | no z ↦
        let e : s ≡ suc q = omega arith in
        from_first m 0 (suc q) d (omega arith) (subst (λ (x : ℕ). In d (list_in v n ps i 0 x)) e l)
  ])

module _ {ps : List ℤ} {v : ValidParams} {n : ℕ} (r : Ready ps v n) where
  abbrev g : Geometry
  g = geometry_at v n ps

  abbrev k : ℕ
  k = length (cells g)

  pub few : length (cells (geometry_at v n ps)) ≤ n
  few = omega (arith, cells_le g, at_frames v n ps)

  inside : (d : ℕ) → d < k → cell_at g d < n
  inside d h = omega (arith, cell_at_below g d h, at_frames v n ps)

  -- the row around cell c's first frame in which cell d's lies
  abbrev row_for : ℕ → ℕ → ℕ
  row_for c d = which (reach_of v) (drop 1 (frame_at (reach_of v) v n ps (cell_at g c))) (drop 1 (frame_at (reach_of v) v n ps (cell_at g d)))

  -- a key is below 4 × k
  pub cell_key_below : (d : ℕ) → d < length (cells (geometry_at v n ps)) → cell_key v n ps d < 4 * length (cells (geometry_at v n ps))
  cell_key_below d h = omega (arith, key_below (reach_of v) v n ps (4 * k - 1) (omega arith) (cell_at g) (core_at g) d)

  -- what is found in a row are cells
  pub in_below : (i a q : ℕ) → Below (length (cells (geometry_at v n ps))) (list_in v n ps i a q)
  unfolding list_in found_in pair_at numbered
  in_below i a q d l =
      let b = bucket_around (reach_of v) v n ps (4 * k - 1) i q in
      let K = cell_key v n ps in
      elim (in_append d (numbered K k b) (numbered K k ((b + 1) % (4 * k - 1))) (in_keep (near_in v n ps i a q) d (numbered K k b ++ numbered K k ((b + 1) % (4 * k - 1))) l).0) [
        | inl x ↦ in_numbers k d (in_keep (λ e. eqb (K e) b) d (numbers k) x).0
        | inr x ↦ in_numbers k d (in_keep (λ e. eqb (K e) ((b + 1) % (4 * k - 1))) d (numbers k) x).0
      ]

  -- ---- the list of a cell
  module _ (c : ℕ) (h : c < length (cells (geometry_at v n ps))) where
    abbrev i : ℕ
    i = cell_at g c

    -- the core cells that cell c lists, each once
    pub list_order : Permᴰ (list_of v n ps c)
        (keep (λ d. core_cell (geometry_at v n ps) (cell_at (geometry_at v n ps) d) && listed (geometry_at v n ps) (cell_at (geometry_at v n ps) c) (cell_at (geometry_at v n ps) d)) (numbers (length (cells (geometry_at v n ps)))))
    unfolding list_of
    list_order =
        subst (Permᴰ (found (reach_of v) v n ps (4 * k - 1) (cell_at g) (core_at g) k i (near_at v n ps i)))
        (keep_same (λ d. core_at g d && near_at v n ps i d) (λ d. core_cell g (cell_at g d) && listed g i (cell_at g d)) (numbers k) (λ d l. ap (λ (b : Bool). core_at g d && b) (sym (listed_at g c d h (in_numbers k d l)))))
        (found_order (reach_of v) v n ps r.room r.settings.scale.some (4 * k - 1) (cell_at g) (core_at g) k (omega arith) inside i (inside c h) (near_at v n ps i) (λ d l t u. near_reach v n ps i (cell_at g d) u))

    pub list_length : length (list_of v n ps c) ≤ length (cells (geometry_at v n ps))
    list_length = omega (arith, perm_length list_order, kept_le (λ d. core_cell g (cell_at g d) && listed g i (cell_at g d)) k)

    -- each cell on it is a core cell that cell c lists
    pub list_sound : (d : ℕ) → In d (list_of v n ps c)
        → (d < length (cells (geometry_at v n ps))) × T (core_cell (geometry_at v n ps) (cell_at (geometry_at v n ps) d)) × T (listed (geometry_at v n ps) (cell_at (geometry_at v n ps) c) (cell_at (geometry_at v n ps) d))
    list_sound d l =
        let z = in_keep (λ d. core_cell g (cell_at g d) && listed g i (cell_at g d)) d (numbers k) ((perm_same list_order d).0 l) in
        (in_numbers k d z.0, and_left (core_cell g (cell_at g d)) (listed g i (cell_at g d)) z.1, and_right (core_cell g (cell_at g d)) (listed g i (cell_at g d)) z.1)

    -- and each of these is on it
    pub list_complete : (d : ℕ) → d < length (cells (geometry_at v n ps)) → T (core_cell (geometry_at v n ps) (cell_at (geometry_at v n ps) d))
        → T (listed (geometry_at v n ps) (cell_at (geometry_at v n ps) c) (cell_at (geometry_at v n ps) d)) → In d (list_of v n ps c)
    list_complete d l a b = (perm_same list_order d).1 (keep_in (λ d. core_cell g (cell_at g d) && listed g i (cell_at g d)) d (numbers k) (numbers_in k d l) (and_both (core_cell g (cell_at g d)) (listed g i (cell_at g d)) a b))

    -- ---- those in the rows from its own on
    -- row by row, all that it lists
    pub list_rows : list_of v n ps c ≡ list_from v n ps (cell_at (geometry_at v n ps) c) 0 0 (2 ^ (v.channels - 1))
    unfolding list_of found
    list_rows = sym (from_all v n ps i (2 ^ (v.channels - 1)) 0)

    abbrev o : ℕ
    o = own_row (reach_of v) v n ps i

    own_low : o < 2 ^ (v.channels - 1)
    own_low = own_row_low (reach_of v) v n ps r.room r.settings.scale.some i (inside c h)

    pub later_length : length (later_of v n ps c) ≤ length (cells (geometry_at v n ps))
    unfolding later_of
    later_length =
        let R = 2 ^ (v.channels - 1) in
        omega (arith, from_fewer v n ps i (R - o) (c + 1) o, rest_fewer v n ps i o 0 o (R - o) R (omega arith) (omega (arith, own_low)), ap length list_rows, list_length)

    near_by_lem : (a d : ℕ) → d < k → T (core_at g d) → T (near_from v n ps i a d) → squared (frame_at (reach_of v) v n ps i) (frame_at (reach_of v) v n ps (cell_at g d)) ≤ reach_of v * reach_of v
    near_by_lem a d l t u = near_reach v n ps i (cell_at g d) (and_right (leb a d) (near_at v n ps i d) u)

    from_sound : (m a q d : ℕ) → In d (list_from v n ps i a q m) → (d < k) × T (core_at g d) × T (near_at v n ps i d)
    unfolding list_in
    from_sound zero a q d l = absurd l
    from_sound (suc m) a q d l = elim (in_append d (list_in v n ps i a q) (list_from v n ps i 0 (suc q) m) l) [
      | inl x ↦
          let z = in_found (reach_of v) v n ps r.room r.settings.scale.some (4 * k - 1) (cell_at g) (core_at g) k (omega arith) inside i (inside c h) (near_from v n ps i a) (near_by_lem a) q d x in
          (z.0, z.1, and_right (leb a d) (near_at v n ps i d) z.2)
      | inr x ↦ from_sound m 0 (suc q) d x
    ]

    -- each of these is a core cell that cell c lists
    pub later_sound : (d : ℕ) → In d (later_of v n ps c)
        → (d < length (cells (geometry_at v n ps))) × T (core_cell (geometry_at v n ps) (cell_at (geometry_at v n ps) d)) × T (listed (geometry_at v n ps) (cell_at (geometry_at v n ps) c) (cell_at (geometry_at v n ps) d))
    unfolding later_of
    later_sound d l =
        let z = from_sound (2 ^ (v.channels - 1) - o) (c + 1) o d l in
        (z.0, z.1, subst T (sym (listed_at g c d h z.0)) z.2)

    -- a cell in a later row, or in the same with a higher number, is one of these
    later_in_lem : (d : ℕ) → d < k → T (core_at g d) → T (near_at v n ps i d)
        → (o < row_for c d) ⊎ ((o ≡ row_for c d) × (c < d)) → In d (later_of v n ps c)
    unfolding later_of list_in
    later_in_lem d l t u s = elim s [
      | inl x ↦ from_later v n ps i (R - o) (c + 1) o (row_for c d) d x (omega (arith, own_low, row_low (reach_of v) v n ps r.room r.settings.scale.some i (inside c h) (cell_at g d))) (there 0 (omega arith))
      | inr x ↦ from_first v n ps i (R - o) (c + 1) o d (omega (arith, own_low)) (subst (λ (q : ℕ). In d (list_in v n ps i (c + 1) q)) (sym x.0) (there (c + 1) (omega (arith, x.1))))
    ]
      where
        R : ℕ
        R = 2 ^ (v.channels - 1)

        there : (a : ℕ) → a ≤ d → In d (list_in v n ps i a (row_for c d))
        there a e = found_in_lem (reach_of v) v n ps r.room r.settings.scale.some (4 * k - 1) (cell_at g) (core_at g) k (omega arith) inside i (inside c h) (near_from v n ps i a) (near_by_lem a) d l t (and_both (leb a d) (near_at v n ps i d) (le→leb a d e) u)

    -- those of them that do not have a mark
    pub unmarked_later_length : (ms : List ℕ) (mark : ℕ) → length (unmarked ms mark (later_of v n ps c)) ≤ length (cells (geometry_at v n ps))
    unmarked_later_length ms mark = le_trans (unmarked_le ms mark (later_of v n ps c)) later_length

  -- of two core cells that list each other, one finds the other
  pub later_complete : (c d : ℕ) → c < length (cells (geometry_at v n ps)) → d < length (cells (geometry_at v n ps)) → (c ≡ d → ⊥)
      → T (core_cell (geometry_at v n ps) (cell_at (geometry_at v n ps) c)) → T (core_cell (geometry_at v n ps) (cell_at (geometry_at v n ps) d))
      → T (listed (geometry_at v n ps) (cell_at (geometry_at v n ps) c) (cell_at (geometry_at v n ps) d)) → In d (later_of v n ps c) ⊎ In c (later_of v n ps d)
  later_complete c d h l ne s t u = elim (dec_lt o P) [
    | yes x ↦ inl (forth (inl x))
    | no x ↦ elim (dec_lt P o) [
      | yes y ↦ inr (back (inl (omega (arith, turn))))
      | no y ↦ elim (dec_lt c d) [
        | yes z ↦ inl (forth (inr (omega arith, z)))
        | no z ↦ inr (back (inr (omega (arith, turn), omega (arith, ne))))
      ]
    ]
  ]
    where
      o : ℕ
      o = own_row (reach_of v) v n ps (cell_at g c)

      P : ℕ
      P = row_for c d

      near : T (near_at v n ps (cell_at g c) d)
      near = subst T (listed_at g c d h l) u

      turn : row_for c d + row_for d c ≡ own_row (reach_of v) v n ps (cell_at g c) + own_row (reach_of v) v n ps (cell_at g d)
      turn = rows_turn (reach_of v) v n ps r.room r.settings.scale.some (cell_at g c) (cell_at g d) (inside c h) (inside d l) (near_reach v n ps (cell_at g c) (cell_at g d) near)

      forth : (o < P) ⊎ ((o ≡ P) × (c < d)) → In d (later_of v n ps c)
      forth x = later_in_lem c h d l t near x

      back : (own_row (reach_of v) v n ps (cell_at g d) < row_for d c) ⊎ ((own_row (reach_of v) v n ps (cell_at g d) ≡ row_for d c) × (d < c)) → In c (later_of v n ps d)
      back x = later_in_lem d l c h s ((ready_lawful r).near_turn (cell_at g c) (cell_at g d) near) x
