-- Which cell a frame belongs to, from the cells that begin before it.
use mathlib.Core.Path.{◌≡◌, refl, sym, ap, ap₂, subst, ◌∙◌}
use mathlib.Core.Logic.{inl, inr}
use mathlib.Core.Bool.{Bool, true, false, ◌&&◌, cond}
use mathlib.Core.List.{List, [], ◌∷◌, ◌++◌, map}
use Prim.Native.Nat.{ℕ, zero, suc, ◌+◌, ◌-◌, ◌*◌, ◌<◌, ◌≤◌}
use native.Mathlib.Omega.{arith}
use native.Mathlib.Nat.{eq-or-lt_of_le, add-zero}
use native.Mathlib.Numerals.{add-one}
use Rattle.std.specs.Prelude.{Option, Some, None}
use lib.IntN.{ℤ}
use lib.Dec.{T, ltb, eqb, eqb→eq, eqb_refl}
use lib.ListN.{length, get_or, set, length-append, length-set, get_or-append}
use lib.Seq.{get_or_at}
use lib.Ieee.{Float}
use borrow.Author.Tests.{eq-eqb, ne_eqb}
use Rattle.lists.specs.Lists.{from, numbers, keep, how_many}
use Rattle.lists.specs.ListLaws.{both_ways, in_keep}
use Rattle.lists.specs.CountLaws.{keep_keep}
use Rattle.lists.specs.OrderLaws.{kept_snoc, many_snoc, kept_le, keep_low, kept_split, many_less}
use Rattle.lists.specs.Words.{over}
use Rattle.lists.proofs.WordLaws.{over_length, over_nil, set_over}
use Rattle.lists.proofs.PartLaws.{set_under}
use Rattle.lists.specs.Buckets.{last_with, hash_of, bucket, in_bucket, Bucketed}
use Rattle.lists.proofs.BucketLaws.{Walk, last_le, last_more, last_hit, last_gap, last_within, walk_start, walk_next, bucket_next, bucketed_same}
use Rattle.hyperparams.specs.Params.{max_frames}
use Rattle.hyperparams.specs.declared.ValidParams.{ValidParams}
use Rattle.counting_tree.specs.Frames.{frames_in}
use Rattle.counting_tree.specs.Grid.{side_at, indexes}
use Rattle.counting_tree.specs.Geometry.{Geometry, frame}
use Rattle.counting_tree.specs.Arrays.{placed}
use Rattle.counting_tree.specs.Domain.{Counts}
use Rattle.counting_tree.specs.Ready.{geometry_at, Ready, at_frames}
use Rattle.cells_grid.specs.Cells.{same_cell, first, is_cell, cells, cell_number}
use Rattle.cells_grid.specs.Lawful.{Lawful}
use Rattle.cells_grid.proofs.CellLaws.{first_lowest, first_in, first_cell, number_cell, number_same}
use Rattle.cells_grid.specs.Arrangement.{cell_at}
use Rattle.blocks.specs.Blocks.{same_nats}
use Rattle.blocks.specs.BlockLaws.{same_nats_lem}
use Rattle.cells_grid.specs.Hashing.{two_words, numbers_at, less_one, has_indexes, bucket_in, cell_in, natural, naturals, frame_bucket, chained, inserted, Begun}
use Rattle.cells_grid.specs.HashingLaws.{frame_bucket_below, naturals_length, same_naturals, two_words_length}
use Rattle.cells_grid.specs.Ready.{ready_lawful}
use Rattle.cells_grid.proofs.ArrangementLaws.{cell_at_below, number_at}

module _ (g : Geometry) where
  -- the cells that begin before frame i are the first ones
  pub earlier_at_lem : (i c : ℕ) → i ≤ g.frames → c < how_many (is_cell g) (numbers i) → (get_or (keep (is_cell g) (numbers i)) c 0 ≡ cell_at g c) × (c < length (cells g))
  unfolding cells
  earlier_at_lem i c h l =
      let E = keep (is_cell g) (numbers i) in
      let R = keep (is_cell g) (from i (g.frames - i)) in
      let s : cells g ≡ E ++ R = kept_split (is_cell g) i g.frames h in
      (sym (ap (λ (z : List ℕ). get_or z c 0) s ∙ get_or-append E R 0 c l), omega (arith, ap length s, length-append E R))

  -- and a frame that begins one is the first of the next
  pub new_cell_at : (i k : ℕ) → i < g.frames → k ≡ how_many (is_cell g) (numbers i) → is_cell g i ≡ true → cell_at g k ≡ i
  new_cell_at i k h c t =
      let K = keep (is_cell g) (numbers i) in
      let s : keep (is_cell g) (numbers (i + 1)) ≡ K ++ (i ∷ []) = kept_snoc (is_cell g) i ∙ ap (λ (b : Bool). K ++ cond b (i ∷ []) []) t in
      sym (earlier_at_lem (i + 1) k (omega arith) (omega (arith, c, ap length s, length-append K (i ∷ [])))).0
      ∙ ap (λ (z : List ℕ). get_or z k 0) s
      ∙ get_or_at K i [] 0 k (sym c)

module _ (g : Geometry) (L : Lawful g) (i : ℕ) (h : i < g.frames) where
  first_le : first g i ≤ i
  first_le = first_lowest g i i h (L.same_self 0 i)

  -- the number of a cell is how many begin before it
  number_earlier : cell_number g i ≡ how_many (is_cell g) (numbers (first g i))
  unfolding cell_number cells
  number_earlier =
      let f = first g i in
      let e : g.frames ≡ f + (g.frames - f) = omega (arith, first_le) in
      ap length (keep_keep (λ c. ltb c f) (is_cell g) (numbers g.frames) ∙ ap (λ (m : ℕ). keep (λ c. is_cell g c && ltb c f) (numbers m)) e ∙ keep_low (is_cell g) f (g.frames - f))

  number_less : first g i < i → cell_number g i < how_many (is_cell g) (numbers i)
  unfolding cells
  number_less l = omega (arith, number_earlier, many_less (is_cell g) (first g i) i l (in_keep (is_cell g) (first g i) (numbers g.frames) (first_cell g L i h)).1)

  number_new : first g i ≡ i → cell_number g i ≡ how_many (is_cell g) (numbers i)
  number_new e = number_earlier ∙ ap (λ (m : ℕ). how_many (is_cell g) (numbers m)) e

  -- a frame begins a cell exactly if its cell's number is that of the cells before it
  pub begins : is_cell g i ≡ eqb (cell_number g i) (how_many (is_cell g) (numbers i))
  unfolding is_cell
  begins = both_ways (eqb (first g i) i) (eqb (cell_number g i) (how_many (is_cell g) (numbers i)))
      (λ t. rw (number_new (eqb→eq (first g i) i t)) (eqb_refl (how_many (is_cell g) (numbers i))))
      (λ t. elim (eq-or-lt_of_le first_le) [ inl e ↦ rw e (eqb_refl i) | inr l ↦ absurd (omega (arith, number_less l, eqb→eq (cell_number g i) (how_many (is_cell g) (numbers i)) t)) ])

  pub number_le : cell_number g i ≤ how_many (is_cell g) (numbers i)
  number_le = elim (eq-or-lt_of_le first_le) [ inl e ↦ omega (arith, number_new e) | inr l ↦ omega (arith, number_less l) ]

-- a number that may be there, or else the next one, k
abbrev or_next : ℕ → Option ℕ → ℕ
or_next k None = k
or_next k (Some c) = c

-- ---- the search along a bucket's chain: the cell that has the indexes is below e, if any has them
pub record Seek (w : List ℕ) (n k h : ℕ) (of : List ℕ) (e : ℕ) : Type 0 where
  pub walk : Walk (in_bucket (bucket_in w n) h) k e
  pub left : last_with (has_indexes w n of) e ≡ last_with (has_indexes w n of) k

module _ {w : List ℕ} {n k h : ℕ} (of : List ℕ) (b : (h < n) × (h ≡ bucket n (hash_of of)) × Bucketed (bucket_in w n) n k (10 * n) (11 * n) w) where
  abbrev has : ℕ → Bool
  has = has_indexes w n of

  abbrev chain : ℕ → Bool
  chain = in_bucket (bucket_in w n) h

  -- such a cell is in the bucket
  chained_in : (c : ℕ) → T (has c) → T (chain c)
  chained_in c t = subst (λ (y : ℕ). T (eqb y h)) (b.1 ∙ ap (λ (z : List ℕ). bucket n (hash_of z)) (sym (same_nats_lem (numbers_at w (16 * n + 8 * c)) of t))) (eqb_refl h)

  pub seek_start : {x : ℕ} → x ≡ get_or w (10 * n + h) 0 → Seek w n k h of x
  seek_start {x} e =
      let s : x ≡ last_with chain k = e ∙ b.2.head h b.0 in
      record { walk = walk_start s; left = ap (last_with has) s ∙ last_within has chain chained_in k }

  module _ {e : ℕ} (s : Seek w n k h of e) where
    pub seek_end : e ≡ 0 → None ≡ cell_in w n k of
    seek_end t = ap less_one (sym (ap (last_with has) t) ∙ s.left)

    module _ (c : ℕ) (t : e ≡ c + 1) where
      pub seek_low : c < k
      seek_low = omega (arith, s.walk.low)

      here : last_with has k ≡ cond (has c) (c + 1) (last_with has c)
      here = sym s.left ∙ ap (last_with has) t ∙ last_more has c

      module _ {y : Bool} (q : y ≡ same_nats (numbers_at w (16 * n + 8 * c)) of) where
        pub seek_hit : y ≡ true → Some c ≡ cell_in w n k of
        seek_hit u = sym (ap less_one (here ∙ ap (λ (a : Bool). cond a (c + 1) (last_with has c)) (sym q ∙ u) ∙ add-one c))

        pub seek_miss : y ≡ false → {x : ℕ} → x ≡ get_or w (11 * n + c) 0 → Seek w n k h of x × (x < e)
        seek_miss u {x} r =
            let z : x ≡ last_with chain c = bucket_next b.2 h b.0 c s.walk t r in
            let y = walk_next s.walk c t z in (
              record { walk = y.0; left = ap (last_with has) z ∙ last_within has chain chained_in c ∙ sym (here ∙ ap (λ (a : Bool). cond a (c + 1) (last_with has c)) (sym q ∙ u)) },
              omega (arith, y.1),
            )

-- k cells begin before frame i, and the words hold them
module _ {ps : List ℤ} {v : ValidParams} {n i k : ℕ} {w : List ℕ} (p : Ready ps v n × Counts ps × (i < n) × (24 * n ≤ length w)) (b : Begun v n ps i k w) where
  abbrev g : Geometry
  g = geometry_at v n ps

  L : Lawful g
  L = ready_lawful p.0

  inside : i < g.frames
  inside = omega (arith, at_frames v n ps, p.2)

  pub begun_le : k ≤ i
  begun_le = omega (arith, b.count, kept_le (is_cell g) i)

  -- `of` are frame i's indexes, as the program works them out
  module _ {side : Float} {at : List ℤ} {of : List ℕ} (es : side ≡ side_at v.channels v.tolerance 0) (ea : at ≡ placed (indexes side (frame v (frames_in n v.channels ps) i))) (eo : of ≡ map natural at) where
    own : of ≡ naturals v n ps i
    unfolding naturals
    own = eo ∙ ap (map natural) (ea ∙ ap (λ (y : Float). placed (indexes y (frame v (frames_in n v.channels ps) i))) es)

    -- and h is their bucket
    module _ {h x : ℕ} (q : x ≡ hash_of of) (r : h ≡ bucket n x) where
      of_bucket : h ≡ bucket n (hash_of of)
      of_bucket = r ∙ ap (bucket n) q

      own_bucket : h ≡ frame_bucket v n ps i
      unfolding frame_bucket
      own_bucket = of_bucket ∙ ap (λ (z : List ℕ). bucket n (hash_of z)) own

      pub bucket_fits : h < n
      bucket_fits = omega (arith, own_bucket, frame_bucket_below v n ps i (omega (arith, p.2)))

      pub can_find : ((k ≤ n) × (n ≤ max_frames) × (24 * n ≤ length w)) × ((h < n) × (h ≡ bucket n (hash_of of)) × Bucketed (bucket_in w n) n k (10 * n) (11 * n) w)
      unfolding frame_bucket
      can_find = (
        (omega (arith, begun_le, p.2), p.0.few, p.3),
        (bucket_fits, of_bucket, bucketed_same b.chains (bucket_in w n) (λ c l. ap (λ (z : List ℕ). bucket n (hash_of z)) (sym (b.indexed c l)))),
      )

    -- the cell that has them is frame i's
    module _ (c : ℕ) (l : c < k) where
      cell : c < length (cells g)
      cell = (earlier_at_lem g i c (omega (arith, inside)) (omega (arith, b.count))).1

      has_same : has_indexes w n of c ≡ same_cell g i (cell_at g c)
      has_same = ap₂ same_nats (b.indexed c l) own ∙ same_naturals p.0 p.1 i (cell_at g c) p.2 (omega (arith, cell_at_below g c cell, at_frames v n ps))

    found_cell : or_next k (cell_in w n k of) ≡ cell_number g i
    found_cell = go (last_with (has_indexes w n of) k) refl
      where
        go : (m : ℕ) → last_with (has_indexes w n of) k ≡ m → or_next k (less_one m) ≡ cell_number g i
        go zero q = elim (eq-or-lt_of_le (first_le g L i inside)) [
          | inl o ↦ b.count ∙ sym (number_new g L i inside o)
          | inr m ↦
              let c = cell_number g i in
              let l : c < k = omega (arith, b.count, number_less g L i inside m) in
              absurd (last_gap (has_indexes w n of) k c (omega arith) l (subst T (sym (has_same c l)) (rw (number_cell g L i 0 inside) (first_in g L i inside).1)))
        ]
        go (suc c) q =
            let l : c < k = omega (arith, q, last_le (has_indexes w n of) k) in
            sym ((number_same g L i (cell_at g c) inside (cell_at_below g c (cell c l))).1 (subst T (has_same c l) (last_hit (has_indexes w n of) k c q)) ∙ number_at g c (cell c l))

    -- a cell that is found is one of the k
    pub found_low : {c : ℕ} → Some c ≡ cell_in w n k of → c < k
    found_low {c} f = go (last_with (has_indexes w n of) k) (last_le (has_indexes w n of) k) f
      where
        go : (m : ℕ) → m ≤ k → Some c ≡ less_one m → c < k
        go zero l e = absurd (omega (arith, ap (or_next (c + 1)) e))
        go (suc d) l e = omega (arith, ap (or_next 0) e)

    -- ---- what is written then: c is the number that was found
    module _ {c : ℕ} (q : c ≡ cell_number g i) where
      new : (t : Bool) → eqb c k ≡ t → is_cell g i ≡ t
      new t e = begins g L i inside ∙ ap₂ eqb (sym q) (sym b.count) ∙ e

      count : (t : Bool) → eqb c k ≡ t → k + cond t 1 0 ≡ how_many (is_cell g) (numbers (i + 1))
      count t e = ap₂ (λ (m : ℕ) (a : Bool). m + cond a 1 0) b.count (sym (new t e)) ∙ sym (many_snoc (is_cell g) i)

      -- the words with the indexes of cell k, if frame i begins it
      abbrev X : Bool → List ℕ
      X t = over w (16 * n + 8 * k) (cond t (two_words (naturals v n ps i)) [])

      abbrev W : Bool → List ℕ
      W t = over (X t) i (cell_number g i ∷ [])

      abbrev W₂ : Bool → List ℕ
      W₂ t = over (W t) (n + k) (cond t (i ∷ []) [])

      number : (t : Bool) → length (X t) ≡ length w → set (X t) i c ≡ W t
      number t l = ap (set (X t) i) q ∙ set_over (X t) i (cell_number g i) (omega (arith, p.2, p.3))

      told : (t : Bool) → eqb c k ≡ t → chained v n ps i k t (W₂ t) ≡ inserted v n ps i k (is_cell g i) w
      unfolding inserted
      told t e = ap (λ (a : Bool). chained v n ps i k a (W₂ a)) (sym (new t e))

      insert_at : c ≡ k → {h x : ℕ} → x ≡ hash_of of → h ≡ bucket n x → {u₁ u : List ℕ} → u₁ ≡ over (set (set w i c) (n + k) i) (16 * n + 8 * k) (two_words of)
          → u ≡ over (over u₁ (11 * n + k) (get_or u₁ (10 * n + h) 0 ∷ [])) (10 * n + h) ((k + 1) ∷ [])
          → (k + 1 ≡ how_many (is_cell g) (numbers (i + 1))) × (u ≡ inserted v n ps i k (is_cell g i) w)
      unfolding chained
      insert_at e {h} a d {u₁} {u} r₁ r =
          let t : eqb c k ≡ true = eq-eqb c k e in
          let ws : List ℕ = two_words (naturals v n ps i) in
          let lw : length ws ≡ 8 = two_words_length (naturals v n ps i) ∙ ap (λ (m : ℕ). 2 * m) (naturals_length p.0 i p.2) in
          let lx : length (X true) ≡ length w = over_length w (16 * n + 8 * k) ws (omega (arith, p.2, p.3, begun_le)) in
          let room : 16 * n + 8 * k ≤ length w = omega (arith, p.2, p.3, begun_le) in
          let first : u₁ ≡ W₂ true =
          r₁ ∙ ap (λ (z : List ℕ). over (set (set w i c) (n + k) i) (16 * n + 8 * k) (two_words z)) own
          ∙ sym (set_under (set w i c) (16 * n + 8 * k) ws (omega (arith, length-set w i c)) (n + k) i (omega (arith, p.2, begun_le)))
          ∙ ap (λ (z : List ℕ). set z (n + k) i) (sym (set_under w (16 * n + 8 * k) ws room i c (omega (arith, p.2))) ∙ number true lx)
          ∙ set_over (W true) (n + k) i (omega (arith, p.2, p.3, begun_le, lx, over_length (X true) i (cell_number g i ∷ []) (omega (arith, p.2, p.3, lx)))) in (
            count true t,
            r ∙ ap₂ (λ (z : List ℕ) (m : ℕ). over (over z (11 * n + k) (get_or z (10 * n + m) 0 ∷ [])) (10 * n + m) ((k + 1) ∷ [])) first (own_bucket a d) ∙ told true t,
          )

      insert_on : (c ≡ k → ⊥) → (k ≡ how_many (is_cell g) (numbers (i + 1))) × (set w i c ≡ inserted v n ps i k (is_cell g i) w)
      unfolding chained
      insert_on e =
          let t : eqb c k ≡ false = ne_eqb c k e in
          let o : X false ≡ w = over_nil w (16 * n + 8 * k) in (
            sym (add-zero k) ∙ count false t,
            ap (λ (z : List ℕ). set z i c) (sym o) ∙ number false (ap length o) ∙ sym (over_nil (W false) (n + k)) ∙ told false t,
          )

    -- the frame begins cell k
    pub insert_new : None ≡ cell_in w n k of → {h x : ℕ} → x ≡ hash_of of → h ≡ bucket n x → {u₁ u : List ℕ} → u₁ ≡ over (set (set w i k) (n + k) i) (16 * n + 8 * k) (two_words of)
        → u ≡ over (over u₁ (11 * n + k) (get_or u₁ (10 * n + h) 0 ∷ [])) (10 * n + h) ((k + 1) ∷ [])
        → (k + 1 ≡ how_many (is_cell g) (numbers (i + 1))) × (u ≡ inserted v n ps i k (is_cell g i) w)
    insert_new f a d = insert_at (ap (or_next k) f ∙ found_cell) refl a d

    -- it is one of cell c
    pub insert_old : {c : ℕ} → Some c ≡ cell_in w n k of → (k ≡ how_many (is_cell g) (numbers (i + 1))) × (set w i c ≡ inserted v n ps i k (is_cell g i) w)
    insert_old f = insert_on (ap (or_next k) f ∙ found_cell) (λ e. omega (arith, e, found_low f))
