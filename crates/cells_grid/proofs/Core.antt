-- When a frame is core: the size of its cell, else the frames near it; and what is written of it.
use mathlib.Core.Path.{◌≡◌, refl, sym, ap, ap₂, subst, ◌∙◌}
use mathlib.Core.Logic.{inl, inr}
use mathlib.Core.Bool.{Bool, true, false, not, cond}
use mathlib.Core.List.{List, ◌++◌}
use Prim.Native.Nat.{ℕ, ◌+◌, ◌-◌, ◌*◌, ◌<◌, ◌≤◌}
use native.Mathlib.Nat.{le_refl}
use native.Mathlib.Omega.{arith}
use mir.Val.{bool_byte}
use lib.IntN.{ℤ}
use lib.Dec.{T, leb}
use lib.ListN.{length, get_or, take, drop, replicate, length-append, length-replicate}
use Rattle.std.proofs.Common.{append_assoc, drop-drop, drop_at, length-drop, length-take-le, take-append-drop}
use Rattle.lists.specs.Lists.{numbers, any, how_many, Below}
use Rattle.lists.specs.ListLaws.{T_true, T_or_not, not_turn, any_in, map_same, numbers_in, in_numbers, length_numbers}
use Rattle.lists.specs.Words.{over, column, Clear, Apart}
use Rattle.lists.proofs.WordLaws.{over_length, over_all}
use Rattle.lists.proofs.PartLaws.{column_replicate, get_above, clear_part, clear_before, clear_after, clear_within}
use Rattle.lists.proofs.Parts.{two_laid}
use Rattle.lists.proofs.SortLaws.{keys_long, keys_below, keys_ends, keys_places}
use Rattle.lists.proofs.LoopLaws.{Fill, fill_end}
use Rattle.hyperparams.specs.declared.ValidParams.{ValidParams}
use Rattle.counting_tree.specs.Domain.{Counts}
use Rattle.counting_tree.specs.Geometry.{Geometry}
use Rattle.counting_tree.specs.Ready.{geometry_at, Ready, at_frames, at_least}
use Rattle.cells_grid.specs.Cells.{members, cells, cell_number, dense, neighbour, core}
use Rattle.cells_grid.specs.Lawful.{Lawful}
use Rattle.cells_grid.specs.Arrangement.{cell_at, core_bit, Arranged}
use Rattle.cells_grid.specs.Ready.{ready_lawful}
use Rattle.cells_grid.proofs.ArrangementLaws.{number_below, members_number, arranged_over}
use Rattle.lists.specs.Sorting.{start_of, places_of, key_in, Sorted}
use Rattle.blocks.specs.Blocks.{width, bucket_of, frame_at, key_for, sorted_by}
use Rattle.blocks.specs.RowLaws.{key_below}
use Rattle.blocks.specs.SortedLaws.{places_long, sorted_length, sorted_after, sorted_under, sorted_cleared}
use Rattle.cells_grid.specs.Crowding.{itself, every, frame_key}
use Rattle.cells_grid.specs.Pairs.{others}
use Rattle.cells_grid.proofs.PairLaws.{others_more}

-- the count of the cells is that of the definition
pub all_cells : {g : Geometry} {k : ℕ} {w : List ℕ} → Arranged g k w → Arranged g (length (cells g)) w
all_cells {g} {k} {w} A = subst (λ m. Arranged g m w) A.count A

-- ---- whether frame i is core, where d says whether its cell is dense
pub core_dense : (g : Geometry) (i : ℕ) {d : Bool} → d ≡ dense g i → d ≡ true → d ≡ core g i
unfolding core
core_dense g i q t = t ∙ rw (sym q ∙ t)

-- and as a word
pub core_word : (g : Geometry) (i : ℕ) {b : Bool} → b ≡ core g i → bool_byte b ≡ core_bit g i
unfolding core_bit
core_word g i {b} e = word b ∙ ap (λ (x : Bool). cond x 1 0) e
  where
    word : (x : Bool) → bool_byte x ≡ cond x 1 0
    word true = refl
    word false = refl

module _ {ps : List ℤ} {v : ValidParams} {n : ℕ} (r : Ready ps v n) (i : ℕ) {d : Bool} (q : d ≡ dense (geometry_at v n ps) i) (t : d ≡ false) where
  pub core_sparse : {b : Bool} → b ≡ leb (geometry_at v n ps).least (how_many (neighbour (geometry_at v n ps) i) (numbers n)) → b ≡ core (geometry_at v n ps) i
  unfolding core
  core_sparse s =
      let g = geometry_at v n ps in
      sym (ap₂ (λ (d x : Bool). cond d true x) (sym q ∙ t) (ap (λ (m : ℕ). leb g.least (how_many (neighbour g i) (numbers m))) (at_frames v n ps) ∙ sym s))

  -- x is how many neighbours it has besides itself
  pub core_counted : Counts ps → i < n → {x : ℕ} → x ≡ others v n ps i → leb v.min_points (1 + x) ≡ core (geometry_at v n ps) i
  core_counted C h c =
      core_sparse (ap₂ leb (sym (at_least v n ps)) (sym (others_more r C i h ∙ ap (λ (z : ℕ). 1 + z) (sym c))))

-- every frame is told
pub bits_end : {h : ℕ → ℕ} {w₀ v : List ℕ} {n i : ℕ} → length w₀ ≡ n → Fill h w₀ 0 n v i → n ≤ i → v ≡ column h n
bits_end {h} {w₀} {n = n} e F l = fill_end F l ∙ over_all w₀ (column h n) (length_numbers h n ∙ sym e)

-- and the next is not told yet
pub yet_to_tell : {h : ℕ → ℕ} {w₀ v : List ℕ} {n i : ℕ} → Fill h w₀ 0 n v i → get_or v i 0 ≡ get_or w₀ i 0
yet_to_tell {h} {w₀} {i = i} F = ap (λ (z : List ℕ). get_or z i 0) F.work ∙ get_above w₀ 0 i (column h i) (omega (arith, length_numbers h i)) (omega arith)

-- ---- where every cell is dense
module _ {ps : List ℤ} {v : ValidParams} {n k : ℕ} {w : List ℕ} (r : Ready ps v n) (A : Arranged (geometry_at v n ps) k w) where
  abbrev geo : Geometry
  geo = geometry_at v n ps

  lawful : Lawful geo
  lawful = ready_lawful r

  -- whether cell c is not dense
  abbrev sparse : ℕ → Bool
  sparse c = not (dense geo (cell_at geo c))

  dense_core : (i : ℕ) → i < n → T (dense geo (cell_at geo (cell_number geo i))) → core_bit geo i ≡ 1
  unfolding core_bit core dense
  dense_core i h t =
      let e : leb geo.least (length (members geo i)) ≡ true = ap (λ (m : List ℕ). leb geo.least (length m)) (sym (members_number geo lawful i (omega (arith, at_frames v n ps)))) ∙ T_true (leb geo.least (length (members geo (cell_at geo (cell_number geo i))))) t in
      rw e

  -- then every frame is core
  pub all_core : {b : Bool} → b ≡ not (any (λ c. not (dense geo (cell_at geo c))) (numbers k)) → b ≡ true → replicate n 1 ≡ column (core_bit geo) n
  all_core {b} e t = sym (map_same (core_bit geo) (λ i. 1) (numbers n) (λ i j. dense_core i (in_numbers n i j) (each (cell_number geo i) (omega (arith, A.count, number_below geo lawful i (omega (arith, in_numbers n i j, at_frames v n ps)))))) ∙ column_replicate 1 n)
    where
      each : (c : ℕ) → c < k → T (dense geo (cell_at geo c))
      each c h = elim (T_or_not (dense geo (cell_at geo c))) [
        | inl d ↦ d
        | inr d ↦ absurd (subst T (not_turn (any sparse (numbers k)) true (sym e ∙ t)) (any_in sparse c (numbers k) (numbers_in k c h) d))
      ]

-- ---- frames by bucket: where those of each end stands after the frames and their keys
module _ (v : ValidParams) (n : ℕ) (ps : List ℤ) where
  key_low : (i : ℕ) → i < n → frame_key v n ps i < 8 * n
  key_low i l = omega (arith, key_below v.t v n ps (8 * n - 1) (omega arith) itself every i)

  pub frame_key_lem : (j : ℕ) {b s : ℕ} → s ≡ width v.t → b ≡ bucket_of s (8 * n - 1) (frame_at v.t v n ps j) → b ≡ frame_key v n ps j
  unfolding key_for
  frame_key_lem j d q = q ∙ ap (λ (s : ℕ). bucket_of s (8 * n - 1) (frame_at v.t v n ps j)) d

behind : (n : ℕ) → Apart (14 * n) (2 * n) (16 * n) (8 * n)
behind n = inl (omega arith)

-- ---- the frames are sorted, which are core is written, and the sorted frames are cleared
module _ {ps : List ℤ} {v : ValidParams} {n k : ℕ} (w₀ : List ℕ)
    (p : Ready ps v n × Arranged (geometry_at v n ps) k w₀ × (24 * n ≤ length w₀) × Clear w₀ (10 * n) (14 * n)) where
  later_clear : Clear w₀ (14 * n) (10 * n)
  later_clear = clear_within w₀ (10 * n) (14 * n) (14 * n) (10 * n) p.3 (omega arith) (omega arith)

  pub label_sort : Ready ps v n × (24 * n ≤ length w₀) × Clear w₀ (14 * n) (10 * n)
  label_sort = (p.0, p.2, later_clear)

  module _ {h : List ℕ} (e : h ≡ sorted_by (frame_key v n ps) n (8 * n) (16 * n) n w₀) where
    abbrev P : List ℕ
    P = places_of (frame_key v n ps) n (8 * n)

    abbrev E : List ℕ
    E = column (λ b. start_of (frame_key v n ps) n (b + 1)) (8 * n)

    placed : length (over w₀ (14 * n) P) ≡ length w₀
    placed = over_length w₀ (14 * n) P (omega (arith, p.2, places_long (frame_key v n ps) n (8 * n) (16 * n) n (le_refl n) (behind n) (key_low v n ps)))

    pub label_length : length h ≡ length w₀
    label_length = ap length e ∙ sorted_length (frame_key v n ps) n (8 * n) (16 * n) n (le_refl n) (behind n) (key_low v n ps) w₀ (omega (arith, p.2)) (omega (arith, p.2))

    pub label_arranged : Arranged (geometry_at v n ps) k h
    unfolding sorted_by
    label_arranged =
        let g = geometry_at v n ps in
        let f = at_frames v n ps in
        subst (Arranged g k) (sym e) (arranged_over g (16 * n) E (omega arith) (omega (arith, p.2, placed)) (arranged_over g (14 * n) P (omega arith) (omega (arith, p.2)) p.1))

    pub label_sorted : Sorted (frame_key v n ps) n (8 * n) (16 * n) (14 * n) h
    label_sorted = subst (Sorted (frame_key v n ps) n (8 * n) (16 * n) (14 * n)) (sym e) (sorted_after (frame_key v n ps) n (8 * n) (16 * n) n (le_refl n) (behind n) (key_low v n ps) w₀ (omega (arith, p.2)) (omega (arith, p.2)))

    pub label_clear : Clear h (10 * n) n
    unfolding sorted_by
    label_clear = subst (λ (x : List ℕ). Clear x (10 * n) n) (sym e)
        (clear_before (over w₀ (14 * n) P) (10 * n) n (16 * n) E (omega (arith, p.2, placed)) (omega arith)
        (clear_before w₀ (10 * n) n (14 * n) P (omega (arith, p.2)) (omega arith) (clear_within w₀ (10 * n) (14 * n) (10 * n) n p.3 (omega arith) (omega arith))))

    pub label_end : {u : List ℕ} → u ≡ over h (4 * n) (column (core_bit (geometry_at v n ps)) n) → over u (14 * n) (replicate (10 * n) 0) ≡ over w₀ (4 * n) (column (core_bit (geometry_at v n ps)) n)
    label_end q =
        let key = frame_key v n ps in
        let D : List ℕ = column (core_bit (geometry_at v n ps)) n in
        let d : length D ≡ n = length_numbers (core_bit (geometry_at v n ps)) n in
        let l : length (over w₀ (4 * n) D) ≡ length w₀ = over_length w₀ (4 * n) D (omega (arith, p.2)) in
        ap (λ (z : List ℕ). over z (14 * n) (replicate (10 * n) 0)) (q ∙ ap (λ (z : List ℕ). over z (4 * n) D) e ∙ sorted_under key n (8 * n) (16 * n) n (le_refl n) (behind n) (key_low v n ps) w₀ (omega (arith, p.2)) (omega (arith, p.2)) (4 * n) D (omega arith) (omega arith))
        ∙ sorted_cleared key n (8 * n) (16 * n) n (le_refl n) (behind n) (key_low v n ps) (over w₀ (4 * n) D) (omega (arith, p.2)) (omega (arith, p.2)) (14 * n) (10 * n) (omega arith) (omega arith) (omega arith) (omega arith) (omega (arith, p.2))
        (clear_after w₀ (14 * n) (10 * n) (4 * n) D (omega (arith, p.2)) (omega arith) later_clear)

-- ---- all frames are sorted: w is cut in A, P, K and E, where the frames are sorted by the keys in K to P, and the ends go to E; K' are the keys
module _ {ps : List ℤ} {v : ValidParams} {n : ℕ} (r : Ready ps v n) (w : List ℕ) (fit : 24 * n ≤ length w) (z : Clear w (14 * n) (10 * n))
    {A R P R₁ K E : List ℕ} (ea : A ≡ take (14 * n) w) (er : R ≡ drop (14 * n) w) (ep : P ≡ take n R) (er₁ : R₁ ≡ drop n R) (ek : K ≡ take n R₁) (ee : E ≡ drop n R₁)
    {K' : List ℕ} (kc : K' ≡ column (frame_key v n ps) n) where
  clear_at : (b m : ℕ) → 14 * n ≤ b → b + m ≤ 24 * n → Clear w b m
  clear_at b m l g = clear_within w (14 * n) (10 * n) b m z l (omega arith)

  no_keys : K ≡ replicate n 0
  no_keys =
      ek ∙ ap (take n) (er₁ ∙ ap (drop n) er ∙ drop-drop n (14 * n) w)
      ∙ clear_part w (14 * n + n) n (omega arith) (clear_at (14 * n + n) n (omega arith) (omega arith))

  no_ends : take (8 * n) E ≡ replicate (8 * n) 0
  no_ends =
      ap (take (8 * n)) (ee ∙ ap (drop n) (er₁ ∙ ap (drop n) er ∙ drop-drop n (14 * n) w) ∙ drop-drop n (14 * n + n) w)
      ∙ clear_part w (14 * n + n + n) (8 * n) (omega arith) (clear_at (14 * n + n + n) (8 * n) (omega arith) (omega arith))

  ends_room : length (take (8 * n) E) ≡ 8 * n
  ends_room = ap length no_ends ∙ length-replicate {A = ℕ} (8 * n) 0

  lr : length R ≡ length w - 14 * n
  lr = ap length er ∙ length-drop (14 * n) w

  lp : length P ≡ n
  lp = ap length ep ∙ length-take-le n R (omega (arith, lr))

  pub frames_can : Below (length (take (8 * n) E)) K' × (length K' ≤ 65535) × (length P ≡ length K')
  frames_can = (
    keys_below (frame_key v n ps) n kc (length (take (8 * n) E)) (λ i h. omega (arith, key_low v n ps i h, ends_room)),
    omega (arith, r.few, keys_long (frame_key v n ps) n kc),
    lp ∙ sym (keys_long (frame_key v n ps) n kc),
  )

  pub frames_clear : take (8 * n) E ≡ replicate (length (take (8 * n) E)) 0
  frames_clear = no_ends ∙ ap (λ (m : ℕ). replicate m 0) (sym ends_room)

  pub frames_sorted : {P' E' Z : List ℕ} {j : ℕ} → E' ≡ column (λ b. start_of (key_in K') (length K') (b + 1)) (length (take (8 * n) E)) → P' ≡ places_of (key_in K') (length K') (length (take (8 * n) E))
      → Z ≡ replicate j 0 → j ≡ n → A ++ (P' ++ (Z ++ (E' ++ drop (8 * n) E))) ≡ sorted_by (frame_key v n ps) n (8 * n) (16 * n) n w
  unfolding sorted_by
  frames_sorted {P'} {E'} {Z} {j} e p q l =
      let key = frame_key v n ps in
      let ends : E' ≡ column (λ b. start_of key n (b + 1)) (8 * n) = e ∙ ap (column (λ b. start_of (key_in K') (length K') (b + 1))) ends_room ∙ keys_ends key n kc (8 * n) in
      let places : P' ≡ places_of key n (8 * n) = p ∙ ap (places_of (key_in K') (length K')) ends_room ∙ keys_places key n kc (8 * n) in
      let l₁ : length P' ≡ n = ap length places ∙ places_long key n (8 * n) (16 * n) n (le_refl n) (behind n) (key_low v n ps) in
      let l₂ : length E' ≡ 8 * n = ap length ends ∙ length_numbers (λ b. start_of key n (b + 1)) (8 * n) in
      let l₃ : length (P ++ K) ≡ n + n = length-append P K ∙ omega (arith, lp, ap length no_keys, length-replicate {A = ℕ} n 0) in
      let la : length A ≡ 14 * n = ap length ea ∙ length-take-le (14 * n) w (omega arith) in
      ap (λ (x : List ℕ). A ++ (P' ++ (x ++ (E' ++ drop (8 * n) E)))) (q ∙ ap (λ (m : ℕ). replicate m 0) l ∙ sym no_keys)
      ∙ ap (λ (x : List ℕ). A ++ x) (sym (append_assoc P' K (E' ++ drop (8 * n) E)) ∙ ap (λ (x : List ℕ). P' ++ x ++ (E' ++ drop (8 * n) E)) (sym (drop_at P K n lp)))
      ∙ two_laid A (P ++ K) E P' E' (14 * n) (16 * n) n (8 * n) l₁ l₂ (sym la) (omega (arith, la, l₃)) (omega (arith, l₃))
      ∙ ap (λ (x : List ℕ). over (over x (14 * n) P') (16 * n) E')
      (ap (λ (x : List ℕ). A ++ x) (append_assoc P K E ∙ ap₂ ◌++◌ ep (ap₂ ◌++◌ ek ee ∙ take-append-drop n R₁ ∙ er₁) ∙ take-append-drop n R ∙ er) ∙ ap (λ (x : List ℕ). x ++ drop (14 * n) w) ea ∙ take-append-drop (14 * n) w)
      ∙ ap₂ (λ (us vs : List ℕ). over (over w (14 * n) us) (16 * n) vs) places ends
