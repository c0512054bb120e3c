-- Frames are inserted: cell numbers, first frames and buckets grow frame by frame; and what `populate` lays in the end.
use mathlib.Core.Path.{◌≡◌, refl, sym, ap, ap₂, subst, ◌∙◌}
use mathlib.Core.Logic.{inl, inr}
use mathlib.Core.Bool.{Bool, true, false, cond}
use mathlib.Core.List.{List, [], ◌∷◌}
use Prim.Native.Nat.{ℕ, ◌+◌, ◌*◌, ◌<◌, ◌≤◌}
use native.Mathlib.Omega.{arith}
use lib.IntN.{ℤ}
use lib.ListN.{length, get_or, set, replicate, length-set, length-append, length-replicate}
use Rattle.lists.specs.Lists.{numbers, keep, how_many, In, Below}
use Rattle.lists.specs.Words.{over, part, column, Clear}
use Rattle.lists.specs.Buckets.{Bucketed}
use Rattle.lists.specs.ListLaws.{map_same, in_map, in_numbers, length_numbers}
use Rattle.lists.specs.OrderLaws.{kept_snoc, many_snoc, kept_le}
use Rattle.lists.proofs.WordLaws.{over_length, over_nil, over_again, over_apart, over_grow, set_over, set_laid}
use Rattle.lists.proofs.PartLaws.{part_under, part_same, column_snoc, get_under, get_above, holds_at_0, clear_over, clear_before, clear_after, clear_within}
use Rattle.lists.specs.Sorting.{start_of, places_of}
use Rattle.lists.proofs.SortLaws.{start_of_same, places_of_same}
use Rattle.lists.proofs.BucketLaws.{bucketed_none, bucketed_over, bucketed_push}
use Rattle.hyperparams.specs.Params.{max_frames}
use Rattle.hyperparams.specs.declared.ValidParams.{ValidParams}
use Rattle.counting_tree.specs.Geometry.{Geometry}
use Rattle.counting_tree.specs.Ready.{geometry_at, Ready, at_frames}
use Rattle.cells_grid.specs.Cells.{is_cell, cells, cell_number}
use Rattle.cells_grid.specs.Places.{number_in, populated}
use Rattle.cells_grid.specs.Lawful.{Lawful}
use Rattle.cells_grid.specs.Arrangement.{arranged, start_at}
use Rattle.cells_grid.specs.Hashing.{frame_bucket, cell_bucket, chained}
use Rattle.cells_grid.specs.HashingLaws.{frame_bucket_below}
use Rattle.cells_grid.specs.Ready.{ready_lawful}
use Rattle.cells_grid.proofs.ArrangementLaws.{cells_le, number_below, start_by_number, arranged_by_number}
use Rattle.cells_grid.proofs.Find.{new_cell_at}

-- ---- frames are inserted: those before i, in k cells; `scratch` is what stands in the words of the buckets
pub record Inserted (v : ValidParams) (n : ℕ) (ps : List ℤ) (w₀ w : List ℕ) (k i : ℕ) : Type 0 where
  pub fit : 12 * n ≤ length w₀
  pub clear : Clear w₀ (10 * n) (2 * n)
  pub high : i ≤ n
  pub count : k ≡ how_many (is_cell (geometry_at v n ps)) (numbers i)
  pub scratch : List ℕ
  pub wide : length scratch ≡ 2 * n
  pub work : w ≡ over (over (over w₀ 0 (column (cell_number (geometry_at v n ps)) i)) n (keep (is_cell (geometry_at v n ps)) (numbers i))) (10 * n) scratch
  pub chains : Bucketed (cell_bucket v n ps) n k (10 * n) (11 * n) w

pub inserted_start : {v : ValidParams} {n : ℕ} {ps : List ℤ} {w₀ : List ℕ} → (24 * n ≤ length w₀) × Clear w₀ (10 * n) (3 * n) → Inserted v n ps w₀ w₀ 0 0
inserted_start {v} {n} {ps} {w₀} p = record {
  fit = omega (arith, p.0);
  clear = clear_within w₀ (10 * n) (3 * n) (10 * n) (2 * n) p.1 (omega arith) (omega arith);
  high = omega arith;
  count = refl;
  scratch = replicate (2 * n) 0;
  wide = length-replicate {A = ℕ} (2 * n) 0;
  work = sym (ap (λ (y : List ℕ). over (over y n []) (10 * n) (replicate (2 * n) 0)) (over_nil w₀ 0)
      ∙ ap (λ (y : List ℕ). over y (10 * n) (replicate (2 * n) 0)) (over_nil w₀ n)
      ∙ clear_over w₀ (10 * n) (2 * n) (omega (arith, p.0)) (clear_within w₀ (10 * n) (3 * n) (10 * n) (2 * n) p.1 (omega arith) (omega arith)));
  chains = bucketed_none (clear_within w₀ (10 * n) (3 * n) (10 * n) n p.1 (omega arith) (omega arith));
}

module _ {v : ValidParams} {n : ℕ} {ps : List ℤ} {w₀ w : List ℕ} {k i : ℕ} (I : Inserted v n ps w₀ w k i) where
  abbrev grid : Geometry
  grid = geometry_at v n ps

  abbrev C : List ℕ
  C = column (cell_number grid) i

  abbrev K : List ℕ
  K = keep (is_cell grid) (numbers i)

  abbrev base : List ℕ
  base = over (over w₀ 0 C) n K

  lc : length C ≡ i
  lc = length_numbers (cell_number grid) i

  lk : length K ≤ i
  lk = kept_le (is_cell grid) i

  l₁ : length (over w₀ 0 C) ≡ length w₀
  l₁ = over_length w₀ 0 C (omega (arith, lc, I.fit, I.high))

  l₂ : length base ≡ length w₀
  l₂ = over_length (over w₀ 0 C) n K (omega (arith, l₁, lk, I.fit, I.high)) ∙ l₁

  pub inserted_length : length w ≡ length w₀
  inserted_length = ap length I.work ∙ over_length base (10 * n) I.scratch (omega (arith, l₂, I.wide, I.fit)) ∙ l₂

  pub inserted_few : k ≤ i
  inserted_few = omega (arith, I.count, lk)

  -- words above the buckets stay
  pub inserted_above : (j : ℕ) → 12 * n ≤ j → get_or w j 0 ≡ get_or w₀ j 0
  inserted_above j h =
      ap (λ (z : List ℕ). get_or z j 0) I.work
      ∙ get_above base (10 * n) j I.scratch (omega (arith, I.wide)) (omega (arith, l₂, I.fit))
      ∙ get_above (over w₀ 0 C) n j K (omega (arith, lk, I.high)) (omega (arith, l₁, I.fit))
      ∙ get_above w₀ 0 j C (omega (arith, lc, I.high)) (omega arith)

  -- words may be laid there
  pub inserted_over : (a : ℕ) (ms : List ℕ) → 12 * n ≤ a → a + length ms ≤ length w₀ → Inserted v n ps (over w₀ a ms) (over w a ms) k i
  inserted_over a ms h l = record {
    fit = omega (arith, over_length w₀ a ms l, I.fit);
    clear = clear_before w₀ (10 * n) (2 * n) a ms (omega arith) (omega arith) I.clear;
    high = I.high;
    count = I.count;
    scratch = I.scratch;
    wide = I.wide;
    work = ap (λ (z : List ℕ). over z a ms) I.work
        ∙ over_apart base (10 * n) a I.scratch ms (omega (arith, I.wide)) (omega (arith, l₂))
        ∙ ap (λ (z : List ℕ). over z (10 * n) I.scratch) (over_apart (over w₀ 0 C) n a K ms (omega (arith, lk, I.high)) (omega (arith, l₁))
        ∙ ap (λ (z : List ℕ). over z n K) (over_apart w₀ 0 a C ms (omega (arith, lc, I.high)) l));
    chains = bucketed_over I.chains a ms (omega (arith, inserted_length)) (inr (omega arith)) (inr (omega (arith, inserted_few, I.high)));
  }

  module _ (h : i < n) where
    abbrev xs : List ℕ
    xs = cell_number grid i ∷ []

    abbrev ys : List ℕ
    ys = cond (is_cell grid i) (i ∷ []) []

    ly : k + length ys ≤ n
    ly = omega (arith, I.count, kept_le (is_cell grid) (i + 1), ap length (kept_snoc (is_cell grid) i), length-append K ys)

    -- the words with the cell number and the first frame, if i is one
    abbrev w₁ : List ℕ
    w₁ = over w i xs

    abbrev w₂ : List ℕ
    w₂ = over w₁ (n + k) ys

    lw : length w₁ ≡ length w₀
    lw = over_length w i xs (omega (arith, inserted_length, I.fit)) ∙ inserted_length

    chains₂ : Bucketed (cell_bucket v n ps) n k (10 * n) (11 * n) w₂
    chains₂ = bucketed_over (bucketed_over I.chains i xs (omega (arith, inserted_length, I.fit)) (inl (omega arith)) (inl (omega arith)))
        (n + k) ys (omega (arith, lw, ly, I.fit)) (inl (omega (arith, ly))) (inl (omega (arith, ly)))

    abbrev base₂ : List ℕ
    base₂ = over (over w₀ 0 (column (cell_number grid) (i + 1))) n (keep (is_cell grid) (numbers (i + 1)))

    grown : over (over base i xs) (n + k) ys ≡ base₂
    grown =
        over_grow w₀ 0 n i (n + k) C K xs ys (omega (arith, lc)) (omega (arith, I.count)) (omega arith) (omega (arith, I.fit, ly))
        ∙ ap₂ (λ (us vs : List ℕ). over (over w₀ 0 us) n vs) (sym (column_snoc (cell_number grid) i)) (sym (kept_snoc (is_cell grid) i))

    l₃ : length (over base i xs) ≡ length w₀
    l₃ = over_length base i xs (omega (arith, l₂, I.fit)) ∙ l₂

    l₄ : length base₂ ≡ length w₀
    l₄ = ap length (sym grown) ∙ over_length (over base i xs) (n + k) ys (omega (arith, l₃, ly, I.fit)) ∙ l₃

    work₂ : w₂ ≡ over base₂ (10 * n) I.scratch
    work₂ =
        ap (λ (z : List ℕ). over (over z i xs) (n + k) ys) I.work
        ∙ ap (λ (z : List ℕ). over z (n + k) ys) (sym (over_apart base i (10 * n) xs I.scratch (omega arith) (omega (arith, l₂, I.wide, I.fit))))
        ∙ sym (over_apart (over base i xs) (n + k) (10 * n) ys I.scratch (omega (arith, ly)) (omega (arith, l₃, I.wide, I.fit)))
        ∙ ap (λ (z : List ℕ). over z (10 * n) I.scratch) grown

    -- a store into the words of the buckets
    stored : (u : List ℕ) (j x : ℕ) → length u ≡ 2 * n → j < 2 * n → over (over base₂ (10 * n) u) (10 * n + j) (x ∷ []) ≡ over base₂ (10 * n) (set u j x)
    stored u j x e l =
        sym (set_over (over base₂ (10 * n) u) (10 * n + j) x (omega (arith, over_length base₂ (10 * n) u (omega (arith, l₄, I.fit)), l₄, I.fit)))
        ∙ set_laid base₂ (10 * n) u j x (omega (arith, l₄, I.fit)) (omega arith)

    inserted : {r : ℕ} {z : List ℕ} (t : Bool) → is_cell grid i ≡ t → r ≡ how_many (is_cell grid) (numbers (i + 1)) → r ≡ k + cond t 1 0 → z ≡ chained v n ps i k t w₂ → Inserted v n ps w₀ z r (i + 1)
    unfolding chained
    inserted {r} {z} true e c q p =
        let b : ℕ = frame_bucket v n ps i in
        let x : ℕ = get_or w₂ (10 * n + b) 0 in
        let lb : b < n = frame_bucket_below v n ps i (omega arith) in
        let s : cell_bucket v n ps k ≡ b = ap (frame_bucket v n ps) (new_cell_at grid i k (omega (arith, at_frames v n ps)) I.count e) in
        let m : 11 * n + k ≡ 10 * n + (n + k) = omega arith in
        let u : List ℕ = set I.scratch (n + k) x in
        let lu : length u ≡ 2 * n = length-set I.scratch (n + k) x ∙ I.wide in
        let l₅ : length w₂ ≡ length w₀ = over_length w₁ (n + k) ys (omega (arith, lw, ly, I.fit)) ∙ lw in
        record {
          fit = I.fit;
          clear = I.clear;
          high = omega arith;
          count = c;
          scratch = set u b (k + 1);
          wide = length-set u b (k + 1) ∙ lu;
          work = p
              ∙ ap₂ (λ (y : List ℕ) (a : ℕ). over (over y a (x ∷ [])) (10 * n + b) ((k + 1) ∷ [])) work₂ m
              ∙ ap (λ (y : List ℕ). over y (10 * n + b) ((k + 1) ∷ [])) (stored I.scratch (n + k) x I.wide (omega (arith, inserted_few)))
              ∙ stored u b (k + 1) lu (omega arith);
          chains = subst (λ (a : ℕ). Bucketed (cell_bucket v n ps) n a (10 * n) (11 * n) z) (sym q)
              (bucketed_push chains₂ (omega (arith, s)) (omega arith) (omega (arith, l₅, inserted_few, I.fit))
              (p ∙ ap (λ (a : ℕ). over (over w₂ (11 * n + k) (get_or w₂ (10 * n + a) 0 ∷ [])) (10 * n + a) ((k + 1) ∷ [])) (sym s)));
        }
    inserted {r} {z} false e c q p = record {
      fit = I.fit;
      clear = I.clear;
      high = omega arith;
      count = c;
      scratch = I.scratch;
      wide = I.wide;
      work = p ∙ work₂;
      chains = let s : r ≡ k = omega arith in subst (λ (a : ℕ). Bucketed (cell_bucket v n ps) n a (10 * n) (11 * n) z) (sym s) (subst (Bucketed (cell_bucket v n ps) n k (10 * n) (11 * n)) (sym p) chains₂);
    }

    pub inserted_step : {r : ℕ} {z : List ℕ} → r ≡ how_many (is_cell (geometry_at v n ps)) (numbers (i + 1))
        → z ≡ chained v n ps i k (is_cell (geometry_at v n ps) i) (over (over w i (cell_number (geometry_at v n ps) i ∷ [])) (n + k) (cond (is_cell (geometry_at v n ps) i) (i ∷ []) []))
        → Inserted v n ps w₀ z r (i + 1)
    inserted_step c p = inserted (is_cell grid i) refl c (c ∙ many_snoc (is_cell grid) i ∙ ap (λ (m : ℕ). m + cond (is_cell grid i) 1 0) (sym I.count)) p

  -- all frames, and the words of the buckets cleared
  pub inserted_end : {z : List ℕ} → n ≤ i → z ≡ over w (10 * n) (replicate (2 * n) 0)
      → (k ≡ length (cells (geometry_at v n ps))) × (z ≡ over (over w₀ 0 (column (cell_number (geometry_at v n ps)) n)) n (cells (geometry_at v n ps)))
  unfolding cells
  inserted_end {z} h p =
      let e : i ≡ n = omega (arith, I.high) in
      let q : i ≡ grid.frames = e ∙ sym (at_frames v n ps) in
      let lz : length (replicate {A = ℕ} (2 * n) 0) ≡ 2 * n = length-replicate {A = ℕ} (2 * n) 0 in
      let back : over base (10 * n) (replicate (2 * n) 0) ≡ base =
      clear_over base (10 * n) (2 * n) (omega (arith, l₂, I.fit))
      (clear_after (over w₀ 0 C) (10 * n) (2 * n) n K (omega (arith, l₁, I.fit)) (omega (arith, lk, I.high))
      (clear_after w₀ (10 * n) (2 * n) 0 C (omega arith) (omega (arith, lc, I.high)) I.clear)) in (
        I.count ∙ ap (λ (m : ℕ). how_many (is_cell grid) (numbers m)) q,
        p
            ∙ ap (λ (y : List ℕ). over y (10 * n) (replicate (2 * n) 0)) I.work
            ∙ over_again base (10 * n) I.scratch (replicate (2 * n) 0) (omega (arith, l₂, I.fit)) (lz ∙ sym I.wide)
            ∙ back
            ∙ ap₂ (λ (a b : ℕ). over (over w₀ 0 (column (cell_number grid) a)) n (keep (is_cell grid) (numbers b))) e q,
      )

-- ---- first the one, then the other
module _ {ps : List ℤ} {v : ValidParams} {n : ℕ} (r : Ready ps v n) (w₀ : List ℕ) (s : (24 * n ≤ length w₀) × Clear w₀ (10 * n) (3 * n)) {k : ℕ} {w₁ : List ℕ}
    (p : (k ≡ length (cells (geometry_at v n ps))) × (w₁ ≡ over (over w₀ 0 (column (cell_number (geometry_at v n ps)) n)) n (cells (geometry_at v n ps)))) where
  abbrev g : Geometry
  g = geometry_at v n ps

  L : Lawful g
  L = ready_lawful r

  e : g.frames ≡ n
  e = at_frames v n ps

  abbrev N : List ℕ
  N = column (cell_number g) n

  ln : length (over w₀ 0 N) ≡ length w₀
  ln = over_length w₀ 0 N (omega (arith, length_numbers (cell_number g) n))

  l₆ : length w₁ ≡ length w₀
  l₆ = ap length p.1 ∙ over_length (over w₀ 0 N) n (cells g) (omega (arith, ln, cells_le g, e)) ∙ ln

  -- what `arrange` requires
  pub numbered_fits : ((n ≤ max_frames) × (k ≤ n) × (13 * n ≤ length w₁)) × (Below k (part w₁ 0 n) × Clear w₁ (12 * n) k)
  numbered_fits = ((r.few, lk, omega (arith, l₆)), (few_cells, clear))
    where
      lk : k ≤ n
      lk = omega (arith, p.0, cells_le g, e)

      own : part w₁ 0 n ≡ N
      own =
          ap (λ (y : List ℕ). part y 0 n) p.1
          ∙ part_under (over w₀ 0 N) 0 n n (cells g) (omega arith) (omega (arith, ln))
          ∙ part_same w₀ 0 n N (omega arith) (length_numbers (cell_number g) n)

      few_cells : Below k (part w₁ 0 n)
      few_cells x i =
          let y = in_map (cell_number g) x (numbers n) (subst (In x) own i) in
          omega (arith, y.2, number_below g L y.0 (omega (arith, in_numbers n y.0 y.1, e)), p.0)

      clear : Clear w₁ (12 * n) k
      clear = subst (λ (y : List ℕ). Clear y (12 * n) k) (sym p.1)
          (clear_after (over w₀ 0 N) (12 * n) k n (cells g) (omega (arith, ln)) (omega (arith, p.0, lk))
          (clear_after w₀ (12 * n) k 0 N (omega arith) (omega (arith, length_numbers (cell_number g) n)) (clear_within w₀ (10 * n) (3 * n) (12 * n) k s.1 (omega arith) (omega (arith, lk)))))

  told : (i : ℕ) → i < n → number_in w₁ i ≡ cell_number g i
  told i h =
      ap (λ (z : List ℕ). get_or z i 0) p.1
      ∙ get_under (over w₀ 0 N) n i (cells g) h (omega (arith, ln))
      ∙ holds_at_0 (over w₀ 0 N) n (cell_number g) i (part_same w₀ 0 n N (omega arith) (length_numbers (cell_number g) n)) h

  starts : column (start_of (number_in w₁) n) k ≡ column (start_at g) (length (cells g))
  starts =
      ap (column (start_of (number_in w₁) n)) p.0
      ∙ map_same (start_of (number_in w₁) n) (start_at g) (numbers (length (cells g))) (λ c i.
      start_of_same (number_in w₁) (cell_number g) n told c
      ∙ ap (λ (m : ℕ). start_of (cell_number g) m c) (sym e)
      ∙ sym (start_by_number g L c (omega (arith, in_numbers (length (cells g)) c i))))

  places : places_of (number_in w₁) n k ≡ arranged g
  places =
      ap (places_of (number_in w₁) n) p.0
      ∙ places_of_same (number_in w₁) (cell_number g) n told (length (cells g))
      ∙ ap (λ (m : ℕ). places_of (cell_number g) m (length (cells g))) (sym e)
      ∙ sym (arranged_by_number g L)

  pub populated_is : {w₂ : List ℕ} → w₂ ≡ over (over w₁ (2 * n) (column (start_of (number_in w₁) n) k)) (3 * n) (places_of (number_in w₁) n k) → w₂ ≡ populated g w₀
  unfolding populated
  populated_is q =
      let S = column (start_at g) (length (cells g)) in
      q
      ∙ ap₂ (λ (us vs : List ℕ). over (over w₁ (2 * n) us) (3 * n) vs) starts places
      ∙ ap (λ (z : List ℕ). over (over z (2 * n) S) (3 * n) (arranged g)) p.1
      ∙ ap (λ (m : ℕ). over (over (over (over w₀ 0 (column (cell_number g) m)) m (cells g)) (2 * m) S) (3 * m) (arranged g)) (sym e)
