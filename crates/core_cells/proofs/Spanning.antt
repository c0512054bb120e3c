-- Spans in the program: the raised counts of a frame, the loop over the frames of a cell, and what two spans out of reach tell.
use mathlib.Core.Path.{◌≡◌, sym, ap, ap₂, subst, ◌∙◌}
use mathlib.Core.Bool.{Bool, true, false}
use mathlib.Core.List.{List, [], ◌∷◌, map}
use Prim.Native.Nat.{ℕ, ◌+◌, ◌-◌, ◌*◌, ◌<◌, ◌≤◌, min, max}
use native.Mathlib.Omega.{arith}
use native.Mathlib.Numerals.{add-one}
use native.Mathlib.Nat.{lt_of_le_of_lt}
use borrow.Author.Tests.{lt-ltb, le-ltb}
use lib.IntN.{ℤ}
use lib.ListN.{length, get_or, replicate, drop, drop_of_length-le}
use lib.Seq.{drop-cons}
use Rattle.std.proofs.lemmas.List.{take_all}
use Rattle.lists.specs.Lists.{In, Below, numbers, total}
use Rattle.lists.specs.Words.{over, column}
use Rattle.lists.specs.ListLaws.{map_same, in_numbers}
use Rattle.lists.specs.CountLaws.{total_append}
use Rattle.lists.specs.OrderLaws.{below_at, numbers_snoc}
use Rattle.lists.proofs.PartLaws.{column_part}
use Rattle.hyperparams.specs.declared.ValidParams.{ValidParams}
use Rattle.counting_tree.specs.Frames.{Frame, frames_in}
use Rattle.counting_tree.specs.Given.{geometry}
use Rattle.counting_tree.specs.Geometry.{frame, N}
use Rattle.counting_tree.specs.Ready.{Ready}
use Rattle.blocks.specs.Blocks.{raise, edge, edges_of}
use Rattle.blocks.proofs.Edges.{row_long}
use Rattle.cells_grid.specs.Cells.{members}
use Rattle.cells_grid.specs.Arrangement.{cell_at}
use Rattle.core_cells.specs.declared.cells.CoreCells.{CoreCells}
use Rattle.core_cells.specs.declared.spans.Span.{Span}
use Rattle.core_cells.specs.Forest.{tree_frames}
use Rattle.core_cells.specs.Nearest.{out_of_reach}
use Rattle.core_cells.specs.NearestLaws.{out_farther}
use Rattle.core_cells.specs.Settling.{Apart}
use Rattle.core_cells.proofs.Held.{members_counts}
use Rattle.core_cells.specs.SettlingLaws.{core_member, tree_low, far_apart}
use Rattle.core_cells.specs.Spans.{many, lowest, highest, through, span_from, LowEnds, gap, square_gap, raised_at, cell_span, apart_by_spans}
use Rattle.core_cells.specs.SpansLaws.{Within, span_first, square_gap_le, cell_within}

-- ---- the raised counts of a frame
raised_edges : (f : Frame) → edges_of 1 0 f ≡ map raise f
raised_edges f = map_same (λ c. edge 1 (raise c - 0)) raise f (λ c i. omega arith)

module _ {ps : List ℤ} {v : ValidParams} {n : ℕ} (r : Ready ps v n) (i : ℕ) (h : i < n) {row : List ℕ} (e : row ≡ over (replicate 4 0) 0 (edges_of 1 0 (frame v (frames_in n v.channels ps) i))) where
  pub raised_value : row ≡ raised_at v n ps i
  unfolding raised_at
  raised_value = e ∙ ap (over (replicate 4 0) 0) (raised_edges (frame v (frames_in n v.channels ps) i))

  pub raised_low : Below 65536 row → (k : ℕ) → k < 4 → get_or row k 0 < 65536
  raised_low b k l = below_at 65536 row k b (omega (arith, ap length e, row_long r i h 1 0))

-- ---- in each channel
four_are : (h : ℕ → ℕ) {ys : List ℕ} → length ys ≡ 4 → ((i : ℕ) → i < 4 → get_or ys i 0 ≡ h i) → ys ≡ column h 4
four_are h {ys} e each =
    sym (take_all 4 ys (omega arith)) ∙ sym (column_part ys 0 4 (omega arith))
    ∙ map_same (λ i. get_or ys (0 + i) 0) h (numbers 4) (λ i j. let z : 0 + i ≡ i = omega arith in ap (λ (k : ℕ). get_or ys k 0) z ∙ each i (in_numbers 4 i j))

module _ (a b : List ℕ) {ys : List ℕ} (e : length ys ≡ 4) where
  pub lowest_is : ((i : ℕ) → i < 4 → get_or ys i 0 ≡ min (get_or a i 0) (get_or b i 0)) → ys ≡ lowest a b
  unfolding lowest
  lowest_is each = four_are (λ i. min (get_or a i 0) (get_or b i 0)) e each

  pub highest_is : ((i : ℕ) → i < 4 → get_or ys i 0 ≡ max (get_or a i 0) (get_or b i 0)) → ys ≡ highest a b
  unfolding highest
  highest_is each = four_are (λ i. max (get_or a i 0) (get_or b i 0)) e each

-- ---- what the frames from place k on give is what all give, for the low and the high ends
pub record Spanning (f : ℕ → List ℕ) (x : ℕ) (xs : List ℕ) (span : Span) (k : ℕ) : Type 0 where
  pub lows : through lowest f span.low (drop k xs) ≡ through lowest f (f x) xs
  pub highs : through highest f span.high (drop k xs) ≡ through highest f (f x) xs

module _ {f : ℕ → List ℕ} {x : ℕ} {xs : List ℕ} where
  pub spanning_start : {first : List ℕ} → first ≡ f x → Spanning f x xs (record { low = first; high = first }) 0
  spanning_start {first} e = record { lows = ap (λ (s : List ℕ). through lowest f s xs) e; highs = ap (λ (s : List ℕ). through highest f s xs) e }

  module _ {span : Span} {k : ℕ} (I : Spanning f x xs span k) where
    pub spanning_step : k < length xs → {row : List ℕ} → row ≡ f (get_or xs k 0) → {more : Span} → more.low ≡ lowest span.low row → more.high ≡ highest span.high row → Spanning f x xs more (k + 1)
    spanning_step l {row} er {more} el eh = record { lows = step lowest span.low more.low el ∙ I.lows; highs = step highest span.high more.high eh ∙ I.highs }
      where
        step : (h : List ℕ → List ℕ → List ℕ) (s t : List ℕ) → t ≡ h s row → through h f t (drop (k + 1) xs) ≡ through h f s (drop k xs)
        step h s t q =
            ap (λ (u : List ℕ). through h f u (drop (k + 1) xs)) (q ∙ ap (h s) er)
            ∙ ap (λ (m : ℕ). through h f (h s (f (get_or xs k 0))) (drop m xs)) (add-one k)
            ∙ ap (through h f s) (sym (drop-cons xs k 0 l))

    pub spanning_end : length xs ≤ k → span ≡ span_from f x xs
    unfolding span_from
    spanning_end l =
        let z = drop_of_length-le xs l in
        ap₂ (λ (a b : List ℕ). record { low = a; high = b })
        (ap (through lowest f span.low) (sym z) ∙ I.lows)
        (ap (through highest f span.high) (sym z) ∙ I.highs)

-- no low end is above the count of the first frame
pub low_ends : (f : ℕ → List ℕ) (x : ℕ) (xs : List ℕ) {s : Span} → s ≡ span_from f x xs → {first : List ℕ} → first ≡ f x → ((k : ℕ) → k < 4 → get_or first k 0 < 65536) → LowEnds s
low_ends f x xs {s} e {first} ef b i h =
    let W : Within s (f x) = subst (λ (t : Span). Within t (f x)) (sym e) (span_first f x xs) in
    lt_of_le_of_lt (W.low i h) (subst (λ (r : List ℕ). get_or r i 0 < 65536) ef (b i h))

-- ---- the squares of the first k channels
module _ (a b : Span) where
  abbrev at : ℕ → ℕ
  at i = gap (get_or a.low i 0) (get_or a.high i 0) (get_or b.low i 0) (get_or b.high i 0)

  pub record Adding (square k : ℕ) : Type 0 where
    pub value : square ≡ total at (numbers k)
    pub bound : square ≤ k * 4294967296

  module _ {square k : ℕ} (I : Adding square k) where
    pub adding_step : {d : ℕ} → d ≡ at k → d ≤ 4294967296 → Adding (square + d) (k + 1)
    adding_step {d} e l = record {
      value = ap (λ (x : ℕ). square + x) e ∙ omega (arith, I.value, total_append at (numbers k) (k ∷ []), ap (total at) (numbers_snoc k));
      bound = omega (arith, I.bound);
    }

    pub adding_end : k ≡ 4 → square ≡ square_gap a b
    unfolding square_gap
    adding_end e = I.value ∙ ap (λ (n : ℕ). total at (numbers n)) e

-- ---- the span of a cell
pub cell_span_lem : (s : CoreCells) (c : ℕ) {x : ℕ} → x ≡ cell_at (geometry s.grid.frames) c → {xs : List ℕ} → xs ≡ members (geometry s.grid.frames) (cell_at (geometry s.grid.frames) c)
    → {span : Span} → span ≡ span_from (raised_at s.grid.frames.v s.grid.frames.n s.grid.frames.points.now) x xs → span ≡ cell_span s.grid.frames.v s.grid.frames.n s.grid.frames.points.now c
unfolding cell_span
cell_span_lem s c ex el es = es ∙ ap₂ (span_from (raised_at s.grid.frames.v s.grid.frames.n s.grid.frames.points.now)) ex el

-- ---- two cells with the frames xs and ys
module _ (s : CoreCells) (c d : ℕ) where
  abbrev size : ℕ → ℕ
  size c = length (members (geometry s.grid.frames) (cell_at (geometry s.grid.frames) c))

  module _ {xs : List ℕ} (ex : xs ≡ members (geometry s.grid.frames) (cell_at (geometry s.grid.frames) c)) where
    pub first_few : length xs ≤ 64 → false ≡ apart_by_spans s.grid.frames.v s.grid.frames.n s.grid.frames.points.now c d
    unfolding apart_by_spans
    first_few l = rw (le-ltb many (size c) (omega (arith, ap length ex)))

    module _ {ys : List ℕ} (ey : ys ≡ members (geometry s.grid.frames) (cell_at (geometry s.grid.frames) d)) (l : 64 < length xs) where
      pub second_few : length ys ≤ 64 → false ≡ apart_by_spans s.grid.frames.v s.grid.frames.n s.grid.frames.points.now c d
      unfolding apart_by_spans
      second_few m = rw (lt-ltb many (size c) (omega (arith, ap length ex)), le-ltb many (size d) (omega (arith, ap length ey)))

      pub by_spans : 64 < length ys → {one two : Span} → one ≡ cell_span s.grid.frames.v s.grid.frames.n s.grid.frames.points.now c → two ≡ cell_span s.grid.frames.v s.grid.frames.n s.grid.frames.points.now d
          → {square : ℕ} → square ≡ square_gap one two → {r : Bool} → r ≡ out_of_reach s.grid.frames.v.t s.grid.frames.v.s square → r ≡ apart_by_spans s.grid.frames.v s.grid.frames.n s.grid.frames.points.now c d
      unfolding apart_by_spans
      by_spans m e1 e2 es er =
          rw (lt-ltb many (size c) (omega (arith, ap length ex)), lt-ltb many (size d) (omega (arith, ap length ey)))
          (er ∙ ap (out_of_reach s.grid.frames.v.t s.grid.frames.v.s) (es ∙ ap₂ square_gap e1 e2))

  pub spans_tell : {one two : Span} → one ≡ cell_span s.grid.frames.v s.grid.frames.n s.grid.frames.points.now c → two ≡ cell_span s.grid.frames.v s.grid.frames.n s.grid.frames.points.now d
      → {square : ℕ} → square ≡ square_gap one two → {r : Bool} → r ≡ out_of_reach s.grid.frames.v.t s.grid.frames.v.s square → r ≡ true → Apart s.grid.frames.v s.grid.frames.n s.grid.frames.points.now c d
  spans_tell {one} {two} e1 e2 {square} es {r} er o = far_apart s.grid.frames.ready c d (members_counts s c) (members_counts s d) far
    where
      far : (q x : ℕ) → In q (tree_frames (geometry s.grid.frames) c) → In x (tree_frames (geometry s.grid.frames) d) → out_of_reach s.grid.frames.v.t s.grid.frames.v.s (N s.grid.frames.v (frames_in s.grid.frames.n s.grid.frames.v.channels s.grid.frames.points.now) q x) ≡ true
      far q x i j =
          let a = cell_within s.grid.frames.v s.grid.frames.n s.grid.frames.points.now c q (core_member (geometry s.grid.frames) c q i) in
          let b = cell_within s.grid.frames.v s.grid.frames.n s.grid.frames.points.now d x (core_member (geometry s.grid.frames) d x j) in
          let low = tree_low s.grid.frames.ready in
          let l : square ≤ N s.grid.frames.v (frames_in s.grid.frames.n s.grid.frames.v.channels s.grid.frames.points.now) q x = omega (arith, es ∙ ap₂ square_gap e1 e2, square_gap_le s.grid.frames.ready (low c q i) (low d x j) a b) in
          out_farther s.grid.frames.v.t s.grid.frames.v.s l (sym er ∙ o)
