-- Laws of spans: each frame that is taken lies within the span, so no frames of two spans are nearer than the spans are.
use Rattle.std.specs.Prelude.{◌≡◌, refl, Bool, true, false, cond, List, [], ◌∷◌, map, ℕ, zero, suc, ◌+◌, ◌-◌, ◌*◌, ◌<◌, ◌≤◌, ltb, ℤ, length, get_or, min, max}
use Rattle.std.proofs.Math.Path.{sym}
use Rattle.std.proofs.Common.{subst, ◌∙◌, inl, inr, le_refl, le_trans, add-zero, mul-le-mul}
use native.Mathlib.Omega.{arith}
use Rattle.std.proofs.Math.ListN.{length-map}
use Rattle.lists.specs.Lists.{from, total, In}
use Rattle.lists.specs.ListLaws.{at_numbers}
use Rattle.hyperparams.specs.declared.ValidParams.{ValidParams}
use Rattle.counting_tree.specs.Frames.{Frame, frames_in, apart, squared}
use Rattle.counting_tree.specs.FramesIn.{frame_length}
use Rattle.counting_tree.specs.Geometry.{frame, N}
use Rattle.counting_tree.specs.Ready.{geometry_at, Ready}
use Rattle.blocks.specs.Blocks.{raise}
use Rattle.blocks.specs.BlockLaws.{raise_near, array_at}
use Rattle.cells_grid.specs.Cells.{members}
use Rattle.cells_grid.specs.Arrangement.{cell_at}
use Rattle.core_cells.specs.declared.spans.Span.{Span}
use Rattle.core_cells.specs.Spans.{lowest, highest, through, span_from, gap, square_gap, raised_at, cell_span}

-- ---- the lower and the higher of two
pub lower_le : (a b : ℕ) → (min a b ≤ a) × (min a b ≤ b)
lower_le a b = (omega arith, omega arith)

pub higher_le : (a b : ℕ) → (a ≤ max a b) × (b ≤ max a b)
higher_le a b = (omega arith, omega arith)

-- ---- in each channel
abbrev AtMost : List ℕ → List ℕ → Type 0
AtMost xs ys = (i : ℕ) → i < 4 → get_or xs i 0 ≤ get_or ys i 0

most_same : (a : List ℕ) → AtMost a a
most_same a i h = le_refl (get_or a i 0)

most_chain : (a b c : List ℕ) → AtMost a b → AtMost b c → AtMost a c
most_chain a b c k l i h = le_trans (k i h) (l i h)

lowest_le : (a b : List ℕ) → AtMost (lowest a b) a × AtMost (lowest a b) b
unfolding lowest
lowest_le a b = (λ i h. rw (at i h) (omega arith), λ i h. rw (at i h) (omega arith))
  where
    at : (i : ℕ) → i < 4 → get_or (lowest a b) i 0 ≡ min (get_or a i 0) (get_or b i 0)
    at i h = at_numbers (λ i. min (get_or a i 0) (get_or b i 0)) 0 4 i h

highest_le : (a b : List ℕ) → AtMost a (highest a b) × AtMost b (highest a b)
unfolding highest
highest_le a b = (λ i h. rw (at i h) (omega arith), λ i h. rw (at i h) (omega arith))
  where
    at : (i : ℕ) → i < 4 → get_or (highest a b) i 0 ≡ max (get_or a i 0) (get_or b i 0)
    at i h = at_numbers (λ i. max (get_or a i 0) (get_or b i 0)) 0 4 i h

-- ---- what is taken stands in the order R to the first and to each
module _ (h : List ℕ → List ℕ → List ℕ) (R : List ℕ → List ℕ → Type 0) (same : (a : List ℕ) → R a a) (chain : (a b c : List ℕ) → R a b → R b c → R a c)
    (both : (a b : List ℕ) → R (h a b) a × R (h a b) b) (f : ℕ → List ℕ) where
  through_start : (s xs : List ℕ) → R (through h f s xs) s
  through_start s [] = same s
  through_start s (x ∷ xs) = chain (through h f (h s (f x)) xs) (h s (f x)) s (through_start (h s (f x)) xs) (both s (f x)).0

  through_in : (s xs : List ℕ) (x : ℕ) → In x xs → R (through h f s xs) (f x)
  through_in s [] x i = absurd i
  through_in s (y ∷ xs) x (inl e) =
      subst (λ (z : ℕ). R (through h f (h s (f y)) xs) (f z)) (sym e)
      (chain (through h f (h s (f y)) xs) (h s (f y)) (f y) (through_start (h s (f y)) xs) (both s (f y)).1)
  through_in s (y ∷ xs) x (inr j) = through_in (h s (f y)) xs x j

-- ---- a row of counts within a span
pub record Within (s : Span) (xs : List ℕ) : Type 0 where
  pub low : AtMost s.low xs
  pub high : AtMost xs s.high

module _ (f : ℕ → List ℕ) (x : ℕ) (xs : List ℕ) where
  pub span_first : Within (span_from f x xs) (f x)
  unfolding span_from
  span_first = record {
    low = through_start lowest AtMost most_same most_chain lowest_le f (f x) xs;
    high = through_start highest (λ a b. AtMost b a) most_same (λ a b c k l. most_chain c b a l k) highest_le f (f x) xs;
  }

  pub span_in : (y : ℕ) → In y xs → Within (span_from f x xs) (f y)
  unfolding span_from
  span_in y j = record {
    low = through_in lowest AtMost most_same most_chain lowest_le f (f x) xs y j;
    high = through_in highest (λ a b. AtMost b a) most_same (λ a b c k l. most_chain c b a l k) highest_le f (f x) xs y j;
  }

-- ---- how far two spans lie apart
-- |x - y|, squared
abbrev square : ℕ → ℕ → ℕ
square x y = ((x - y) + (y - x)) * ((x - y) + (y - x))

-- two numbers, one of each range, lie as far apart at least
gap_le : (low high low2 high2 x y : ℕ) → low ≤ x → x ≤ high → low2 ≤ y → y ≤ high2 → gap low high low2 high2 ≤ square x y
unfolding gap
gap_le low high low2 high2 x y a b c d = mul-le-mul (go (ltb high low2) refl) (go (ltb high low2) refl)
  where
    go : (t : Bool) → ltb high low2 ≡ t → cond t (low2 - high) (low - high2) ≤ (x - y) + (y - x)
    go true e = omega arith
    go false e = omega arith

later : (a i : ℕ) → suc a + i ≡ a + suc i
later a i = omega arith

-- numbers that are at most the squares of the raised counts of f and g add up to N at most
squares_le : (G : ℕ → ℕ) (m a : ℕ) (f g : Frame) → length f ≡ length g → ((i : ℕ) → i < m → G (a + i) ≤ square (get_or (map raise f) i 0) (get_or (map raise g) i 0)) → total G (from a m) ≤ squared f g
squares_le G zero a f g e h = omega arith
squares_le G (suc m) a [] [] e h =
    let first : G a ≤ 0 = rw (sym (add-zero a)) (h 0 (omega arith)) in
    let rest = squares_le G m (suc a) [] [] e (λ i l. rw (later a i) (h (suc i) (omega arith))) in
    omega arith
squares_le G (suc m) a [] (y ∷ g) e h = absurd (omega arith)
squares_le G (suc m) a (x ∷ f) [] e h = absurd (omega arith)
squares_le G (suc m) a (x ∷ f) (y ∷ g) e h =
    let first : G a ≤ square (raise x) (raise y) = rw (sym (add-zero a)) (h 0 (omega arith)) in
    let near : square (raise x) (raise y) ≤ apart x y * apart x y = mul-le-mul (raise_near x y) (raise_near x y) in
    let rest = squares_le G m (suc a) f g (omega arith) (λ i l. rw (later a i) (h (suc i) (omega arith))) in
    omega arith

module _ {ps : List ℤ} {v : ValidParams} {n : ℕ} (r : Ready ps v n) where
  abbrev at : ℕ → Frame
  at = frame v (frames_in n v.channels ps)

  long : (x : ℕ) → x < n → length (at x) ≡ v.channels
  long x h = frame_length n v.channels ps x r.room h

  raised_is : (x : ℕ) → x < n → (i : ℕ) → get_or (raised_at v n ps x) i 0 ≡ get_or (map raise (at x)) i 0
  unfolding raised_at
  raised_is x h i = array_at (map raise (at x)) i (omega (arith, length-map (at x) raise, long x h, r.settings.scale.most))

  -- frames within two spans are not nearer than the spans
  pub square_gap_le : {x y : ℕ} → x < n → y < n → {a b : Span} → Within a (raised_at v n ps x) → Within b (raised_at v n ps y) → square_gap a b ≤ N v (frames_in n v.channels ps) x y
  unfolding square_gap
  square_gap_le {x} {y} hx hy {a} {b} wa wb =
      squares_le (λ i. gap (get_or a.low i 0) (get_or a.high i 0) (get_or b.low i 0) (get_or b.high i 0)) 4 0 (at x) (at y) (long x hx ∙ sym (long y hy)) each
    where
      each : (i : ℕ) → i < 4 → gap (get_or a.low (0 + i) 0) (get_or a.high (0 + i) 0) (get_or b.low (0 + i) 0) (get_or b.high (0 + i) 0)
          ≤ square (get_or (map raise (at x)) i 0) (get_or (map raise (at y)) i 0)
      each i h =
          let z : 0 + i ≡ i = omega arith in
          rw (z, sym (raised_is x hx i), sym (raised_is y hy i))
          (gap_le (get_or a.low i 0) (get_or a.high i 0) (get_or b.low i 0) (get_or b.high i 0) (get_or (raised_at v n ps x) i 0) (get_or (raised_at v n ps y) i 0) (wa.low i h) (wa.high i h) (wb.low i h) (wb.high i h))

-- the frames of a cell lie within its span
pub cell_within : (v : ValidParams) (n : ℕ) (ps : List ℤ) (c x : ℕ) → In x (members (geometry_at v n ps) (cell_at (geometry_at v n ps) c)) → Within (cell_span v n ps c) (raised_at v n ps x)
unfolding cell_span
cell_within v n ps c x i = span_in (raised_at v n ps) (cell_at (geometry_at v n ps) c) (members (geometry_at v n ps) (cell_at (geometry_at v n ps) c)) x i
