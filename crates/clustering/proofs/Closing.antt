-- Cells that are close: what the code asks of two of them, what it leaves of their leaders, and the turns that are still to come.
use mathlib.Core.Path.{◌≡◌, refl, sym, ap, ◌∙◌, subst}
use mathlib.Core.Bool.{Bool, true, false, ◌&&◌}
use mathlib.Core.List.{List}
use Prim.Native.Nat.{ℕ, ◌+◌, ◌-◌, ◌*◌, ◌/◌, ◌%◌, ◌<◌, ◌≤◌}
use native.Mathlib.Omega.{arith}
use lib.Dec.{T}
use lib.IntN.{ℤ}
use lib.ListN.{length, get_or}
use borrow.Author.Tests.{eq-eqb, lt-ltb, le-ltb}
use Rattle.lists.specs.Lists.{In}
use Rattle.lists.specs.Words.{rest}
use Rattle.lists.specs.ListLaws.{true_T, T_true, at_in}
use Rattle.lists.proofs.LoopLaws.{rest_step, rest_end}
use Rattle.hyperparams.specs.declared.ValidParams.{ValidParams}
use Rattle.counting_tree.specs.Frames.{Frame, frames_in}
use Rattle.counting_tree.specs.Geometry.{Geometry, frame, N}
use Rattle.counting_tree.specs.Domain.{Counts}
use Rattle.counting_tree.specs.Given.{geometry}
use Rattle.counting_tree.specs.Ready.{geometry_at, Ready}
use Rattle.cells_grid.specs.Cells.{cells, core}
use Rattle.cells_grid.specs.Arrangement.{cell_at}
use Rattle.cells_grid.specs.Listing.{sorted_core}
use Rattle.cells_grid.specs.declared.grid.CellsGrid.{CellsGrid}
use Rattle.cells_grid.proofs.SortedLaws.{core_length, core_below}
use Rattle.clustering.specs.Clusters.{touches}
use Rattle.clustering.specs.Leading.{Leading}
use Rattle.clustering.specs.Uniting.{touch_at}
use Rattle.clustering.specs.UniteAll.{link_at, meet, meet_all, by_own_leaders}
use Rattle.clustering.proofs.UnitingLaws.{if_within}
use Rattle.clustering.proofs.UniteAllLaws.{touch_links}
use Rattle.clustering.specs.Close.{back, later_at, earlier_at, close_at, close_pair, close_turns, close_pairs}
use Rattle.clustering.proofs.CloseLaws.{close_touches}
use Rattle.clustering.proofs.Meeting.{Met, one_leader, met_on, met_end}

-- ---- two cells, with the first frames i and j
module _ {ps : List ℤ} {v : ValidParams} {n : ℕ} (r : Ready ps v n) (c d : ℕ) {i j : ℕ} (ei : i ≡ cell_at (geometry_at v n ps) c) (ej : j ≡ cell_at (geometry_at v n ps) d) where
  abbrev g : Geometry
  g = geometry_at v n ps

  abbrev fs : List Frame
  fs = frames_in n v.channels ps

  module _ {apart : ℕ} (ea : apart ≡ N v (frames_in n v.channels ps) i j) where
    pub by_far : v.t * v.t ≤ apart → false ≡ close_at v n ps c d
    unfolding close_at
    by_far h = rw (← ei, ← ej, le-ltb (N v fs i j) (v.t * v.t) (omega (arith, ea))) refl

    -- a and b are whether the first frames are core frames
    pub by_near : apart < v.t * v.t → {a b : Bool} → a ≡ core (geometry_at v n ps) i → b ≡ core (geometry_at v n ps) j → a && b ≡ close_at v n ps c d
    unfolding close_at
    by_near h {a} {b} ca cb = rw (← ei, ← ej, lt-ltb (N v fs i j) (v.t * v.t) (omega (arith, ea)), ca, cb) refl

  pub close_touch : c < length (cells (geometry_at v n ps)) → d < length (cells (geometry_at v n ps)) → T (close_at v n ps c d)
      → Counts (frame v (frames_in n v.channels ps) i) × Counts (frame v (frames_in n v.channels ps) j)
      → true ≡ touches (geometry_at v n ps) (cell_at (geometry_at v n ps) c) (cell_at (geometry_at v n ps) d)
  close_touch hc hd t counts = close_touches r hc hd t (subst (λ (x : ℕ). Counts (frame v fs x)) ei counts.0) (subst (λ (x : ℕ). Counts (frame v fs x)) ej counts.1)

-- ---- two cells are met, if they are close
module _ (v : ValidParams) (n : ℕ) (ps : List ℤ) (c d : ℕ) (p : List ℕ) where
  abbrev geo : Geometry
  geo = geometry_at v n ps

  pub not_close : close_at v n ps c d ≡ false → p ≡ meet_all by_own_leaders (link_at (geometry_at v n ps)) (close_pair v n ps c d) p
  unfolding close_pair meet_all
  not_close e = rw e refl

  pub close_met : close_at v n ps c d ≡ true → {q : List ℕ} → q ≡ meet by_own_leaders (link_at (geometry_at v n ps)) c d p
      → q ≡ meet_all by_own_leaders (link_at (geometry_at v n ps)) (close_pair v n ps c d) p
  unfolding close_pair meet_all
  close_met e eq = rw e eq

  -- cells with one leader are passed
  pub close_leader : {k : ℕ} → Leading k p → get_or p c 0 ≡ get_or p d 0 → p ≡ meet_all by_own_leaders (link_at (geometry_at v n ps)) (close_pair v n ps c d) p
  unfolding meet
  close_leader i h = go (close_at v n ps c d) refl
    where
      go : (b : Bool) → close_at v n ps c d ≡ b → p ≡ meet_all by_own_leaders (link_at geo) (close_pair v n ps c d) p
      go true e = close_met e (sym (rw (one_leader c d i.falling h, eq-eqb _ _ h) refl))
      go false e = not_close e

  pub close_link : true ≡ touches (geometry_at v n ps) (cell_at (geometry_at v n ps) c) (cell_at (geometry_at v n ps) d) → true ≡ link_at (geometry_at v n ps) c d
  unfolding touch_at
  close_link t = sym (T_true (link_at geo c d) (touch_links geo c d (true_T (sym t))))

-- ---- the sorted core cells zs, of which the turns from q on are still to be taken: p are the leaders now
pub record Turns (s : CellsGrid) (zs p₀ p : List ℕ) (q : ℕ) : Type 0 where
  pub sorted : zs ≡ sorted_core s.frames.v s.frames.n s.frames.points.now
  pub low : back * back ≤ q
  pub met : Met s.k (link_at (geometry s.frames)) (close_pairs s.frames.v s.frames.n s.frames.points.now zs) (close_turns s.frames.v s.frames.n s.frames.points.now zs (rest (back * length zs) q)) p₀ p

-- they are cells
module _ (s : CellsGrid) (zs : List ℕ) (ez : zs ≡ sorted_core s.frames.v s.frames.n s.frames.points.now) where
  pub sorted_few : length zs ≤ s.k
  sorted_few = omega (arith, ap length ez, core_length s.frames.ready, s.arranged.count)

  pub sorted_low : (p : ℕ) → p < length zs → get_or zs p 0 < length (cells (geometry s.frames))
  sorted_low p h = core_below s.frames.ready (get_or zs p 0) (subst (In (get_or zs p 0)) ez (at_in 0 zs p h))

  pub turns_start : {p : List ℕ} → Leading s.k p → Turns s zs p p 64
  unfolding close_pairs
  turns_start i = record { sorted = ez; low = omega arith; met = record { leading = i; goes = refl } }

module _ {s : CellsGrid} {zs p₀ p : List ℕ} {q : ℕ} (i : Turns s zs p₀ p q) where
  abbrev turns : List ℕ → List (ℕ × ℕ)
  turns = close_turns s.frames.v s.frames.n s.frames.points.now zs

  module _ (h : q < back * length zs) where
    later : later_at zs q < s.k
    later = omega (arith, sorted_low s zs i.sorted (q / back) (omega arith), s.arranged.count)

    earlier : earlier_at zs q < s.k
    earlier = omega (arith, sorted_low s zs i.sorted (q / back - 1 - q % back) (omega (arith, i.low)), s.arranged.count)

    pub turn_cells : (get_or zs (q / 8) 0 < s.k) × (get_or zs (q / 8 - 1 - q % 8) 0 < s.k)
    turn_cells = (later, earlier)

    pub turns_on : {p' : List ℕ} → p' ≡ meet_all by_own_leaders (link_at (geometry s.frames)) (close_pair s.frames.v s.frames.n s.frames.points.now (get_or zs (q / 8) 0) (get_or zs (q / 8 - 1 - q % 8) 0)) p
        → Turns s zs p₀ p' (q + 1)
    unfolding close_turns close_pair
    turns_on e =
        let x = later_at zs q in
        let y = earlier_at zs q in record {
          sorted = i.sorted;
          low = omega (arith, i.low);
          met = met_on (link_at (geometry s.frames)) i.met (close_pair s.frames.v s.frames.n s.frames.points.now x y) (turns (rest (back * length zs) (q + 1)))
              (rw (rest_step (back * length zs) q h) refl)
              (if_within (close_at s.frames.v s.frames.n s.frames.points.now x y) x y later earlier) e;
        }

  pub turns_end : back * length zs ≤ q
      → p ≡ meet_all by_own_leaders (link_at (geometry s.frames)) (close_pairs s.frames.v s.frames.n s.frames.points.now (sorted_core s.frames.v s.frames.n s.frames.points.now)) p₀
  unfolding close_turns
  turns_end h =
      met_end (link_at (geometry s.frames)) i.met (ap turns (rest_end (back * length zs) q h))
      ∙ ap (λ (ys : List ℕ). meet_all by_own_leaders (link_at (geometry s.frames)) (close_pairs s.frames.v s.frames.n s.frames.points.now ys) p₀) i.sorted
