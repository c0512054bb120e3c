-- Cells that are marked with the lowest cells of their sets, and cells united in stages: what the leaders stand for when the stage that begins with cell `from` begins.
use mathlib.Core.Path.{◌≡◌, sym, ap, ◌∙◌, subst}
use mathlib.Core.List.{List, map}
use Prim.Native.Nat.{ℕ, ◌-◌, ◌<◌, ◌≤◌}
use native.Mathlib.Omega.{arith}
use lib.ListN.{length, get_or}
use Rattle.lists.specs.Lists.{numbers, In, Below}
use Rattle.lists.specs.Words.{column, rest}
use Rattle.lists.specs.ListLaws.{map_same, at_numbers, in_from, length_numbers}
use Rattle.lists.specs.OrderLaws.{numbers_split}
use Rattle.counting_tree.specs.Geometry.{Geometry}
use Rattle.counting_tree.specs.Given.{geometry}
use Rattle.cells_grid.specs.Listing.{cell_places, later_of, unlike, Marked}
use Rattle.cells_grid.specs.declared.grid.CellsGrid.{CellsGrid}
use Rattle.cells_grid.proofs.ListingLaws.{later_sound}
use Rattle.cells_grid.proofs.SortedLaws.{places_length, places_below}
use Rattle.partitions.specs.Leaders.{Falling, root}
use Rattle.partitions.specs.LeaderLaws.{Stands, flat_stands}
use Rattle.partitions.specs.Trials.{by_lowest}
use Rattle.partitions.specs.TrialLaws.{Within}
use Rattle.clustering.specs.Leading.{Leading}
use Rattle.clustering.specs.UniteAll.{link_at, meet_all, by_own_leaders, pairs_by}
use Rattle.clustering.specs.Runs.{runs_of}
use Rattle.clustering.specs.RunsLaws.{marked}
use Rattle.clustering.proofs.UniteAllLaws.{meet_append, by_append, by_within, unlike_stand}
use Rattle.clustering.proofs.Meeting.{lead, own}
use Rattle.clustering.proofs.ByLists.{is_cell}

-- ---- the cells zs as they stand sorted, marked by the roots of the leaders p
module _ (s : CellsGrid) {p zs : List ℕ} (L : Leading s.k p) (ez : zs ≡ cell_places s.frames.v s.frames.n s.frames.points.now) where
  below : Below s.k zs
  below c i = omega (arith, places_below s.frames.ready c (subst (In c) ez i), s.arranged.count)

  sorted_length : length zs ≡ s.k
  sorted_length = ap length ez ∙ places_length s.frames.ready ∙ sym s.arranged.count

  pub can_mark : (ms rs : List ℕ) → length ms ≡ s.k → length rs ≡ s.k → Falling p × Below (length p) zs × (length zs ≤ 65536) × (length ms ≡ length p) × (length rs ≡ length zs)
  can_mark ms rs em er = (L.falling, λ c i. omega (arith, below c i, L.size), omega (arith, sorted_length, L.few), em ∙ sym L.size, er ∙ sym sorted_length)

  roots_are : column (root p) (length p) ≡ column (root p) s.k
  roots_are = ap (column (root p)) L.size

  pub marked_leading : {q : List ℕ} → q ≡ column (root p) (length p) → Leading s.k q
  marked_leading e = subst (Leading s.k) (sym (e ∙ roots_are)) (lead L.few (flat_stands (own L)))

  pub marked_cells : {ms rs : List ℕ} → ms ≡ column (root p) (length p) → rs ≡ runs_of (map (root p) zs) → Marked zs ms rs
  marked_cells {ms} em er =
      marked zs ms (ap length (em ∙ roots_are) ∙ length_numbers (root p) s.k ∙ sym sorted_length)
      (er ∙ ap runs_of (map_same (root p) (λ c. get_or ms c 0) zs (λ c i. sym (ap (λ (ys : List ℕ). get_or ys c 0) (em ∙ roots_are) ∙ at_numbers (root p) 0 s.k c (below c i)))))

-- ---- stages
module _ (s : CellsGrid) where
  abbrev g : Geometry
  g = geometry s.frames

  abbrev later : ℕ → List ℕ
  later = later_of s.frames.v s.frames.n s.frames.points.now

  -- the lowest cells once the cells cs are met with those that they find
  abbrev met : List ℕ → (ℕ → ℕ) → ℕ → ℕ
  met cs = meet_all by_lowest (link_at g) (pairs_by g later cs)

  -- p₀ are the leaders at first, p those when the cells below `from` are met
  pub record Stages (p₀ p : List ℕ) (from : ℕ) : Type 0 where
    pub leading : Leading s.k p
    pub high : from ≤ s.k
    pub stand : (low : ℕ → ℕ) → Stands s.k low p₀ → Stands s.k (met (numbers from) low) p

  pub stages_start : {p : List ℕ} → Leading s.k p → Stages p p 0
  unfolding pairs_by meet_all
  stages_start i = record { leading = i; high = omega arith; stand = λ low t. t }

module _ {s : CellsGrid} {p₀ p : List ℕ} {from : ℕ} (i : Stages s p₀ p from) where
  pub stages_end : s.k ≤ from → (low : ℕ → ℕ) → Stands s.k low p₀
      → Stands s.k (meet_all by_lowest (link_at (geometry s.frames)) (pairs_by (geometry s.frames) (later_of s.frames.v s.frames.n s.frames.points.now) (numbers s.k)) low) p
  stages_end h low t = let e : from ≡ s.k = omega (arith, i.high) in subst (λ (m : ℕ). Stands s.k (met s (numbers m) low) p) e (i.stand low t)

  -- the cells are marked, and those up to `to` are met
  module _ {p₁ ms : List ℕ} (e₁ : p₁ ≡ column (root p) (length p)) (em : ms ≡ column (root p) (length p)) {to : ℕ} (more : from ≤ to) (high : to ≤ s.k) where
    abbrev cs : List ℕ
    cs = rest to from

    within : Within s.k (pairs_by (g s) (later s) cs)
    within =
        by_within (g s) (later s) (λ c l d j. omega (arith, (later_sound s.frames.ready c (is_cell s l) d j).0, s.arranged.count)) cs
        (λ c j. omega (arith, (in_from from (to - from) c j).1))

    marks_are : {l : ℕ → ℕ} → Stands s.k l p → (c : ℕ) → c < s.k → get_or ms c 0 ≡ l c
    marks_are t c h = ap (λ (ys : List ℕ). get_or ys c 0) em ∙ at_numbers (root p) 0 (length p) c (omega (arith, i.leading.size)) ∙ t.roots c h

    flat : {l : ℕ → ℕ} → Stands s.k l p → Stands s.k l p₁
    flat {l} t = subst (Stands s.k l) (sym (e₁ ∙ ap (column (root p)) i.leading.size)) (flat_stands t)

    abbrev left : List ℕ → List ℕ
    left = meet_all by_own_leaders (link_at (g s)) (pairs_by (g s) (unlike ms (later s)) cs)

    met_stand : {l : ℕ → ℕ} → Stands s.k l p → Stands s.k (met s cs l) (left p₁)
    met_stand t = unlike_stand (g s) (later s) (link_at (g s)) s.k ms cs within (marks_are t) (flat t)

    both : (l : ℕ → ℕ) → met s (numbers to) l ≡ met s cs (met s (numbers from) l)
    both l =
        ap (λ (xs : List ℕ). met s xs l) (numbers_split from to more)
        ∙ ap (λ (xs : List (ℕ × ℕ)). meet_all by_lowest (link_at (g s)) xs l) (by_append (g s) (later s) (numbers from) cs)
        ∙ meet_append by_lowest (link_at (g s)) (pairs_by (g s) (later s) (numbers from)) (pairs_by (g s) (later s) cs) l

    pub stages_on : {q : List ℕ} → q ≡ meet_all by_own_leaders (link_at (geometry s.frames)) (pairs_by (geometry s.frames) (unlike ms (later_of s.frames.v s.frames.n s.frames.points.now)) (rest to from)) p₁ → Stages s p₀ q to
    stages_on {q} e = record {
      leading = subst (Leading s.k) (sym e) (lead i.leading.few (met_stand (own i.leading)));
      high = high;
      stand = λ l t. subst (λ (m : ℕ → ℕ). Stands s.k m q) (sym (both l)) (subst (Stands s.k (met s cs (met s (numbers from) l))) (sym e) (met_stand (i.stand l t)));
    }
