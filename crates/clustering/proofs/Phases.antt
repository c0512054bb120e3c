-- Each cell by itself, then the close pairs, then all pairs by lists, and at last each cell its lowest: the leaders after each.
use mathlib.Core.Path.{◌≡◌, refl, sym, ap, ◌∙◌, subst}
use mathlib.Core.List.{List}
use Prim.Native.Nat.{ℕ, ◌*◌, ◌≤◌}
use native.Mathlib.Nat.{mul-le-mul}
use native.Mathlib.Omega.{arith}
use lib.ListN.{length}
use Rattle.lists.specs.Lists.{numbers, In}
use Rattle.lists.specs.Words.{column}
use Rattle.lists.specs.ListLaws.{map_same, in_numbers}
use Rattle.counting_tree.specs.Geometry.{Geometry}
use Rattle.counting_tree.specs.Given.{geometry}
use Rattle.cells_grid.specs.Cells.{cells}
use Rattle.cells_grid.specs.Ready.{ready_lawful}
use Rattle.cells_grid.specs.Listing.{later_of, sorted_core}
use Rattle.cells_grid.specs.declared.grid.CellsGrid.{CellsGrid}
use Rattle.cells_grid.proofs.Held.{few}
use Rattle.partitions.specs.Leaders.{Falling, root}
use Rattle.partitions.specs.LeaderLaws.{Stands, alone_stands}
use Rattle.partitions.specs.Trials.{by_lowest}
use Rattle.partitions.specs.TrialLaws.{Within}
use Rattle.clustering.specs.Leading.{Leading}
use Rattle.clustering.specs.Uniting.{pairs_of, lowest_at}
use Rattle.clustering.specs.UniteAll.{link_at, meet_all, by_own_leaders, pairs_by}
use Rattle.clustering.specs.Close.{close_pairs}
use Rattle.clustering.proofs.UnitingLaws.{in_pairs}
use Rattle.clustering.proofs.UniteAllLaws.{all_stand, lists_stand, later_lists}
use Rattle.clustering.proofs.CloseLaws.{close_in}
use Rattle.clustering.proofs.Meeting.{lead}
use Rattle.clustering.proofs.Closing.{sorted_low}

module _ (s : CellsGrid) where
  abbrev g : Geometry
  g = geometry s.frames

  pub few_words : s.k ≤ 65536
  few_words = omega (arith, few s, s.frames.ready.few)

  -- ---- each cell by itself
  module _ {m : ℕ} (size : m ≡ s.k) {q : List ℕ} (eq : q ≡ column (λ c. c) m) where
    alone : Stands s.k (λ c. c) q
    alone = subst (Stands s.k (λ c. c)) (sym (eq ∙ ap (column (λ c. c)) size)) (alone_stands s.k)

    pub alone_leading : Leading s.k q
    alone_leading = lead few_words alone

    -- ---- the close pairs are met: these are some of all pairs
    abbrev close : List (ℕ × ℕ)
    close = close_pairs s.frames.v s.frames.n s.frames.points.now (sorted_core s.frames.v s.frames.n s.frames.points.now)

    close_some : (a b : ℕ) → In (a, b) close → In (a, b) (pairs_of g)
    close_some = close_in s.frames.ready (sorted_core s.frames.v s.frames.n s.frames.points.now) (sorted_low s _ refl)

    within : Within s.k close
    within a b i = let z = in_pairs g a b (close_some a b i) in (omega (arith, z.0, s.arranged.count), omega (arith, z.1, s.arranged.count))

    module _ {u : List ℕ} (eu : u ≡ meet_all by_own_leaders (link_at (geometry s.frames)) (close_pairs s.frames.v s.frames.n s.frames.points.now (sorted_core s.frames.v s.frames.n s.frames.points.now)) q) where
      abbrev before : ℕ → ℕ
      before = meet_all by_lowest (link_at g) close (λ c. c)

      close_stand : Stands s.k before u
      close_stand = subst (Stands s.k before) (sym eu) (all_stand (link_at g) s.k close within alone)

      pub close_leading : Leading s.k u
      close_leading = lead few_words close_stand

      -- ---- and all pairs, by lists
      module _ {w : List ℕ} (stand : (low : ℕ → ℕ) → Stands s.k low u
          → Stands s.k (meet_all by_lowest (link_at (geometry s.frames)) (pairs_by (geometry s.frames) (later_of s.frames.v s.frames.n s.frames.points.now) (numbers s.k)) low) w) where
        met_stand : Stands s.k (lowest_at g (s.frames.n * s.frames.n)) w
        met_stand =
            let l : length (cells g) ≤ s.frames.n = omega (arith, few s, s.arranged.count) in
            let later = later_of s.frames.v s.frames.n s.frames.points.now in
            subst (λ (m : ℕ). Stands m (lowest_at g (s.frames.n * s.frames.n)) w) (sym s.arranged.count)
            (lists_stand g later (later_lists s.frames.ready) (ready_lawful s.frames.ready) (s.frames.n * s.frames.n) (mul-le-mul l l) close close_some
            (subst (λ (m : ℕ). Stands m (meet_all by_lowest (link_at g) (pairs_by g later (numbers m)) before) w) s.arranged.count (stand before close_stand)))

        pub can_flatten : Falling w
        can_flatten = met_stand.falling

        pub lowest_met : {z : List ℕ} → z ≡ column (root w) (length w) → z ≡ column (lowest_at (geometry s.frames) (s.frames.n * s.frames.n)) s.k
        lowest_met e =
            e
            ∙ ap (column (root w)) met_stand.size
            ∙ map_same (root w) (lowest_at g (s.frames.n * s.frames.n)) (numbers s.k) (λ c j. met_stand.roots c (in_numbers s.k c j))
