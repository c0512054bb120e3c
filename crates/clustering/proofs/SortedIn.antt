-- The words of a run once its cells are sorted: the slices that hold the cells, and the words as they were once what is sorted is cleared.
use mathlib.Core.Path.{◌≡◌, sym, ap, ap₂, ◌∙◌, subst}
use mathlib.Core.Logic.{inr}
use mathlib.Core.List.{List}
use Prim.Native.Nat.{ℕ, ◌+◌, ◌-◌, ◌*◌, ◌<◌, ◌≤◌}
use native.Mathlib.Omega.{arith}
use lib.IntN.{ℤ}
use lib.ListN.{length, take, drop, get_or, replicate}
use Rattle.std.proofs.Common.{drop-drop}
use Rattle.lists.specs.Lists.{nonzero}
use Rattle.lists.specs.Words.{over, part, column, Clear, Apart}
use Rattle.lists.specs.Sorting.{places_of, start_of}
use Rattle.lists.proofs.WordLaws.{over_length}
use Rattle.lists.proofs.PartLaws.{part_at, clear_after, clear_within}
use Rattle.hyperparams.specs.declared.ValidParams.{ValidParams}
use Rattle.counting_tree.specs.Ready.{geometry_at, Ready, at_frames}
use Rattle.blocks.specs.Blocks.{sorted_by}
use Rattle.blocks.specs.SortedLaws.{places_long, ends_long, sorted_cleared}
use Rattle.cells_grid.specs.Cells.{cells, core_cell}
use Rattle.cells_grid.specs.Arrangement.{cell_at}
use Rattle.cells_grid.specs.Listing.{cell_key}
use Rattle.cells_grid.proofs.ListingLaws.{few, cell_key_below}
use Rattle.cells_grid.proofs.SortedLaws.{sorted_within}
use Rattle.core_cells.specs.Forest.{Grown}
use Rattle.core_cells.specs.ForestLaws.{grown_over, is_core_cell}
use Rattle.core_cells.specs.HasTrees.{whole, grid_part, trees_part}
use Rattle.clustering.specs.Regions.{Listable}

-- where those of each bucket end stands before the cells
apart : {ps : List ℤ} {v : ValidParams} {n : ℕ} → Ready ps v n → Apart (14 * n) (2 * n) (10 * n) (4 * length (cells (geometry_at v n ps)))
apart r = inr (omega (arith, few r))

module _ {ps : List ℤ} {v : ValidParams} {n : ℕ} (r : Ready ps v n) {k : ℕ} {w : List ℕ} (gr : Grown (geometry_at v n ps) k w) (l : 16 * n ≤ length w) where
  abbrev m : ℕ
  m = length (cells (geometry_at v n ps))

  pub few_cells : k ≤ n
  few_cells = omega (arith, gr.cored.cells.count, few r)

  pub core_words : (c : ℕ) → c < k → nonzero (get_or w (5 * n + c) 0) ≡ core_cell (geometry_at v n ps) (cell_at (geometry_at v n ps) c)
  core_words = is_core_cell (whole gr) (at_frames v n ps)

  module _ {u : List ℕ} (q : u ≡ sorted_by (cell_key v n ps) k (4 * k) (10 * n) n w) where
    as_many : u ≡ sorted_by (cell_key v n ps) m (4 * m) (10 * n) n w
    as_many = q ∙ ap (λ (x : ℕ). sorted_by (cell_key v n ps) x (4 * x) (10 * n) n w) gr.cored.cells.count

    grown_sorted : Grown (geometry_at v n ps) k (sorted_by (cell_key v n ps) m (4 * m) (10 * n) n w)
    unfolding sorted_by
    grown_sorted =
        let key = cell_key v n ps in
        let P = places_of key m (4 * m) in
        let E = column (λ b. start_of key m (b + 1)) (4 * m) in
        let a = places_long key m (4 * m) (10 * n) n (few r) (apart r) (cell_key_below r) in
        let b = ends_long key m (4 * m) (10 * n) n (few r) (apart r) (cell_key_below r) in
        let o : length (over w (14 * n) P) ≡ length w = over_length w (14 * n) P (omega (arith, few r)) in
        grown_over (grown_over gr (at_frames v n ps) (14 * n) P (omega arith) (omega (arith, few r)) (omega arith)) (at_frames v n ps) (10 * n) E (omega arith) (omega (arith, few r)) (omega arith)

    -- what is sorted, cleared
    pub sorted_gone : Clear w (10 * n) (6 * n) → over u (10 * n) (replicate (5 * n) 0) ≡ w
    sorted_gone cl =
        ap (λ (z : List ℕ). over z (10 * n) (replicate (5 * n) 0)) as_many
        ∙ sorted_cleared (cell_key v n ps) m (4 * m) (10 * n) n (few r) (apart r) (cell_key_below r) w l (omega (arith, few r)) (10 * n) (5 * n) (omega arith) (omega arith) (omega arith) (omega (arith, few r)) (omega arith)
        (clear_within w (10 * n) (6 * n) (10 * n) (5 * n) cl (omega arith) (omega arith))

    -- and the words after it, clear still
    clear_sorted : Clear w (10 * n) (6 * n) → Clear (sorted_by (cell_key v n ps) m (4 * m) (10 * n) n w) (15 * n) n
    unfolding sorted_by
    clear_sorted cl =
        let key = cell_key v n ps in
        let P = places_of key m (4 * m) in
        let E = column (λ b. start_of key m (b + 1)) (4 * m) in
        let a = places_long key m (4 * m) (10 * n) n (few r) (apart r) (cell_key_below r) in
        let b = ends_long key m (4 * m) (10 * n) n (few r) (apart r) (cell_key_below r) in
        let o : length (over w (14 * n) P) ≡ length w = over_length w (14 * n) P (omega (arith, few r)) in
        clear_after (over w (14 * n) P) (15 * n) n (10 * n) E (omega arith) (omega (arith, few r))
        (clear_after w (15 * n) n (14 * n) P (omega arith) (omega (arith, few r)) (clear_within w (10 * n) (6 * n) (15 * n) n cl (omega arith) (omega arith)))

    -- ---- the words in slices
    module _ {G R R₁ S R₂ N : List ℕ} (eg : G ≡ take (6 * n) u) (er : R ≡ drop (6 * n) u) (e₁ : R₁ ≡ drop (4 * n) R) (es : S ≡ take (5 * n) R₁) (e₂ : R₂ ≡ drop (5 * n) R₁) (en : N ≡ drop n R₂) where
      from_ten : R₁ ≡ drop (10 * n) u
      from_ten = let z : 6 * n + 4 * n ≡ 10 * n = omega arith in e₁ ∙ ap (drop (4 * n)) er ∙ drop-drop (4 * n) (6 * n) u ∙ ap (λ (a : ℕ). drop a u) z

      from_fifteen : R₂ ≡ drop (15 * n) u
      from_fifteen = let z : 10 * n + 5 * n ≡ 15 * n = omega arith in e₂ ∙ ap (drop (5 * n)) from_ten ∙ drop-drop (5 * n) (10 * n) u ∙ ap (λ (a : ℕ). drop a u) z

      nodes : N ≡ drop (16 * n) u
      nodes = let z : 15 * n + n ≡ 16 * n = omega arith in en ∙ ap (drop n) from_fifteen ∙ drop-drop n (15 * n) u ∙ ap (λ (a : ℕ). drop a u) z

      pub listable : length S ≡ 5 * n → Listable v n ps k G S N
      listable h =
          let g = subst (Grown (geometry_at v n ps) k) (sym as_many) grown_sorted in
          let z = sorted_within r w l gr.cored.cells.count q (5 * n) (es ∙ ap (take (5 * n)) from_ten) (omega arith) in
          let b : 4 * n + k - 4 * n ≡ k = omega arith in
          record {
            cells = grid_part g (at_frames v n ps) eg;
            trees = trees_part g (at_frames v n ps) eg nodes;
            few = few_cells;
            size = h;
            ends = z.0;
            places = sym (ap (part S (4 * n)) b) ∙ z.1;
          }

      -- the list, which is clear
      pub list_clear : {X : List ℕ} → X ≡ take n R₂ → length X ≡ n → Clear w (10 * n) (6 * n) → Clear X 0 (length X)
      list_clear {X} ex ln cl i h =
          let z : 0 + i ≡ i = omega arith in
          ap₂ (λ (y : List ℕ) (j : ℕ). get_or y j 0) (ex ∙ ap (take n) from_fifteen) z
          ∙ part_at u (15 * n) n i (omega (arith, h, ln))
          ∙ subst (λ (y : List ℕ). Clear y (15 * n) n) (sym as_many) (clear_sorted cl) i (omega (arith, h, ln))
