-- The loop that builds the trees of all cells: `at` is the place of the next node, after the trees of c cells.
use mathlib.Core.Path.{◌≡◌, sym, ap, subst, ◌∙◌}
use mathlib.Core.List.{List, [], ◌∷◌}
use Prim.Native.Nat.{ℕ, ◌+◌, ◌*◌, ◌<◌, ◌≤◌}
use native.Mathlib.Omega.{arith}
use lib.ListN.{length}
use Rattle.lists.specs.Words.{over, column, Clear}
use Rattle.lists.specs.ListLaws.{length_numbers}
use Rattle.lists.proofs.WordLaws.{over_length, over_nil, over_next, over_apart}
use Rattle.lists.proofs.PartLaws.{column_snoc, clear_before, clear_after}
use Rattle.counting_tree.specs.Geometry.{Geometry}
use Rattle.cells_grid.specs.Arrangement.{Cored}
use Rattle.cells_grid.proofs.ArrangementLaws.{cored_over}
use Rattle.core_cells.specs.Forest.{tree_size, tree_words, nodes_to, forest_to, tree_word}
use Rattle.core_cells.specs.ForestLaws.{forest_length, forest_next, tree_length, nodes_next}
use Rattle.core_cells.proofs.OneTree.{Ripe, cells_few, nodes_room}

pub record Growing (g : Geometry) (n k few : ℕ) (w₀ v : List ℕ) (at c : ℕ) : Type 0 where
  pub ripe : Ripe g n k w₀
  pub high : c ≤ k
  pub place : at ≡ 16 * n + 4 * nodes_to g few c
  pub work : v ≡ over (over w₀ (5 * n) (column (tree_word g few) c)) (16 * n) (forest_to g few c)

pub growing_start : {g : Geometry} {n k few : ℕ} {w₀ : List ℕ} → Ripe g n k w₀ → Growing g n k few w₀ w₀ (16 * n) 0
unfolding nodes_to forest_to
growing_start {g} {n} {k} {few} {w₀} r = record { ripe = r; high = omega arith; place = omega arith; work = sym (over_nil (over w₀ (5 * n) []) (16 * n) ∙ over_nil w₀ (5 * n)) }

module _ {g : Geometry} {n k few : ℕ} {w₀ v : List ℕ} {at c : ℕ} (t : Growing g n k few w₀ v at c) where
  fits : (d : ℕ) → d ≤ k → (5 * n + length (column (tree_word g few) d) ≤ 6 * n) × (16 * n + length (forest_to g few d) ≤ length w₀)
  fits d h = (omega (arith, length_numbers (tree_word g few) d, cells_few t.ripe), omega (arith, forest_length g few d, nodes_room t.ripe few d h))

  abbrev C : List ℕ
  C = column (tree_word g few) c

  abbrev F : List ℕ
  F = forest_to g few c

  abbrev X : List ℕ
  X = over w₀ (5 * n) C

  f : (5 * n + length C ≤ 6 * n) × (16 * n + length F ≤ length w₀)
  f = fits c t.high

  lx : length X ≡ length w₀
  lx = over_length w₀ (5 * n) C (omega (arith, f))

  pub growing_length : length v ≡ length w₀
  growing_length = ap length t.work ∙ over_length X (16 * n) F (omega (arith, lx, f)) ∙ lx

  pub growing_cored : Cored g k v
  growing_cored = subst (Cored g k) (sym t.work)
      (cored_over g (16 * n) F (omega (arith, t.ripe.frames)) (omega (arith, lx, f)) (cored_over g (5 * n) C (omega (arith, t.ripe.frames)) (omega (arith, f)) t.ripe.cored))

  pub growing_blank : Clear v (10 * n) (3 * n)
  growing_blank = subst (λ (y : List ℕ). Clear y (10 * n) (3 * n)) (sym t.work)
      (clear_before X (10 * n) (3 * n) (16 * n) F (omega (arith, lx, f)) (omega arith) (clear_after w₀ (10 * n) (3 * n) (5 * n) C (omega (arith, f)) (omega (arith, f)) t.ripe.blank))

  pub growing_step : c < k → {r : ℕ} {v' : List ℕ} → r ≡ at + 4 * tree_size g few c
      → v' ≡ over (over v (5 * n + c) (tree_word g few c ∷ [])) at (tree_words g few c) → Growing g n k few w₀ v' r (c + 1)
  growing_step h {r} {v'} er e =
      let T : List ℕ = tree_word g few c ∷ [] in
      let Y : List ℕ = over w₀ (5 * n) (column (tree_word g few) (c + 1)) in
      let m = fits (c + 1) (omega arith) in
      let lc : length C ≡ c = length_numbers (tree_word g few) c in
      let ln : c < n = omega (arith, cells_few t.ripe) in
      let ly : length Y ≡ length w₀ = over_length w₀ (5 * n) (column (tree_word g few) (c + 1)) (omega (arith, m)) in
      let slot : over v (5 * n + c) T ≡ over Y (16 * n) F =
      ap (λ (z : List ℕ). over z (5 * n + c) T) t.work
      ∙ sym (over_apart X (5 * n + c) (16 * n) T F (omega arith) (omega (arith, lx, f)))
      ∙ ap (λ (z : List ℕ). over z (16 * n) F) (over_next w₀ (5 * n) (5 * n + c) C T (omega arith) (omega (arith, f)) ∙ ap (over w₀ (5 * n)) (sym (column_snoc (tree_word g few) c))) in
      record {
        ripe = t.ripe;
        high = omega arith;
        place = omega (arith, t.place, nodes_next g few c);
        work = e ∙ ap (λ (z : List ℕ). over z at (tree_words g few c)) slot
            ∙ over_next Y (16 * n) at F (tree_words g few c) (omega (arith, t.place, forest_length g few c)) (omega (arith, t.place, tree_length g few c, nodes_next g few c, forest_length g few (c + 1), m))
            ∙ ap (over Y (16 * n)) (sym (forest_next g few c));
      }

  pub growing_end : k ≤ c → v ≡ over (over w₀ (5 * n) (column (tree_word g few) k)) (16 * n) (forest_to g few k)
  growing_end h =
      let e : c ≡ k = omega (arith, t.high) in
      t.work ∙ ap (λ (z : ℕ). over (over w₀ (5 * n) (column (tree_word g few) z)) (16 * n) (forest_to g few z)) e
