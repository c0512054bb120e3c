-- The nodes of a cell's tree in words that hold the cells, where each tree begins and the nodes of all trees: the nodes stand from 16n on.
use Rattle.std.specs.Prelude.{◌≡◌, take}
use Rattle.std.proofs.Math.Path.{refl, ap}
use Rattle.std.proofs.Common.{sym, subst, ◌∙◌, arith, drop_at, take_at}
use mathlib.Core.List.{List, ◌++◌}
use Prim.Native.Nat.{ℕ, ◌+◌, ◌*◌, ◌<◌}
use Rattle.std.proofs.Math.ListN.{length, length-append}
use Rattle.lists.specs.Lists.{Below}
use Rattle.lists.specs.Words.{part}
use Rattle.lists.proofs.PartLaws.{part_part}
use Rattle.counting_tree.specs.Geometry.{Geometry}
use Rattle.tree_structure.specs.Encode.{TreeAt}
use Rattle.core_cells.specs.Forest.{tree_frames, tree_words, nodes_to, forest_to, Grown}
use Rattle.core_cells.specs.ForestLaws.{frames_below, forest_length, forest_split, tree_words_lem}

module _ {g : Geometry} {k : ℕ} {w : List ℕ} (gr : Grown g k w) {n : ℕ} (e : g.frames ≡ n) where
  pub words_at : (c : ℕ) → c < k → part w (16 * n + 4 * nodes_to g gr.few c) (length (tree_words g gr.few c)) ≡ tree_words g gr.few c
  words_at c h =
      let A = forest_to g gr.few k in
      let F = forest_to g gr.few c in
      let W = tree_words g gr.few c in
      let z = forest_split g gr.few c k h in
      let R = z.0 in
      let l : length F + (length W + length R) ≡ length A = sym (ap length z.1 ∙ simp length-append) in
      ap (λ (a : ℕ). part w (16 * n + a) (length W)) (sym (forest_length g gr.few c))
      ∙ sym (part_part w (16 * n) (length A) (length F) (length W) (omega arith))
      ∙ ap (λ (l : List ℕ). part l (length F) (length W)) (ap (λ (x : ℕ). part w (16 * x) (length A)) (sym e) ∙ gr.forest ∙ z.1)
      ∙ ap (take (length W)) (drop_at F (W ++ R) (length F) refl)
      ∙ take_at W R (length W) refl

  pub tree_at : (c : ℕ) → c < k → gr.few < length (tree_frames g c) → (at : ℕ) → at ≡ 16 * n + 4 * nodes_to g gr.few c
      → TreeAt g.same n w at g.levels 0 (tree_frames g c)
  tree_at c h l at p = record {
    node = record { some = omega arith; below = subst (λ (x : ℕ). Below x (tree_frames g c)) e (frames_below g c) };
    words = rw (p, ← tree_words_lem g gr.few c l) (words_at c h);
  }
