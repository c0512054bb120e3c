-- The trees in the work words: what building them leaves there, where words from 6n on and from 8n up to 10n may have been written too.
use mathlib.Core.Path.{◌≡◌, sym, ap, ap₂, subst, ◌∙◌}
use mathlib.Core.List.{List}
use Prim.Native.Nat.{ℕ, ◌+◌, ◌*◌, ◌≤◌}
use native.Mathlib.Omega.{arith}
use lib.IntN.{ℤ}
use lib.ListN.{length, drop, length-take}
use Rattle.lists.specs.Words.{over, part, column, Clear}
use Rattle.lists.specs.ListLaws.{length_numbers}
use Rattle.lists.proofs.PartLaws.{over_cover, part_under, part_above, clear_before, clear_after, clear_within}
use Rattle.lists.proofs.WordLaws.{over_length, over_apart}
use Rattle.lists.proofs.Within.{Within, within_self, within_over}
use Rattle.hyperparams.specs.Params.{work_words}
use Rattle.hyperparams.specs.declared.ValidParams.{ValidParams}
use Rattle.counting_tree.specs.Geometry.{Geometry}
use Rattle.counting_tree.specs.Ready.{geometry_at, Ready, at_frames, at_levels}
use Rattle.cells_grid.specs.Ready.{ready_lawful}
use Rattle.cells_grid.specs.Arrangement.{Cored}
use Rattle.cells_grid.proofs.ArrangementLaws.{cells_le}
use Rattle.core_cells.specs.Forest.{tree_word, forest_to, Grown}
use Rattle.core_cells.specs.ForestLaws.{forest_length, nodes_fewer, nodes_fit, grown, grown_over}

pub part_short : (w : List ℕ) (a n : ℕ) → length (part w a n) ≤ n
part_short w a n = omega (arith, length-take n (drop a w))

-- words laid from 5n and from 16n on, before and after those from 6n on and from 8n up to 10n: nothing is left of the first
laid_again : (n : ℕ) (w us bs ps qs cs ds : List ℕ) → length us ≤ length cs → length cs ≤ n → length bs ≤ length ds → length ps ≤ n → length qs ≤ 2 * n → 16 * n + length ds ≤ length w
    → over (over (over (over (over (over w (5 * n) us) (16 * n) bs) (6 * n) ps) (8 * n) qs) (5 * n) cs) (16 * n) ds ≡ over (over (over (over w (5 * n) cs) (16 * n) ds) (6 * n) ps) (8 * n) qs
laid_again n w us bs ps qs cs ds la lc lb lp lq h =
    let t₁ = over w (5 * n) us in
    let t₂ = over t₁ (16 * n) bs in
    let t₃ = over t₂ (6 * n) ps in
    let t₄ = over t₂ (5 * n) cs in
    let t₅ = over t₄ (6 * n) ps in
    let t₆ = over w (5 * n) cs in
    let l₁ : length t₁ ≡ length w = over_length w (5 * n) us (omega arith) in
    let l₂ : length t₂ ≡ length t₁ = over_length t₁ (16 * n) bs (omega arith) in
    let l₃ : length t₃ ≡ length t₂ = over_length t₂ (6 * n) ps (omega arith) in
    let l₄ : length t₄ ≡ length t₂ = over_length t₂ (5 * n) cs (omega arith) in
    let l₅ : length t₅ ≡ length t₄ = over_length t₄ (6 * n) ps (omega arith) in
    let l₆ : length t₆ ≡ length w = over_length w (5 * n) cs (omega arith) in
    let e₁ : over (over t₃ (8 * n) qs) (5 * n) cs ≡ over t₅ (8 * n) qs =
    sym (over_apart t₃ (5 * n) (8 * n) cs qs (omega arith) (omega arith)) ∙ ap (λ (z : List ℕ). over z (8 * n) qs) (sym (over_apart t₂ (5 * n) (6 * n) cs ps (omega arith) (omega arith))) in
    let e₂ : over (over t₅ (8 * n) qs) (16 * n) ds ≡ over (over (over t₄ (16 * n) ds) (6 * n) ps) (8 * n) qs =
    over_apart t₅ (8 * n) (16 * n) qs ds (omega arith) (omega arith) ∙ ap (λ (z : List ℕ). over z (8 * n) qs) (over_apart t₄ (6 * n) (16 * n) ps ds (omega arith) (omega arith)) in
    let e₃ : t₄ ≡ over t₆ (16 * n) bs =
    sym (over_apart t₁ (5 * n) (16 * n) cs bs (omega arith) (omega arith)) ∙ ap (λ (z : List ℕ). over z (16 * n) bs) (over_cover w (5 * n) (5 * n) us cs (omega arith) (omega arith) (omega arith)) in
    ap (λ (z : List ℕ). over z (16 * n) ds) e₁
    ∙ e₂
    ∙ ap (λ (z : List ℕ). over (over z (6 * n) ps) (8 * n) qs) (ap (λ (z : List ℕ). over z (16 * n) ds) e₃ ∙ over_cover t₆ (16 * n) (16 * n) bs ds (omega arith) (omega arith) (omega arith))

-- the words w hold k cells and which frames are core
module _ {ps : List ℤ} {v : ValidParams} {n : ℕ} (r : Ready ps v n) {k : ℕ} {w : List ℕ} (C : Cored (geometry_at v n ps) k w) (room : work_words n v.s ≤ length w) where
  abbrev g : Geometry
  g = geometry_at v n ps

  abbrev m : ℕ
  m = work_words n v.s

  e : g.frames ≡ n
  e = at_frames v n ps

  below : k ≤ n
  below = omega (arith, e, C.cells.count, cells_le g)

  -- the nodes of all trees stand in the needed words
  nodes_room : (few : ℕ) → 16 * n + length (forest_to g few k) ≤ m
  nodes_room few =
      let l : g.frames * (g.levels + 1) ≡ n * (1 + v.s + 1) = ap₂ (λ (f l : ℕ). f * (l + 1)) e (at_levels v n ps) in
      omega (arith, forest_length g few k, nodes_fit g few (ready_lawful r) k (omega (arith, C.cells.count)))

  -- cells with more core frames than this have a tree
  module _ (few : ℕ) where
    abbrev words : List ℕ
    words = column (tree_word g few) k

    words_size : length words ≡ k
    words_size = length_numbers (tree_word g few) k

    abbrev nodes : List ℕ
    nodes = forest_to g few k

    abbrev trees : List ℕ
    trees = over (over w (5 * n) words) (16 * n) nodes

    words_within : Within m w (over w (5 * n) words)
    words_within = within_over (within_self m w) (5 * n) words (omega (arith, below, words_size)) room

    pub trees_within : Within m w trees
    trees_within = within_over words_within (16 * n) nodes (nodes_room few) room

    pub trees_clear : Clear w (10 * n) (6 * n) → Clear trees (10 * n) (6 * n)
    trees_clear c =
        clear_before (over w (5 * n) words) (10 * n) (6 * n) (16 * n) nodes (omega (arith, words_within.size)) (omega arith)
        (clear_after w (10 * n) (6 * n) (5 * n) words (omega arith) (omega (arith, below, words_size)) c)

    pub trees_grown : Grown g k trees
    trees_grown = grown C e (omega arith) few

    -- words may have been written from 6n on, and from 8n up to 10n
    module _ {w₁ : List ℕ} (e₁ : w₁ ≡ over (over trees (6 * n) (part w₁ (6 * n) k)) (8 * n) (part w₁ (8 * n) (2 * n))) where
      abbrev us : List ℕ
      us = part w₁ (6 * n) k

      abbrev vs : List ℕ
      vs = part w₁ (8 * n) (2 * n)

      us_within : Within m w (over trees (6 * n) us)
      us_within = within_over trees_within (6 * n) us (omega (arith, below, part_short w₁ (6 * n) k)) room

      pub grew_within : Within m w w₁
      grew_within = subst (Within m w) (sym e₁) (within_over us_within (8 * n) vs (omega (arith, part_short w₁ (8 * n) (2 * n))) room)

      -- more trees are built then: nothing is left of the first ones
      pub rebuilt : {b : ℕ} {w₂ : List ℕ} → b ≤ few → w₂ ≡ over (over w₁ (5 * n) (column (tree_word g b) k)) (16 * n) (forest_to g b k)
          → w₂ ≡ over (over (over (over w (5 * n) (column (tree_word g b) k)) (16 * n) (forest_to g b k)) (6 * n) (part w₂ (6 * n) k)) (8 * n) (part w₂ (8 * n) (2 * n))
      rebuilt {b} {w₂} h e₂ =
          let cs = column (tree_word g b) k in
          let ds = forest_to g b k in
          let lc : length cs ≡ k = length_numbers (tree_word g b) k in
          let lw : length w₁ ≡ length w = grew_within.size in
          let lt : length (over w₁ (5 * n) cs) ≡ length w₁ = over_length w₁ (5 * n) cs (omega (arith, below)) in
          let kept : (a j : ℕ) → 6 * n ≤ a → a + j ≤ 16 * n → part w₂ a j ≡ part w₁ a j =
          λ a j p q. ap (λ (x : List ℕ). part x a j) e₂
          ∙ part_under (over w₁ (5 * n) cs) a j (16 * n) ds q (omega arith)
          ∙ part_above w₁ a j (5 * n) cs (omega (arith, below)) (omega arith) in
          e₂
          ∙ ap (λ (x : List ℕ). over (over x (5 * n) cs) (16 * n) ds) e₁
          ∙ laid_again n w words nodes us vs cs ds
          (omega (arith, words_size)) (omega (arith, below)) (omega (arith, forest_length g few k, forest_length g b k, nodes_fewer g b few h k))
          (omega (arith, below, part_short w₁ (6 * n) k)) (part_short w₁ (8 * n) (2 * n)) (omega (arith, nodes_room b))
          ∙ ap₂ (λ (ps qs : List ℕ). over (over (over (over w (5 * n) cs) (16 * n) ds) (6 * n) ps) (8 * n) qs) (sym (kept (6 * n) k (omega arith) (omega (arith, below)))) (sym (kept (8 * n) (2 * n) (omega arith) (omega arith)))

      pub grew_clear : Clear w (10 * n) (6 * n) → Clear w₁ (10 * n) (6 * n)
      grew_clear c =
          subst (λ (x : List ℕ). Clear x (10 * n) (6 * n)) (sym e₁)
          (clear_after (over trees (6 * n) us) (10 * n) (6 * n) (8 * n) vs (omega (arith, us_within.size)) (omega (arith, part_short w₁ (8 * n) (2 * n)))
          (clear_after trees (10 * n) (6 * n) (6 * n) us (omega (arith, trees_within.size)) (omega (arith, below, part_short w₁ (6 * n) k)) (trees_clear c)))

      -- what building more of them asks
      pub grew_scratch : Clear w (10 * n) (6 * n) → Clear w₁ (10 * n) (3 * n)
      grew_scratch c = clear_within w₁ (10 * n) (6 * n) (10 * n) (3 * n) (grew_clear c) (omega arith) (omega arith)

      pub grew_grown : Grown g k w₁
      grew_grown =
          subst (Grown g k) (sym e₁)
          (grown_over (grown_over trees_grown
          e (6 * n) us (omega arith) (omega (arith, below, part_short w₁ (6 * n) k)) (omega (arith, trees_within.size)))
          e (8 * n) vs (omega arith) (omega (arith, part_short w₁ (8 * n) (2 * n))) (omega (arith, us_within.size)))

    -- so where they were written after the trees
    module _ {w₁ : List ℕ} (e₁ : w₁ ≡ trees) where
      pub built_clear : Clear w (10 * n) (6 * n) → Clear w₁ (10 * n) (6 * n)
      built_clear c = subst (λ (x : List ℕ). Clear x (10 * n) (6 * n)) (sym e₁) (trees_clear c)

      pub built_grown : Grown g k w₁
      built_grown = subst (Grown g k) (sym e₁) trees_grown

      pub written : {w₂ : List ℕ} → w₂ ≡ over (over w₁ (6 * n) (part w₂ (6 * n) k)) (8 * n) (part w₂ (8 * n) (2 * n))
          → w₂ ≡ over (over trees (6 * n) (part w₂ (6 * n) k)) (8 * n) (part w₂ (8 * n) (2 * n))
      written {w₂} e₂ = e₂ ∙ ap (λ (x : List ℕ). over (over x (6 * n) (part w₂ (6 * n) k)) (8 * n) (part w₂ (8 * n) (2 * n))) e₁
