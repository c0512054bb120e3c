-- The tree of one cell: its core frames are gathered, its tree is built from them if they are more than a few, and they are cleared again.
use mathlib.Core.Path.{◌≡◌, refl, sym, ap, ap₂, subst, ◌∙◌}
use mathlib.Core.Bool.{true, false}
use mathlib.Core.List.{List, [], ◌∷◌, ◌++◌}
use Prim.Native.Nat.{ℕ, ◌+◌, ◌-◌, ◌*◌, ◌/◌, ◌<◌, ◌≤◌}
use native.Mathlib.Omega.{arith}
use native.Mathlib.Nat.{le_refl}
use lib.IntN.{ℤ}
use lib.ListN.{length, take, drop, get_or, set, replicate, length-replicate, length-drop}
use Rattle.std.proofs.Common.{append_assoc, drop-drop}
use Rattle.lists.specs.Lists.{Below, nonzero}
use Rattle.lists.specs.Words.{over, part, Clear}
use Rattle.lists.specs.ListLaws.{nonzero_true}
use Rattle.lists.proofs.WordLaws.{over_length, over_nil, over_again, over_apart, set_over, put_over}
use Rattle.lists.proofs.PartLaws.{set_under, part_length, part_add, part_part, part_at, part_same, clear_over, clear_after, clear_within}
use Rattle.hyperparams.specs.Params.{max_frames, work_words}
use Rattle.hyperparams.specs.declared.ValidParams.{ValidParams}
use Rattle.counting_tree.specs.Geometry.{Geometry}
use Rattle.counting_tree.specs.Ready.{geometry_at, Ready, at_frames, at_levels}
use Rattle.cells_grid.specs.Lawful.{Lawful}
use Rattle.cells_grid.specs.Ready.{ready_lawful}
use Rattle.cells_grid.specs.Arrangement.{Cored}
use Rattle.cells_grid.proofs.ArrangementLaws.{start_next, start_le, words_count}
use Rattle.tree_structure.specs.Encode.{size, encode, encode_length}
use Rattle.tree_structure.specs.Work.{max_levels, max_nodes, CanBuild}
use Rattle.core_cells.specs.Forest.{tree_frames, is_core, tree_size, tree_words, nodes_to, tree_word}
use Rattle.core_cells.specs.ForestLaws.{frames_below, frames_le, core_frames, no_core_frames, no_core_word, small_word, small_words, small_size}
use Rattle.core_cells.specs.ForestLaws.{tree_word_lem, tree_words_lem, tree_size_lem, nodes_next, nodes_fit, nodes_most}

pub ready_levels : {ps : List ℤ} {v : ValidParams} {n : ℕ} → Ready ps v n → (geometry_at v n ps).levels ≤ max_levels
ready_levels {ps} {v} {n} r = omega (arith, at_levels v n ps, r.settings.power)

-- k cells and their core frames, and room for their trees
pub record Ripe (g : Geometry) (n k : ℕ) (w : List ℕ) : Type 0 where
  pub lawful : Lawful g
  pub frames : g.frames ≡ n
  pub few : n ≤ max_frames
  pub low : g.levels ≤ max_levels
  pub cored : Cored g k w
  pub room : 16 * n + 4 * (n * (g.levels + 1)) ≤ length w
  pub blank : Clear w (10 * n) (3 * n)

pub ripe : {ps : List ℤ} {v : ValidParams} {n k : ℕ} {w : List ℕ} → Ready ps v n → Cored (geometry_at v n ps) k w
    → (work_words n v.s ≤ length w) × Clear w (10 * n) (3 * n) → Ripe (geometry_at v n ps) n k w
ripe {ps} {v} {n} {k} {w} r C z = record {
  lawful = ready_lawful r;
  frames = at_frames v n ps;
  few = r.few;
  low = ready_levels r;
  cored = C;
  room = subst (λ (l : ℕ). 16 * n + 4 * (n * (l + 1)) ≤ length w) (sym (at_levels v n ps)) (omega (arith, z.0));
  blank = z.1;
}

module _ {g : Geometry} {n k : ℕ} {w : List ℕ} (R : Ripe g n k w) where
  pub cells_few : k ≤ n
  cells_few = words_count g R.lawful R.cored.cells n R.frames

  -- all trees of d cells fit
  pub nodes_room : (few d : ℕ) → d ≤ k → 16 * n + 4 * nodes_to g few d ≤ length w
  nodes_room few d h =
      let l : nodes_to g few d ≤ n * (g.levels + 1) = subst (λ (x : ℕ). nodes_to g few d ≤ x * (g.levels + 1)) R.frames (nodes_fit g few R.lawful d (omega (arith, R.cored.cells.count))) in
      omega (arith, R.room)

-- the m core frames of cell c are gathered, and its tree is to stand at `at`
pub record Gathered (g : Geometry) (n k : ℕ) (w : List ℕ) (few c at m : ℕ) (w₁ : List ℕ) : Type 0 where
  pub ripe : Ripe g n k w
  pub inside : c < k
  pub place : at ≡ 16 * n + 4 * nodes_to g few c
  pub count : m ≡ length (tree_frames g c)
  pub most : m ≤ n
  pub work : w₁ ≡ over w (10 * n) (tree_frames g c)

pub gathered : {g : Geometry} {n k : ℕ} {w : List ℕ} {few c at m : ℕ} {w₁ : List ℕ} → Ripe g n k w → c < k → at ≡ 16 * n + 4 * nodes_to g few c
    → m ≡ length (tree_frames g c) → w₁ ≡ over w (10 * n) (tree_frames g c) → Gathered g n k w few c at m w₁
gathered {g} {n} {k} {w} {few} {c} R h p em e₁ = record {
  ripe = R;
  inside = h;
  place = p;
  count = em;
  most = omega (arith, em, frames_le g c, start_next g c (omega (arith, R.cored.cells.count)), start_le g R.lawful (c + 1) (omega (arith, R.cored.cells.count)), R.frames);
  work = e₁;
}

module _ {g : Geometry} {n k : ℕ} {w : List ℕ} {few c at m : ℕ} {w₁ : List ℕ} (G : Gathered g n k w few c at m w₁) where
  abbrev R : Ripe g n k w
  R = G.ripe

  abbrev M : List ℕ
  M = tree_frames g c

  fit : 16 * n ≤ length w
  fit = omega (arith, R.room)

  slot : 5 * n + c < 6 * n
  slot = omega (arith, G.inside, cells_few R)

  pub gathered_length : length w₁ ≡ length w
  gathered_length = ap length G.work ∙ over_length w (10 * n) M (omega (arith, G.count, G.most, fit))

  -- of the gathered frames nothing is left
  pub emptied : over w₁ (10 * n) (replicate m 0) ≡ w
  emptied =
      let Z : List ℕ = replicate m 0 in
      ap (λ (y : List ℕ). over y (10 * n) Z) G.work
      ∙ over_again w (10 * n) M Z (omega (arith, fit)) (length-replicate {A = ℕ} m 0 ∙ G.count)
      ∙ clear_over w (10 * n) m (omega (arith, fit, G.most)) (clear_within w (10 * n) (3 * n) (10 * n) m R.blank (le_refl (10 * n)) (omega (arith, G.most)))

  -- no tree
  module _ (low : m ≤ few) where
    short : length M ≤ few
    short = omega (arith, G.count)

    pub small_next : at ≡ at + 4 * tree_size g few c
    small_next = omega (arith, small_size g few c short)

    marked : {t : ℕ} → t ≡ tree_word g few c → set w (5 * n + c) t ≡ over (over w (5 * n + c) (tree_word g few c ∷ [])) at (tree_words g few c)
    marked {t} e =
        set_over w (5 * n + c) t (omega (arith, fit, slot))
        ∙ ap (λ (x : ℕ). over w (5 * n + c) (x ∷ [])) e
        ∙ sym (ap (over (over w (5 * n + c) (tree_word g few c ∷ [])) at) (small_words g few c short) ∙ over_nil (over w (5 * n + c) (tree_word g few c ∷ [])) at)

    pub none_work : m ≡ 0 → set w₁ (5 * n + c) 0 ≡ over (over w (5 * n + c) (tree_word g few c ∷ [])) at (tree_words g few c)
    none_work z =
        let e : is_core g c ≡ false = core_frames g c ∙ ap nonzero (sym G.count ∙ z) in
        ap (λ (y : List ℕ). set y (5 * n + c) 0) (G.work ∙ ap (over w (10 * n)) (no_core_frames g c e) ∙ over_nil w (10 * n)) ∙ marked (sym (no_core_word g c e few))

    pub small_work : (m ≡ 0 → ⊥) → {w₂ : List ℕ} → w₂ ≡ over w₁ (10 * n) (replicate m 0)
        → set w₂ (5 * n + c) 1 ≡ over (over w (5 * n + c) (tree_word g few c ∷ [])) at (tree_words g few c)
    small_work some e₂ =
        let e : is_core g c ≡ true = core_frames g c ∙ nonzero_true (length M) (λ z. some (G.count ∙ z)) in
        ap (λ (y : List ℕ). set y (5 * n + c) 1) (e₂ ∙ emptied) ∙ marked (sym (small_word g few c short e))

  module _ (high : few < m) where
    long : few < length M
    long = omega (arith, G.count)

    abbrev E : List ℕ
    E = encode g.same g.levels 0 M

    pub fits : at + length E ≤ length w
    fits = omega (arith, G.place, G.inside, encode_length g.same g.levels 0 M, tree_size_lem g few c long, nodes_next g few c, nodes_room R few (c + 1) (omega (arith, G.inside)))

    pub above : 16 * n ≤ at
    above = omega (arith, G.place)

    -- its words are cut: the gathered frames stand in the first, those to copy and to sort them in are 0
    clear : (b : ℕ) → 11 * n ≤ b → b + m ≤ 13 * n → Clear w₁ b m
    clear b p q =
        subst (λ (y : List ℕ). Clear y b m) (sym G.work)
        (clear_after w b m (10 * n) M (omega (arith, fit)) (omega (arith, G.count, G.most)) (clear_within w (10 * n) (3 * n) b m R.blank (omega arith) (omega arith)))

    kept : (b j : ℕ) → 11 * n ≤ b → b + m ≤ 13 * n → m ≤ j → b + j ≤ length w₁ → over (part w₁ b j) 0 (replicate m 0) ≡ part w₁ b j
    kept b j p q h f =
        clear_over (part w₁ b j) 0 m (omega (arith, part_length w₁ b j f))
        (λ i t. let z : 0 + i ≡ i = omega arith in ap (λ (x : ℕ). get_or (part w₁ b j) x 0) z ∙ part_at w₁ b j i (omega arith) ∙ clear b p q i t)

    laid : part (take (11 * n) w₁) (10 * n) (10 * n + m - 10 * n) ≡ M
    laid =
        let l : 10 * n + m - 10 * n ≡ m = omega arith in
        let z : 0 + 10 * n ≡ 10 * n = omega arith in
        ap (part (take (11 * n) w₁) (10 * n)) l
        ∙ part_part w₁ 0 (11 * n) (10 * n) m (omega (arith, G.most))
        ∙ ap₂ (λ (y : List ℕ) (a : ℕ). part y a m) G.work z ∙ part_same w (10 * n) m M (omega (arith, fit)) (sym G.count)

    module _ {F B C D S N : List ℕ} (eF : F ≡ take (11 * n) w₁) (eB : B ≡ drop (11 * n) w₁) (eC : C ≡ take n B) (eD : D ≡ drop n B) (eS : S ≡ take (at - 12 * n) D) (eN : N ≡ drop (at - 12 * n) D) where
      abbrev P : List ℕ
      P = part F (10 * n) (10 * n + m - 10 * n)

      pub frames_laid : P ≡ M
      frames_laid = ap (λ (y : List ℕ). part y (10 * n) (10 * n + m - 10 * n)) eF ∙ laid

      rest_is : D ≡ drop (12 * n) w₁
      rest_is =
          let z : 11 * n + n ≡ 12 * n = omega arith in
          eD ∙ ap (drop n) eB ∙ drop-drop n (11 * n) w₁ ∙ ap (λ (a : ℕ). drop a w₁) z

      nodes_is : N ≡ drop at w₁
      nodes_is =
          let z : 12 * n + (at - 12 * n) ≡ at = omega (arith, above) in
          eN ∙ ap (drop (at - 12 * n)) rest_is ∙ drop-drop (at - 12 * n) (12 * n) w₁ ∙ ap (λ (a : ℕ). drop a w₁) z

      scratch_is : S ≡ part w₁ (12 * n) (at - 12 * n)
      scratch_is = eS ∙ ap (take (at - 12 * n)) rest_is

      copy_is : C ≡ part w₁ (11 * n) n
      copy_is = eC ∙ ap (take n) eB

      pub can_build : CanBuild g.same n g.levels P S N
      can_build = rw frames_laid record {
        some = omega arith;
        few = omega (arith, G.count, G.most, R.few);
        below = subst (λ (x : ℕ). Below x M) R.frames (frames_below g c);
        sorting = omega (arith, G.count, G.most, above, ap length scratch_is, part_length w₁ (12 * n) (at - 12 * n) (omega (arith, above, fits, gathered_length)));
        room = omega (arith, fits, gathered_length, encode_length g.same g.levels 0 M, ap length nodes_is, length-drop at w₁);
      }

      front : F ++ (C ++ S) ≡ take at w₁
      front =
          let r = at - 12 * n in
          let p : at ≡ 11 * n + (n + r) = omega (arith, above) in
          let a : 0 + 11 * n ≡ 11 * n = omega arith in
          let b : 11 * n + n ≡ 12 * n = omega arith in
          ap₂ (λ (p q : List ℕ). p ++ q) eF (ap₂ (λ (p q : List ℕ). p ++ q) copy_is scratch_is)
          ∙ sym (ap (λ (x : ℕ). part w₁ 0 x) p ∙ part_add w₁ 0 (11 * n) (n + r) ∙ ap (λ (x : ℕ). take (11 * n) w₁ ++ part w₁ x (n + r)) a
          ∙ ap (λ (y : List ℕ). take (11 * n) w₁ ++ y) (part_add w₁ (11 * n) n r ∙ ap (λ (x : ℕ). part w₁ (11 * n) n ++ part w₁ x r) b))

      pub built : {C' S' N' : List ℕ} → C' ≡ over C 0 (replicate (length P) 0) → S' ≡ over S 0 (replicate (length P) 0) → N' ≡ over N 0 (encode g.same g.levels 0 P) → F ++ (C' ++ (S' ++ N')) ≡ over w₁ at E
      built {C'} {S'} {N'} uC uS uN =
          let lp : length P ≡ m = ap length frames_laid ∙ sym G.count in
          let zc : C' ≡ C = uC ∙ ap₂ (λ (y : List ℕ) (j : ℕ). over y 0 (replicate j 0)) copy_is lp ∙ kept (11 * n) n (omega arith) (omega (arith, G.most)) G.most (omega (arith, fit, gathered_length)) ∙ sym copy_is in
          let zs : S' ≡ S = uS ∙ ap₂ (λ (y : List ℕ) (j : ℕ). over y 0 (replicate j 0)) scratch_is lp
          ∙ kept (12 * n) (at - 12 * n) (omega arith) (omega (arith, G.most)) (omega (arith, G.most, above)) (omega (arith, above, fits, gathered_length)) ∙ sym scratch_is in
          let zn : N' ≡ E ++ drop (length E) N = uN ∙ ap (λ (y : List ℕ). over N 0 (encode g.same g.levels 0 y)) frames_laid ∙ sym (put_over N 0 (length E) E refl) in
          let X : List ℕ = E ++ drop (length E) N in
          ap₂ (λ (p q : List ℕ). F ++ (p ++ q)) zc (ap₂ (λ (p q : List ℕ). p ++ q) zs zn)
          ∙ ap (λ (y : List ℕ). F ++ y) (sym (append_assoc C S X)) ∙ sym (append_assoc F (C ++ S) X)
          ∙ ap₂ (λ (p q : List ℕ). p ++ (E ++ drop (length E) q)) front nodes_is ∙ put_over w₁ at (length E) E refl

    -- the word that says where the tree begins
    word : 2 + (at - 16 * n) / 4 ≡ tree_word g few c
    word = omega (arith, G.place, tree_word_lem g few c long)

    pub word_low : 2 + (at - 16 * n) / 4 ≤ 2 + max_nodes
    word_low = omega (arith, word, tree_word_lem g few c long, nodes_most g few R.lawful (omega (arith, R.frames, R.few)) R.low c (omega (arith, G.inside, R.cored.cells.count)))

    pub tree_room : {ys : List ℕ} → ys ≡ M → {r : ℕ} → r ≡ size g.same g.levels 0 ys → at + 4 * r ≤ length w
    tree_room ey er = omega (arith, er, ap (size g.same g.levels 0) ey, encode_length g.same g.levels 0 M, fits)

    pub some_next : {ys : List ℕ} → ys ≡ M → {r : ℕ} → r ≡ size g.same g.levels 0 ys → at + 4 * r ≡ at + 4 * tree_size g few c
    some_next ey er = ap (λ (x : ℕ). at + 4 * x) (er ∙ ap (size g.same g.levels 0) ey ∙ sym (tree_size_lem g few c long))

    module _ {w₂ : List ℕ} (built : w₂ ≡ over w₁ at E) where
      pub built_length : length w₂ ≡ length w
      built_length = ap length built ∙ over_length w₁ at E (omega (arith, fits, gathered_length)) ∙ gathered_length

      module _ {w₃ : List ℕ} (e₃ : w₃ ≡ over w₂ (10 * n) (replicate m 0)) where
        cleared : w₃ ≡ over w at E
        cleared =
            let Z : List ℕ = replicate m 0 in
            e₃ ∙ ap (λ (y : List ℕ). over y (10 * n) Z) built
            ∙ sym (over_apart w₁ (10 * n) at Z E (omega (arith, length-replicate {A = ℕ} m 0, G.most, above)) (omega (arith, fits, gathered_length)))
            ∙ ap (λ (y : List ℕ). over y at E) emptied

        pub cleared_length : length w₃ ≡ length w
        cleared_length = ap length cleared ∙ over_length w at E fits

        pub some_work : set w₃ (5 * n + c) (2 + (at - 16 * n) / 4) ≡ over (over w (5 * n + c) (tree_word g few c ∷ [])) at (tree_words g few c)
        some_work =
            ap₂ (λ (y : List ℕ) (t : ℕ). set y (5 * n + c) t) cleared word
            ∙ set_under w at E (omega (arith, fits)) (5 * n + c) (tree_word g few c) (omega (arith, above, slot))
            ∙ ap₂ (λ (y u : List ℕ). over y at u) (set_over w (5 * n + c) (tree_word g few c) (omega (arith, fit, slot))) (sym (tree_words_lem g few c long))
