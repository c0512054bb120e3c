-- The core frames of a cell are copied.
use mathlib.Core.Path.{◌≡◌, refl, sym, ap, ap₂, subst, ◌∙◌}
use mathlib.Core.Bool.{Bool, true, false, cond}
use mathlib.Core.List.{List, [], ◌∷◌, ◌++◌, append-nil}
use Prim.Native.Nat.{ℕ, ◌+◌, ◌*◌, ◌<◌, ◌≤◌}
use native.Mathlib.Omega.{arith}
use lib.IntN.{ℤ}
use lib.ListN.{length, get_or, set, take, drop, length-drop}
use Rattle.std.proofs.Common.{length-append, length-take-le, get_or-take}
use Rattle.std.proofs.lemmas.List.{take_more}
use Rattle.lists.specs.Lists.{keep, Below}
use Rattle.lists.specs.Words.{over}
use Rattle.lists.specs.CountLaws.{keep_append, keep_le}
use Rattle.lists.proofs.WordLaws.{over_snoc, put_over}
use Rattle.hyperparams.specs.declared.ValidParams.{ValidParams}
use Rattle.counting_tree.specs.Geometry.{Geometry}
use Rattle.counting_tree.specs.Ready.{geometry_at, Ready, at_frames}
use Rattle.cells_grid.specs.Cells.{members}
use Rattle.cells_grid.specs.Ready.{ready_lawful}
use Rattle.cells_grid.specs.Arrangement.{cell_at, Arranged, Cored}
use Rattle.cells_grid.proofs.ArrangementLaws.{start_next, start_le}
use Rattle.cells_grid.proofs.SortedLaws.{arranged_take}
use Rattle.core_cells.specs.Forest.{is_marked, tree_frames}
use Rattle.core_cells.specs.ForestLaws.{cell_below, marked_core}

-- the loop that copies some frames: of the first j those are copied that the words w say are core
pub record Gathering (w : List ℕ) (n : ℕ) (xs g₀ v : List ℕ) (m j : ℕ) : Type 0 where
  pub work : v ≡ over g₀ 0 (keep (is_marked w n) (take j xs))
  pub found : m ≡ length (keep (is_marked w n) (take j xs))

module _ {w : List ℕ} {n : ℕ} {xs g₀ v : List ℕ} {m j : ℕ} (c : Gathering w n xs g₀ v m j) (room : length xs ≤ length g₀) where
  pub gathering_low : j ≤ length xs → m ≤ j
  gathering_low h = omega (arith, c.found, keep_le (is_marked w n) (take j xs), length-take-le j xs h)

  module _ (h : j < length xs) where
    step : (b : Bool) → b ≡ is_marked w n (get_or xs j 0) → keep (is_marked w n) (take (j + 1) xs) ≡ keep (is_marked w n) (take j xs) ++ cond b (get_or xs j 0 ∷ []) []
    step b q =
        ap (keep (is_marked w n)) (take_more xs j 0 h)
        ∙ keep_append (is_marked w n) (take j xs) (get_or xs j 0 ∷ [])
        ∙ ap (λ (t : Bool). keep (is_marked w n) (take j xs) ++ cond t (get_or xs j 0 ∷ []) []) (sym q)

    pub gathering_hit : true ≡ is_marked w n (get_or xs j 0) → Gathering w n xs g₀ (set v m (get_or xs j 0)) (m + 1) (j + 1)
    gathering_hit q =
        let s = step true q in
        record {
          work = ap (λ (z : List ℕ). set z m (get_or xs j 0)) c.work
              ∙ over_snoc g₀ 0 m (keep (is_marked w n) (take j xs)) (get_or xs j 0) (omega (arith, c.found)) (omega (arith, gathering_low (omega (arith, h))))
              ∙ ap (over g₀ 0) (sym s);
          found = sym (ap length s ∙ length-append (keep (is_marked w n) (take j xs)) (get_or xs j 0 ∷ []) ∙ omega (arith, c.found));
        }

    pub gathering_miss : false ≡ is_marked w n (get_or xs j 0) → Gathering w n xs g₀ v m (j + 1)
    gathering_miss q =
        let s = step false q ∙ append-nil (keep (is_marked w n) (take j xs)) in
        record { work = c.work ∙ ap (over g₀ 0) (sym s); found = c.found ∙ ap length (sym s) }

-- the words are cut behind those of the cells and of the core frames
module _ {ps : List ℤ} {v : ValidParams} {n : ℕ} (r : Ready ps v n) {k : ℕ} {w : List ℕ} (C : Cored (geometry_at v n ps) k w) (room : 11 * n ≤ length w) where
  abbrev g : Geometry
  g = geometry_at v n ps

  frames : g.frames ≡ n
  frames = at_frames v n ps

  module _ {F B : List ℕ} (eF : F ≡ take (10 * n) w) (eB : B ≡ drop (10 * n) w) where
    pub cut_arranged : Arranged (geometry_at v n ps) k F
    cut_arranged = subst (Arranged g k) (sym eF) (arranged_take r (omega arith) C.cells)

    -- cell c has the frames xs
    module _ {c : ℕ} (h : c < k) {xs : List ℕ} (ex : xs ≡ members (geometry_at v n ps) (cell_at (geometry_at v n ps) c)) where
      pub can_copy : Below n xs × (5 * n ≤ length F) × (length xs ≤ length B)
      can_copy = (
        subst (Below n) (sym ex) (cell_below g (cell_at g c) frames),
        omega (arith, ap length eF, length-take-le (10 * n) w (omega arith)),
        omega (arith, ap length ex, start_next g c (omega (arith, C.cells.count)), start_le g (ready_lawful r) (c + 1) (omega (arith, C.cells.count)), frames, ap length eB, length-drop (10 * n) w),
      )

      core_ones : keep (is_marked F n) xs ≡ tree_frames g c
      core_ones = marked_core C frames c F (λ i l. ap (λ (y : List ℕ). get_or y (4 * n + i) 0) eF ∙ get_or-take (10 * n) w (4 * n + i) 0 (omega (arith, l))) ex

      pub copied_count : {m : ℕ} → m ≡ length (keep (is_marked F n) xs) → m ≡ length (tree_frames (geometry_at v n ps) c)
      copied_count e = e ∙ ap length core_ones

      pub copied : {B' : List ℕ} → B' ≡ over B 0 (keep (is_marked F n) xs) → F ++ B' ≡ over w (10 * n) (tree_frames (geometry_at v n ps) c)
      copied e =
          let M : List ℕ = tree_frames g c in
          ap₂ (λ (y z : List ℕ). y ++ z) eF (e ∙ ap₂ (λ (y z : List ℕ). over y 0 z) eB core_ones ∙ sym (put_over (drop (10 * n) w) 0 (length M) M refl)) ∙ put_over w (10 * n) (length M) M refl
