-- Asking by turns in the program: what turns tell of two cells, and what is told of them without.
use mathlib.Core.Path.{◌≡◌, refl, sym, ap, ap₂, ◌∙◌}
use mathlib.Core.Bool.{Bool, true, false, ◌||◌, cond}
use mathlib.Core.List.{List}
use Prim.Native.Nat.{ℕ, zero, suc, ◌+◌, ◌<◌, ◌≤◌, max}
use native.Mathlib.Omega.{arith}
use native.Mathlib.Numerals.{add-one}
use lib.IntN.{ℤ}
use lib.ListN.{length, get_or}
use Rattle.std.specs.Prelude.{Option, Some, None, slice_get}
use Rattle.std.specs.List.{list_any, range_with_len}
use Rattle.std.proofs.lemmas.Option.{slice_get-get_or, slice_get_past}
use Rattle.lists.specs.Lists.{from, any, In, nonzero}
use Rattle.lists.specs.Words.{rest}
use Rattle.lists.specs.ListLaws.{true_T, T_true, any_in}
use Rattle.lists.proofs.LoopLaws.{rest_start}
use Rattle.hyperparams.specs.declared.ValidParams.{ValidParams}
use Rattle.counting_tree.specs.Geometry.{Geometry}
use Rattle.counting_tree.specs.Ready.{geometry_at}
use Rattle.cells_grid.specs.Cells.{members, core, count}
use Rattle.cells_grid.specs.Arrangement.{cell_at}
use Rattle.core_cells.specs.Forest.{tree_frames}
use Rattle.core_cells.specs.Settling.{Apart}
use Rattle.clustering.specs.Clusters.{touches}
use Rattle.clustering.specs.Uniting.{touch_at}
use Rattle.clustering.specs.UniteAll.{link_at}
use Rattle.clustering.proofs.UniteAllLaws.{touch_links}
use Rattle.clustering.specs.Turns.{size_at, core_frame_at, turn_at}
use Rattle.clustering.specs.TurnsLaws.{any_stretches, turns_link}
use Rattle.clustering.proofs.Touching.{touch_none}

-- ---- the core frame at place j of cell c, of the frames xs
module _ (g : Geometry) (c : ℕ) {xs : List ℕ} (ex : xs ≡ members g (cell_at g c)) (j : ℕ) where
  pub no_frame : length xs ≤ j → None ≡ core_frame_at g c j
  unfolding core_frame_at
  no_frame h = rw (← ex, slice_get_past xs j h) refl

  module _ (h : j < length xs) {i : ℕ} (e : i ≡ get_or xs j 0) where
    there : slice_get xs j ≡ Some i
    there = slice_get-get_or xs j 0 h ∙ ap Some (sym e)

    pub is_frame : core g i ≡ true → Some i ≡ core_frame_at g c j
    unfolding core_frame_at
    is_frame f = rw (← ex, there, f) refl

    pub not_frame : core g i ≡ false → None ≡ core_frame_at g c j
    unfolding core_frame_at
    not_frame f = rw (← ex, there, f) refl

-- whether one of the numbers a, a + 1, .. passes f
pub any_from : (f : ℕ → Bool) (a n : ℕ) → list_any f (range_with_len a n) ≡ any f (from a n)
any_from f a zero = refl
any_from f a (suc n) = ap (λ (r : Bool). f a || r) (ap (λ (b : ℕ). list_any f (range_with_len b n)) (add-one a) ∙ any_from f (suc a) n) ∙ either (f a) (any f (from (suc a) n))
  where
    either : (x y : Bool) → x || y ≡ cond x true y
    either true y = refl
    either false y = refl

-- ---- two cells a and b of the sizes p and q, which are c and d: x is what the first eight turns say
module _ (g : Geometry) {a b c d : ℕ} (ea : a ≡ c) (eb : b ≡ d) {x : Bool} (e : x ≡ any (turn_at g a b) (rest 8 0)) where
  ex : x ≡ any (turn_at g c d) (rest 8 0)
  ex = e ∙ ap₂ (λ (i j : ℕ). any (turn_at g i j) (rest 8 0)) ea eb

  -- the first eight turns and those up to m
  both : (m : ℕ) → 8 ≤ m → size_at g c ≤ m → size_at g d ≤ m → x || any (turn_at g c d) (rest m 8) ≡ link_at g c d
  both m l hc hd = ap (λ (y : Bool). y || any (turn_at g c d) (rest m 8)) ex ∙ any_stretches (turn_at g c d) 8 m l ∙ turns_link g c d m hc hd

  pub link_early : x ≡ true → true ≡ link_at g c d
  link_early h = let m = 8 + (size_at g c + size_at g d) in ap (λ (y : Bool). y || any (turn_at g c d) (rest m 8)) (sym h) ∙ both m (omega arith) (omega arith) (omega arith)

  module _ (h : x ≡ false) {p q most : ℕ} (ep : p ≡ size_at g c) (eq : q ≡ size_at g d) (em : most ≡ max p q) where
    pub link_few : most ≤ 8 → false ≡ link_at g c d
    link_few l = sym h ∙ ex ∙ ap (any (turn_at g c d)) (rest_start 8) ∙ turns_link g c d 8 (omega arith) (omega arith)

    pub link_late : 8 < most → {y : Bool} → y ≡ any (turn_at g a b) (rest most 8) → y ≡ link_at g c d
    link_late l {y} ey =
        ey
        ∙ ap₂ (λ (i j : ℕ). any (turn_at g i j) (rest most 8)) ea eb
        ∙ ap (λ (z : Bool). z || any (turn_at g c d) (rest most 8)) (sym h)
        ∙ both most (omega arith) (omega arith) (omega arith)

-- ---- what is settled of two cells
module _ (v : ValidParams) (n : ℕ) (ps : List ℤ) (c d : ℕ) where
  abbrev geo : Geometry
  geo = geometry_at v n ps

  pub link_none : Apart v n ps c d → false ≡ link_at (geometry_at v n ps) c d
  unfolding link_at touch_at
  link_none a = rw (sym (touch_none geo c d a.0), sym (touch_none geo d c a.1)) refl

  -- a core frame of c has a count in the tree of d
  pub link_some : (q : ℕ) × In q (tree_frames (geometry_at v n ps) c) × (nonzero (count (geometry_at v n ps) q (cell_at (geometry_at v n ps) d)) ≡ true) → true ≡ link_at (geometry_at v n ps) c d
  unfolding touch_at touches
  link_some z =
      let t = any_in (λ q. nonzero (count geo q (cell_at geo d))) z.0 (tree_frames geo c) z.1 (true_T z.2) in
      sym (T_true (link_at geo c d) (touch_links geo c d t))

  -- what is told, by the one or the other
  pub link_told : (t : Bool) → (◌≡◌ {A = Option Bool} (Some t) (Some true) → (q : ℕ) × In q (tree_frames (geometry_at v n ps) c) × (nonzero (count (geometry_at v n ps) q (cell_at (geometry_at v n ps) d)) ≡ true))
      → (◌≡◌ {A = Option Bool} (Some t) (Some false) → Apart v n ps c d) → t ≡ link_at (geometry_at v n ps) c d
  link_told true f h = link_some (f refl)
  link_told false f h = link_none (h refl)
