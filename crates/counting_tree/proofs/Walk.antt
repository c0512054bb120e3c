-- The loop down a frame's path: what its boxes from a level on say is what the whole path says.
use mathlib.Core.Path.{◌≡◌, sym, ap, ◌∙◌}
use mathlib.Core.Bool.{true, false}
use mathlib.Core.List.{List}
use Prim.Native.Nat.{ℕ, zero, suc, ◌+◌, ◌-◌, ◌<◌, ◌≤◌}
use native.Mathlib.Numerals.{add-one}
use native.Mathlib.Omega.{arith}
use lib.IntN.{ℤ}
use lib.Ieee.{Float}
use Rattle.hyperparams.specs.declared.ValidParams.{ValidParams}
use Rattle.hyperparams.specs.Params.{levels}
use Rattle.counting_tree.specs.declared.IntersectionType.{IntersectionType}
use Rattle.counting_tree.specs.declared.IntersectionType.TheVariants.{Disjoint, FullyCovered, Intersecting}
use Rattle.counting_tree.specs.Frames.{frames_in}
use Rattle.counting_tree.specs.Grid.{half, side_at}
use Rattle.counting_tree.specs.Geometry.{box_at}
use Rattle.counting_tree.specs.Paths.{reaches, path_disjoint, path_covered}
use Rattle.counting_tree.specs.Ready.{Ready, geometry_at, at_levels}
use Rattle.counting_tree.specs.Indexes.{LevelSide, box_level, next_side}

-- ---- a path whose first box is Intersecting
module _ (box : ℕ → ℕ → IntersectionType) (x : ℕ) where
  on_last : (k l : ℕ) → k ≤ 0 → box l x ≡ Intersecting → true ≡ reaches box k l x
  unfolding reaches
  on_last zero l h e = rw e
  on_last (suc k) l h e = absurd (omega arith)

  on_inner : (k l : ℕ) → 0 < k → box l x ≡ Intersecting → reaches box (k - 1) (l + 1) x ≡ reaches box k l x
  unfolding reaches
  on_inner zero l h e = absurd (omega arith)
  on_inner (suc k) l h e =
      let d : suc k - 1 ≡ k = omega arith in
      rw (e, d, add-one l)

-- ---- the path from a level on, whose boxes have the side y, with `left` levels below it
pub record Walking (ps : List ℤ) (v : ValidParams) (n q x : ℕ) (y : Float) (left : ℕ) : Type 0 where
  pub level : ℕ
  pub depth : level + left ≡ levels v.s
  pub side : y ≡ side_at v.channels v.tolerance level
  pub path : reaches ((geometry_at v n ps).box q) left level x ≡ reaches ((geometry_at v n ps).box q) (geometry_at v n ps).levels 0 x

module _ {ps : List ℤ} {v : ValidParams} {n q x : ℕ} where
  -- it begins below the root, whose box is Intersecting
  pub walk_start : {y z : Float} → (geometry_at v n ps).box q 0 x ≡ Intersecting → y ≡ side_at v.channels v.tolerance 0 → z ≡ half y → {left : ℕ} → left ≡ v.s → Walking ps v n q x z left
  walk_start {y} i e f {left} h = record {
    level = 1;
    depth = omega arith;
    side = next_side _ _ 0 y _ e f;
    path =
        ap (λ (k : ℕ). reaches ((geometry_at v n ps).box q) k 1 x) (less left v.s h)
        ∙ on_inner ((geometry_at v n ps).box q) x (1 + v.s) 0 (omega arith) i
        ∙ ap (λ (k : ℕ). reaches ((geometry_at v n ps).box q) k 0 x) (sym (at_levels v n ps));
  }
    where
      less : (l s : ℕ) → l ≡ s → l ≡ 1 + s - 1
      less l s h = omega arith

  module _ (r : Ready ps v n) {y : Float} {left : ℕ} (W : Walking ps v n q x y left) where
    pub walk_side : LevelSide v y
    walk_side = record { level = W.level; depth = omega (arith, W.depth); is = W.side }

    -- by its first box
    module _ {b : IntersectionType} (e : b ≡ box_at v (frames_in n v.channels ps) y q x) where
      first : {u : IntersectionType} → b ≡ u → (geometry_at v n ps).box q W.level x ≡ u
      first t = sym (e ∙ box_level r W.level y W.side q x) ∙ t

      pub walk_disjoint : b ≡ Disjoint → false ≡ reaches ((geometry_at v n ps).box q) (geometry_at v n ps).levels 0 x
      walk_disjoint t = sym (path_disjoint ((geometry_at v n ps).box q) x left W.level (first t)) ∙ W.path

      pub walk_covered : b ≡ FullyCovered → true ≡ reaches ((geometry_at v n ps).box q) (geometry_at v n ps).levels 0 x
      walk_covered t = sym (path_covered ((geometry_at v n ps).box q) x left W.level (first t)) ∙ W.path

      pub walk_last : b ≡ Intersecting → left ≤ 0 → true ≡ reaches ((geometry_at v n ps).box q) (geometry_at v n ps).levels 0 x
      walk_last t h = on_last ((geometry_at v n ps).box q) x left W.level h (first t) ∙ W.path

      pub walk_on : b ≡ Intersecting → {m : ℕ} → m + 1 ≡ left → {z : Float} → z ≡ half y → Walking ps v n q x z m
      walk_on t {m} h f = record {
        level = W.level + 1;
        depth = omega (arith, W.depth);
        side = next_side _ _ W.level y _ W.side f;
        path =
            ap (λ (k : ℕ). reaches ((geometry_at v n ps).box q) k (W.level + 1) x) (omega arith)
            ∙ on_inner ((geometry_at v n ps).box q) x left W.level (omega arith) (first t) ∙ W.path;
      }
