-- Laws of a cell's root box. It is that of each frame of the cell: where it settles one frame's path, it settles the count in the cell's tree.
use Rattle.std.specs.Prelude.{◌≡◌, Bool, true, false, List, ℕ, ◌<◌, T, ℤ, length, take, replicate}
use Rattle.std.proofs.Common.{sym, ap, ◌∙◌, arith}
use Rattle.lists.specs.Lists.{any, nonzero}
use Rattle.lists.specs.ListLaws.{true_T, T_true, any_in, any_none}
use Rattle.lists.proofs.PartLaws.{part_same}
use Rattle.hyperparams.specs.declared.ValidParams.{ValidParams}
use Rattle.hyperparams.specs.Params.{float}
use Rattle.counting_tree.specs.declared.IntersectionType.{IntersectionType}
use Rattle.counting_tree.specs.declared.IntersectionType.TheVariants.{Disjoint, FullyCovered}
use Rattle.counting_tree.specs.Frames.{Frame, frames_in}
use Rattle.counting_tree.specs.FramesIn.{frame_length}
use Rattle.counting_tree.specs.Grid.{side_at, centres}
use Rattle.counting_tree.specs.Geometry.{Geometry, frame}
use Rattle.counting_tree.specs.Paths.{reaches, path_disjoint, path_covered}
use Rattle.counting_tree.specs.Arrays.{placed, box_of}
use Rattle.counting_tree.specs.Indexes.{placed_first, centres_length}
use Rattle.counting_tree.specs.Ready.{geometry_at, Ready}
use Rattle.cells_grid.specs.Cells.{same_cell, core_members, core_cell, count}
use Rattle.cells_grid.specs.Lawful.{Lawful}
use Rattle.cells_grid.proofs.CellLaws.{in_core, core_cell_frame, count_path}
use Rattle.cells_grid.specs.Arrangement.{cell_at}
use Rattle.core_cells.specs.RootBox.{root_box}

-- ---- the root box of frame i's cell against frame q
module _ (g : Geometry) (L : Lawful g) (q i : ℕ) where
  abbrev path : ℕ → Bool
  path = reaches (g.box q) g.levels 0

  -- the frames of the cell have the same root box
  pub one_root : (b : IntersectionType) → g.box q 0 i ≡ b → (x : ℕ) → T (same_cell g i x) → g.box q 0 x ≡ b
  one_root b e x s = sym (L.box_same q 0 i x s) ∙ e

  pub disjoint_count : g.box q 0 i ≡ Disjoint → nonzero (count g q i) ≡ false
  disjoint_count e =
      count_path g L q i
      ∙ any_none path (core_members g i) (λ x j t. rw (path_disjoint (g.box q) x g.levels 0 (one_root Disjoint e x (in_core g i x j).2)) at t)

  pub covered_count : g.box q 0 i ≡ FullyCovered → T (core_cell g i) → nonzero (count g q i) ≡ true
  covered_count e t =
      let z = core_cell_frame g i t in
      let p = true_T (path_covered (g.box q) z.0 g.levels 0 (one_root FullyCovered e z.0 (in_core g i z.0 z.1).2)) in
      count_path g L q i ∙ T_true (any path (core_members g i)) (any_in path z.0 (core_members g i) z.1 p)

-- ---- its centre
pub root_centre : {ps : List ℤ} {v : ValidParams} {n : ℕ} → Ready ps v n → (c : ℕ) → cell_at (geometry_at v n ps) c < n
    → take v.channels (root_box v n ps c).centre ≡ centres (side_at v.channels v.tolerance 0) (frame v (frames_in n v.channels ps) (cell_at (geometry_at v n ps) c))
unfolding root_box box_of
root_centre {ps} {v} {n} r c h =
    let d = v.channels in
    let s = side_at d v.tolerance 0 in
    let f : Frame = frame v (frames_in n d ps) (cell_at (geometry_at v n ps) c) in
    let l : length f ≡ d = frame_length n d ps (cell_at (geometry_at v n ps) c) r.room h in
    let p : take d (placed f) ≡ f = placed_first d f l in
    part_same (replicate 4 (float 0)) 0 d (centres s (take d (placed f))) (omega (arith, r.settings.scale.most)) (centres_length s (take d (placed f)) ∙ ap length p ∙ l)
    ∙ ap (centres s) p
