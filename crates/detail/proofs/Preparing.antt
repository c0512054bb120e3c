-- What the words hold after each step of `prepare`, what the functions that write them ask, and what the table of refusals hands on.
use Rattle.std.specs.Prelude.{Ok}
use mathlib.Core.Path.{◌≡◌, sym, subst}
use mathlib.Core.List.{List}
use Prim.Native.Nat.{ℕ, ◌*◌, ◌/◌, ◌≤◌}
use native.Mathlib.Omega.{arith}
use lib.IntN.{ℤ}
use lib.ListN.{length, replicate, length-replicate}
use Rattle.lists.specs.Words.{over, column, Clear}
use Rattle.lists.specs.ListLaws.{length_numbers}
use Rattle.lists.proofs.WordLaws.{over_length}
use Rattle.lists.proofs.PartLaws.{clear_within}
use Rattle.lists.proofs.Within.{Within, within_over, within_more, within_clear, made_clear}
use Rattle.hyperparams.specs.Params.{work_words, max_frames, checked_of}
use Rattle.hyperparams.specs.Accepted.{Accepted, accepted}
use Rattle.hyperparams.specs.declared.Params.{Params}
use Rattle.hyperparams.specs.declared.ValidParams.{ValidParams}
use Rattle.counting_tree.specs.Geometry.{Geometry}
use Rattle.counting_tree.specs.Ready.{geometry_at, Ready, at_frames}
use Rattle.cells_grid.specs.Cells.{cells}
use Rattle.cells_grid.specs.Places.{populated}
use Rattle.cells_grid.specs.Arrangement.{core_bit, Arranged, Cored}
use Rattle.cells_grid.proofs.ArrangementLaws.{cored, populated_arranged, populated_within}
use Rattle.cells_grid.specs.Ready.{ready_lawful}
use Rattle.core_cells.specs.Forest.{tree_word, forest_to, Grown}
use Rattle.counting_tree.specs.declared.run.Frames.{Frames}
use Rattle.core_cells.specs.ForestLaws.{grown}

-- w are the words before `prepare`, w₀ after `clear_words`, w₁ after `populate`, w₂ after `label_points`, w₃ after `build_trees`
module _ {ps : List ℤ} {v : ValidParams} {n : ℕ} (r : Ready ps v n) (w : List ℕ) {w₀ : List ℕ} (h : 24 * n ≤ length w) (e₀ : w₀ ≡ over w (10 * n) (replicate (14 * n) 0)) where
  abbrev g : Geometry
  g = geometry_at v n ps

  f : g.frames ≡ n
  f = at_frames v n ps

  h₀ : 24 * n ≤ length w₀
  h₀ = rw e₀ (omega (arith, over_length w (10 * n) (replicate (14 * n) 0) (omega (arith, length-replicate {A = ℕ} (14 * n) 0))))

  all_clear : Clear w₀ (10 * n) (14 * n)
  all_clear = rw e₀ (made_clear w (10 * n) (14 * n) (omega arith))

  module _ {k : ℕ} {w₁ : List ℕ} (e : k ≡ length (cells g)) (e₁ : w₁ ≡ populated g w₀) where
    within₁ : Within (4 * n) w₀ w₁
    within₁ = subst (λ (x : ℕ). Within (4 * x) w₀ w₁) f (rw e₁ (populated_within g (ready_lawful r) w₀ (omega (arith, f, h₀))))

    pub arranged₁ : Arranged g k w₁
    arranged₁ = rw (e, e₁) (populated_arranged g (ready_lawful r) w₀ (omega (arith, f, h₀)))

    pub clear₁ : Clear w₁ (10 * n) (14 * n)
    clear₁ = within_clear within₁ (10 * n) (14 * n) (omega arith) all_clear

    module _ {w₂ : List ℕ} (e₂ : w₂ ≡ over w₁ (4 * n) (column (core_bit g) n)) where
      within₂ : Within (5 * n) w₀ w₂
      within₂ = rw e₂ (within_over (within_more within₁ (5 * n) (omega arith)) (4 * n) (column (core_bit g) n) (omega (arith, length_numbers (core_bit g) n)) (omega (arith, h₀)))

      pub cored₂ : Cored g k w₂
      cored₂ = rw e₂ (cored g arranged₁ n f (omega (arith, h₀, within₁.size)))

      pub clear₂ : Clear w₂ (10 * n) (3 * n)
      clear₂ = clear_within w₂ (10 * n) (14 * n) (10 * n) (3 * n) (within_clear within₂ (10 * n) (14 * n) (omega arith) all_clear) (omega arith) (omega arith)

      pub grown₃ : {w₃ : List ℕ} → w₃ ≡ over (over w₂ (5 * n) (column (tree_word g 0) k)) (16 * n) (forest_to g 0 k) → Grown g k w₃
      grown₃ e₃ = rw e₃ (grown cored₂ f (omega (arith, h₀, within₂.size)) 0)

-- what the table accepts, with labels and kinds for every frame
module _ (p : Params) (ps : List ℤ) (work : ℕ) {v : ValidParams} (a : Ok v ≡ checked_of p (length ps) max_frames max_frames work) where
  e : checked_of p (length ps) max_frames max_frames work ≡ Ok v
  e = sym a

  A : Accepted p v (length ps) max_frames max_frames work
  A = accepted p (length ps) max_frames max_frames work e

  module _ (f : Frames) (settings_are : f.v ≡ v) (count_is : f.n ≡ length ps / v.channels) where
    pub checked_room : work_words f.n f.v.s ≤ work
    checked_room = rw (count_is, settings_are) (subst (λ (u : ValidParams). work_words (length ps / u.channels) u.s ≤ work) (sym A.settings) A.work_fits)
