-- Laws of what whole numbers tell: where frames are out of reach none of them reaches by its own path, so the core frames of two cells that are out of reach
-- of each other have no counts in the other cell's tree.
use Rattle.std.specs.Prelude.{◌≡◌, refl, Bool, true, false, cond, List, [], ◌∷◌, ℕ, ◌+◌, ◌*◌, ◌^◌, ◌<◌, ◌≤◌, T, ltb, ℤ, Option, Some, None}
use Rattle.std.proofs.Common.{sym, ap, ◌∙◌, inl, inr, arith}
use borrow.Author.Tests.{ltb-false, leb-true}
use Rattle.lists.specs.Lists.{In}
use Rattle.lists.specs.ListLaws.{true_T, in_keep, any_none}
use Rattle.hyperparams.specs.declared.ValidParams.{ValidParams}
use Rattle.counting_tree.specs.Frames.{Frame, frames_in}
use Rattle.counting_tree.specs.FramesIn.{squared_swap}
use Rattle.counting_tree.specs.Geometry.{Geometry, frame, N, FarReach}
use Rattle.counting_tree.specs.Paths.{reaches}
use Rattle.counting_tree.specs.Domain.{Counts}
use Rattle.counting_tree.specs.Ready.{geometry_at, Ready, at_frames}
use Rattle.counting_tree.specs.SettledLaws.{is_told, is_yes}
use Rattle.counting_tree.proofs.Reach.{reaches_far}
use Rattle.cells_grid.specs.Cells.{core, members, core_members}
use Rattle.cells_grid.specs.Ready.{ready_lawful}
use Rattle.cells_grid.proofs.CellLaws.{count_path}
use Rattle.cells_grid.specs.Arrangement.{cell_at}
use Rattle.core_cells.specs.Forest.{tree_frames}
use Rattle.core_cells.specs.ForestLaws.{frames_below}
use Rattle.core_cells.specs.Nearest.{beyond, least_until, out_of_reach}
use Rattle.core_cells.specs.NearestLaws.{least_le, out_farther}
use Rattle.core_cells.specs.Settling.{settled_by_least, settled_by_frames, joined, joined_over, settled_by_cells, Tells, Apart}

-- ---- the three answers differ
pub no_not_yes : {A : Type 0} → ◌≡◌ {A = Option Bool} (Some false) (Some true) → A
no_not_yes e = absurd (true_T (ap is_yes e))

pub nothing_not_told : {A : Type 0} {b : Bool} → ◌≡◌ {A = Option Bool} None (Some b) → A
nothing_not_told e = absurd (true_T (ap is_told e))

-- ---- answers as one
joined_apart : (a b : Option Bool) → joined a b ≡ Some false → (a ≡ Some false) × (b ≡ Some false)
joined_apart (Some false) b e = (refl, e)
joined_apart (Some true) b e = no_not_yes (sym e)
joined_apart None (Some false) e = nothing_not_told e
joined_apart None (Some true) e = no_not_yes (sym e)
joined_apart None None e = nothing_not_told e

joined_each : (f : ℕ → Option Bool) (xs : List ℕ) → joined_over f xs ≡ Some false → (x : ℕ) → In x xs → f x ≡ Some false
joined_each f [] e x i = absurd i
joined_each f (y ∷ xs) e x (inl q) = ap f q ∙ (joined_apart (f y) (joined_over f xs) e).0
joined_each f (y ∷ xs) e x (inr j) = joined_each f xs (joined_apart (f y) (joined_over f xs) e).1 x j

-- ---- all out of reach, by the least
least_apart : (t s least : ℕ) → settled_by_least t s least ≡ Some false → (t * t ≤ least) × (out_of_reach t s least ≡ true)
unfolding settled_by_least
least_apart t s least e = go (ltb least (t * t)) (out_of_reach t s least) refl refl e
  where
    go : (a b : Bool) → ltb least (t * t) ≡ a → out_of_reach t s least ≡ b → ◌≡◌ {A = Option Bool} (cond a (Some true) (cond b (Some false) None)) (Some false) → (t * t ≤ least) × (out_of_reach t s least ≡ true)
    go true b ea eb z = no_not_yes (sym z)
    go false true ea eb z = (ltb-false least (t * t) ea, eb)
    go false false ea eb z = nothing_not_told z

module _ (v : ValidParams) (n : ℕ) (ps : List ℤ) where
  -- N of two frames
  abbrev between : ℕ → ℕ → ℕ
  between = N v (frames_in n v.channels ps)

  -- where the frames tell that it has none, each is out of reach
  frames_far : (q c : ℕ) → settled_by_frames v n ps q c ≡ Some false → (x : ℕ) → In x (tree_frames (geometry_at v n ps) c) → out_of_reach v.t v.s (N v (frames_in n v.channels ps) q x) ≡ true
  unfolding settled_by_frames
  frames_far q c e x i =
      let xs = tree_frames (geometry_at v n ps) c in
      let z = least_apart v.t v.s (least_until (v.t * v.t) (between q) beyond xs) e in
      out_farther v.t v.s ((least_le (v.t * v.t) (between q) beyond xs z.0).1 x i) z.1

  pub cells_far : (c d : ℕ) → settled_by_cells v n ps c d ≡ Some false
      → (q x : ℕ) → In q (tree_frames (geometry_at v n ps) c) → In x (tree_frames (geometry_at v n ps) d) → out_of_reach v.t v.s (N v (frames_in n v.channels ps) q x) ≡ true
  unfolding settled_by_cells
  cells_far c d e q x i j = frames_far q d (joined_each (λ q. settled_by_frames v n ps q d) (tree_frames (geometry_at v n ps) c) e q i) x j

-- a core frame of a cell is a frame of it
pub core_member : (g : Geometry) (c x : ℕ) → In x (tree_frames g c) → In x (members g (cell_at g c))
unfolding core_members
core_member g c x i = (in_keep (core g) x (members g (cell_at g c)) i).0

-- ---- what is out of reach does not reach
module _ {ps : List ℤ} {v : ValidParams} {n : ℕ} (r : Ready ps v n) where
  abbrev g : Geometry
  g = geometry_at v n ps

  abbrev at : ℕ → Frame
  at = frame v (frames_in n v.channels ps)

  pub tree_low : (c x : ℕ) → In x (tree_frames (geometry_at v n ps) c) → x < n
  tree_low c x i = omega (arith, frames_below g c x i, at_frames v n ps)

  -- by its own path
  pub no_path : {q x : ℕ} → q < n → x < n → Counts (frame v (frames_in n v.channels ps) q) → Counts (frame v (frames_in n v.channels ps) x)
      → out_of_reach v.t v.s (N v (frames_in n v.channels ps) q x) ≡ true → T (reaches ((geometry_at v n ps).box q) (geometry_at v n ps).levels 0 x) → ⊥
  unfolding out_of_reach
  no_path {q} {x} hq hx cq cx o t =
      let f : FarReach v (frames_in n v.channels ps) q x = reaches_far r q x hq hx cq cx t in
      omega (arith, f, leb-true (v.t * (2 ^ v.s + 1) * (v.t * (2 ^ v.s + 1)) + 4 ^ v.s) (N v (frames_in n v.channels ps) q x * 4 ^ v.s) o)

  -- all core frames of a cell
  pub none_in_reach : {q : ℕ} → q < n → Counts (frame v (frames_in n v.channels ps) q) → (c : ℕ)
      → ((x : ℕ) → In x (tree_frames (geometry_at v n ps) c) → Counts (frame v (frames_in n v.channels ps) x) × (out_of_reach v.t v.s (N v (frames_in n v.channels ps) q x) ≡ true))
      → Tells v n ps q c (Some false)
  none_in_reach {q} h own c far =
      sym
      (count_path g (ready_lawful r) q (cell_at g c)
      ∙ any_none (reaches (g.box q) g.levels 0) (tree_frames g c) (λ x i t. no_path h (tree_low c x i) own (far x i).0 (far x i).1 t))

  -- those of two cells, each of all of the other: N is the same both ways
  pub far_apart : (c d : ℕ)
      → ((x : ℕ) → In x (members (geometry_at v n ps) (cell_at (geometry_at v n ps) c)) → Counts (frame v (frames_in n v.channels ps) x))
      → ((x : ℕ) → In x (members (geometry_at v n ps) (cell_at (geometry_at v n ps) d)) → Counts (frame v (frames_in n v.channels ps) x))
      → ((q x : ℕ) → In q (tree_frames (geometry_at v n ps) c) → In x (tree_frames (geometry_at v n ps) d) → out_of_reach v.t v.s (N v (frames_in n v.channels ps) q x) ≡ true)
      → Apart v n ps c d
  far_apart c d cc cd far = (
    λ q i. none_in_reach (tree_low c q i) (cc q (core_member g c q i)) d (λ x j. (cd x (core_member g d x j), far q x i j)),
    λ q i. none_in_reach (tree_low d q i) (cd q (core_member g d q i)) c
        (λ x j. (cc x (core_member g c x j), ap (out_of_reach v.t v.s) (squared_swap (at q) (at x)) ∙ far x q j i)),
  )
