-- What a cell's root box and its frames say of the count in its tree: by whole numbers of the box, a core frame nearer than t, all of them out of reach, or their own paths.
use mathlib.Core.Path.{◌≡◌, refl, sym, ap, subst, ◌∙◌}
use mathlib.Core.Bool.{Bool, true, false, cond, and-false}
use mathlib.Core.List.{List}
use Prim.Native.Nat.{ℕ, ◌*◌, ◌<◌, ◌≤◌}
use native.Mathlib.Omega.{arith}
use borrow.Author.Tests.{lt-ltb, le-ltb, le-leb, lt-leb}
use lib.Dec.{ltb}
use lib.ListN.{length, get_or, take}
use lib.Ieee.{Float}
use Rattle.std.specs.Prelude.{Option, Some, None, is_some}
use Rattle.std.specs.Bool.{then_some}
use Rattle.lists.specs.Lists.{In, keep, any, nonzero}
use Rattle.lists.specs.ListLaws.{true_T, T_true, both_ways, any_in, at_in, keep_in}
use Rattle.hyperparams.specs.Params.{float}
use Rattle.counting_tree.specs.declared.Box.{Box}
use Rattle.counting_tree.specs.declared.run.Frames.{Frames}
use Rattle.counting_tree.specs.declared.IntersectionType.{IntersectionType}
use Rattle.counting_tree.specs.declared.IntersectionType.TheVariants.{Disjoint, FullyCovered, Intersecting}
use Rattle.counting_tree.specs.Frames.{floats}
use Rattle.counting_tree.specs.Given.{geometry, frame_list, frame_of}
use Rattle.counting_tree.specs.Grid.{side_at, centres}
use Rattle.counting_tree.specs.Box.{sum_from}
use Rattle.counting_tree.specs.Geometry.{Geometry, N, box_at}
use Rattle.counting_tree.specs.Paths as Paths
use Rattle.counting_tree.specs.Ready.{ready_counts, square_fits, at_frames}
use Rattle.counting_tree.specs.Domain.{Counts}
use Rattle.counting_tree.specs.Indexes.{box_level}
use Rattle.counting_tree.proofs.Reach.{near_reaches}
use Rattle.counting_tree.specs.Settled.{settled_by}
use Rattle.counting_tree.specs.SettledLaws.{settled_disjoint, settled_covered}
use Rattle.cells_grid.specs.Cells.{members, core, core_cell, node, count}
use Rattle.cells_grid.specs.Lawful.{Lawful}
use Rattle.cells_grid.specs.Ready.{ready_lawful}
use Rattle.cells_grid.proofs.CellLaws.{in_member, count_path}
use Rattle.cells_grid.specs.Arrangement.{cell_at}
use Rattle.tree_structure.specs.declared.Counted.{Counted}
use Rattle.tree_structure.specs.Encode.{told_of, told_some}
use Rattle.core_cells.specs.declared.cells.CoreCells.{CoreCells}
use Rattle.core_cells.specs.Forest.{tree_frames}
use Rattle.core_cells.specs.ForestLaws.{no_tree_node}
use Rattle.core_cells.specs.Nearest.{beyond, least_until, out_of_reach}
use Rattle.core_cells.specs.NearestLaws.{least_found, least_le, out_farther, beyond_out}
use Rattle.core_cells.specs.RootBox.{root_box, frames_first, root_first}
use Rattle.core_cells.specs.RootBoxLaws.{one_root, disjoint_count, covered_count, root_centre}
use Rattle.core_cells.specs.Settling.{settled_by_least, settled_by_frames, settled_by_root, joined_over, settled_by_cells, Tells, Apart}
use Rattle.core_cells.specs.SettlingLaws.{tree_low, no_path, none_in_reach, cells_far, far_apart}
use Rattle.core_cells.proofs.Held.{first_low, core_frames, members_counts}

-- a frame out of reach does not reach by its own path
pub no_reach : (f : Frames) {q x : ℕ} → q < f.n → x < f.n → {d : ℕ} → d ≡ N f.v (frame_list f) q x → out_of_reach f.v.t f.v.s d ≡ true → false ≡ Paths.reaches ((geometry f).box q) (geometry f).levels 0 x
no_reach f {q} {x} hq hx e o =
    both_ways false (Paths.reaches ((geometry f).box q) (geometry f).levels 0 x) (λ t. absurd t) (λ t. absurd (no_path f.ready hq hx (ready_counts f.ready f.counts q hq) (ready_counts f.ready f.counts x hx) (ap (out_of_reach f.v.t f.v.s) (sym e) ∙ o) t))

module _ (s : CoreCells) {q c : ℕ} (hq : q < s.grid.frames.n) (h : c < s.grid.k) where
  abbrev g : Geometry
  g = geometry s.grid.frames

  L : Lawful g
  L = ready_lawful s.grid.frames.ready

  counts : (x : ℕ) → x < s.grid.frames.n → Counts (frame_of s.grid.frames x)
  counts = ready_counts s.grid.frames.ready s.grid.frames.counts

  -- no core frame, no count
  module _ {b : Bool} (eb : b ≡ core_cell (geometry s.grid.frames) (cell_at (geometry s.grid.frames) c)) where
    pub treeless : b ≡ false → false ≡ nonzero (count (geometry s.grid.frames) q (cell_at (geometry s.grid.frames) c))
    unfolding count
    treeless f = sym (ap (λ (x : List ℕ). nonzero (length x)) (no_tree_node g c (sym eb ∙ f) q))

    pub no_core : b ≡ false → Some false ≡ settled_by_root s.grid.frames.v s.grid.frames.n s.grid.frames.points.now q c
    unfolding settled_by_root
    no_core f = rw (sym eb ∙ f)

  -- the tree's own count
  pub told_count : {r : Option Counted} → r ≡ told_of (node (geometry s.grid.frames) q (cell_at (geometry s.grid.frames) c)) → is_some r ≡ nonzero (count (geometry s.grid.frames) q (cell_at (geometry s.grid.frames) c))
  unfolding count
  told_count z = ap is_some z ∙ told_some (node g q (cell_at g c))

  -- ---- its root box: `told` is what whole numbers tell of it
  module _ {b : Bool} (eb : b ≡ core_cell (geometry s.grid.frames) (cell_at (geometry s.grid.frames) c)) (f : b ≡ true) {root : Box} (er : root ≡ root_box s.grid.frames.v s.grid.frames.n s.grid.frames.points.now c) {told : Option Bool}
      (et : told ≡ settled_by s.grid.frames.v (sum_from (float 0) (floats (frame_of s.grid.frames q)) (take s.grid.frames.v.channels root.centre))) where
    telling : {t : Option Bool} → told ≡ t → settled_by s.grid.frames.v (sum_from (float 0) (floats (frame_of s.grid.frames q)) (centres (side_at s.grid.frames.v.channels s.grid.frames.v.tolerance 0) (frame_of s.grid.frames (cell_at g c)))) ≡ t
    telling z =
        ap (λ (l : List Float). settled_by s.grid.frames.v (sum_from (float 0) (floats (frame_of s.grid.frames q)) l)) (sym (ap (λ (b : Box). take s.grid.frames.v.channels b.centre) er ∙ root_centre s.grid.frames.ready c (first_low s h)))
        ∙ sym et ∙ z

    pub root_value : told ≡ settled_by_root s.grid.frames.v s.grid.frames.n s.grid.frames.points.now q c
    unfolding settled_by_root
    root_value = rw (sym eb ∙ f, ← er) et

    pub root_tells : Tells s.grid.frames.v s.grid.frames.n s.grid.frames.points.now q c told
    root_tells = go told refl
      where
        go : (t : Option Bool) → told ≡ t → Tells s.grid.frames.v s.grid.frames.n s.grid.frames.points.now q c t
        go (Some false) z = sym (disjoint_count g L q (cell_at g c) (settled_disjoint s.grid.frames.ready q (cell_at g c) hq (first_low s h) (counts q hq) (counts (cell_at g c) (first_low s h)) (telling z)))
        go (Some true) z = sym (covered_count g L q (cell_at g c) (settled_covered s.grid.frames.ready q (cell_at g c) hq (first_low s h) (counts q hq) (counts (cell_at g c) (first_low s h)) (telling z)) (true_T (sym eb ∙ f)))
        go None z = tt

  -- ---- the test of its root box: `told` is what it says of the first frame x
  pub tested : {x : ℕ} → x ≡ cell_at (geometry s.grid.frames) c → {side : Float} → side ≡ side_at s.grid.frames.v.channels s.grid.frames.v.tolerance 0 → {told : IntersectionType} → told ≡ box_at s.grid.frames.v (frame_list s.grid.frames) side q x
      → (geometry s.grid.frames).box q 0 (cell_at (geometry s.grid.frames) c) ≡ told
  tested {x} ex {side} es et = sym (ap (g.box q 0) ex) ∙ sym (et ∙ box_level s.grid.frames.ready 0 side es q x)

  pub test_apart : (geometry s.grid.frames).box q 0 (cell_at (geometry s.grid.frames) c) ≡ Disjoint → false ≡ nonzero (count (geometry s.grid.frames) q (cell_at (geometry s.grid.frames) c))
  test_apart z = sym (disjoint_count g L q (cell_at g c) z)

  pub test_inside : (geometry s.grid.frames).box q 0 (cell_at (geometry s.grid.frames) c) ≡ FullyCovered → {b : Bool} → b ≡ core_cell (geometry s.grid.frames) (cell_at (geometry s.grid.frames) c) → b ≡ true
      → true ≡ nonzero (count (geometry s.grid.frames) q (cell_at (geometry s.grid.frames) c))
  test_inside z eb f = sym (covered_count g L q (cell_at g c) z (true_T (sym eb ∙ f)))

  -- ---- its frames xs
  module _ {xs : List ℕ} (ex : xs ≡ members (geometry s.grid.frames) (cell_at (geometry s.grid.frames) c)) where
    pub box_open : (geometry s.grid.frames).box q 0 (cell_at (geometry s.grid.frames) c) ≡ Intersecting → (x k : ℕ) → k < length xs → x ≡ get_or xs k x
        → (x < s.grid.frames.n) × ((geometry s.grid.frames).box q 0 x ≡ Intersecting)
    box_open z x k l e =
        let m = in_member g (cell_at g c) x (subst (In x) ex (subst (λ (y : ℕ). In y xs) (sym e) (at_in x xs k l))) in
        (omega (arith, m.0, at_frames s.grid.frames.v s.grid.frames.n s.grid.frames.points.now), one_root g L q (cell_at g c) Intersecting z x m.1)

    pub by_paths : {b : Bool} → b ≡ any (Paths.reaches ((geometry s.grid.frames).box q) (geometry s.grid.frames).levels 0) (keep (core (geometry s.grid.frames)) xs) → b ≡ nonzero (count (geometry s.grid.frames) q (cell_at (geometry s.grid.frames) c))
    by_paths z = z ∙ ap (any (Paths.reaches (g.box q) g.levels 0)) (core_frames s h ex) ∙ sym (count_path g L q (cell_at g c))

  module _ {least : ℕ} (el : least ≡ least_until (s.grid.frames.v.t * s.grid.frames.v.t) (N s.grid.frames.v (frame_list s.grid.frames) q) beyond (tree_frames (geometry s.grid.frames) c)) where
    abbrev near : ℕ
    near = s.grid.frames.v.t * s.grid.frames.v.t

    abbrev between : ℕ → ℕ
    between = N s.grid.frames.v (frame_list s.grid.frames) q

    abbrev xs : List ℕ
    xs = tree_frames g c

    -- what the two tests say
    pub frames_value : (a b : Bool) → ltb least (s.grid.frames.v.t * s.grid.frames.v.t) ≡ a → out_of_reach s.grid.frames.v.t s.grid.frames.v.s least ≡ b
        → cond a (Some true) (cond b (Some false) None) ≡ settled_by_frames s.grid.frames.v s.grid.frames.n s.grid.frames.points.now q c
    unfolding settled_by_frames settled_by_least
    frames_value a b ea eb = rw (← el, ea, eb)

    pub hit : least < s.grid.frames.v.t * s.grid.frames.v.t → true ≡ nonzero (count (geometry s.grid.frames) q (cell_at (geometry s.grid.frames) c))
    hit l =
        let z = least_found near between beyond xs (omega (arith, square_fits s.grid.frames.ready)) (omega (arith, el)) in
        let low = tree_low s.grid.frames.ready c z.0 z.1 in
        let t = near_reaches s.grid.frames.ready q z.0 hq low (counts q hq) (counts z.0 low) z.2 in
        sym (count_path g L q (cell_at g c) ∙ T_true (any (Paths.reaches (g.box q) g.levels 0) xs) (any_in (Paths.reaches (g.box q) g.levels 0) z.0 xs z.1 t))

    pub out : s.grid.frames.v.t * s.grid.frames.v.t ≤ least → out_of_reach s.grid.frames.v.t s.grid.frames.v.s least ≡ true → false ≡ nonzero (count (geometry s.grid.frames) q (cell_at (geometry s.grid.frames) c))
    out l o = none_in_reach s.grid.frames.ready hq (counts q hq) c (λ x i. (counts x (tree_low s.grid.frames.ready c x i), out_farther s.grid.frames.v.t s.grid.frames.v.s (low x i) o))
      where
        low : (x : ℕ) → In x xs → least ≤ between x
        low x i = omega (arith, el, (least_le near between beyond xs (omega (arith, el))).1 x i)

    -- out of reach or not, where none is near
    pub frames_rest : s.grid.frames.v.t * s.grid.frames.v.t ≤ least → {b : Bool} → b ≡ out_of_reach s.grid.frames.v.t s.grid.frames.v.s least → {r : Option Bool} → r ≡ then_some b false
        → (r ≡ settled_by_frames s.grid.frames.v s.grid.frames.n s.grid.frames.points.now q c) × Tells s.grid.frames.v s.grid.frames.n s.grid.frames.points.now q c r
    frames_rest l {b} eb er = rw er (go b (sym eb))
      where
        go : (b : Bool) → out_of_reach s.grid.frames.v.t s.grid.frames.v.s least ≡ b
            → (then_some b false ≡ settled_by_frames s.grid.frames.v s.grid.frames.n s.grid.frames.points.now q c) × Tells s.grid.frames.v s.grid.frames.n s.grid.frames.points.now q c (then_some b false)
        go true e = (frames_value false true (le-ltb least near l) e, out l e)
        go false e = (frames_value false false (le-ltb least near l) e, tt)

    -- with no core frame the least is beyond all
    pub frames_none : least ≡ beyond → (Some false ≡ settled_by_frames s.grid.frames.v s.grid.frames.n s.grid.frames.points.now q c) × (false ≡ nonzero (count (geometry s.grid.frames) q (cell_at (geometry s.grid.frames) c)))
    frames_none e =
        let o = ap (out_of_reach s.grid.frames.v.t s.grid.frames.v.s) e ∙ beyond_out s.grid.frames.v.t s.grid.frames.v.s s.grid.frames.ready.settings.scale.high in
        let l : near ≤ least = omega (arith, square_fits s.grid.frames.ready) in
        (frames_value false true (le-ltb least near l) o, out l o)

-- ---- whether the root box is asked first
module _ (s : CoreCells) (c : ℕ) where
  pub first_none : 0 < s.grid.frames.v.s → {xs : List ℕ} → xs ≡ members (geometry s.grid.frames) (cell_at (geometry s.grid.frames) c) → length xs ≤ 2 → None ≡ root_first s.grid.frames.v s.grid.frames.n s.grid.frames.points.now c
  unfolding root_first frames_first
  first_none l {xs} ex h = rw (lt-ltb 0 s.grid.frames.v.s l, le-leb (length (members (geometry s.grid.frames) (cell_at (geometry s.grid.frames) c))) 2 (omega (arith, ap length ex)))

  module _ {root : Box} (er : root ≡ root_box s.grid.frames.v s.grid.frames.n s.grid.frames.points.now c) where
    pub first_zero : s.grid.frames.v.s ≤ 0 → Some root ≡ root_first s.grid.frames.v s.grid.frames.n s.grid.frames.points.now c
    unfolding root_first frames_first
    first_zero h = rw (le-ltb 0 s.grid.frames.v.s h, er)

    pub first_many : {xs : List ℕ} → xs ≡ members (geometry s.grid.frames) (cell_at (geometry s.grid.frames) c) → 2 < length xs → Some root ≡ root_first s.grid.frames.v s.grid.frames.n s.grid.frames.points.now c
    unfolding root_first frames_first
    first_many {xs} ex h = rw (lt-leb (length (members (geometry s.grid.frames) (cell_at (geometry s.grid.frames) c))) 2 (omega (arith, ap length ex)), and-false (ltb 0 s.grid.frames.v.s), er)

-- ---- two cells: what the core frames of the one, asked one after the other, tell of those of the other
module _ (s : CoreCells) {c : ℕ} (h : c < s.grid.k) (d : ℕ) {xs : List ℕ} (ex : xs ≡ members (geometry s.grid.frames) (cell_at (geometry s.grid.frames) c)) where
  pub cells_value : {r : Option Bool} → r ≡ joined_over (λ q. settled_by_frames s.grid.frames.v s.grid.frames.n s.grid.frames.points.now q d) (keep (core (geometry s.grid.frames)) xs)
      → r ≡ settled_by_cells s.grid.frames.v s.grid.frames.n s.grid.frames.points.now c d
  unfolding settled_by_cells
  cells_value z = z ∙ ap (joined_over (λ q. settled_by_frames s.grid.frames.v s.grid.frames.n s.grid.frames.points.now q d)) (core_frames s h ex)

  -- a core frame at a place of c that has a count
  pub one_covered : (k : ℕ) → k < length xs → {b : Bool} → b ≡ core (geometry s.grid.frames) (get_or xs k 0) → b ≡ true → true ≡ nonzero (count (geometry s.grid.frames) (get_or xs k 0) (cell_at (geometry s.grid.frames) d))
      → (q : ℕ) × In q (tree_frames (geometry s.grid.frames) c) × (nonzero (count (geometry s.grid.frames) q (cell_at (geometry s.grid.frames) d)) ≡ true)
  one_covered k l eb f t =
      let x = get_or xs k 0 in
      (x, subst (In x) (core_frames s h ex) (keep_in (core (geometry s.grid.frames)) x xs (at_in 0 xs k l) (true_T (sym eb ∙ f))), sym t)

pub cells_apart : (s : CoreCells) (c d : ℕ) → Some false ≡ settled_by_cells s.grid.frames.v s.grid.frames.n s.grid.frames.points.now c d → Apart s.grid.frames.v s.grid.frames.n s.grid.frames.points.now c d
cells_apart s c d e = far_apart s.grid.frames.ready c d (members_counts s c) (members_counts s d) (cells_far s.grid.frames.v s.grid.frames.n s.grid.frames.points.now c d (sym e))
