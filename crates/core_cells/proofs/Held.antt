-- What the words of the cells of a run hold beside the frames of each cell: which frames are core, and where each cell's tree begins.
use mathlib.Core.Path.{◌≡◌, refl, sym, ap, ap₂, subst, ◌∙◌}
use mathlib.Core.Bool.{Bool}
use mathlib.Core.List.{List}
use Prim.Native.Nat.{ℕ, ◌+◌, ◌-◌, ◌*◌, ◌<◌, ◌≤◌}
use native.Mathlib.Omega.{arith}
use lib.Dec.{eqb}
use lib.IntN.{ℤ}
use lib.ListN.{length, drop, get_or, length-take, length-drop}
use lib.Ieee.{Float}
use Rattle.std.proofs.lemmas.List.{take_rest}
use Rattle.lists.specs.Lists.{In, keep, nonzero}
use Rattle.lists.specs.Words.{part, column}
use Rattle.lists.specs.ListLaws.{length_numbers}
use Rattle.counting_tree.specs.declared.Box.{Box}
use Rattle.counting_tree.specs.FramesIn.{frame_at, frame_inside}
use Rattle.counting_tree.specs.Given.{geometry, frame_of}
use Rattle.counting_tree.specs.Grid.{side_at}
use Rattle.counting_tree.specs.Geometry.{Geometry}
use Rattle.counting_tree.specs.Arrays.{placed, box_of}
use Rattle.counting_tree.specs.Domain.{Counts}
use Rattle.counting_tree.specs.Ready.{at_frames, ready_counts}
use Rattle.cells_grid.specs.Cells.{members, core, core_members, core_cell}
use Rattle.cells_grid.specs.Ready.{ready_lawful}
use Rattle.cells_grid.specs.Arrangement.{cell_at, core_bit}
use Rattle.cells_grid.proofs.CellLaws.{in_member}
use Rattle.cells_grid.proofs.ArrangementLaws.{core_word}
use Rattle.cells_grid.proofs.Held as Grid
use Rattle.tree_structure.specs.Encode.{TreeAt}
use Rattle.tree_structure.specs.Work.{max_nodes}
use Rattle.core_cells.specs.declared.cells.CoreCells.{CoreCells}
use Rattle.core_cells.specs.Forest.{tree_frames, nodes_to, tree_word}
use Rattle.core_cells.specs.ForestLaws.{word_room, word_at, word_large, tree_word_lem, tree_inside, tree_at, nodes_most, is_core_cell}
use Rattle.core_cells.specs.Held.{held, cored}
use Rattle.core_cells.specs.RootBox.{root_box}
use Rattle.core_cells.proofs.OneTree.{ready_levels}

module _ (s : CoreCells) where
  abbrev g : Geometry
  g = geometry s.grid.frames

  abbrev n : ℕ
  n = s.grid.frames.n

  abbrev w : List ℕ
  w = s.grid.work.now

  e : g.frames ≡ n
  e = at_frames s.grid.frames.v n s.grid.frames.points.now

  pub room : 5 * s.grid.frames.n ≤ length s.grid.work.now
  room =
      let q : part w (4 * n) n ≡ column (core_bit g) n = subst (λ (m : ℕ). part w (4 * m) m ≡ column (core_bit g) m) e (held s).cores in
      omega (arith, ap length q, length-take n (drop (4 * n) w), length-drop (4 * n) w, length_numbers (core_bit g) n)

  -- frame i
  pub core_is : {i : ℕ} → i < s.grid.frames.n → {b : Bool} → b ≡ eqb (get_or s.grid.work.now (4 * s.grid.frames.n + i) 0) 1 → b ≡ core (geometry s.grid.frames) i
  core_is {i} h z = z ∙ core_word g (cored s) n e i h

  -- cell c
  module _ {c : ℕ} (h : c < s.grid.k) where
    pub slot : 5 * s.grid.frames.n + c < length s.grid.work.now
    slot = word_room (held s) e c h

    pub first_low : cell_at (geometry s.grid.frames) c < s.grid.frames.n
    first_low = omega (arith, Grid.first_is s.grid h refl, Grid.first_low s.grid h refl)

    pub has_core : {b : Bool} → b ≡ nonzero (get_or s.grid.work.now (5 * s.grid.frames.n + c) 0) → b ≡ core_cell (geometry s.grid.frames) (cell_at (geometry s.grid.frames) c)
    has_core z = z ∙ is_core_cell (held s) e c h

    pub core_frames : {xs : List ℕ} → xs ≡ members (geometry s.grid.frames) (cell_at (geometry s.grid.frames) c) → keep (core (geometry s.grid.frames)) xs ≡ tree_frames (geometry s.grid.frames) c
    unfolding core_members
    core_frames q = ap (keep (core g)) q

    -- its root box
    pub first_inside : {i : ℕ} → i ≡ cell_at (geometry s.grid.frames) c → (s.grid.frames.v.channels ≤ 4) × (i * s.grid.frames.v.channels + s.grid.frames.v.channels ≤ length s.grid.frames.points.now)
    first_inside {i} q = (s.grid.frames.ready.settings.scale.most, frame_inside n s.grid.frames.v.channels (length s.grid.frames.points.now) i s.grid.frames.ready.room (omega (arith, q, first_low)))

    pub root_is : {i : ℕ} {f : List ℤ} → f ≡ placed (part s.grid.frames.points.now (i * s.grid.frames.v.channels) s.grid.frames.v.channels) → i ≡ cell_at (geometry s.grid.frames) c
        → {side : Float} → side ≡ side_at s.grid.frames.v.channels s.grid.frames.v.tolerance 0 → {b : Box} → b ≡ box_of s.grid.frames.v.channels side f → b ≡ root_box s.grid.frames.v s.grid.frames.n s.grid.frames.points.now c
    unfolding root_box
    root_is ef q es eb =
        eb
        ∙ ap₂ (box_of s.grid.frames.v.channels) es
        (ef ∙ ap (λ (i : ℕ). placed (part s.grid.frames.points.now (i * s.grid.frames.v.channels) s.grid.frames.v.channels)) q ∙ ap placed (sym (frame_at n s.grid.frames.v.channels s.grid.frames.points.now (cell_at g c) first_low)))

    -- its tree: two less than the word that says where it begins is the number of its first node
    module _ {first w : ℕ} (two : (2 ≤ w) × (first ≡ w - 2)) (q : w ≡ get_or s.grid.work.now (5 * s.grid.frames.n + c) 0) where
      word : first + 2 ≡ tree_word g s.has_trees.0 c
      word = omega (arith, two, q, word_at (held s) e c h)

      large : s.has_trees.0 < length (tree_frames g c)
      large = word_large g s.has_trees.0 c (omega (arith, word))

      begins : first ≡ nodes_to g s.has_trees.0 c
      begins = omega (arith, word, tree_word_lem g s.has_trees.0 c large)

      pub begins_low : first ≤ max_nodes
      begins_low = omega (arith, begins, nodes_most g s.has_trees.0 (ready_lawful s.grid.frames.ready) (omega (arith, e, s.grid.frames.ready.few)) (ready_levels s.grid.frames.ready) c (omega (arith, s.grid.arranged.count)))

      pub begins_inside : 4 * first ≤ length s.nodes.now
      begins_inside = omega (arith, begins, tree_inside (held s) e c h large)

      pub some_tree : TreeAt (geometry s.grid.frames).same s.grid.frames.n (part s.nodes.now (4 * first) (length s.nodes.now - 4 * first)) 0 (geometry s.grid.frames).levels 0 (tree_frames (geometry s.grid.frames) c)
      some_tree = subst (λ (u : List ℕ). TreeAt g.same n u 0 g.levels 0 (tree_frames g c)) (ap (λ (a : ℕ). drop (4 * a) s.nodes.now) (sym begins) ∙ sym (take_rest s.nodes.now (4 * first))) (tree_at (held s) e c h large)

-- the counts of a cell's frames are signed 16-bit numbers
pub members_counts : (s : CoreCells) (c : ℕ) (x : ℕ) → In x (members (geometry s.grid.frames) (cell_at (geometry s.grid.frames) c)) → Counts (frame_of s.grid.frames x)
members_counts s c x i =
    let f = s.grid.frames in
    ready_counts f.ready f.counts x (omega (arith, (in_member (geometry f) (cell_at (geometry f) c) x i).0, at_frames f.v f.n f.points.now))
