-- Laws of cells: classes of frames, each with its lowest frame first and numbered in that order; lists go by first frames and either way;
-- a count in a cell's tree is non-zero exactly if a core frame of the cell reaches; and core frames counted cell by cell.
use Rattle.std.specs.Prelude.{◌≡◌, ◌↔◌, Bool, ◌&&◌, ℕ, ◌≤◌, ◌<◌, leb}
use Rattle.std.proofs.Math.Path.{sym, ap}
use Rattle.std.proofs.Common.{◌∙◌}
use Rattle.std.proofs.Math.Bool.{true, false, cond, and-true, and-false}
use Rattle.std.proofs.Math.Dec.{T, ltb, eqb, eqb→eq, eqb_refl}
use Rattle.std.proofs.Math.ListN.{length, get_or}
use Rattle.lists.specs.Lists.{numbers, keep, any, how_many, head_or, total, In, Ascending, nonzero}
use Rattle.lists.specs.ListLaws.{true_T, both_ways, keep_in, in_keep, keep_same, head_in, head_same, numbers_in, in_numbers, in_nonzero, some_in}
use Rattle.lists.specs.CountLaws.{keep_keep, keep_none, total_same, total_swap, total_bool}
use Rattle.lists.specs.OrderLaws.{numbers_ascending, keep_ascending, head_lowest, once, rank_at}
use Rattle.counting_tree.specs.Tree.{counted}
use Rattle.counting_tree.specs.Paths.{reaches, node_path}
use Rattle.counting_tree.specs.Geometry.{Geometry}
use Rattle.cells_grid.specs.Cells.{same_cell, members, first, is_cell, cells, cell_number, listed, list, dense, neighbour, core, core_members, core_cell, core_cells, node, count}
use Rattle.cells_grid.specs.Lawful.{Lawful}

-- ---- what is in each list of the definitions, and their order
module _ (g : Geometry) where
  pub member_in : (i j : ℕ) → j < g.frames → T (same_cell g i j) → In j (members g i)
  unfolding members
  member_in i j h t = keep_in (same_cell g i) j (numbers g.frames) (numbers_in g.frames j h) t

  pub in_member : (i j : ℕ) → In j (members g i) → (j < g.frames) × T (same_cell g i j)
  unfolding members
  in_member i j k = let z = in_keep (same_cell g i) j (numbers g.frames) k in (in_numbers g.frames j z.0, z.1)

  pub cell_first : (c : ℕ) → In c (cells g) → (c < g.frames) × (first g c ≡ c)
  unfolding cells is_cell
  cell_first c i = let z = in_keep (is_cell g) c (numbers g.frames) i in (in_numbers g.frames c z.0, eqb→eq (first g c) c z.1)

  pub cells_ascending : Ascending (cells g)
  unfolding cells
  cells_ascending = keep_ascending (is_cell g) (numbers g.frames) (numbers_ascending g.frames)

  pub list_in_lem : (i c : ℕ) → In c (cells g) → T (listed g i c) → In c (list g i)
  unfolding list
  list_in_lem i c k t = keep_in (listed g i) c (cells g) k t

  pub in_list : (i c : ℕ) → In c (list g i) → In c (cells g) × T (listed g i c)
  unfolding list
  in_list i c k = in_keep (listed g i) c (cells g) k

  pub in_core : (i j : ℕ) → In j (core_members g i) → (j < g.frames) × T (core g j) × T (same_cell g i j)
  unfolding core_members
  in_core i j k =
      let z = in_keep (core g) j (members g i) k in
      let w = in_member i j z.0 in
      (w.0, z.1, w.1)

  pub core_in_lem : (i j : ℕ) → j < g.frames → T (core g j) → T (same_cell g i j) → In j (core_members g i)
  unfolding core_members
  core_in_lem i j h c t = keep_in (core g) j (members g i) (member_in i j h t) c

  pub core_cell_in : (c : ℕ) → In c (cells g) → T (core_cell g c) → In c (core_cells g)
  unfolding core_cells
  core_cell_in c i t = keep_in (core_cell g) c (cells g) i t

  pub in_core_cell : (c : ℕ) → In c (core_cells g) → In c (cells g) × T (core_cell g c)
  unfolding core_cells
  in_core_cell c i = in_keep (core_cell g) c (cells g) i

  pub core_cells_ascending : Ascending (core_cells g)
  unfolding core_cells
  core_cells_ascending = keep_ascending (core_cell g) (cells g) cells_ascending

  -- a core cell holds a core frame
  pub core_cell_frame : (c : ℕ) → T (core_cell g c) → (x : ℕ) × In x (core_members g c)
  unfolding core_cell
  core_cell_frame c t = some_in (core_members g c) t

  -- "a cell's first frame is the lowest-numbered in it"
  pub first_lowest : (i j : ℕ) → j < g.frames → T (same_cell g i j) → first g i ≤ j
  unfolding first members
  first_lowest i j h t = head_lowest i (members g i) (keep_ascending (same_cell g i) (numbers g.frames) (numbers_ascending g.frames)) j (member_in i j h t)

module _ (g : Geometry) (L : Lawful g) where
  -- ---- frames of one cell have the same of all that goes by cells
  pub members_same : (i j : ℕ) → T (same_cell g i j) → members g i ≡ members g j
  unfolding members
  members_same i j h =
      keep_same (same_cell g i) (same_cell g j) (numbers g.frames)
      (λ x k. both_ways (same_cell g i x) (same_cell g j x) (L.same_join 0 j i x (L.same_turn 0 i j h)) (L.same_join 0 i j x h))

  own : (i : ℕ) → i < g.frames → In i (members g i)
  own i h = member_in g i i h (L.same_self 0 i)

  pub first_same : (i j : ℕ) → i < g.frames → T (same_cell g i j) → first g i ≡ first g j
  unfolding first
  first_same i j h t = head_same i j i (members g i) (own i h) ∙ ap (head_or j) (members_same i j t)

  pub first_in : (i : ℕ) → i < g.frames → (first g i < g.frames) × T (same_cell g i (first g i))
  unfolding first
  first_in i h = in_member g i (first g i) (head_in i i (members g i) (own i h))

  pub first_cell : (i : ℕ) → i < g.frames → In (first g i) (cells g)
  unfolding cells is_cell
  first_cell i h =
      let z = first_in i h in
      keep_in (is_cell g) (first g i) (numbers g.frames) (numbers_in g.frames (first g i) z.0) (rw (← first_same i (first g i) h z.1) (eqb_refl (first g i)))

  pub core_same : (i j : ℕ) → T (same_cell g i j) → core_members g i ≡ core_members g j
  unfolding core_members
  core_same i j t = ap (keep (core g)) (members_same i j t)

  -- the cell of a core frame is a core cell
  pub core_first : (p : ℕ) → p < g.frames → T (core g p) → In (first g p) (core_cells g)
  unfolding core_cell
  core_first p h c = core_cell_in g (first g p) (first_cell p h) (in_nonzero p (core_members g (first g p)) (core_in_lem g (first g p) p h c (L.same_turn 0 p (first g p) (first_in p h).1)))

  pub node_same : (q i j : ℕ) → T (same_cell g i j) → node g q i ≡ node g q j
  unfolding node
  node_same q i j t = ap (counted g.same (g.box q) g.levels 0) (core_same i j t)

  pub count_same : (q i j : ℕ) → T (same_cell g i j) → count g q i ≡ count g q j
  unfolding count
  count_same q i j t = ap length (node_same q i j t)

  -- ---- lists go by first frames, and either way
  pub listed_same : (i j k : ℕ) → j < g.frames → T (same_cell g j k) → listed g i j ≡ listed g i k
  unfolding listed
  listed_same i j k h t = ap (g.near (first g i)) (first_same j k h t)

  pub listed_turn : (i j : ℕ) → T (listed g i j) → T (listed g j i)
  unfolding listed
  listed_turn i j t = L.near_turn (first g i) (first g j) t

  -- ---- counts
  -- a count is non-zero exactly if a core frame of the cell reaches by its own path
  pub count_path : (q i : ℕ) → nonzero (count g q i) ≡ any (reaches (g.box q) g.levels 0) (core_members g i)
  unfolding count node
  count_path q i = node_path g.same (g.box q) (L.box_same q) g.levels 0 (core_members g i) alike
    where
      alike : (x : ℕ) → In x (core_members g i) → g.box q 0 (head_or 0 (core_members g i)) ≡ g.box q 0 x
      alike x k =
          let y = head_or 0 (core_members g i) in
          let a = in_core g i y (head_in 0 x (core_members g i) k) in
          L.box_same q 0 y x (L.same_join 0 y i x (L.same_turn 0 i y a.2) (in_core g i x k).2)

  -- ---- cell numbers
  -- the cell of that number begins with i's first frame
  pub number_cell : (i d : ℕ) → i < g.frames → get_or (cells g) (cell_number g i) d ≡ first g i
  unfolding cell_number
  number_cell i d h = rank_at d (cells g) (cells_ascending g) (first_cell i h)

  pub number_same : (i j : ℕ) → i < g.frames → j < g.frames → (cell_number g i ≡ cell_number g j) ↔ T (same_cell g i j)
  unfolding cell_number
  number_same i j h k = (
    λ e. same (sym (number_cell i 0 h) ∙ ap (λ (n : ℕ). get_or (cells g) n 0) e ∙ number_cell j 0 k),
    λ t. ap (λ (c : ℕ). how_many (λ d. ltb d c) (cells g)) (first_same i j h t),
  )
    where
      same : first g i ≡ first g j → T (same_cell g i j)
      same e = L.same_join 0 i (first g i) j (first_in i h).1 (rw e (L.same_turn 0 j (first g j) (first_in j k).1))

  -- ---- core frames, counted cell by cell
  -- of the cells on i's list as many hold frame j as that list has j's cell: one or none
  holders : (i j : ℕ) → j < g.frames → how_many (λ c. same_cell g c j) (list g i) ≡ cond (listed g i j) 1 0
  unfolding list
  holders i j h =
      ap length (keep_same (λ c. same_cell g c j) (λ c. eqb c (first g j)) (list g i) same)
      ∙ go (listed g i j) (listed_same i j (first g j) h (first_in j h).1)
    where
      same : (c : ℕ) → In c (list g i) → same_cell g c j ≡ eqb c (first g j)
      same c k =
          let f = cell_first g c (in_list g i c k).0 in
          both_ways (same_cell g c j) (eqb c (first g j))
          (λ t. rw (← first_same c j f.0 t, f.1) (eqb_refl c))
          (λ t. rw (eqb→eq c (first g j) t) (L.same_turn 0 j (first g j) (first_in j h).1))

      go : (b : Bool) → b ≡ listed g i (first g j) → how_many (λ c. eqb c (first g j)) (list g i) ≡ cond b 1 0
      go true e = ap length (once (list g i) (keep_ascending (listed g i) (cells g) (cells_ascending g)) (list_in_lem g i (first g j) (first_cell j h) (true_T (sym e))))
      go false e = ap length (keep_none (λ c. eqb c (first g j)) (list g i) (λ c k t. rw (eqb→eq c (first g j) t, sym e) at (in_list g i c k).1))

  -- the frames of listed cells that pass f, counted list by list
  pub by_cells : (i : ℕ) (f : ℕ → Bool) → how_many (λ j. listed g i j && f j) (numbers g.frames) ≡ total (λ c. how_many f (members g c)) (list g i)
  unfolding members
  by_cells i f =
      sym (total_same (λ c. how_many f (members g c)) (λ c. how_many (λ j. same_cell g c j && f j) (numbers g.frames)) (list g i) (λ c k. ap length (keep_keep f (same_cell g c) (numbers g.frames)))
      ∙ total_swap (λ c j. same_cell g c j && f j) (list g i) (numbers g.frames)
      ∙ total_same (λ j. how_many (λ c. same_cell g c j && f j) (list g i)) (λ j. cond (listed g i j && f j) 1 0) (numbers g.frames) (λ j k. one j (in_numbers g.frames j k) (f j))
      ∙ total_bool (λ j. listed g i j && f j) (numbers g.frames))
    where
      one : (j : ℕ) → j < g.frames → (b : Bool) → how_many (λ c. same_cell g c j && b) (list g i) ≡ cond (listed g i j && b) 1 0
      one j h true = simp and-true (holders i j h)
      one j h false = simp and-false (ap length (keep_none (λ c. false) (list g i) (λ c k t. t)))

  -- module 3 by cells: over the list of i's cell, the frames of each within t
  pub core_by_cells : (i : ℕ) → core g i ≡ cond (dense g i) true (leb g.least (total (λ c. how_many (g.within i) (members g c)) (list g i)))
  unfolding core neighbour
  core_by_cells i = ap (λ (n : ℕ). cond (dense g i) true (leb g.least n)) (by_cells i (g.within i))
