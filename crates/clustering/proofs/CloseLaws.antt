-- Laws of close cells: they are pairs that touch, so taking them first changes nothing in the end.
use Rattle.std.specs.Prelude.{◌≡◌, Bool, ◌&&◌, cond, ltb, ℤ, get_or}
use Rattle.std.proofs.Math.Path.{refl, sym, subst}
use Rattle.std.proofs.Common.{inl, inr, arith}
use Rattle.std.proofs.Math.Bool.{true, false}
use mathlib.Core.List.{List, [], ◌∷◌, map}
use Prim.Native.Nat.{ℕ, ◌-◌, ◌*◌, ◌/◌, ◌%◌, ◌<◌}
use Rattle.std.proofs.Math.Dec.{T, ltb→lt, le→leb}
use Rattle.std.proofs.Math.ListN.{length}
use Rattle.lists.specs.Lists.{In}
use Rattle.lists.specs.Words.{rest}
use Rattle.lists.specs.ListLaws.{true_T, T_true, and_left, and_right, any_in, in_nonzero, in_concat, in_map, in_from}
use Rattle.hyperparams.specs.declared.ValidParams.{ValidParams}
use Rattle.counting_tree.specs.Frames.{Frame, frames_in}
use Rattle.counting_tree.specs.Geometry.{Geometry, geometry_of, frame, N, near}
use Rattle.counting_tree.specs.Domain.{Counts}
use Rattle.counting_tree.specs.Paths as Paths
use Rattle.counting_tree.specs.Ready.{geometry_at, Ready, at_frames}
use Rattle.counting_tree.proofs.Reach.{near_reaches}
use Rattle.cells_grid.specs.Cells.{cells, core, core_members, core_cell}
use Rattle.cells_grid.specs.Lawful.{Lawful}
use Rattle.cells_grid.specs.Ready.{ready_lawful}
use Rattle.cells_grid.proofs.CellLaws.{core_in_lem, count_path}
use Rattle.cells_grid.specs.Arrangement.{cell_at}
use Rattle.cells_grid.proofs.ArrangementLaws.{cell_at_below, listed_at}
use Rattle.clustering.specs.Clusters.{touches}
use Rattle.clustering.specs.Uniting.{pair_at, pairs_of}
use Rattle.clustering.proofs.UnitingLaws.{parts_pair, pairs_in}
use Rattle.clustering.specs.Close.{back, later_at, earlier_at, close_at, close_pair, close_turns, close_pairs}

module _ {ps : List ℤ} {v : ValidParams} {n : ℕ} (r : Ready ps v n) where
  abbrev g : Geometry
  g = geometry_at v n ps

  abbrev fs : List Frame
  fs = frames_in n v.channels ps

  L : Lawful g
  L = ready_lawful r

  -- ---- two cells
  module _ {c d : ℕ} (hc : c < length (cells (geometry_at v n ps))) (hd : d < length (cells (geometry_at v n ps))) (t : T (close_at v n ps c d)) where
    abbrev i : ℕ
    i = cell_at g c

    abbrev j : ℕ
    j = cell_at g d

    abbrev apart : Bool
    apart = ltb (N v fs i j) (v.t * v.t)

    nearer : N v fs i j < v.t * v.t
    unfolding close_at
    nearer = ltb→lt (N v fs i j) (v.t * v.t) (and_left apart (core g i && core g j) t)

    both_core : T (core g i && core g j)
    unfolding close_at
    both_core = and_right apart (core g i && core g j) t

    first_core : In i (core_members g i)
    first_core = core_in_lem g i i (cell_at_below g c hc) (and_left (core g i) (core g j) both_core) (L.same_self 0 i)

    second_core : In j (core_members g j)
    second_core = core_in_lem g j j (cell_at_below g d hd) (and_right (core g i) (core g j) both_core) (L.same_self 0 j)

    is_near : T (g.near i j)
    unfolding geometry_of near
    is_near = le→leb (N v fs i j) (4 * (v.t * v.t)) (omega (arith, nearer))

    pub close_pair_lem : T (pair_at (geometry_at v n ps) c d)
    unfolding core_cell
    close_pair_lem = parts_pair g c d (in_nonzero i (core_members g i) first_core) (in_nonzero j (core_members g j) second_core) (subst T (sym (listed_at g c d hc hd)) is_near)

    pub close_touches : Counts (frame v (frames_in n v.channels ps) (cell_at (geometry_at v n ps) c)) → Counts (frame v (frames_in n v.channels ps) (cell_at (geometry_at v n ps) d))
        → true ≡ touches (geometry_at v n ps) (cell_at (geometry_at v n ps) c) (cell_at (geometry_at v n ps) d)
    unfolding touches
    close_touches ci cj =
        let f = at_frames v n ps in
        let p = near_reaches r i j (omega (arith, cell_at_below g c hc)) (omega (arith, cell_at_below g d hd)) ci cj nearer in
        let path = Paths.reaches (g.box i) g.levels 0 in
        let q = subst T (sym (count_path g L i j)) (any_in path j (core_members g j) second_core p) in
        sym (T_true (touches g i j) (any_in (λ x. _) i (core_members g i) first_core q))

  -- ---- the sorted cells
  module _ (zs : List ℕ) (low : (p : ℕ) → p < length zs → get_or zs p 0 < length (cells (geometry_at v n ps))) where
    -- the pair of cells that are close is one of all pairs
    pair_in : (c d : ℕ) → c < length (cells g) → d < length (cells g) → (a b : ℕ) → In (a, b) (close_pair v n ps c d) → In (a, b) (pairs_of g)
    unfolding close_pair
    pair_in c d hc hd a b = go (close_at v n ps c d) refl
      where
        go : (x : Bool) → close_at v n ps c d ≡ x → In {A = ℕ × ℕ} (a, b) (cond x ((c, d) ∷ []) []) → In (a, b) (pairs_of g)
        go true e (inl q) = subst (λ (z : ℕ × ℕ). In z (pairs_of g)) (sym q) (pairs_in g c d hc hd (close_pair_lem hc hd (true_T e)))
        go true e (inr i) = absurd i
        go false e i = absurd i

    pub close_in : (a b : ℕ) → In (a, b) (close_pairs v n ps zs) → In (a, b) (pairs_of (geometry_at v n ps))
    unfolding close_pairs close_turns
    close_in a b i =
        let m = back * length zs in
        let turn : ℕ → List (ℕ × ℕ) = λ q. close_pair v n ps (later_at zs q) (earlier_at zs q) in
        let z = in_concat (a, b) (map turn (rest m (back * back))) i in
        let y = in_map turn z.0 (rest m (back * back)) z.1 in
        let q = y.0 in
        let h = in_from (back * back) (m - back * back) q y.1 in
        pair_in (later_at zs q) (earlier_at zs q) (low (q / back) (omega (arith, h.0, h.1))) (low (q / back - 1 - q % back) (omega (arith, h.0, h.1)))
        a b (subst (In (a, b)) y.2 z.2)
