-- Clusters numbered by leaders: where each core cell leads to the lowest cell of its set, a cluster's number is the number of leaders below its own.
use Rattle.std.specs.Prelude.{◌≡◌, refl, ◌&&◌, List, [], ◌∷◌, map, ℕ, suc, ◌≤◌, ◌<◌}
use Rattle.std.proofs.Math.Path.{sym, ap}
use Rattle.std.proofs.Common.{◌∙◌, inl, inr, arith, ltb→lt, lt→ltb}
use Rattle.std.proofs.Math.Nat.{le_antisymm}
use Rattle.std.proofs.Math.Dec.{ltb, eqb, eqb→eq, eqb_refl}
use Rattle.std.proofs.Math.ListN.{length}
use Rattle.std.proofs.lemmas.List.{length-map}
use Rattle.lists.specs.Lists.{keep, how_many, head_or, concat, In, Ascending}
use Rattle.lists.specs.ListLaws.{T_true, keep_in, in_keep, concat_in, in_concat, map_in, in_map, head_in}
use Rattle.lists.specs.CountLaws.{keep_keep, keep_none}
use Rattle.lists.specs.OrderLaws.{keep_ascending, ascending_same}
use Rattle.counting_tree.specs.Geometry.{Geometry}
use Rattle.cells_grid.specs.Cells.{core_cells}
use Rattle.cells_grid.specs.Lawful.{Lawful}
use Rattle.cells_grid.proofs.CellLaws.{core_cells_ascending}
use Rattle.clustering.specs.Clusters.{place, linked, clusters}
use Rattle.clustering.specs.Sets.{cover, inside, joined, closed_chain, in_sets, placed, Ranked, ranked, head_low}
use Rattle.clustering.proofs.ClusterLaws.{Linked, link_turn}

-- ---- the first cells of ranked sets
abbrev heads : List (List ℕ) → List ℕ
heads ss = map (head_or 0) ss

-- a set of ranked sets has its first cell
head_in_set : (ss : List (List ℕ)) → Ranked ss → (s : List ℕ) → In s ss → In (head_or 0 s) s
head_in_set [] r s i = absurd i
head_in_set ([] ∷ ss) r s i = absurd r
head_in_set ((a ∷ t) ∷ ss) r s (inl e) = rw e (inl refl)
head_in_set ((a ∷ t) ∷ ss) r s (inr i) = head_in_set ss r.3 s i

-- each of them is lower than those after it
head_below : (a : ℕ) (s : List ℕ) (ss : List (List ℕ)) → Ranked ((a ∷ s) ∷ ss) → (h : ℕ) → In h (heads ss) → a < h
head_below a s ss r h i = let z = in_map (head_or 0) h ss i in rw z.2 (r.0 (head_or 0 z.0) (concat_in (head_or 0 z.0) z.0 ss z.1 (head_in_set ss r.3 z.0 z.1)))

heads_ascending : (ss : List (List ℕ)) → Ranked ss → Ascending (heads ss)
heads_ascending [] r = tt
heads_ascending ([] ∷ ss) r = absurd r
heads_ascending ((a ∷ s) ∷ ss) r = (head_below a s ss r, heads_ascending ss r.3)

-- a cell's number is how many sets begin below its own
count_heads : (lead : ℕ → ℕ) (ss : List (List ℕ)) → Ranked ss → ((s : List ℕ) → In s ss → (c : ℕ) → In c s → lead c ≡ head_or 0 s)
    → (c : ℕ) → In c (concat ss) → how_many (λ h. ltb h (lead c)) (heads ss) ≡ place c ss
count_heads lead [] r first c i = absurd i
count_heads lead ([] ∷ ss) r first c i = absurd r
count_heads lead ((a ∷ s) ∷ ss) r first c i = elim (placed c (a ∷ s) ss i) [
  | inl p ↦ ap length (keep_none (λ h. ltb h (lead c)) (heads ((a ∷ s) ∷ ss)) (λ h j t. none h (first (a ∷ s) (inl refl) c p.0) j (ltb→lt h (lead c) t))) ∙ sym p.1
  | inr p ↦ rw (T_true (ltb a (lead c)) (lt→ltb a (lead c) (above p.0))) (ap suc (count_heads lead ss r.3 (λ s i. first s (inr i)) c p.0)) ∙ sym p.1
]
  where
    none : (h : ℕ) → lead c ≡ a → In h (a ∷ heads ss) → h < lead c → ⊥
    none h e (inl q) t = omega arith
    none h e (inr j) t = omega (arith, head_below a s ss r h j)

    above : In c (concat ss) → a < lead c
    above j = let z = in_concat c ss j in rw (first z.0 (inr z.1) c z.2) (head_below a s ss r (head_or 0 z.0) (map_in (head_or 0) z.0 ss z.1))

-- ---- each core cell leads to the lowest cell of its set
pub record Leads (g : Geometry) (lead : ℕ → ℕ) : Type 0 where
  pub joins : (c : ℕ) → In c (core_cells g) → Linked g c (lead c)
  pub lowest : (c d : ℕ) → Linked g c d → lead c ≤ d

module _ (g : Geometry) (L : Lawful g) (lead : ℕ → ℕ) (D : Leads g lead) where
  rank : Ranked (clusters g)
  unfolding clusters
  rank = ranked (linked g) (core_cells g) (core_cells_ascending g)

  lead_head : (s : List ℕ) → In s (clusters g) → (c : ℕ) → In c s → lead c ≡ head_or 0 s
  unfolding clusters
  lead_head s i c j =
      let link = linked g in
      let turn = link_turn g L in
      let cs = core_cells g in
      le_antisymm
      (D.lowest c (head_or 0 s) (joined link turn cs s i c (head_or 0 s) j (head_in 0 c s j)))
      (head_low (clusters g) rank s i (lead c) (closed_chain link turn cs s i (D.joins c (inside link cs s i c j)) j))

  -- the leaders are the first cells of the clusters
  leaders : keep (λ d. eqb (lead d) d) (core_cells g) ≡ heads (clusters g)
  unfolding clusters
  leaders =
      ascending_same (keep (λ d. eqb (lead d) d) (core_cells g)) (heads (clusters g))
      (keep_ascending (λ d. eqb (lead d) d) (core_cells g) (core_cells_ascending g)) (heads_ascending (clusters g) rank) to back
    where
      to : (d : ℕ) → In d (keep (λ d. eqb (lead d) d) (core_cells g)) → In d (heads (clusters g))
      to d i =
          let k = in_keep (λ d. eqb (lead d) d) d (core_cells g) i in
          let z = cover (linked g) (core_cells g) d k.0 in
          rw (← eqb→eq (lead d) d k.1, lead_head z.0 z.1 d z.2) (map_in (head_or 0) z.0 (clusters g) z.1)

      back : (d : ℕ) → In d (heads (clusters g)) → In d (keep (λ d. eqb (lead d) d) (core_cells g))
      back d i =
          let z = in_map (head_or 0) d (clusters g) i in
          let m = head_in_set (clusters g) rank z.0 z.1 in
          let h = head_or 0 z.0 in
          rw z.2 (keep_in (λ d. eqb (lead d) d) h (core_cells g) (inside (linked g) (core_cells g) z.0 z.1 h m) (rw (lead_head z.0 z.1 h m) (eqb_refl h)))

  -- a cluster's number is the number of leaders below its own
  pub number_by_leaders : (c : ℕ) → In c (core_cells g) → place c (clusters g) ≡ how_many (λ d. eqb (lead d) d && ltb d (lead c)) (core_cells g)
  unfolding clusters
  number_by_leaders c i =
      sym (count_heads lead (clusters g) rank lead_head c (in_sets (linked g) (core_cells g) c i))
      ∙ ap (how_many (λ h. ltb h (lead c))) (sym leaders)
      ∙ ap length (keep_keep (λ h. ltb h (lead c)) (λ d. eqb (lead d) d) (core_cells g))

  -- and there are as many clusters as leaders
  pub cluster_count_lem : length (clusters g) ≡ how_many (λ d. eqb (lead d) d) (core_cells g)
  cluster_count_lem = sym (length-map (clusters g) (head_or 0)) ∙ ap length (sym leaders)
