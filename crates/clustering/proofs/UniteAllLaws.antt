-- Laws of uniting with no count of trials: whatever the order of the pairs, each asked both ways at once and met from one side or from both, with some of them taken before, and without those of cells that are in one set at first, it leaves the sets that enough trials leave.
use Rattle.std.specs.Prelude.{◌≡◌, ◌⊎◌, ◌&&◌, ◌||◌, T, ℤ, length, get_or}
use Rattle.std.proofs.Math.Path.{refl, sym, ap, ap₂, subst}
use Rattle.std.proofs.Common.{◌∙◌, le_refl, le_antisymm, eqb→eq, lt-ltb, eq-eqb}
use Rattle.std.proofs.Math.Logic.{inl, inr}
use Rattle.std.proofs.Math.Bool.{Bool, true, false, not, cond, and_comm}
use mathlib.Core.List.{List, [], ◌∷◌, ◌++◌, map, map-append}
use Prim.Native.Nat.{ℕ, suc, ◌+◌, ◌*◌, ◌<◌, ◌≤◌, min}
use Rattle.std.proofs.Math.Decide.{ℕ_discrete}
use native.Mathlib.Omega.{arith}
use Rattle.std.proofs.Math.Dec.{eqb}
use Rattle.lists.specs.Lists.{numbers, keep, concat, In, Below}
use Rattle.lists.specs.ListLaws.{true_T, not_turn, or_cases, or_one, or_two, keep_in, in_keep, keep_same, append_two, in_append, concat_in, in_concat, map_in, in_map, numbers_in, in_numbers}
use Rattle.lists.specs.CountLaws.{keep_append, keep_keep, keep_map, concat_append}
use Rattle.lists.specs.Chains.{Chain, alone, step}
use Rattle.hyperparams.specs.declared.ValidParams.{ValidParams}
use Rattle.counting_tree.specs.Geometry.{Geometry}
use Rattle.counting_tree.specs.Ready.{geometry_at, Ready}
use Rattle.cells_grid.specs.Cells.{cells, listed, core_cell}
use Rattle.cells_grid.specs.Lawful.{Lawful}
use Rattle.cells_grid.proofs.CellLaws.{listed_turn}
use Rattle.cells_grid.specs.Arrangement.{cell_at}
use Rattle.cells_grid.specs.Listing.{unmarked, unlike, later_of}
use Rattle.cells_grid.proofs.ListingLaws.{later_sound, later_complete}
use Rattle.partitions.specs.Leaders.{shorten_both}
use Rattle.partitions.specs.LeaderLaws.{Stands, both_stand, united_stands}
use Rattle.partitions.specs.Trials.{Holding, Outcome, run, merged, by_lowest}
use Rattle.partitions.specs.TrialLaws.{run_finishes, run_keeps, Link, Within, joined_one, one_joined}
use Rattle.clustering.proofs.LeaderPartition.{Lowest, unite_lowest}
use Rattle.clustering.specs.Uniting.{pair_at, pairs_with, pairs_of, touch_at, uniting, lowest_at}
use Rattle.clustering.proofs.UnitingLaws.{in_pairs, pairs_in, pair_parts, parts_pair, with_within, pairs_few}
use Rattle.clustering.specs.UniteAll.{link_at, meet, meet_all, by_own_leaders, pairs_by}

-- ---- however sets are held
module _ {S : Type 0} (h : Holding S) (touch : ℕ → ℕ → Bool) where
  -- some pairs, and then others
  pub meet_append : (ps qs : List (ℕ × ℕ)) (s : S) → meet_all h touch (ps ++ qs) s ≡ meet_all h touch qs (meet_all h touch ps s)
  unfolding meet_all
  meet_append [] qs s = refl
  meet_append ((a, b) ∷ ps) qs s = meet_append ps qs (meet h touch a b s)

  -- a run with a trial for each pair leaves the same
  run_meets : (trials used : ℕ) (ps : List (ℕ × ℕ)) (s : S) → used + length ps ≤ trials → (run h touch trials used ps s).sets ≡ meet_all h touch ps s
  unfolding run meet_all meet
  run_meets trials used [] s k = refl
  run_meets trials used ((a, b) ∷ ps) s k =
      let asked = h.asked s a b in
      let tried = cond (touch a b) (h.join asked a b) asked in
      let l : used < trials = omega arith in
      rw (lt-ltb used trials l) (go (h.same s a b) (run h touch trials used ps asked) (run h touch trials (suc used) ps tried) asked tried
      (run_meets trials used ps asked (omega arith)) (run_meets trials (suc used) ps tried (omega arith)))
    where
      go : (x : Bool) (A B : Outcome S) (y z : S) → A.sets ≡ meet_all h touch ps y → B.sets ≡ meet_all h touch ps z → (cond x A B).sets ≡ meet_all h touch ps (cond x y z)
      go true A B y z e f = e
      go false A B y z e f = f

-- ---- by lowest cell, from each cell by itself
module _ (touch : ℕ → ℕ → Bool) where
  abbrev lowest : List (ℕ × ℕ) → ℕ → ℕ
  lowest ps = meet_all by_lowest touch ps (λ c. c)

  -- which cells are joined, whatever they are
  abbrev Tied : List (ℕ × ℕ) → ℕ → ℕ → Type 0
  Tied ps = Chain (λ c. Unit {0}) (Link touch ps)

  module _ (ps : List (ℕ × ℕ)) where
    tried : (run by_lowest touch (length ps) 0 ps (λ c. c)).sets ≡ lowest ps
    tried = run_meets by_lowest touch (length ps) 0 ps (λ c. c) (omega arith)

    lowest_lowest : Lowest (lowest ps)
    lowest_lowest =
        subst Lowest tried
        (run_keeps by_lowest touch (length ps) Lowest ps (λ l a b i w. w) (λ l a b i t w. unite_lowest a b l w) 0 (λ c. c)
        (record { lower = λ x. le_refl x; itself = λ x. refl }))

    tied_one : {x y : ℕ} → Tied ps x y → lowest ps x ≡ lowest ps y
    tied_one {x} {y} t =
        subst (λ (l : ℕ → ℕ). l x ≡ l y) tried
        (joined_one touch (length ps) ps (λ c. Unit {0}) (run_finishes by_lowest touch (length ps) 0 ps (λ c. c) (omega arith)) t)

    one_tied : (x y : ℕ) → lowest ps x ≡ lowest ps y → Tied ps x y
    one_tied x y e = one_joined touch (length ps) ps (λ c. Unit {0}) (λ a b i. (tt, tt)) x y tt tt (subst (λ (l : ℕ → ℕ). l x ≡ l y) (sym tried) e)

-- the links of one relation carried over to another's; a link of a cell to itself joins nothing
module _ (f h : ℕ → ℕ → Bool) (ps qs : List (ℕ × ℕ)) (links : (a b : ℕ) → (a ≡ b → ⊥) → Link f ps a b → Link h qs a b) where
  tied_map : {x y : ℕ} → Tied f ps x y → Tied h qs x y
  tied_map (alone c) = alone c
  tied_map (step {p} {q} {r} c s t) = go (ℕ_discrete p q) (tied_map t)
    where
      go : Dec (p ≡ q) → Tied h qs q r → Tied h qs p r
      go (yes e) u = rw e u
      go (no n) u = step c (links p q n s) u

  -- more links leave lower cells
  more_lower : (x : ℕ) → lowest h qs x ≤ lowest f ps x
  more_lower x =
      let e = tied_one h qs (tied_map (one_tied f ps (lowest f ps x) x ((lowest_lowest f ps).itself x))) in
      subst (λ (y : ℕ). y ≤ lowest f ps x) e ((lowest_lowest h qs).lower (lowest f ps x))

-- NEITHER THE ORDER MATTERS NOR WHICH OF A PAIR IS ASKED: the same links leave the same lowest cells
pub any_order : (f h : ℕ → ℕ → Bool) (ps qs : List (ℕ × ℕ)) → ((a b : ℕ) → (a ≡ b → ⊥) → Link f ps a b → Link h qs a b) → ((a b : ℕ) → (a ≡ b → ⊥) → Link h qs a b → Link f ps a b)
    → (x : ℕ) → lowest f ps x ≡ lowest h qs x
any_order f h ps qs to back x = le_antisymm (more_lower h f qs ps back x) (more_lower f h ps qs to x)

-- ---- by leaders in memory
module _ (touch : ℕ → ℕ → Bool) (n : ℕ) where
  pub asked_stand : {l : ℕ → ℕ} {p : List ℕ} → Stands n l p → (a b : ℕ) → a < n → b < n → Stands n l (by_own_leaders.asked p a b)
  asked_stand {l} {p} s a b h k = go (eqb (get_or p a 0) (get_or p b 0))
    where
      go : (x : Bool) → Stands n l (cond x p (shorten_both p a b))
      go true = s
      go false = both_stand s a b h k

  -- leaders that stand for sets go as these sets do
  pub meet_stands : {l : ℕ → ℕ} {p : List ℕ} → Stands n l p → (a b : ℕ) → a < n → b < n → Stands n (meet by_lowest touch a b l) (meet by_own_leaders touch a b p)
  unfolding meet
  meet_stands {l} {p} s a b h k =
      let t = asked_stand s a b h k in
      rw (s.roots a h, s.roots b k) (go (eqb (l a) (l b)) (touch a b) t (united_stands (both_stand t a b h k) a b h k))
    where
      go : (x y : Bool) {q r : List ℕ} {m : ℕ → ℕ} → Stands n l q → Stands n m r → Stands n (cond x l (cond y m l)) (cond x q (cond y r q))
      go true y u v = u
      go false true u v = v
      go false false u v = u

  pub all_stand : (ps : List (ℕ × ℕ)) → Within n ps → {l : ℕ → ℕ} {p : List ℕ} → Stands n l p → Stands n (meet_all by_lowest touch ps l) (meet_all by_own_leaders touch ps p)
  unfolding meet_all
  all_stand [] w s = s
  all_stand ((a, b) ∷ ps) w s = let h = w a b (inl refl) in all_stand ps (λ c d i. w c d (inr i)) (meet_stands s a b h.0 h.1)

  -- a pair in one set is passed
  meet_same : (a b : ℕ) (l : ℕ → ℕ) → l a ≡ l b → meet by_lowest touch a b l ≡ l
  unfolding meet
  meet_same a b l e = rw (eq-eqb (l a) (l b) e)

  -- cells in one set stay in one
  meet_keeps : (a b : ℕ) (l : ℕ → ℕ) (x y : ℕ) → l x ≡ l y → meet by_lowest touch a b l x ≡ meet by_lowest touch a b l y
  unfolding meet
  meet_keeps a b l x y e = go (eqb (l a) (l b)) (touch a b)
    where
      go : (u v : Bool) → cond u l (cond v (merged l a b) l) x ≡ cond u l (cond v (merged l a b) l) y
      go true v = e
      go false true = ap (λ (z : ℕ). cond (eqb z (l a) || eqb z (l b)) (min (l a) (l b)) z) e
      go false false = e

  -- so pairs that are in one set at first can be left out
  fewer_stand : (f : ℕ × ℕ → Bool) (ps : List (ℕ × ℕ)) → Within n ps → {l : ℕ → ℕ} {p : List ℕ} → ((a b : ℕ) → In (a, b) ps → f (a, b) ≡ false → l a ≡ l b)
      → Stands n l p → Stands n (meet_all by_lowest touch ps l) (meet_all by_own_leaders touch (keep f ps) p)
  unfolding meet_all
  fewer_stand f [] w o s = s
  fewer_stand f ((a, b) ∷ ps) w {l} {p} o s =
      let h = w a b (inl refl) in
      let v : Within n ps = λ c d i. w c d (inr i) in
      go (f (a, b)) (o a b (inl refl))
      (fewer_stand f ps v (λ c d i e. meet_keeps a b l c d (o c d (inr i) e)) (meet_stands s a b h.0 h.1))
      (fewer_stand f ps v (λ c d i. o c d (inr i)) s)
    where
      go : (x : Bool) → (x ≡ false → l a ≡ l b) → Stands n (meet_all by_lowest touch ps (meet by_lowest touch a b l)) (meet_all by_own_leaders touch (keep f ps) (meet by_own_leaders touch a b p))
          → Stands n (meet_all by_lowest touch ps l) (meet_all by_own_leaders touch (keep f ps) p)
          → Stands n (meet_all by_lowest touch ps (meet by_lowest touch a b l)) (meet_all by_own_leaders touch (cond x ((a, b) ∷ keep f ps) (keep f ps)) p)
      go true e t u = t
      go false e t u = rw (meet_same a b l (e refl)) u

-- ---- a cell with the cells of a list
module _ (g : Geometry) where
  -- the pairs of c with some of the cells ds are some of its pairs
  with_some : (f : ℕ × ℕ → Bool) (c : ℕ) (ds : List ℕ) → pairs_with g c (keep (λ d. f (c, d)) ds) ≡ keep f (pairs_with g c ds)
  unfolding pairs_with
  with_some f c ds =
      let with-c : ℕ → Bool = λ d. f (c, d) in
      ap (map {B = ℕ × ℕ} (λ d. (c, d)))
      (keep_keep (pair_at g c) with-c ds
      ∙ keep_same (λ d. with-c d && pair_at g c d) (λ d. pair_at g c d && with-c d) ds (λ d i. and_comm (with-c d) (pair_at g c d))
      ∙ sym (keep_keep with-c (pair_at g c) ds))
      ∙ sym (keep_map f (λ d. (c, d)) (keep (pair_at g c) ds))

-- ---- cells with the cells of their lists
module _ (g : Geometry) (lists : ℕ → List ℕ) where
  -- the pairs of some cells, and then those of others
  pub by_append : (cs ds : List ℕ) → pairs_by g lists (cs ++ ds) ≡ pairs_by g lists cs ++ pairs_by g lists ds
  unfolding pairs_by
  by_append cs ds = let row : ℕ → List (ℕ × ℕ) = λ c. pairs_with g c (lists c) in ap concat (map-append row cs ds) ∙ concat_append (map row cs) (map row ds)

  by_some : (f : ℕ × ℕ → Bool) (cs : List ℕ) → pairs_by g (λ c. keep (λ d. f (c, d)) (lists c)) cs ≡ keep f (pairs_by g lists cs)
  unfolding pairs_by
  by_some f [] = refl
  by_some f (c ∷ cs) = ap₂ (λ (ps qs : List (ℕ × ℕ)). ps ++ qs) (with_some g f c (lists c)) (by_some f cs) ∙ sym (keep_append f (pairs_with g c (lists c)) (pairs_by g lists cs))

  pub by_within : {n : ℕ} → ((c : ℕ) → c < n → Below n (lists c)) → (cs : List ℕ) → Below n cs → Within n (pairs_by g lists cs)
  unfolding pairs_by
  by_within low [] below a b i = absurd i
  by_within low (c ∷ cs) below a b i = elim (in_append (a, b) (pairs_with g c (lists c)) (pairs_by g lists cs) i) [
    | inl j ↦ let h = below c (inl refl) in with_within g c (lists c) h (low c h) a b j
    | inr j ↦ by_within low cs (λ d k. below d (inr k)) a b j
  ]

  -- where each cell's mark is the lowest cell of its set, cells of one mark are in one set, and need not be met
  pub unlike_stand : (touch : ℕ → ℕ → Bool) (n : ℕ) (ms cs : List ℕ) → Within n (pairs_by g lists cs) → {l : ℕ → ℕ} {p : List ℕ}
      → ((c : ℕ) → c < n → get_or ms c 0 ≡ l c) → Stands n l p → Stands n (meet_all by_lowest touch (pairs_by g lists cs) l) (meet_all by_own_leaders touch (pairs_by g (unlike ms lists) cs) p)
  unfolding unmarked
  unlike_stand touch n ms cs within {l} {p} low s =
      subst (λ (qs : List (ℕ × ℕ)). Stands n (meet_all by_lowest touch (pairs_by g lists cs) l) (meet_all by_own_leaders touch qs p)) (sym (by_some other cs))
      (fewer_stand touch n other (pairs_by g lists cs) within one s)
    where
      other : ℕ × ℕ → Bool
      other z = not (eqb (get_or ms z.1 0) (get_or ms z.0 0))

      one : (a b : ℕ) → In (a, b) (pairs_by g lists cs) → other (a, b) ≡ false → l a ≡ l b
      one a b i e =
          let h = within a b i in
          let q = eqb→eq (get_or ms b 0) (get_or ms a 0) (true_T (not_turn (eqb (get_or ms b 0) (get_or ms a 0)) false e)) in
          sym (low a h.0) ∙ sym q ∙ low b h.1

-- ---- linked pairs
module _ (g : Geometry) where
  pub touch_links : (c d : ℕ) → T (touch_at g c d) → T (link_at g c d)
  unfolding link_at
  touch_links c d = or_one (touch_at g c d) (touch_at g d c)

  touch_links_back : (c d : ℕ) → T (touch_at g c d) → T (link_at g d c)
  unfolding link_at
  touch_links_back c d = or_two (touch_at g d c) (touch_at g c d)

  module _ (L : Lawful g) where
    -- pairs stand both ways round
    pair_turn : (a b : ℕ) → T (pair_at g a b) → T (pair_at g b a)
    pair_turn a b t = let p = pair_parts g a b t in parts_pair g b a p.1 p.0 (listed_turn g L (cell_at g a) (cell_at g b) p.2)

    -- so one that is linked touches, as it stands or turned
    link_touches : (a b : ℕ) → In (a, b) (pairs_of g) → T (link_at g a b) → Link (touch_at g) (pairs_of g) a b
    unfolding link_at
    link_touches a b i t =
        let z = in_pairs g a b i in
        elim (or_cases (touch_at g a b) (touch_at g b a) t) [ inl u ↦ inl (i, u) | inr u ↦ inr (pairs_in g b a z.1 z.0 (pair_turn a b z.2), u) ]

-- ---- the pairs by lists, in any order
-- a list has core cells that its cell lists, and no others; of two core cells that list each other one has the other on its list
pub record Lists (g : Geometry) (lists : ℕ → List ℕ) : Type 0 where
  pub sound : (c d : ℕ) → c < length (cells g) → In d (lists c) → (d < length (cells g)) × T (core_cell g (cell_at g d)) × T (listed g (cell_at g c) (cell_at g d))
  pub complete : (c d : ℕ) → c < length (cells g) → d < length (cells g) → (c ≡ d → ⊥) → T (core_cell g (cell_at g c)) → T (core_cell g (cell_at g d)) → T (listed g (cell_at g c) (cell_at g d))
      → In d (lists c) ⊎ In c (lists d)

module _ (g : Geometry) (lists : ℕ → List ℕ) where
  abbrev cell_count : ℕ
  cell_count = length (cells g)

  module _ (exact : Lists g lists) where
    by_in : (a b : ℕ) → In (a, b) (pairs_by g lists (numbers cell_count)) → In (a, b) (pairs_of g)
    unfolding pairs_by pairs_with
    by_in a b i =
        let all = numbers cell_count in
        let z = in_concat (a, b) (map (λ c. pairs_with g c (lists c)) all) i in
        let y = in_map (λ c. pairs_with g c (lists c)) z.0 all z.1 in
        let c = y.0 in
        let h = in_numbers cell_count c y.1 in
        let x = in_map (λ d. (c, d)) (a, b) (keep (pair_at g c) (lists c)) (rw y.2 at z.2) in
        let k = in_keep (pair_at g c) x.0 (lists c) x.1 in
        subst (λ (z : ℕ × ℕ). In z (pairs_of g)) (sym x.2) (pairs_in g c x.0 h (exact.sound c x.0 h k.0).0 k.1)

    -- a cell of c's list that is with it a pair
    list_in_lem : (c d : ℕ) → c < cell_count → In d (lists c) → T (pair_at g c d) → In (c, d) (pairs_by g lists (numbers cell_count))
    unfolding pairs_by pairs_with
    list_in_lem c d h i t =
        let all = numbers cell_count in
        concat_in (c, d) (pairs_with g c (lists c)) (map (λ c. pairs_with g c (lists c)) all) (map_in (λ c. pairs_with g c (lists c)) c all (numbers_in cell_count c h))
        (map_in (λ d. (c, d)) d (keep (pair_at g c) (lists c)) (keep_in (pair_at g c) d (lists c) i t))

    in_by : Lawful g → (a b : ℕ) → (a ≡ b → ⊥) → In (a, b) (pairs_of g) → In (a, b) (pairs_by g lists (numbers cell_count)) ⊎ In (b, a) (pairs_by g lists (numbers cell_count))
    in_by L a b n i =
        let z = in_pairs g a b i in
        let p = pair_parts g a b z.2 in
        elim (exact.complete a b z.0 z.1 n p.0 p.1 p.2) [ inl j ↦ inl (list_in_lem a b z.0 j z.2) | inr j ↦ inr (list_in_lem b a z.1 j (pair_turn g L a b z.2)) ]

    module _ (L : Lawful g) (trials : ℕ) (enough : cell_count * cell_count ≤ trials) (before : List (ℕ × ℕ)) (some : (a b : ℕ) → In (a, b) before → In (a, b) (pairs_of g)) where
      abbrev all : List (ℕ × ℕ)
      all = pairs_by g lists (numbers cell_count)

      one_of : (a b : ℕ) → In (a, b) (before ++ all) → In (a, b) (pairs_of g)
      one_of a b i = elim (in_append (a, b) before all i) [ inl j ↦ some a b j | inr j ↦ by_in a b j ]

      to_links : (a b : ℕ) → (a ≡ b → ⊥) → Link (link_at g) (before ++ all) a b → Link (touch_at g) (pairs_of g) a b
      to_links a b n (inl i) = link_touches g L a b (one_of a b i.0) i.1
      to_links a b n (inr i) = elim (link_touches g L b a (one_of b a i.0) i.1) [ inl j ↦ inr j | inr j ↦ inl j ]

      touch_links_all : (a b : ℕ) → (a ≡ b → ⊥) → In (a, b) (pairs_of g) → T (touch_at g a b) → Link (link_at g) (before ++ all) a b
      touch_links_all a b n i t = elim (in_by L a b n i) [
        | inl j ↦ inl (append_two (a, b) before all j, touch_links g a b t)
        | inr j ↦ inr (append_two (b, a) before all j, touch_links_back g a b t)
      ]

      back_links : (a b : ℕ) → (a ≡ b → ⊥) → Link (touch_at g) (pairs_of g) a b → Link (link_at g) (before ++ all) a b
      back_links a b n (inl i) = touch_links_all a b n i.0 i.1
      back_links a b n (inr i) = elim (touch_links_all b a (λ e. n (sym e)) i.0 i.1) [ inl j ↦ inr j | inr j ↦ inl j ]

      -- some of the pairs and then all of them leave what enough trials leave
      by_lowest_lem : (x : ℕ) → meet_all by_lowest (link_at g) all (meet_all by_lowest (link_at g) before (λ c. c)) x ≡ lowest_at g trials x
      unfolding lowest_at uniting
      by_lowest_lem x =
          ap (λ (l : ℕ → ℕ). l x) (sym (meet_append by_lowest (link_at g) before all (λ c. c)))
          ∙ any_order (link_at g) (touch_at g) (before ++ all) (pairs_of g) to_links back_links x
          ∙ ap (λ (l : ℕ → ℕ). l x) (sym (run_meets by_lowest (touch_at g) trials 0 (pairs_of g) (λ c. c) (omega (arith, pairs_few g))))

      pub lists_stand : {p : List ℕ} → Stands cell_count (meet_all by_lowest (link_at g) all (meet_all by_lowest (link_at g) before (λ c. c))) p → Stands cell_count (lowest_at g trials) p
      lists_stand s = record { falling = s.falling; size = s.size; roots = λ c h. s.roots c h ∙ by_lowest_lem c }

-- the cells that each cell finds from its own row on are such
pub later_lists : {ps : List ℤ} {v : ValidParams} {n : ℕ} → Ready ps v n → Lists (geometry_at v n ps) (later_of v n ps)
later_lists r = record { sound = λ c d h. later_sound r c h d; complete = later_complete r }
