-- Laws of uniting by cell number: enough trials finish; a finished run leads each core cell to the lowest cell of its cluster, by which clusters are numbered.
use Rattle.std.specs.Prelude.{◌≡◌, Bool, ◌||◌}
use Rattle.std.proofs.Math.Path.{refl, sym, ap, ap₂, subst}
use Rattle.std.proofs.Common.{◌∙◌, le_of_eq, le_of_lt, eq-or-lt_of_le, mul-le-mul_right, eqb→eq, ltb→lt, lt→ltb, nltb→le, T_not}
use Rattle.std.proofs.Math.Logic.{inl, inr}
use Rattle.std.proofs.Math.Bool.{true, false, ◌&&◌, cond, and_assoc}
use mathlib.Core.List.{List, [], ◌∷◌, ◌++◌, map}
use Prim.Native.Nat.{ℕ, ◌+◌, ◌-◌, ◌*◌, ◌≤◌, ◌<◌, min}
use Rattle.std.proofs.Math.Nat.{le_refl, le_trans}
use native.Mathlib.Omega.{arith}
use Rattle.std.proofs.Math.Dec.{T, eqb, ltb}
use Rattle.std.proofs.Math.ListN.{length, length-map}
use Rattle.lists.specs.Lists.{numbers, keep, how_many, total, In, Below}
use Rattle.lists.specs.ListLaws.{T_true, T_false, T_or_not, both_ways, and_left, and_right, and_both, or_cases, or_one, or_two}
use Rattle.lists.specs.ListLaws.{keep_in, in_keep, keep_same, concat_in, in_concat, map_in, in_map, numbers_in, in_numbers, length_from}
use Rattle.lists.specs.CountLaws.{keep_le, keep_none, keep_keep, total_le, total_bool, length_concat, keep_map}
use Rattle.lists.specs.OrderLaws.{keep_low}
use Rattle.lists.specs.Chains.{Chain, alone, step, chain_first, chain_last}
use Rattle.counting_tree.specs.Geometry.{Geometry}
use Rattle.cells_grid.specs.Cells.{cells, cell_number, listed, core_cell, core_cells}
use Rattle.cells_grid.specs.Lawful.{Lawful}
use Rattle.cells_grid.proofs.CellLaws.{cell_first, core_cell_in, in_core_cell, listed_turn, number_cell}
use Rattle.cells_grid.specs.Arrangement.{cell_at}
use Rattle.cells_grid.proofs.ArrangementLaws.{cell_at_lem, cell_at_one, cell_at_order, cells_by_number, number_below, number_at}
use Rattle.partitions.specs.Trials.{merged, by_lowest}
use Rattle.partitions.specs.TrialLaws.{run_finishes, run_keeps, Link, Within, joined_one, one_joined}
use Rattle.clustering.specs.Clusters.{touches, linked, clusters, place}
use Rattle.clustering.proofs.ClusterLaws.{Linked, linked_parts, parts_linked}
use Rattle.clustering.proofs.Leaders.{Leads, number_by_leaders, cluster_count_lem}
use Rattle.clustering.proofs.LeaderPartition.{Lowest, unite_lowest, lower_either, equal}
use Rattle.clustering.specs.Uniting.{pair_at, one_pair, pairs_with, pairs_of, touch_at, uniting, lowest_at}
use Rattle.clustering.specs.Numbering.{Led, leads, number_by, cluster_word}

-- a chain, carried over by f
chain_along : {C D : ℕ → Type 0} {S R : ℕ → ℕ → Type 0} (f : ℕ → ℕ) → ((p : ℕ) → C p → D (f p)) → ((p q : ℕ) → C p → C q → S p q → R (f p) (f q))
    → {p q : ℕ} → Chain C S p q → Chain D R (f p) (f q)
chain_along f h k (alone {p} c) = alone (h p c)
chain_along f h k (step {p} {q} c s t) = step (h p c) (k p q c (chain_first t) s) (chain_along f h k t)

-- a pair, or none
pub if_within : (x : Bool) (c d : ℕ) {k : ℕ} → c < k → d < k → Within k (cond x ((c, d) ∷ []) [])
if_within true c d {k} h l a b (inl e) = subst (λ (z : ℕ × ℕ). (z.0 < k) × (z.1 < k)) (sym e) (h, l)
if_within true c d h l a b (inr j) = absurd j
if_within false c d h l a b j = absurd j

module _ (g : Geometry) where
  -- ---- the pairs
  abbrev cell_count : ℕ
  cell_count = length (cells g)

  -- the number of a core cell
  abbrev pub CoreNumber : ℕ → Type 0
  CoreNumber c = (c < cell_count) × T (core_cell g (cell_at g c))

  pub in_pairs : (a b : ℕ) → In (a, b) (pairs_of g) → (a < cell_count) × (b < cell_count) × T (pair_at g a b)
  unfolding pairs_of pairs_with
  in_pairs a b i =
      let all = numbers cell_count in
      let z = in_concat (a, b) (map (λ c. pairs_with g c all) all) i in
      let y = in_map (λ c. pairs_with g c all) z.0 all z.1 in
      let c = y.0 in
      let x = in_map (λ d. (c, d)) (a, b) (keep (pair_at g c) all) (rw y.2 at z.2) in
      let k = in_keep (pair_at g c) x.0 all x.1 in
      subst (λ (z : ℕ × ℕ). (z.0 < cell_count) × (z.1 < cell_count) × T (pair_at g z.0 z.1)) (sym x.2)
      (in_numbers cell_count c y.1, in_numbers cell_count x.0 k.0, k.1)

  pub pairs_in : (a b : ℕ) → a < cell_count → b < cell_count → T (pair_at g a b) → In (a, b) (pairs_of g)
  unfolding pairs_of pairs_with
  pairs_in a b h k t =
      let all = numbers cell_count in
      concat_in (a, b) (pairs_with g a all) (map (λ c. pairs_with g c all) all) (map_in (λ c. pairs_with g c all) a all (numbers_in cell_count a h))
      (map_in (λ d. (a, d)) b (keep (pair_at g a) all) (keep_in (pair_at g a) b all (numbers_in cell_count b k) t))

  pub pair_parts : (a b : ℕ) → T (pair_at g a b) → T (core_cell g (cell_at g a)) × T (core_cell g (cell_at g b)) × T (listed g (cell_at g a) (cell_at g b))
  unfolding pair_at
  pair_parts a b t =
      let both = and_left (core_cell g (cell_at g a) && core_cell g (cell_at g b)) (listed g (cell_at g a) (cell_at g b)) t in (
        and_left (core_cell g (cell_at g a)) (core_cell g (cell_at g b)) both,
        and_right (core_cell g (cell_at g a)) (core_cell g (cell_at g b)) both,
        and_right (core_cell g (cell_at g a) && core_cell g (cell_at g b)) (listed g (cell_at g a) (cell_at g b)) t,
      )

  pub parts_pair : (a b : ℕ) → T (core_cell g (cell_at g a)) → T (core_cell g (cell_at g b)) → T (listed g (cell_at g a) (cell_at g b)) → T (pair_at g a b)
  unfolding pair_at
  parts_pair a b h k l =
      and_both (core_cell g (cell_at g a) && core_cell g (cell_at g b)) (listed g (cell_at g a) (cell_at g b)) (and_both (core_cell g (cell_at g a)) (core_cell g (cell_at g b)) h k) l

  pair_numbers : (a b : ℕ) → In (a, b) (pairs_of g) → CoreNumber a × CoreNumber b
  pair_numbers a b i =
      let z = in_pairs a b i in
      let p = pair_parts a b z.2 in
      ((z.0, p.0), (z.1, p.1))

  -- the pairs of c with d and with other cells
  pub with_more : (c d : ℕ) (ds : List ℕ) → pairs_with g c (d ∷ ds) ≡ one_pair g c d ++ pairs_with g c ds
  unfolding pairs_with one_pair
  with_more c d ds = go (pair_at g c d)
    where
      go : (b : Bool) → map {B = ℕ × ℕ} (λ e. (c, e)) (cond b (d ∷ keep (pair_at g c) ds) (keep (pair_at g c) ds))
          ≡ cond b ((c, d) ∷ []) [] ++ map {B = ℕ × ℕ} (λ e. (c, e)) (keep (pair_at g c) ds)
      go true = refl
      go false = refl

  pub one_within : (c d : ℕ) {k : ℕ} → c < k → d < k → Within k (one_pair g c d)
  unfolding one_pair
  one_within c d h l = if_within (pair_at g c d) c d h l

  pub with_within : (c : ℕ) (ds : List ℕ) {k : ℕ} → c < k → Below k ds → Within k (pairs_with g c ds)
  unfolding pairs_with
  with_within c ds {k} h l a b j =
      let x = in_map (λ d. (c, d)) (a, b) (keep (pair_at g c) ds) j in
      subst (λ (z : ℕ × ℕ). (z.0 < k) × (z.1 < k)) (sym x.2) (h, l x.0 (in_keep (pair_at g c) x.0 ds x.1).0)

  -- a cell that is no core cell has no pairs
  pub with_none : (c : ℕ) (ds : List ℕ) → core_cell g (cell_at g c) ≡ false → pairs_with g c ds ≡ []
  unfolding pairs_with
  with_none c ds e = ap (map {B = ℕ × ℕ} (λ d. (c, d))) (keep_none (pair_at g c) ds (λ d i t. subst T e (pair_parts c d t).0))

  -- there are at most as many pairs as ordered pairs of cells
  pub pairs_few : length (pairs_of g) ≤ cell_count * cell_count
  unfolding pairs_of pairs_with
  pairs_few =
      let all = numbers cell_count in
      let row : ℕ → ℕ = λ c. length (pairs_with g c all) in
      let one : total (λ c. 1) all ≤ cell_count = le_trans (le_of_eq (total_bool (λ c. true) all)) (le_trans (keep_le (λ c. true) all) (le_of_eq (length_from 0 cell_count))) in
      let few : total row all ≤ total (λ c. 1) all * cell_count =
      total_le row (λ c. 1) cell_count all
      (λ c i. omega (arith, length-map {B = ℕ × ℕ} (keep (pair_at g c) all) (λ d. (c, d)), keep_le (pair_at g c) all, length_from 0 cell_count)) in
      le_trans (le_of_eq (length_concat (λ c. pairs_with g c all) all)) (le_trans few (mul-le-mul_right cell_count one))

  -- so that many trials finish
  pub uniting_finishes : (trials : ℕ) → cell_count * cell_count ≤ trials → (uniting g trials).left ≡ []
  unfolding uniting
  uniting_finishes trials h = run_finishes by_lowest (touch_at g) trials 0 (pairs_of g) (λ c. c) (omega (arith, pairs_few))

  -- ---- the lowest cells, also where the run was stopped
  module _ (trials : ℕ) where
    pub lowest_lowest : Lowest (lowest_at g trials)
    unfolding lowest_at uniting
    lowest_lowest =
        run_keeps by_lowest (touch_at g) trials Lowest (pairs_of g) (λ l a b i w. w) (λ l a b i t w. unite_lowest a b l w) 0 (λ c. c)
        (record { lower = λ x. le_refl x; itself = λ x. refl })

    pub lowest_core : (c : ℕ) → CoreNumber c → CoreNumber (lowest_at g trials c)
    unfolding lowest_at uniting
    lowest_core =
        run_keeps by_lowest (touch_at g) trials (λ l. (c : ℕ) → CoreNumber c → CoreNumber (l c)) (pairs_of g) (λ l a b i w. w) more 0 (λ c. c) (λ c h. h)
      where
        more : (l : ℕ → ℕ) (a b : ℕ) → In (a, b) (pairs_of g) → T (touch_at g a b) → ((c : ℕ) → CoreNumber c → CoreNumber (l c))
            → (c : ℕ) → CoreNumber c → CoreNumber (merged l a b c)
        more l a b i t w c h = go (eqb (l c) (l a) || eqb (l c) (l b))
          where
            z : CoreNumber a × CoreNumber b
            z = pair_numbers a b i

            low : CoreNumber (min (l a) (l b))
            low = elim (lower_either (l a) (l b)) [ inl e ↦ rw e (w a z.0) | inr e ↦ rw e (w b z.1) ]

            go : (x : Bool) → CoreNumber (cond x (min (l a) (l b)) (l c))
            go true = low
            go false = w c h

    pub lowest_led : Led (λ c. core_cell g (cell_at g c)) (lowest_at g trials) cell_count
    lowest_led = record {
      lower = λ c h t. lowest_lowest.lower c;
      itself = λ c h t. ((lowest_core c (h, t)).1, lowest_lowest.itself c);
    }

-- ---- first frames by number
module _ (g : Geometry) (L : Lawful g) where
  at_number : (c : ℕ) → In c (cells g) → cell_at g (cell_number g c) ≡ c
  at_number c i = let z = cell_first g c i in number_cell g L c 0 z.0 ∙ z.1

  -- a core cell has a core cell's number
  core_number : (c : ℕ) → In c (core_cells g) → CoreNumber g (cell_number g c)
  core_number c i =
      let z = in_core_cell g c i in
      (number_below g L c (cell_first g c z.0).0, subst (λ (f : ℕ). T (core_cell g f)) (sym (at_number c z.0)) z.1)

  number_core : (a : ℕ) → CoreNumber g a → In (cell_at g a) (core_cells g)
  number_core a h = core_cell_in g (cell_at g a) (cell_at_lem g a h.0) h.1

  at_le : (a b : ℕ) → a ≤ b → b < length (cells g) → cell_at g a ≤ cell_at g b
  at_le a b h k = elim (eq-or-lt_of_le h) [ inl e ↦ le_of_eq (ap (cell_at g) e) | inr l ↦ le_of_lt (cell_at_order g a b l k) ]

  -- ---- links by number
  abbrev LinkAt : ℕ → ℕ → Type 0
  LinkAt = Link (touch_at g) (pairs_of g)

  link_linked : (a b : ℕ) → LinkAt a b → T (linked g (cell_at g a) (cell_at g b))
  unfolding touch_at
  link_linked a b (inl h) =
      parts_linked g (cell_at g a) (cell_at g b) (pair_parts g a b (in_pairs g a b h.0).2).2 (or_one (touches g (cell_at g a) (cell_at g b)) (touches g (cell_at g b) (cell_at g a)) h.1)
  link_linked a b (inr h) =
      parts_linked g (cell_at g a) (cell_at g b) (listed_turn g L (cell_at g b) (cell_at g a) (pair_parts g b a (in_pairs g b a h.0).2).2)
      (or_two (touches g (cell_at g a) (cell_at g b)) (touches g (cell_at g b) (cell_at g a)) h.1)

  number_link : (a b : ℕ) → CoreNumber g a → CoreNumber g b → T (linked g (cell_at g a) (cell_at g b)) → LinkAt a b
  unfolding touch_at
  number_link a b h k t =
      let z = linked_parts g (cell_at g a) (cell_at g b) t in
      elim (or_cases (touches g (cell_at g a) (cell_at g b)) (touches g (cell_at g b) (cell_at g a)) z.1) [
        | inl u ↦ inl (pairs_in g a b h.0 k.0 (parts_pair g a b h.1 k.1 z.0), u)
        | inr u ↦ inr (pairs_in g b a k.0 h.0 (parts_pair g b a k.1 h.1 (listed_turn g L (cell_at g a) (cell_at g b) z.0)), u)
      ]

  linked_link : (c d : ℕ) → In c (core_cells g) → In d (core_cells g) → T (linked g c d) → LinkAt (cell_number g c) (cell_number g d)
  linked_link c d i j t =
      number_link (cell_number g c) (cell_number g d) (core_number c i) (core_number d j)
      (subst (λ (x : ℕ). T (linked g x (cell_at g (cell_number g d)))) (sym (at_number c (in_core_cell g c i).0))
      (subst (λ (x : ℕ). T (linked g c x)) (sym (at_number d (in_core_cell g d j).0)) t))

  -- ---- a finished run leads each core cell to the lowest cell of its cluster
  module _ (trials : ℕ) (done : (uniting g trials).left ≡ []) where
    abbrev low : ℕ → ℕ
    low = lowest_at g trials

    -- by first frames
    abbrev lead : ℕ → ℕ
    lead f = cell_at g (low (cell_number g f))

    one_low : {a b : ℕ} → Chain (CoreNumber g) LinkAt a b → low a ≡ low b
    unfolding lowest_at uniting
    one_low t = joined_one (touch_at g) trials (pairs_of g) (CoreNumber g) done t

    low_one : (a b : ℕ) → CoreNumber g a → CoreNumber g b → low a ≡ low b → Chain (CoreNumber g) LinkAt a b
    unfolding lowest_at uniting
    low_one a b h k e = one_joined (touch_at g) trials (pairs_of g) (CoreNumber g) (pair_numbers g) a b h k e

    leading : Leads g lead
    leading = record { joins = joins; lowest = lowest }
      where
        joins : (c : ℕ) → In c (core_cells g) → Linked g c (lead c)
        joins c i =
            let a = cell_number g c in
            let h = core_number c i in
            let t = low_one a (low a) h (lowest_core g trials a h) (sym ((lowest_lowest g trials).itself a)) in
            subst (λ (x : ℕ). Linked g x (lead c)) (at_number c (in_core_cell g c i).0)
            (chain_along (cell_at g) number_core (λ p q u v s. link_linked p q s) t)

        lowest : (c d : ℕ) → Linked g c d → lead c ≤ d
        lowest c d t =
            let b = cell_number g d in
            let j = chain_last t in
            let e = one_low (chain_along (cell_number g) core_number linked_link t) in
            subst (λ (x : ℕ). lead c ≤ x) (at_number d (in_core_cell g d j).0)
            (subst (λ (x : ℕ). cell_at g x ≤ cell_at g b) (sym e) (at_le (low b) b ((lowest_lowest g trials).lower b) (core_number d j).0))

    -- ---- clusters, by number
    abbrev is_core : ℕ → Bool
    is_core a = core_cell g (cell_at g a)

    core_cells_lem : core_cells g ≡ map (cell_at g) (keep is_core (numbers (length (cells g))))
    unfolding core_cells
    core_cells_lem = ap (keep (core_cell g)) (cells_by_number g) ∙ keep_map (core_cell g) (cell_at g) (numbers (length (cells g)))

    -- the core cells whose first frames pass f
    by_number : (f : ℕ → Bool) (h : ℕ → Bool) → ((a : ℕ) → CoreNumber g a → f (cell_at g a) ≡ h a)
        → how_many f (core_cells g) ≡ how_many (λ a. is_core a && h a) (numbers (length (cells g)))
    by_number f h e =
        let all = numbers (length (cells g)) in
        ap (how_many f) core_cells_lem
        ∙ ap length (keep_map f (cell_at g) (keep is_core all))
        ∙ length-map (keep (λ a. f (cell_at g a)) (keep is_core all)) (cell_at g)
        ∙ ap length (keep_same (λ a. f (cell_at g a)) h (keep is_core all) (λ a i. let z = in_keep is_core a all i in e a (in_numbers (length (cells g)) a z.0, z.1)))
        ∙ ap length (keep_keep h is_core all)

    lead_at : (a : ℕ) → CoreNumber g a → lead (cell_at g a) ≡ cell_at g (low a)
    lead_at a h = ap (λ (x : ℕ). cell_at g (low x)) (number_at g a h.0)

    own_lead : (a : ℕ) → CoreNumber g a → eqb (lead (cell_at g a)) (cell_at g a) ≡ eqb (low a) a
    own_lead a h =
        let b = (lowest_core g trials a h).0 in
        ap (λ (x : ℕ). eqb x (cell_at g a)) (lead_at a h)
        ∙ both_ways (eqb (cell_at g (low a)) (cell_at g a)) (eqb (low a) a)
        (λ t. equal (cell_at_one g (low a) a b h.0 (eqb→eq (cell_at g (low a)) (cell_at g a) t)))
        (λ t. equal (ap (cell_at g) (eqb→eq (low a) a t)))

    below_lead : (a c : ℕ) → CoreNumber g a → CoreNumber g c → ltb (cell_at g a) (lead (cell_at g c)) ≡ ltb a (low c)
    below_lead a c h k =
        let b = (lowest_core g trials c k).0 in
        ap (ltb (cell_at g a)) (lead_at c k)
        ∙ both_ways (ltb (cell_at g a) (cell_at g (low c))) (ltb a (low c))
        (λ t. elim (T_or_not (ltb a (low c))) [
          | inl u ↦ u
          | inr u ↦ absurd (omega (arith, ltb→lt (cell_at g a) (cell_at g (low c)) t, at_le (low c) a (nltb→le a (low c) u) h.0))
        ])
        (λ t. lt→ltb (cell_at g a) (cell_at g (low c)) (cell_at_order g a (low c) (ltb→lt a (low c) t) b))

    pub cluster_total : length (clusters g) ≡ how_many (leads is_core low) (numbers (length (cells g)))
    unfolding leads
    cluster_total = cluster_count_lem g L lead leading ∙ by_number (λ d. eqb (lead d) d) (λ a. eqb (low a) a) own_lead

    pub cluster_number : (c : ℕ) → CoreNumber g c → place (cell_at g c) (clusters g) ≡ how_many (leads is_core low) (numbers (low c))
    unfolding leads
    cluster_number c h =
        let k = length (cells g) in
        let r = low c in
        let b = (lowest_core g trials c h).0 in
        let e : k ≡ r + (k - r) = omega arith in
        number_by_leaders g L lead leading (cell_at g c) (number_core c h)
        ∙ by_number (λ d. eqb (lead d) d && ltb d (lead (cell_at g c))) (λ a. eqb (low a) a && ltb a r) (λ a u. ap₂ ◌&&◌ (own_lead a u) (below_lead a c u h))
        ∙ ap length (keep_same (λ a. is_core a && (eqb (low a) a && ltb a r)) (λ a. is_core a && eqb (low a) a && ltb a r) (numbers k) (λ a i. sym (and_assoc (is_core a) (eqb (low a) a) (ltb a r))))
        ∙ ap (λ (m : ℕ). how_many (λ a. is_core a && eqb (low a) a && ltb a r) (numbers m)) e
        ∙ ap length (keep_low (λ a. is_core a && eqb (low a) a) r (k - r))

    pub cluster_word_lem : (c : ℕ) → c < length (cells g) → number_by is_core low c ≡ cluster_word g c
    unfolding number_by cluster_word
    cluster_word_lem c h = elim (T_or_not (is_core c)) [
      | inl t ↦ rw (T_true (is_core c) t) (sym (cluster_number c (h, t)))
      | inr f ↦ rw (T_false (is_core c) (T_not (is_core c) f)) refl
    ]
