-- `connected` gives the connected sets: two cells have one number exactly if a chain of links joins them.
-- Of ascending cells, no number is left out, and a set with a lower number begins with a lower cell.
use Rattle.std.specs.Prelude.{◌≡◌, refl, ◌⊎◌, Bool, true, false, cond, List, [], ◌∷◌, ℕ, zero, suc, ◌≤◌, ◌<◌, T, length}
use Rattle.std.proofs.Common.{sym, ap, ap₂, ◌∙◌, inl, inr, suc-le-suc, le_refl, le_trans, le_of_eq, le_of_lt, not-suc-le-zero, le_of_suc-le-suc, arith, T_not}
use Rattle.std.proofs.Math.Nat.{suc_inj}
use Rattle.lists.specs.Lists.{keep, lose, any, head_or, concat, In, Ascending, holds}
use Rattle.lists.specs.ListLaws.{T_or_not, both_ways, cond_true, cond_false, keep_in, in_keep, lose_in, in_lose, any_in, in_any, append_two, in_append, concat_in, in_concat, concat_within, holds_in, in_holds, held, not_held}
use Rattle.lists.specs.CountLaws.{lose_le}
use Rattle.lists.specs.Chains.{Chain, alone, step, chain_first, chain_join, chain_turn, chain_map}
use Rattle.clustering.specs.Clusters.{connected, place}

-- a chain of links joins c and d, over cells of cs
abbrev pub Joined : (ℕ → ℕ → Bool) → List ℕ → ℕ → ℕ → Type 0
Joined link cs = Chain (λ c. In c cs) (λ c d. T (link c d))

module _ (link : ℕ → ℕ → Bool) where
  -- ---- every cell is in a set, and what is in a set is a cell
  -- the sets with a cell that a is linked to, as one
  abbrev around : ℕ → List ℕ → List ℕ
  around a cs = concat (keep (any (link a)) (connected link cs))

  around_in : (a : ℕ) (cs s : List ℕ) (c : ℕ) → In s (connected link cs) → T (any (link a) s) → In c s → In c (around a cs)
  around_in a cs s c i t j = concat_in c s (keep (any (link a)) (connected link cs)) (keep_in (any (link a)) s (connected link cs) i t) j

  in_around : (a : ℕ) (cs : List ℕ) (c : ℕ) → In c (around a cs) → (s : List ℕ) × In s (connected link cs) × T (any (link a) s) × In c s
  in_around a cs c i =
      let z = in_concat c (keep (any (link a)) (connected link cs)) i in
      let k = in_keep (any (link a)) z.0 (connected link cs) z.1 in
      (z.0, k.0, k.1, z.2)

  pub cover : (cs : List ℕ) (c : ℕ) → In c cs → (s : List ℕ) × In s (connected link cs) × In c s
  cover [] c i = absurd i
  cover (a ∷ cs) c (inl e) = (a ∷ around a cs, inl refl, inl e)
  cover (a ∷ cs) c (inr i) =
      let z = cover cs c i in
      elim (T_or_not (any (link a) z.0)) [
        | inl h ↦ (a ∷ around a cs, inl refl, inr (around_in a cs z.0 c z.1 h z.2))
        | inr h ↦ (z.0, inr (lose_in (any (link a)) z.0 (connected link cs) z.1 h), z.2)
      ]

  pub inside : (cs s : List ℕ) → In s (connected link cs) → (c : ℕ) → In c s → In c cs
  inside [] s i c j = absurd i
  inside (a ∷ cs) s (inl e) c j = elim (rw e at j) [
    | inl p ↦ inl p
    | inr k ↦ let z = in_around a cs c k in inr (inside cs z.0 z.1 c z.3)
  ]
  inside (a ∷ cs) s (inr i) c j = inr (inside cs s (in_lose (any (link a)) s (connected link cs) i).0 c j)

  -- there are no more sets than cells
  pub connected_le : (cs : List ℕ) → length (connected link cs) ≤ length cs
  connected_le [] = le_refl zero
  connected_le (c ∷ cs) = suc-le-suc (le_trans (lose_le (any (link c)) (connected link cs)) (connected_le cs))

module _ (link : ℕ → ℕ → Bool) (turn : (c d : ℕ) → T (link c d) → T (link d c)) where
  -- ---- the cells of a set are joined, and all that are joined to one of them are in it
  wider : (a : ℕ) (cs : List ℕ) {c d : ℕ} → Joined link cs c d → Joined link (a ∷ cs) c d
  wider a cs t = chain_map (λ p i. inr i) (λ p q l. l) t

  pub joined : (cs s : List ℕ) → In s (connected link cs) → (c d : ℕ) → In c s → In d s → Joined link cs c d
  joined [] s i c d j k = absurd i
  joined (a ∷ cs) s (inl e) c d j k = chain_join (chain_turn turn (hub (joined cs) c (rw e at j))) (hub (joined cs) d (rw e at k))
    where
      hub : ((s : List ℕ) → In s (connected link cs) → (c d : ℕ) → In c s → In d s → Joined link cs c d) → (x : ℕ) → In x (a ∷ around link a cs) → Joined link (a ∷ cs) a x
      hub r x (inl e) = rw e (alone (inl refl))
      hub r x (inr i) =
          let z = in_around link a cs x i in
          let w = in_any (link a) z.0 z.2 in
          step (inl refl) w.2 (wider a cs (r z.0 z.1 w.0 x w.1 z.3))
  joined (a ∷ cs) s (inr i) c d j k = wider a cs (joined cs s (in_lose (any (link a)) s (connected link cs) i).0 c d j k)

  closed : (cs s : List ℕ) → In s (connected link cs) → (c d : ℕ) → In d cs → T (link c d) → In c s → In d s
  closed [] s i c d m l j = absurd i
  closed (a ∷ cs) s (inl e) c d m l j = rw e (go (closed cs) m (rw e at j))
    where
      go : ((s : List ℕ) → In s (connected link cs) → (c d : ℕ) → In d cs → T (link c d) → In c s → In d s) → In d (a ∷ cs) → In c (a ∷ around link a cs) → In d (a ∷ around link a cs)
      go r (inl q) x = inl q
      go r (inr q) (inl p) = let z = cover link cs d q in inr (around_in link a cs z.0 d z.1 (any_in (link a) d z.0 z.2 (rw p at l)) z.2)
      go r (inr q) (inr p) = let z = in_around link a cs c p in inr (around_in link a cs z.0 d z.1 z.2 (r z.0 z.1 c d q l z.3))
  closed (a ∷ cs) s (inr i) c d (inl q) l j = absurd (T_not (any (link a) s) (in_lose (any (link a)) s (connected link cs) i).1 (any_in (link a) c s j (turn c a (rw q at l))))
  closed (a ∷ cs) s (inr i) c d (inr q) l j = closed cs s (in_lose (any (link a)) s (connected link cs) i).0 c d q l j

  pub closed_chain : (cs s : List ℕ) → In s (connected link cs) → {c d : ℕ} → Joined link cs c d → In c s → In d s
  closed_chain cs s i (alone m) j = j
  closed_chain cs s i (step {p} {q} m l t) j = closed_chain cs s i t (closed cs s i p q (chain_first t) l j)

-- ---- numbers
pub place_same : (c d : ℕ) (ss : List (List ℕ)) → ((s : List ℕ) → In s ss → holds c s ≡ holds d s) → place c ss ≡ place d ss
place_same c d [] h = refl
place_same c d (s ∷ ss) h = ap₂ (λ (b : Bool) (n : ℕ). cond b 0 (suc n)) (h s (inl refl)) (place_same c d ss (λ r i. h r (inr i)))

-- a cell that is in some set is in the first and has the number 0, or in a later one and has its number there, and one
pub placed : (c : ℕ) (t : List ℕ) (ss : List (List ℕ)) → In c (concat (t ∷ ss)) → (In c t × (place c (t ∷ ss) ≡ 0)) ⊎ (In c (concat ss) × (place c (t ∷ ss) ≡ suc (place c ss)))
placed c t ss i = elim (T_or_not (holds c t)) [
  | inl h ↦ inl (in_holds c t h, cond_true (holds c t) 0 (suc (place c ss)) h)
  | inr n ↦ inr (elim (in_append c t (concat ss) i) [ inl k ↦ absurd (T_not (holds c t) n (holds_in c t k)) | inr k ↦ k ], cond_false (holds c t) 0 (suc (place c ss)) n)
]

-- two cells with one number, both in some set, are in one set
pub place_meet : (c d : ℕ) (ss : List (List ℕ)) → In c (concat ss) → In d (concat ss) → place c ss ≡ place d ss → (s : List ℕ) × In s ss × In c s × In d s
place_meet c d [] i j e = absurd i
place_meet c d (t ∷ ss) i j e = elim (placed c t ss i) [
  | inl a ↦ elim (placed d t ss j) [ inl b ↦ (t, inl refl, a.0, b.0) | inr b ↦ absurd (omega (arith, a.1, b.1)) ]
  | inr a ↦ elim (placed d t ss j) [
    | inl b ↦ absurd (omega (arith, a.1, b.1))
    | inr b ↦ let z = place_meet c d ss a.0 b.0 (suc_inj (sym a.1 ∙ e ∙ b.1)) in (z.0, inr z.1, z.2, z.3)
  ]
]

place_low : (c : ℕ) (ss : List (List ℕ)) → In c (concat ss) → place c ss < length ss
place_low c [] i = absurd i
place_low c (t ∷ ss) i = elim (placed c t ss i) [ inl a ↦ omega (arith, a.1) | inr a ↦ omega (arith, a.1, place_low c ss a.0) ]

module _ (link : ℕ → ℕ → Bool) where
  pub in_sets : (cs : List ℕ) (c : ℕ) → In c cs → In c (concat (connected link cs))
  in_sets cs c i = let z = cover link cs c i in concat_in c z.0 (connected link cs) z.1 z.2

  pub sets_in : (cs : List ℕ) (c : ℕ) → In c (concat (connected link cs)) → In c cs
  sets_in cs c i = let z = in_concat c (connected link cs) i in inside link cs z.0 z.1 c z.2

  -- a cell's number is below the number of sets
  pub number_low : (cs : List ℕ) (c : ℕ) → In c cs → place c (connected link cs) < length (connected link cs)
  number_low cs c i = place_low c (connected link cs) (in_sets cs c i)

  module _ (turn : (c d : ℕ) → T (link c d) → T (link d c)) where
    pub one_number : (cs : List ℕ) (c d : ℕ) → Joined link cs c d → place c (connected link cs) ≡ place d (connected link cs)
    one_number cs c d t = place_same c d (connected link cs) (λ s i. both_ways (holds c s) (holds d s)
        (λ h. holds_in d s (closed_chain link turn cs s i t (in_holds c s h)))
        (λ h. holds_in c s (closed_chain link turn cs s i (chain_turn turn t) (in_holds d s h))))

    pub number_joins : (cs : List ℕ) (c d : ℕ) → In c cs → In d cs → place c (connected link cs) ≡ place d (connected link cs) → Joined link cs c d
    number_joins cs c d i j e =
        let z = place_meet c d (connected link cs) (in_sets cs c i) (in_sets cs d j) e in
        joined link turn cs z.0 z.1 c d z.2 z.3

-- ---- the order of the sets
-- sets that share no cell, each with its lowest cell first, which is lower than each cell of the later sets
abbrev pub Ranked : List (List ℕ) → Type 0
Ranked [] = Unit {0}
Ranked ([] ∷ ss) = ⊥
Ranked ((h ∷ s) ∷ ss) = ((x : ℕ) → In x (concat ss) → h < x) × ((x : ℕ) → In x (h ∷ s) → In x (concat ss) → ⊥) × ((x : ℕ) → In x (h ∷ s) → h ≤ x) × Ranked ss

lose_concat : (f : List ℕ → Bool) (ss : List (List ℕ)) (x : ℕ) → In x (concat (lose f ss)) → In x (concat ss)
lose_concat f ss x i = concat_within x (lose f ss) ss (λ s j. (in_lose f s ss j).0) i

keep_concat : (f : List ℕ → Bool) (ss : List (List ℕ)) (x : ℕ) → In x (concat (keep f ss)) → In x (concat ss)
keep_concat f ss x i = concat_within x (keep f ss) ss (λ s j. (in_keep f s ss j).0) i

lose_ranked : (f : List ℕ → Bool) (ss : List (List ℕ)) → Ranked ss → Ranked (lose f ss)
lose_ranked f [] h = tt
lose_ranked f ([] ∷ ss) h = absurd h
lose_ranked f ((a ∷ s) ∷ ss) h = go (f (a ∷ s)) (lose_ranked f ss h.3)
  where
    go : (b : Bool) → Ranked (lose f ss) → Ranked (cond b (lose f ss) ((a ∷ s) ∷ lose f ss))
    go true r = r
    go false r = (λ x i. h.0 x (lose_concat f ss x i), λ x j i. h.1 x j (lose_concat f ss x i), h.2, r)

-- what is kept and what is lost share no cell
apart : (f : List ℕ → Bool) (ss : List (List ℕ)) → Ranked ss → (x : ℕ) → In x (concat (keep f ss)) → In x (concat (lose f ss)) → ⊥
apart f [] h x i j = i
apart f ([] ∷ ss) h x i j = absurd h
apart f ((a ∷ s) ∷ ss) h x i j = go (f (a ∷ s)) (apart f ss h.3 x) i j
  where
    go : (b : Bool) → (In x (concat (keep f ss)) → In x (concat (lose f ss)) → ⊥) → In x (concat (cond b ((a ∷ s) ∷ keep f ss) (keep f ss)))
        → In x (concat (cond b (lose f ss) ((a ∷ s) ∷ lose f ss))) → ⊥
    go true r i j = elim (in_append x (a ∷ s) (concat (keep f ss)) i) [ inl k ↦ h.1 x k (lose_concat f ss x j) | inr k ↦ r k j ]
    go false r i j = elim (in_append x (a ∷ s) (concat (lose f ss)) j) [ inl k ↦ h.1 x k (keep_concat f ss x i) | inr k ↦ r i k ]

pub ranked : (link : ℕ → ℕ → Bool) (cs : List ℕ) → Ascending cs → Ranked (connected link cs)
ranked link [] h = tt
ranked link (a ∷ cs) h = (low, go (ranked link cs h.1), own, lose_ranked (any (link a)) (connected link cs) (ranked link cs h.1))
  where
    low : (x : ℕ) → In x (concat (lose (any (link a)) (connected link cs))) → a < x
    low x i = h.0 x (sets_in link cs x (lose_concat (any (link a)) (connected link cs) x i))

    go : Ranked (connected link cs) → (x : ℕ) → In x (a ∷ around link a cs) → In x (concat (lose (any (link a)) (connected link cs))) → ⊥
    go r x (inl e) i = omega (arith, low x i)
    go r x (inr j) i = apart (any (link a)) (connected link cs) r x j i

    own : (x : ℕ) → In x (a ∷ around link a cs) → a ≤ x
    own x (inl e) = le_of_eq (sym e)
    own x (inr j) = le_of_lt (h.0 x (sets_in link cs x (keep_concat (any (link a)) (connected link cs) x j)))

-- every number below the number of sets is some cell's
pub some_place : (ss : List (List ℕ)) → Ranked ss → (k : ℕ) → k < length ss → (c : ℕ) × In c (concat ss) × (place c ss ≡ k)
some_place [] r k l = absurd (not-suc-le-zero l)
some_place ([] ∷ ss) r k l = absurd r
some_place ((a ∷ s) ∷ ss) r zero l = (a, inl refl, rw (held a (a ∷ s) (inl refl)))
some_place ((a ∷ s) ∷ ss) r (suc k) l =
    let z = some_place ss r.3 k (le_of_suc-le-suc l) in
    (z.0, append_two z.0 (a ∷ s) (concat ss) z.1, rw (not_held z.0 (a ∷ s) (λ i. r.1 z.0 i z.1)) (ap suc z.2))

-- the first cell of a set is its lowest
pub head_low : (ss : List (List ℕ)) → Ranked ss → (s : List ℕ) → In s ss → (c : ℕ) → In c s → head_or 0 s ≤ c
head_low [] r s i c j = absurd i
head_low ([] ∷ ss) r s i c j = absurd r
head_low ((a ∷ t) ∷ ss) r s (inl e) c j = rw e (r.2 c (rw e at j))
head_low ((a ∷ t) ∷ ss) r s (inr i) c j = head_low ss r.3 s i c j

-- where c's number is lower than d's, the first cell of c's set is lower than each cell of d's
pub rank_place : (ss : List (List ℕ)) → Ranked ss → (c d : ℕ) → In c (concat ss) → In d (concat ss) → place c ss < place d ss
    → (s : List ℕ) × In s ss × In c s × ((f : ℕ) → In f (concat ss) → place f ss ≡ place d ss → head_or 0 s < f)
rank_place [] r c d i j l = absurd i
rank_place ([] ∷ ss) r c d i j l = absurd r
rank_place ((a ∷ s) ∷ ss) r c d i j l = elim (placed d (a ∷ s) ss j) [
  | inl q ↦ absurd (omega (arith, q.1))
  | inr q ↦ elim (placed c (a ∷ s) ss i) [
    | inl p ↦ (a ∷ s, inl refl, p.0, λ f k e. elim (placed f (a ∷ s) ss k) [ inl w ↦ absurd (omega (arith, w.1)) | inr w ↦ r.0 f w.0 ])
    | inr p ↦
        let z = rank_place ss r.3 c d p.0 q.0 (omega (arith, p.1, q.1)) in
        (z.0, inr z.1, z.2, λ f k e. elim (placed f (a ∷ s) ss k) [ inl w ↦ absurd (omega (arith, w.1, q.1)) | inr w ↦ z.3 f w.0 (suc_inj (sym w.1 ∙ e ∙ q.1)) ])
  ]
]
