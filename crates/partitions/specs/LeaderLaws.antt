-- Laws of leaders: roots, what a find leaves, what a union leaves.
use Rattle.std.specs.Prelude.{◌≡◌, ◌⊎◌, length}
use Rattle.std.proofs.Math.Path.{refl, sym, ap}
use Rattle.std.proofs.Common.{◌∙◌, inl, inr, le_refl, le_of_eq, not-suc-le-zero, arith, length-set, get_or-set_same, get_or-set_other, eq-eqb, ne_eqb}
use Rattle.std.proofs.Math.Bool.{or-true}
use mathlib.Core.List.{List}
use Prim.Native.Nat.{ℕ, zero, suc, ◌<◌, ◌≤◌, min, max, zero-le}
use Rattle.std.proofs.Math.Decide.{ℕ_discrete, dec_lt}
use Rattle.std.proofs.Math.ListN.{get_or, set, get_or-eq_default}
use Rattle.lists.specs.Words.{column}
use Rattle.lists.specs.ListLaws.{at_numbers, length_numbers}
use Rattle.partitions.specs.Leaders.{Falling, follow, root, point, shorten, shorten_both, united}
use Rattle.partitions.specs.Trials.{merged}

-- ---- a cell that is its own leader
module _ (p : List ℕ) where
  follow_own : (n c : ℕ) → get_or p c 0 ≡ c → follow n p c ≡ c
  unfolding follow
  follow_own zero c e = refl
  follow_own (suc n) c e = rw (eq-eqb (get_or p c 0) c e)

  pub root_own : (c : ℕ) → get_or p c 0 ≡ c → root p c ≡ c
  unfolding root
  root_own c e = follow_own c c e

  point_own : (n r c : ℕ) → get_or p c 0 ≡ c → point n r p c ≡ p
  unfolding point
  point_own zero r c e = refl
  point_own (suc n) r c e = rw (eq-eqb (get_or p c 0) c e)

  pub shorten_own : (c : ℕ) → get_or p c 0 ≡ c → shorten p c ≡ p
  unfolding shorten
  shorten_own c e = point_own c (root p c) c e

abbrev Enough : List ℕ → ℕ → Type 0
Enough p c = (n m : ℕ) → c ≤ n → c ≤ m → (follow n p c ≡ follow m p c) × ((r : ℕ) → point n r p c ≡ point m r p c)

module _ {p : List ℕ} (f : Falling p) where
  -- ---- one step
  next_less : (c : ℕ) → (get_or p c 0 ≡ c → ⊥) → get_or p c 0 < c
  next_less c n = omega (arith, f.falls c, n)

  -- what holds of the cells that are their own leaders, and of a cell if it holds of its leader, holds of all
  leader_induction : (Q : ℕ → Type 0) → ((c : ℕ) → get_or p c 0 ≡ c → Q c) → ((c : ℕ) → get_or p c 0 < c → Q (get_or p c 0) → Q c) → (c : ℕ) → Q c
  leader_induction Q own next c = go (suc c) c (le_refl (suc c))
    where
      go : (n c : ℕ) → c < n → Q c
      go zero c h = absurd (not-suc-le-zero h)
      go (suc n) c h = elim (ℕ_discrete (get_or p c 0) c) [
        | yes e ↦ own c e
        | no d ↦ let k = next_less c d in next c k (go n (get_or p c 0) (omega arith))
      ]

  -- c steps or more: how many does not matter
  enough : (c : ℕ) → Enough p c
  unfolding follow point
  enough = leader_induction (Enough p) (λ c e n m h k. (follow_own p n c e ∙ sym (follow_own p m c e), λ r. point_own p n r c e ∙ sym (point_own p m r c e))) next
    where
      next : (c : ℕ) → get_or p c 0 < c → Enough p (get_or p c 0) → Enough p c
      next c l i zero m h k = absurd (omega arith)
      next c l i (suc n) zero h k = absurd (omega arith)
      next c l i (suc n) (suc m) h k =
          let z = i n m (omega arith) (omega arith) in
          rw (ne_eqb (get_or p c 0) c (λ e. omega arith)) (z.0, λ r. ap (λ (q : List ℕ). set q c r) (z.1 r))

  -- a cell has the root of its leader
  pub root_next : (c : ℕ) → root p c ≡ root p (get_or p c 0)
  unfolding root follow
  root_next zero = let z : get_or p 0 0 ≡ 0 = omega (arith, f.falls 0) in ap (root p) (sym z)
  root_next (suc c) = elim (ℕ_discrete (get_or p (suc c) 0) (suc c)) [
    | yes e ↦ ap (root p) (sym e)
    | no n ↦ let k = next_less (suc c) n in rw (ne_eqb (get_or p (suc c) 0) (suc c) n) (enough (get_or p (suc c) 0) c (get_or p (suc c) 0) (omega arith) (omega arith)).0
  ]

  pub shorten_next : (c : ℕ) → (get_or p c 0 ≡ c → ⊥) → shorten p c ≡ set (shorten p (get_or p c 0)) c (root p c)
  unfolding shorten point
  shorten_next zero n = absurd (n (omega (arith, f.falls 0)))
  shorten_next (suc c) n =
      let k = next_less (suc c) n in
      let d : ℕ = get_or p (suc c) 0 in
      rw (ne_eqb d (suc c) n, root_next (suc c)) (ap (λ (q : List ℕ). set q (suc c) (root p d)) ((enough d c d (omega arith) (omega arith)).1 (root p d)))

  -- ---- the root is the lowest cell of its set
  pub root_le : (c : ℕ) → root p c ≤ c
  root_le = leader_induction (λ c. root p c ≤ c) (λ c e. le_of_eq (root_own p c e)) (λ c l i. omega (arith, root_next c))

  pub root_leads : (c : ℕ) → get_or p (root p c) 0 ≡ root p c
  root_leads = leader_induction (λ c. get_or p (root p c) 0 ≡ root p c) (λ c e. rw (root_own p c e) e) (λ c l i. rw (root_next c) i)

  pub root_root : (c : ℕ) → root p (root p c) ≡ root p c
  root_root c = root_own p (root p c) (root_leads c)

  pub root_lowest : (c d : ℕ) → root p c ≡ root p d → root p c ≤ d
  root_lowest c d e = omega (arith, root_le d)

  -- ---- the cell h is given a lower cell l for its leader
  lead_falls : (h l : ℕ) → h < length p → l ≤ h → Falling (set p h l)
  lead_falls h l k le = record {
    falls = λ c. elim (ℕ_discrete c h) [
      | yes e ↦ rw (e, get_or-set_same p h l 0) le
      | no n ↦ rw (get_or-set_other p h c l 0 n) (f.falls c)
    ];
  }

-- where l is a root: the set of h gets the root l, and the roots that are not h stay
lead_root : {p : List ℕ} (f : Falling p) (h l : ℕ) → h < length p → l ≤ h → get_or p l 0 ≡ l → (g : ℕ → ℕ) → g (root p h) ≡ l
    → ((c : ℕ) → get_or p c 0 ≡ c → (c ≡ h → ⊥) → g c ≡ c) → (c : ℕ) → root (set p h l) c ≡ g (root p c)
lead_root {p} f h l k le own g there other = leader_induction f (λ c. root q c ≡ g (root p c))
    (λ c e. elim (ℕ_discrete c h) [
      | yes i ↦ here c i
      | no n ↦ root_own q c (get_or-set_other p h c l 0 n ∙ e) ∙ sym (ap g (root_own p c e) ∙ other c e n)
    ])
    (λ c j r. elim (ℕ_discrete c h) [
      | yes i ↦ here c i
      | no n ↦ root_next fq c ∙ ap (root q) (get_or-set_other p h c l 0 n) ∙ r ∙ ap g (sym (root_next f c))
    ])
  where
    q : List ℕ
    q = set p h l

    fq : Falling q
    fq = lead_falls f h l k le

    low : get_or q l 0 ≡ l
    low = elim (ℕ_discrete l h) [
      | yes e ↦ ap (λ (i : ℕ). get_or q i 0) e ∙ get_or-set_same p h l 0 k
      | no n ↦ get_or-set_other p h l l 0 n ∙ own
    ]

    here : (c : ℕ) → c ≡ h → root q c ≡ g (root p c)
    here c e = rw e (root_next fq h ∙ ap (root q) (get_or-set_same p h l 0 k) ∙ root_own q l low ∙ sym there)

-- ---- the leaders p of n cells stand for the sets in which each cell has the root l
pub record Stands (n : ℕ) (l : ℕ → ℕ) (p : List ℕ) : Type 0 where
  pub falling : Falling p
  pub size : length p ≡ n
  pub roots : (c : ℕ) → c < n → root p c ≡ l c

pub own_stands : {p : List ℕ} → Falling p → Stands (length p) (root p) p
own_stands f = record { falling = f; size = refl; roots = λ c k. refl }

-- each cell by itself
pub alone_stands : (n : ℕ) → Stands n (λ c. c) (column (λ c. c) n)
alone_stands n = record {
  falling = record {
    falls = λ c. elim (dec_lt c n) [
      | yes h ↦ le_of_eq (at_numbers (λ c. c) 0 n c h)
      | no m ↦ rw (get_or-eq_default (column (λ c. c) n) 0 {n = c} (omega (arith, length_numbers (λ c. c) n, m))) zero-le
    ];
  };
  size = length_numbers (λ c. c) n;
  roots = λ c h. root_own (column (λ c. c) n) c (at_numbers (λ c. c) 0 n c h);
}

-- each cell with the root of its set for its leader
pub flat_stands : {n : ℕ} {l : ℕ → ℕ} {p : List ℕ} → Stands n l p → Stands n l (column (root p) n)
flat_stands {n} {l} {p} s = record { falling = falling; size = length_numbers (root p) n; roots = roots }
  where
    f : Falling p
    f = s.falling

    q : List ℕ
    q = column (root p) n

    at : (c : ℕ) → c < n → get_or q c 0 ≡ root p c
    at c h = at_numbers (root p) 0 n c h

    falling : Falling q
    falling = record {
      falls = λ c. elim (dec_lt c n) [
        | yes h ↦ omega (arith, at c h, root_le f c)
        | no m ↦ rw (get_or-eq_default q 0 {n = c} (omega (arith, length_numbers (root p) n, m))) zero-le
      ];
    }

    roots : (c : ℕ) → c < n → root q c ≡ l c
    roots c h =
        let own : get_or q (root p c) 0 ≡ root p c = at (root p c) (omega (arith, root_le f c)) ∙ root_root f c in
        root_next falling c ∙ ap (root q) (at c h) ∙ root_own q (root p c) own ∙ s.roots c h

-- a find leaves leaders of the same sets
pub shorten_stands : {n : ℕ} {l : ℕ → ℕ} {p : List ℕ} → Stands n l p → (c : ℕ) → c < n → Stands n l (shorten p c)
shorten_stands {n} {l} {p} s = leader_induction s.falling (λ c. c < n → Stands n l (shorten p c))
    (λ c e k. rw (shorten_own p c e) s)
    (λ c j r k. rw (shorten_next s.falling c (λ e. omega arith)) (more c k (r (omega arith)) (s.roots c k)))
  where
    more : (c : ℕ) → c < n → {q : List ℕ} → Stands n l q → root p c ≡ l c → Stands n l (set q c (root p c))
    more c k {q} t e =
        let h : c < length q = omega (arith, t.size) in
        let i : root q c ≡ root p c = t.roots c k ∙ sym e in
        let le : root p c ≤ c = omega (arith, root_le t.falling c) in
        let own : get_or q (root p c) 0 ≡ root p c = rw i at (root_leads t.falling c) in
        record {
          falling = lead_falls t.falling c (root p c) h le;
          size = length-set q c (root p c) ∙ t.size;
          roots = λ d m. lead_root t.falling c (root p c) h le own (λ r. r) i (λ d j o. refl) d ∙ t.roots d m;
        }

pub both_stand : {n : ℕ} {l : ℕ → ℕ} {p : List ℕ} → Stands n l p → (a b : ℕ) → a < n → b < n → Stands n l (shorten_both p a b)
unfolding shorten_both
both_stand s a b h k = shorten_stands (shorten_stands s a h) b k

-- ---- a union leaves the two sets as one, under the lower root
module _ (l : ℕ → ℕ) (a b c : ℕ) where
  pub merged_in : (l c ≡ l a) ⊎ (l c ≡ l b) → merged l a b c ≡ min (l a) (l b)
  merged_in (inl e) = rw (eq-eqb (l c) (l a) e)
  merged_in (inr e) = rw (eq-eqb (l c) (l b) e, or-true)

  pub merged_out : (l c ≡ l a → ⊥) → (l c ≡ l b → ⊥) → merged l a b c ≡ l c
  merged_out n m = rw (ne_eqb (l c) (l a) n, ne_eqb (l c) (l b) m)

-- what holds of x and y holds of the higher and of the lower
both_orders : (Q : ℕ → Type 0) (x y : ℕ) → Q x → Q y → Q (max x y) × Q (min x y)
both_orders Q x y u v = elim (dec_lt x y) [
  | yes h ↦ let i : max x y ≡ y = omega arith in let j : min x y ≡ x = omega arith in rw (i, j) (v, u)
  | no n ↦ let i : max x y ≡ x = omega (arith, n) in let j : min x y ≡ y = omega (arith, n) in rw (i, j) (u, v)
]

pub united_stands : {n : ℕ} {l : ℕ → ℕ} {p : List ℕ} → Stands n l p → (a b : ℕ) → a < n → b < n → Stands n (merged l a b) (united p a b)
unfolding united
united_stands {n} {l} {p} s a b ha hb =
    let f = s.falling in
    let x : ℕ = root p a in
    let y : ℕ = root p b in
    let own = both_orders (λ c. get_or p c 0 ≡ c) x y (root_leads f a) (root_leads f b) in
    let h : max x y < length p = omega (arith, root_le f a, root_le f b, s.size) in
    let le : min x y ≤ max x y = omega arith in
    record {
      falling = lead_falls f (max x y) (min x y) h le;
      size = length-set p (max x y) (min x y) ∙ s.size;
      roots = λ c k.
          lead_root f (max x y) (min x y) h le own.1 (merged (λ v. v) x y)
          (rw (root_own p (max x y) own.0) (merged_in (λ v. v) x y (max x y) (both_orders (λ c. (c ≡ x) ⊎ (c ≡ y)) x y (inl refl) (inr refl)).0))
          (λ d e. other x y d) c
          ∙ rw (s.roots a ha, s.roots b hb, s.roots c k);
    }
  where
    other : (x y c : ℕ) → (c ≡ max x y → ⊥) → merged (λ v. v) x y c ≡ c
    other x y c n = elim (ℕ_discrete c x) [
      | yes e ↦ merged_in (λ v. v) x y c (inl e) ∙ omega (arith, e, n)
      | no m ↦ elim (ℕ_discrete c y) [ yes e ↦ merged_in (λ v. v) x y c (inr e) ∙ omega (arith, e, n) | no k ↦ merged_out (λ v. v) x y c m k ]
    ]
