-- Laws of uniting by trials: its steps, that it finishes, which cells end in one set, and that leaders in memory go as sets by lowest cell do.
use Rattle.std.specs.Prelude.{◌≡◌, ◌⊎◌, ◌↔◌, Bool, ◌||◌, cond, T, eqb, ltb, length}
use Rattle.std.proofs.Math.Path.{refl}
use Rattle.std.proofs.Common.{sym, ap, ◌∙◌, inl, inr, arith, eqb→eq}
use Rattle.std.proofs.Math.Bool.{true, false}
use mathlib.Core.List.{List, [], ◌∷◌}
use Prim.Native.Nat.{ℕ, suc, ◌+◌, ◌<◌, ◌≤◌, min}
use Rattle.std.proofs.Math.Decide.{ℕ_discrete, dec_lt}
use borrow.Author.Tests.{lt-ltb, le-ltb}
use Rattle.lists.specs.Lists.{In}
use Rattle.lists.specs.Words.{column}
use Rattle.lists.specs.ListLaws.{true_T, T_true}
use Rattle.lists.specs.Chains.{Chain, alone, step, chain_join, chain_turn}
use Rattle.partitions.specs.Leaders.{root}
use Rattle.partitions.specs.Trials.{Holding, Outcome, run, merged, by_lowest, by_leaders}
use Rattle.partitions.specs.LeaderLaws.{Stands, alone_stands, both_stand, merged_in, merged_out, united_stands}

cond_one : {A : Type 0} (P : A → Type 0) (b : Bool) {x y : A} → (T b → P x) → P y → P (cond b x y)
cond_one P true f p = f tt
cond_one P false f p = p

module _ {S : Type 0} (h : Holding S) (touch : ℕ → ℕ → Bool) (trials : ℕ) where
  -- ---- one pair
  module _ (used a b : ℕ) (ps : List (ℕ × ℕ)) (s : S) where
    pub run_pass : h.same s a b ≡ true → run h touch trials used ((a, b) ∷ ps) s ≡ run h touch trials used ps (h.asked s a b)
    unfolding run
    run_pass e = rw e

    pub run_try : h.same s a b ≡ false → used < trials
        → run h touch trials used ((a, b) ∷ ps) s ≡ run h touch trials (suc used) ps (cond (touch a b) (h.join (h.asked s a b) a b) (h.asked s a b))
    unfolding run
    run_try e k = rw (e, lt-ltb used trials k)

    pub run_stop : h.same s a b ≡ false → trials ≤ used
        → run h touch trials used ((a, b) ∷ ps) s ≡ record { sets = h.asked s a b; used = used; left = (a, b) ∷ ps }
    unfolding run
    run_stop e k = rw (e, le-ltb used trials k)

    -- what holds in each of the three cases holds
    run_cases : (Q : Outcome S → Type 0) → (T (h.same s a b) → Q (run h touch trials used ps (h.asked s a b)))
        → (used < trials → Q (run h touch trials (suc used) ps (cond (touch a b) (h.join (h.asked s a b) a b) (h.asked s a b))))
        → (trials ≤ used → Q (record { sets = h.asked s a b; used = used; left = (a, b) ∷ ps })) → Q (run h touch trials used ((a, b) ∷ ps) s)
    run_cases Q passed tried stopped = go (h.same s a b) refl
      where
        go : (x : Bool) → h.same s a b ≡ x → Q (run h touch trials used ((a, b) ∷ ps) s)
        go true e = rw (run_pass e) (passed (true_T e))
        go false e = elim (dec_lt used trials) [ yes k ↦ rw (run_try e k) (tried k) | no n ↦ let k : trials ≤ used = omega (arith, n) in rw (run_stop e k) (stopped k) ]

  -- ---- all pairs
  -- with at least as many trials as pairs it finishes
  pub run_finishes : (used : ℕ) (ps : List (ℕ × ℕ)) (s : S) → used + length ps ≤ trials → (run h touch trials used ps s).left ≡ []
  unfolding run
  run_finishes used [] s k = refl
  run_finishes used ((a, b) ∷ ps) s k = run_cases used a b ps s (λ o. o.left ≡ [])
      (λ t. run_finishes used ps (h.asked s a b) (omega arith))
      (λ l. run_finishes (suc used) ps (cond (touch a b) (h.join (h.asked s a b) a b) (h.asked s a b)) (omega arith))
      (λ l. absurd (omega arith))

  -- what holds at first, and still after a question and after a union of a pair that touches, holds at the end
  pub run_keeps : (P : S → Type 0) (ps : List (ℕ × ℕ)) → ((s : S) (a b : ℕ) → In (a, b) ps → P s → P (h.asked s a b))
      → ((s : S) (a b : ℕ) → In (a, b) ps → T (touch a b) → P s → P (h.join s a b)) → (used : ℕ) (s : S) → P s → P (run h touch trials used ps s).sets
  unfolding run
  run_keeps P [] f g used s p = p
  run_keeps P ((a, b) ∷ ps) f g used s p =
      let asked = f s a b (inl refl) p in
      let next = run_keeps P ps (λ s a b i. f s a b (inr i)) (λ s a b i. g s a b (inr i)) in
      run_cases used a b ps s (λ o. P o.sets)
      (λ t. next used (h.asked s a b) asked)
      (λ l. next (suc used) (cond (touch a b) (h.join (h.asked s a b) a b) (h.asked s a b)) (cond_one P (touch a b) (λ t. g (h.asked s a b) a b (inl refl) t asked) asked))
      (λ l. asked)

-- ---- by lowest cell: which cells end in one set
-- a pair that touches, either way round
abbrev pub Link : (ℕ → ℕ → Bool) → List (ℕ × ℕ) → ℕ → ℕ → Type 0
Link touch ps a b = (In (a, b) ps × T (touch a b)) ⊎ (In (b, a) ps × T (touch b a))

module _ (touch : ℕ → ℕ → Bool) (trials : ℕ) where
  abbrev after : ℕ → List (ℕ × ℕ) → (ℕ → ℕ) → Outcome (ℕ → ℕ)
  after = run by_lowest touch trials

  stay : (ps : List (ℕ × ℕ)) (used : ℕ) (l : ℕ → ℕ) (x y : ℕ) → l x ≡ l y → (after used ps l).sets x ≡ (after used ps l).sets y
  stay ps used l x y = run_keeps by_lowest touch trials (λ m. m x ≡ m y) ps (λ m a b i e. e)
      (λ m a b i t e. ap (λ (v : ℕ). cond (eqb v (m a) || eqb v (m b)) (min (m a) (m b)) v) e) used l

  -- a pair that touches is in one set at the end, unless it was not passed
  pub touch_joins : (ps : List (ℕ × ℕ)) (used : ℕ) (l : ℕ → ℕ) (a b : ℕ) → In (a, b) ps → T (touch a b)
      → In (a, b) (after used ps l).left ⊎ ((after used ps l).sets a ≡ (after used ps l).sets b)
  touch_joins [] used l a b i t = absurd i
  touch_joins (z ∷ ps) used l a b (inl e) t = rw (← e) (run_cases by_lowest touch trials used a b ps l (λ o. In (a, b) o.left ⊎ (o.sets a ≡ o.sets b))
      (λ h. inr (stay ps used l a b (eqb→eq (l a) (l b) h)))
      (λ k. inr (rw (T_true (touch a b) t) (stay ps (suc used) (merged l a b) a b (merged_in l a b a (inl refl) ∙ sym (merged_in l a b b (inr refl))))))
      (λ k. inl (inl refl)))
  touch_joins ((c, d) ∷ ps) used l a b (inr i) t = run_cases by_lowest touch trials used c d ps l (λ o. In (a, b) o.left ⊎ (o.sets a ≡ o.sets b))
      (λ h. touch_joins ps used l a b i t)
      (λ k. touch_joins ps (suc used) (cond (touch c d) (merged l c d) l) a b i t)
      (λ k. inl (inr i))

  module _ (ps : List (ℕ × ℕ)) (C : ℕ → Type 0) where
    -- after a finished run cells that are joined by links are in one set
    pub joined_one : (after 0 ps (λ c. c)).left ≡ [] → {x y : ℕ} → Chain C (Link touch ps) x y → (after 0 ps (λ c. c)).sets x ≡ (after 0 ps (λ c. c)).sets y
    joined_one f (alone c) = refl
    joined_one f (step {p} {q} c k t) = elim k [ inl i ↦ one p q i | inr i ↦ sym (one q p i) ] ∙ joined_one f t
      where
        one : (a b : ℕ) → In (a, b) ps × T (touch a b) → (after 0 ps (λ c. c)).sets a ≡ (after 0 ps (λ c. c)).sets b
        one a b i = elim (touch_joins ps 0 (λ c. c) a b i.0 i.1) [ inl j ↦ absurd (rw f at j) | inr e ↦ e ]

    module _ (inside : (a b : ℕ) → In (a, b) ps → C a × C b) where
      abbrev Sound : (ℕ → ℕ) → Type 0
      Sound l = (x y : ℕ) → C x → C y → l x ≡ l y → Chain C (Link touch ps) x y

      merged_sound : (l : ℕ → ℕ) (a b : ℕ) → In (a, b) ps → T (touch a b) → Sound l → Sound (merged l a b)
      merged_sound l a b i t s x y cx cy e = elim (near x) [
        | inl u ↦ elim (near y) [
          | inl v ↦ chain_join (to_a x cx u) (chain_turn turn (to_a y cy v))
          | inr v ↦ absurd (apart y v (sym (sym (merged_in l a b x u) ∙ e ∙ merged_out l a b y v.0 v.1)))
        ]
        | inr u ↦ elim (near y) [
          | inl v ↦ absurd (apart x u (sym (merged_out l a b x u.0 u.1) ∙ e ∙ merged_in l a b y v))
          | inr v ↦ s x y cx cy (sym (merged_out l a b x u.0 u.1) ∙ e ∙ merged_out l a b y v.0 v.1)
        ]
      ]
        where
          near : (x : ℕ) → ((l x ≡ l a) ⊎ (l x ≡ l b)) ⊎ ((l x ≡ l a → ⊥) × (l x ≡ l b → ⊥))
          near x = elim (ℕ_discrete (l x) (l a)) [
            | yes e ↦ inl (inl e)
            | no n ↦ elim (ℕ_discrete (l x) (l b)) [ yes e ↦ inl (inr e) | no m ↦ inr (n, m) ]
          ]

          apart : (x : ℕ) → (l x ≡ l a → ⊥) × (l x ≡ l b → ⊥) → l x ≡ min (l a) (l b) → ⊥
          apart x n e = omega (arith, n.0, n.1)

          turn : (p q : ℕ) → Link touch ps p q → Link touch ps q p
          turn p q (inl k) = inr k
          turn p q (inr k) = inl k

          to_a : (x : ℕ) → C x → (l x ≡ l a) ⊎ (l x ≡ l b) → Chain C (Link touch ps) x a
          to_a x cx (inl e) = s x a cx (inside a b i).0 e
          to_a x cx (inr e) = chain_join (s x b cx (inside a b i).1 e) (step (inside a b i).1 (inr (i, t)) (alone (inside a b i).0))

      -- cells that are in one set are joined by links, in a stopped run too
      pub one_joined : (x y : ℕ) → C x → C y → (after 0 ps (λ c. c)).sets x ≡ (after 0 ps (λ c. c)).sets y → Chain C (Link touch ps) x y
      one_joined = run_keeps by_lowest touch trials Sound ps (λ l a b i s. s) merged_sound 0 (λ c. c) (λ x y cx cy e. rw e (alone cy))

-- ---- by leaders in memory
-- every pair is of cells below n
abbrev pub Within : ℕ → List (ℕ × ℕ) → Type 0
Within n ps = (a b : ℕ) → In (a, b) ps → (a < n) × (b < n)

pub record Alike (n : ℕ) (o : Outcome (List ℕ)) (q : Outcome (ℕ → ℕ)) : Type 0 where
  pub sets : Stands n q.sets o.sets
  pub used : o.used ≡ q.used
  pub left : o.left ≡ q.left

module _ (touch : ℕ → ℕ → Bool) (trials n : ℕ) where
  -- leaders that stand for sets go as these sets do
  pub alike : (ps : List (ℕ × ℕ)) → Within n ps → (used : ℕ) {l : ℕ → ℕ} {p : List ℕ} → Stands n l p
      → Alike n (run by_leaders touch trials used ps p) (run by_lowest touch trials used ps l)
  unfolding run
  alike [] w used s = record { sets = s; used = refl; left = refl }
  alike ((a, b) ∷ ps) w used {l} {p} s =
      let h = w a b (inl refl) in
      let t = both_stand s a b h.0 h.1 in
      let v : Within n ps = λ c d i. w c d (inr i) in
      rw (s.roots a h.0, s.roots b h.1) (go (eqb (l a) (l b)) (ltb used trials)
      (alike ps v used t)
      (alike ps v (suc used) (join (touch a b) (united_stands (both_stand t a b h.0 h.1) a b h.0 h.1) t))
      (record { sets = t; used = refl; left = refl }))
    where
      join : (t : Bool) {p q : List ℕ} {l m : ℕ → ℕ} → Stands n l p → Stands n m q → Stands n (cond t l m) (cond t p q)
      join true r s = r
      join false r s = s

      go : (x y : Bool) {A B C : Outcome (List ℕ)} {K L M : Outcome (ℕ → ℕ)} → Alike n A K → Alike n B L → Alike n C M → Alike n (cond x A (cond y B C)) (cond x K (cond y L M))
      go true y α β γ = α
      go false true α β γ = β
      go false false α β γ = γ

  -- after a finished run two cells have one root exactly if links join them
  pub one_root : (ps : List (ℕ × ℕ)) (C : ℕ → Type 0) → ((c : ℕ) → C c → c < n) → ((a b : ℕ) → In (a, b) ps → C a × C b)
      → (run by_leaders touch trials 0 ps (column (λ c. c) n)).left ≡ [] → (x y : ℕ) → C x → C y
      → (root (run by_leaders touch trials 0 ps (column (λ c. c) n)).sets x ≡ root (run by_leaders touch trials 0 ps (column (λ c. c) n)).sets y) ↔ Chain C (Link touch ps) x y
  one_root ps C below inside f x y cx cy =
      let r = alike ps (λ a b i. let h = inside a b i in (below a h.0, below b h.1)) 0 (alone_stands n) in
      let ex = r.sets.roots x (below x cx) in
      let ey = r.sets.roots y (below y cy) in
      (λ e. one_joined touch trials ps C inside x y cx cy (sym ex ∙ e ∙ ey), λ j. ex ∙ joined_one touch trials ps C (sym r.left ∙ f) j ∙ sym ey)
