-- Two cells that are met: what asking whether they are in two sets leaves, and uniting these, are leaders of the same cells; and so is what many pairs leave.
use mathlib.Core.Path.{◌≡◌, sym, ap, ◌∙◌, subst}
use mathlib.Core.Bool.{Bool, true, false, not}
use mathlib.Core.List.{List, [], ◌∷◌, ◌++◌}
use Prim.Native.Nat.{ℕ, ◌<◌, ◌≤◌}
use lib.Dec.{eqb}
use lib.ListN.{get_or}
use borrow.Author.Tests.{eq-eqb}
use Rattle.lists.specs.ListLaws.{not_turn}
use Rattle.partitions.specs.Leaders.{Falling, root}
use Rattle.partitions.specs.LeaderLaws.{Stands, own_stands, root_next}
use Rattle.partitions.specs.TrialLaws.{Within}
use Rattle.clustering.specs.Leading.{Leading}
use Rattle.clustering.specs.UniteAll.{meet, meet_all, by_own_leaders}
use Rattle.clustering.proofs.UnitingLaws.{if_within}
use Rattle.clustering.proofs.UniteAllLaws.{meet_append, asked_stand, all_stand}

-- cells with one leader are in one set
pub one_leader : {p : List ℕ} (c d : ℕ) → Falling p → get_or p c 0 ≡ get_or p d 0 → eqb (root p c) (root p d) ≡ true
one_leader {p} c d f e = eq-eqb (root p c) (root p d) (root_next f c ∙ ap (root p) e ∙ sym (root_next f d))

-- leaders that stand for sets are leaders
pub lead : {k : ℕ} {l : ℕ → ℕ} {p : List ℕ} → k ≤ 65536 → Stands k l p → Leading k p
lead h s = record { size = s.size; few = h; falling = s.falling }

module _ {k : ℕ} {p : List ℕ} (i : Leading k p) where
  -- and stand for their own
  pub own : Stands k (root p) p
  own = subst (λ (m : ℕ). Stands m (root p) p) i.size (own_stands i.falling)

  pub asked_lead : (c d : ℕ) → c < k → d < k → Leading k (by_own_leaders.asked p c d)
  asked_lead c d h l = lead i.few (asked_stand (λ a b. true) k own c d h l)

  pub all_lead : (link : ℕ → ℕ → Bool) (ps : List (ℕ × ℕ)) → Within k ps → Leading k (meet_all by_own_leaders link ps p)
  all_lead link ps w = lead i.few (all_stand link k ps w own)

-- ---- c and d are met from the leaders p on: b is whether they are found in two sets, q what asking leaves
module _ (link : ℕ → ℕ → Bool) (c d : ℕ) (p : List ℕ) {q : List ℕ} {b : Bool} (eb : b ≡ not (by_own_leaders.same p c d)) (eq : q ≡ by_own_leaders.asked p c d) where
  same : (x : Bool) → b ≡ x → by_own_leaders.same p c d ≡ not x
  same x e = not_turn (by_own_leaders.same p c d) x (sym eb ∙ e)

  pub met_one : b ≡ false → q ≡ meet by_own_leaders link c d p
  unfolding meet
  met_one e = eq ∙ sym (rw (same false e))

  module _ (e : b ≡ true) {t : Bool} (et : t ≡ link c d) where
    pub met_apart : t ≡ false → q ≡ meet by_own_leaders link c d p
    unfolding meet
    met_apart f = eq ∙ sym (rw (same true e, sym et ∙ f))

    pub met_joined : t ≡ true → {u : List ℕ} → u ≡ by_own_leaders.join q c d → u ≡ meet by_own_leaders link c d p
    unfolding meet
    met_joined f eu = eu ∙ ap (λ (z : List ℕ). by_own_leaders.join z c d) eq ∙ sym (rw (same true e, sym et ∙ f))

-- ---- of the pairs `all`, met from the leaders p₀ on, those that are left are still to be met from p on
pub record Met (k : ℕ) (link : ℕ → ℕ → Bool) (all left : List (ℕ × ℕ)) (p₀ p : List ℕ) : Type 0 where
  pub leading : Leading k p
  pub goes : meet_all by_own_leaders link all p₀ ≡ meet_all by_own_leaders link left p

module _ {k : ℕ} (link : ℕ → ℕ → Bool) where
  module _ {all left : List (ℕ × ℕ)} {p₀ p : List ℕ} (i : Met k link all left p₀ p) where
    -- some of them
    pub met_on : (now later : List (ℕ × ℕ)) → left ≡ now ++ later → Within k now → {q : List ℕ} → q ≡ meet_all by_own_leaders link now p → Met k link all later p₀ q
    met_on now later e w eq = record {
      leading = subst (Leading k) (sym eq) (all_lead i.leading link now w);
      goes = i.goes
          ∙ ap (λ (ps : List (ℕ × ℕ)). meet_all by_own_leaders link ps p) e
          ∙ meet_append by_own_leaders link now later p
          ∙ ap (meet_all by_own_leaders link later) (sym eq);
    }

    -- one of them
    pub met_next : (c d : ℕ) (later : List (ℕ × ℕ)) → left ≡ (c, d) ∷ later → c < k → d < k → {q : List ℕ} → q ≡ meet by_own_leaders link c d p → Met k link all later p₀ q
    unfolding meet_all
    met_next c d later e h l eq = met_on ((c, d) ∷ []) later e (if_within true c d h l) eq

    pub met_end : left ≡ [] → p ≡ meet_all by_own_leaders link all p₀
    unfolding meet_all
    met_end e = sym (i.goes ∙ ap (λ (ps : List (ℕ × ℕ)). meet_all by_own_leaders link ps p) e)
