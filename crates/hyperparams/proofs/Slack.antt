-- The power of a slack, from the powers at which it was looked for.
use Rattle.std.specs.Prelude.{Option, None, Some, MatchOption}
use Rattle.std.proofs.Common.{◌≡◌, ℕ, zero, suc, ◌+◌, ◌<◌, ◌≤◌, Bool, true, false, cond, refl, ap, ◌∙◌, arith, le-leb}
use native.Mathlib.Decide.{ℕ_discrete}
use lib.Ieee.{Float, eq}
use Rattle.hyperparams.specs.Params.{max_power, slack_at, slack_from, slack_power, slack_power_of}

module _ (x : Float) where
  abbrev test : ℕ → Bool
  test s = eq x (slack_at s)

  from_first : (n a s : ℕ) → a ≤ s → s < a + n → test s ≡ true → ((k : ℕ) → a ≤ k → k < s → test k ≡ false) → slack_from n a x ≡ s
  from_first zero a s h l t f = absurd (omega arith)
  from_first (suc n) a s h l t f = go (ℕ_discrete a s) (λ e. from_first n (suc a) s (omega arith) (omega arith) t (λ k i j. f k (omega arith) j))
    where
      go : Dec (a ≡ s) → ((a ≡ s → ⊥) → slack_from n (suc a) x ≡ s) → slack_from (suc n) a x ≡ s
      go (yes e) more = ap (λ (b : Bool). cond b a (slack_from n (suc a) x)) (ap test e ∙ t) ∙ e
      go (no e) more = ap (λ (b : Bool). cond b a (slack_from n (suc a) x)) (f a (omega arith) (omega arith)) ∙ more e

  from_none : (n a : ℕ) → ((k : ℕ) → a ≤ k → k < a + n → test k ≡ false) → slack_from n a x ≡ a + n
  from_none zero a f = omega arith
  from_none (suc n) a f = ap (λ (b : Bool). cond b a (slack_from n (suc a) x)) (f a (omega arith) (omega arith)) ∙ from_none n (suc a) (λ k i j. f k (omega arith) (omega arith)) ∙ omega arith

  -- r is the first power that fits, or None where none does
  pub power_is : (r : Option ℕ) → MatchOption r ((k : ℕ) → 0 ≤ k → k < suc max_power → eq x (slack_at k) ≡ false) (λ s. (0 ≤ s) × (s < suc max_power) × (eq x (slack_at s) ≡ true) × ((k : ℕ) → 0 ≤ k → k < s → eq x (slack_at k) ≡ false))
      → r ≡ slack_power_of x
  unfolding slack_power
  power_is None f =
      let e : slack_power x ≡ suc max_power = from_none (suc max_power) 0 f in
      rw e refl
  power_is (Some s) (l, h, t, f) =
      let e : slack_power x ≡ s = from_first (suc max_power) 0 s l h t f in
      rw (e, le-leb s max_power (omega arith))
