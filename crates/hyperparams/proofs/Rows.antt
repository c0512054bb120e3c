-- The table row by row, from what the tests of `check` say.
use Rattle.std.specs.Prelude.{None, Some, Ok, Err, nat_le}
use Rattle.std.proofs.Common.{◌≡◌, ℕ, ◌/◌, ◌%◌, ◌<◌, ◌≤◌, true, false, ◌⊎◌, drop, subst, inl, inr, arith, le-ltb, lt-ltb, eq-eqb, ne_eqb, le-leb, leb-true, leb-false}
use Rattle.std.proofs.lemmas.Option.{cond_some}
use mathlib.Core.Bool.{or-true}
use lib.Ieee.{Float, le}
use borrow.Author.Tests.{lt-leb}
use Rattle.hyperparams.specs.declared.Params.{Params}
use Rattle.hyperparams.specs.declared.Refusal.TheVariants.{MinPoints, Tolerance, Slack, ToleranceDomain, SlackDomain, Channels, Points, Results, Work}
use Rattle.hyperparams.specs.Params.{Verdict, float, whole_tolerance_of, slack_power, slack_power_of, appx_tolerance_of, work_words, max_frames, max_power, valid_of, checked_of}
use Rattle.hyperparams.specs.Accepted.{conditions, first_row, refusals, checked_rows}
use Rattle.hyperparams.specs.Tolerance.{some_good, cond_none, none_good}

-- rows 1 to 3 do not apply
pub record Source (p : Params) : Type 0 where
  pub points : 1 < p.min_points
  pub tolerance : le p.tolerance (float 0) ≡ false
  pub slack : le p.slack (float 0) ≡ false

-- rows 1 to 5 do not apply: t and s are there
pub record Settled (p : Params) (t s : ℕ) : Type 0 where
  pub source : Source p
  pub t_is : whole_tolerance_of p.tolerance ≡ Some t
  pub s_is : slack_power_of p.slack ≡ Some s

-- rows 1 to 7 do not apply
pub record Framed (p : Params) (t s points : ℕ) : Type 0 where
  pub settled : Settled p t s
  pub low : 1 ≤ p.channels
  pub high : p.channels ≤ 4
  pub even : points % p.channels ≡ 0
  pub few : points / p.channels ≤ max_frames

-- the records from what the tests say, for the search
pub source_by : {p : Params} → 1 < p.min_points → le p.tolerance (float 0) ≡ false → le p.slack (float 0) ≡ false → Source p
source_by a b c = record { points = a; tolerance = b; slack = c }

pub settled_by : {p : Params} {t s : ℕ} → Source p → whole_tolerance_of p.tolerance ≡ Some t → slack_power_of p.slack ≡ Some s → Settled p t s
settled_by a b c = record { source = a; t_is = b; s_is = c }

pub framed_by : {p : Params} {t s points : ℕ} → Settled p t s → 1 ≤ p.channels → p.channels ≤ 4 → points % p.channels ≡ 0 → points / p.channels ≤ max_frames → Framed p t s points
framed_by a b c d e = record { settled = a; low = b; high = c; even = d; few = e }

power_some : (x : Float) (s : ℕ) → slack_power_of x ≡ Some s → (slack_power x ≤ max_power) × (slack_power x ≡ s)
power_some x s e = let h = cond_some (nat_le (slack_power x) max_power) (slack_power x) s e in (leb-true (slack_power x) max_power h.0, h.1)

power_none : (x : Float) → slack_power_of x ≡ None → max_power < slack_power x
power_none x e = leb-false (slack_power x) max_power (cond_none (nat_le (slack_power x) max_power) (slack_power x) e)

module _ (p : Params) (points labels kinds work : ℕ) where
  abbrev answer : Verdict
  answer = checked_of p points labels kinds work

  abbrev frames : ℕ
  frames = points / p.channels

  -- the table from row n + 1 on
  abbrev after : ℕ → Verdict
  after n = first_row (drop n (conditions p points labels kinds work)) (drop n refusals) (Ok (valid_of p))

  pub row1 : p.min_points ≤ 1 → Err MinPoints ≡ answer
  row1 h = simp (checked_rows, le-leb _ _ h)

  pub row2 : 1 < p.min_points → le p.tolerance (float 0) ≡ true → Err Tolerance ≡ answer
  row2 h i = simp (checked_rows, lt-leb _ _ h, i)

  pub row3 : 1 < p.min_points → le p.tolerance (float 0) ≡ false → le p.slack (float 0) ≡ true → Err Slack ≡ answer
  row3 h i j = simp (checked_rows, lt-leb _ _ h, i, j)

  after_three : Source p → answer ≡ after 3
  after_three h = simp (checked_rows, lt-leb _ _ h.points, h.tolerance, h.slack)

  pub row4 : Source p → whole_tolerance_of p.tolerance ≡ None → Err ToleranceDomain ≡ answer
  row4 h e = simp (after_three h, none_good p.tolerance e)

  pub row5 : {t : ℕ} → Source p → whole_tolerance_of p.tolerance ≡ Some t → slack_power_of p.slack ≡ None → Err SlackDomain ≡ answer
  row5 {t} h e n = simp (after_three h, (some_good p.tolerance t e).0, lt-ltb max_power _ (power_none p.slack n))

  after_five : {t s : ℕ} → Settled p t s → answer ≡ after 5
  after_five {t} {s} h = simp (after_three h.source, (some_good p.tolerance t h.t_is).0, le-ltb max_power _ (power_some p.slack s h.s_is).0)

  pub row6 : {t s : ℕ} → Settled p t s → (p.channels < 1) ⊎ (4 < p.channels) → Err Channels ≡ answer
  row6 h (inl a) = simp (after_five h, lt-leb _ _ a)
  row6 h (inr a) = let b : 1 ≤ p.channels = omega arith in simp (after_five h, le-leb _ _ b, lt-leb _ _ a)

  pub row7 : {t s : ℕ} → Settled p t s → 1 ≤ p.channels → p.channels ≤ 4 → ((points % p.channels ≡ 0 → ⊥) ⊎ ((points % p.channels ≡ 0) × (max_frames < frames))) → Err Points ≡ answer
  row7 h a b (inl n) = simp (after_five h, le-leb _ _ a, le-leb _ _ b, ne_eqb _ _ n)
  row7 h a b (inr n) = simp (after_five h, le-leb _ _ a, le-leb _ _ b, lt-ltb _ _ n.1, or-true)

  after_seven : {t s : ℕ} → Framed p t s points → answer ≡ after 7
  after_seven h = simp (after_five h.settled, le-leb _ _ h.low, le-leb _ _ h.high, eq-eqb _ _ h.even, le-ltb _ _ h.few)

  pub row8 : {t s : ℕ} → Framed p t s points → (labels < frames) ⊎ ((frames ≤ labels) × (kinds < frames)) → Err Results ≡ answer
  row8 h (inl n) = simp (after_seven h, lt-ltb _ _ n)
  row8 h (inr n) = simp (after_seven h, lt-ltb _ _ n.1, or-true)

  after_eight : {t s : ℕ} → Framed p t s points → frames ≤ labels → frames ≤ kinds → answer ≡ after 8
  after_eight h a b = simp (after_seven h, le-ltb _ _ a, le-ltb _ _ b)

  pub row9 : {t s words : ℕ} → Framed p t s points → frames ≤ labels → frames ≤ kinds → words ≡ work_words frames s → work < words → Err Work ≡ answer
  row9 h a b e n = simp (after_eight h a b, (power_some p.slack _ h.settled.s_is).1, lt-ltb _ _ (subst (λ (k : ℕ). work < k) e n))

  pub no_row : {t s words : ℕ} {x : Float} → Framed p t s points → frames ≤ labels → frames ≤ kinds → words ≡ work_words frames s → words ≤ work → x ≡ appx_tolerance_of p.tolerance p.slack
      → Ok (record { channels = p.channels; min_points = p.min_points; tolerance = p.tolerance; appx_tolerance = x; t = t; s = s }) ≡ answer
  no_row h a b e n q =
      let t = some_good p.tolerance _ h.settled.t_is in
      let s = power_some p.slack _ h.settled.s_is in
      simp (after_eight h a b, le-ltb _ _ (subst (λ (k : ℕ). k ≤ work) e n), q, t.1, s.1)
