-- Document 01, "Each number is returned on its condition only." and "A run is accepted if no refusal's condition holds.": what a refused and what an accepted run has.
use Rattle.std.specs.Prelude.{◌≡◌, ℕ, zero, suc, ◌+◌, ◌/◌, ◌%◌, ◌<◌, ◌≤◌, Bool, true, false, cond, not, ◌&&◌, ◌||◌, T, ◌⊎◌, ◌↔◌, List, [], ◌∷◌, get_or, ◌==◌, nat_le, nat_lt, slice_index_or, refl, Ok, Err}
use Rattle.std.proofs.Common.{sym, ap, ◌∙◌, subst, inl, inr, ⊎_elim, arith, ltb-false, leb-true, leb-false, eqb-true}
use Rattle.std.proofs.lemmas.Bool.{false≢true, not-false}
use Rattle.std.proofs.Math.Bool.{and-eq-true_iff}
use Rattle.std.specs.Float.Ieee.{le}
use Rattle.hyperparams.specs.declared.Params.{Params}
use Rattle.hyperparams.specs.declared.ValidParams.{ValidParams}
use Rattle.hyperparams.specs.declared.Refusal.{Refusal}
use Rattle.hyperparams.specs.declared.Refusal.TheVariants.{MinPoints, Tolerance, Slack, ToleranceDomain, SlackDomain, Channels, Points, Results, Work}
use Rattle.hyperparams.specs.Params.{Verdict, float, good_tolerance, slack_power, valid_of, work_words, max_frames, max_power, checked_of, number_of}

-- the conditions of rows 1 to 9 of the table
abbrev pub conditions : Params → (points labels kinds work : ℕ) → List Bool
conditions p points labels kinds work =
    let frames = points / p.channels in
    nat_le p.min_points 1
    ∷ (le p.tolerance (float 0)
    ∷ (le p.slack (float 0)
    ∷ (not (good_tolerance p.tolerance)
    ∷ (nat_lt max_power (slack_power p.slack)
    ∷ (not (nat_le 1 p.channels && nat_le p.channels 4)
    ∷ ((not (points % p.channels == 0) || nat_lt max_frames frames)
    ∷ ((nat_lt labels frames || nat_lt kinds frames)
    ∷ (nat_lt work (work_words frames (slack_power p.slack))
    ∷ []))))))))

-- the refusal beside the first condition that holds, v where none does
abbrev pub first_row : List Bool → List Refusal → Verdict → Verdict
first_row [] rs v = v
first_row (b ∷ bs) [] v = v
first_row (b ∷ bs) (r ∷ rs) v = cond b (Err r) (first_row bs rs v)

-- the refusals of rows 1 to 9
abbrev pub refusals : List Refusal
refusals = MinPoints ∷ (Tolerance ∷ (Slack ∷ (ToleranceDomain ∷ (SlackDomain ∷ (Channels ∷ (Points ∷ (Results ∷ (Work ∷ []))))))))

-- the table is the list of its rows
pub checked_rows : (p : Params) (points labels kinds work : ℕ) → checked_of p points labels kinds work ≡ first_row (conditions p points labels kinds work) refusals (Ok (valid_of p))
unfolding checked_of
checked_rows p points labels kinds work = refl

-- no condition holds
abbrev pub NoRow : List Bool → Type 0
NoRow bs = (k : ℕ) → slice_index_or bs k false ≡ false

-- condition k, counted from 0, is the first that holds
pub record First (bs : List Bool) (k : ℕ) : Type 0 where
  pub holds : get_or bs k false ≡ true
  pub earlier : (j : ℕ) → j < k → slice_index_or bs j false ≡ false

-- the number returned, 0 where the run is accepted
abbrev pub returned : Verdict → ℕ
returned (Ok v) = 0
returned (Err r) = number_of r

-- ---- the number of the first condition that holds, counted from n, 0 where there is none
first_from : ℕ → List Bool → ℕ
first_from n [] = 0
first_from n (b ∷ bs) = cond b n (first_from (suc n) bs)

none_from : (n : ℕ) (bs : List Bool) → NoRow bs → first_from n bs ≡ 0
unfolding first_from
none_from n [] f = refl
none_from n (true ∷ bs) f = absurd (false≢true (sym (f 0)))
none_from n (false ∷ bs) f = none_from (suc n) bs (λ k. f (suc k))

first_from_lem : (n : ℕ) (bs : List Bool) (k : ℕ) → First bs k → first_from n bs ≡ n + k
unfolding first_from
first_from_lem n [] k h = absurd (false≢true h.holds)
first_from_lem n (true ∷ bs) zero h = omega arith
first_from_lem n (true ∷ bs) (suc k) h = absurd (false≢true (sym (h.earlier 0 (omega arith))))
first_from_lem n (false ∷ bs) zero h = absurd (false≢true h.holds)
first_from_lem n (false ∷ bs) (suc k) h = first_from_lem (suc n) bs k (record { holds = h.holds; earlier = λ j l. h.earlier (suc j) (omega arith) }) ∙ omega arith

first_or_none : (bs : List Bool) → NoRow bs ⊎ ((k : ℕ) × First bs k)
first_or_none [] = inl (λ k. refl)
first_or_none (true ∷ bs) = inr (0, record { holds = refl; earlier = λ j l. absurd (omega arith) })
first_or_none (false ∷ bs) = ⊎_elim (λ f. inl (all f)) (λ h. inr (suc h.0, record { holds = h.1.holds; earlier = below h.0 h.1 })) (first_or_none bs)
  where
    all : NoRow bs → NoRow (false ∷ bs)
    all f zero = refl
    all f (suc k) = f k

    below : (k : ℕ) → First bs k → (j : ℕ) → j < suc k → slice_index_or (false ∷ bs) j false ≡ false
    below k h zero l = refl
    below k h (suc j) l = h.earlier j (omega arith)

first_iff : (bs : List Bool) (k : ℕ) → (first_from 1 bs ≡ suc k) ↔ First bs k
first_iff bs k = (λ e. ⊎_elim (λ f. absurd (omega (arith, none_from 1 bs f))) (λ h. same e h.0 h.1) (first_or_none bs), λ h. first_from_lem 1 bs k h ∙ omega arith)
  where
    same : first_from 1 bs ≡ suc k → (j : ℕ) → First bs j → First bs k
    same e j h = let i : j ≡ k = omega (arith, first_from_lem 1 bs j h) in subst (First bs) i h

none_iff : (bs : List Bool) → (first_from 1 bs ≡ 0) ↔ NoRow bs
none_iff bs = (λ e. ⊎_elim (λ f. f) (λ h. absurd (omega (arith, first_from_lem 1 bs h.0 h.1))) (first_or_none bs), none_from 1 bs)

returned_cond : (b : Bool) (r : Refusal) (c : Verdict) → returned (cond b (Err r) c) ≡ cond b (number_of r) (returned c)
returned_cond true r c = refl
returned_cond false r c = refl

neither : (a b : Bool) → a || b ≡ false → (a ≡ false) × (b ≡ false)
neither true b e = absurd (false≢true (sym e))
neither false b e = (refl, e)

-- what an accepted run has; there are points / channels frames
pub record Accepted (p : Params) (v : ValidParams) (points labels kinds work : ℕ) : Type 0 where
  pub settings : v ≡ valid_of p
  pub two_points : 2 ≤ p.min_points
  pub tolerance_fits : T (good_tolerance p.tolerance)
  pub low_power : slack_power p.slack ≤ max_power
  pub some_channels : 1 ≤ p.channels
  pub few_channels : p.channels ≤ 4
  pub whole_frames : points % p.channels ≡ 0
  pub few_frames : points / p.channels ≤ max_frames
  pub labels_fit : points / p.channels ≤ labels
  pub kinds_fit : points / p.channels ≤ kinds
  pub work_fits : work_words (points / p.channels) (slack_power p.slack) ≤ work

module _ (p : Params) (points labels kinds work : ℕ) where
  returned_first : returned (checked_of p points labels kinds work) ≡ first_from 1 (conditions p points labels kinds work)
  unfolding first_from
  returned_first = simp (checked_rows, returned_cond)

  -- number k + 1 is returned exactly if condition k is the first that holds
  pub refused : (k : ℕ) → (returned (checked_of p points labels kinds work) ≡ suc k) ↔ First (conditions p points labels kinds work) k
  refused k = let i = first_iff (conditions p points labels kinds work) k in (λ e. i.0 (sym returned_first ∙ e), λ h. returned_first ∙ i.1 h)

  -- a run is accepted exactly if no condition holds
  pub valid : (checked_of p points labels kinds work ≡ Ok (valid_of p)) ↔ NoRow (conditions p points labels kinds work)
  valid = (
    λ e. (none_iff (conditions p points labels kinds work)).0 (sym returned_first ∙ ap returned e),
    λ f. simp (checked_rows, f 0, f 1, f 2, f 3, f 4, f 5, f 6, f 7, f 8),
  )

  pub accepted : {v : ValidParams} → checked_of p points labels kinds work ≡ Ok v → Accepted p v points labels kinds work
  accepted {v} e =
      let frames = points / p.channels in
      let f = (none_iff (conditions p points labels kinds work)).0 (sym returned_first ∙ ap returned e) in
      let channels = (and-eq-true_iff (nat_le 1 p.channels) (nat_le p.channels 4)).0 (not-false (nat_le 1 p.channels && nat_le p.channels 4) (f 5)) in
      let lengths = neither (not (points % p.channels == 0)) (nat_lt max_frames frames) (f 6) in
      let results = neither (nat_lt labels frames) (nat_lt kinds frames) (f 7) in
      record {
        settings = cc (valid.1 f);
        two_points = leb-false p.min_points 1 (f 0);
        tolerance_fits = subst T (sym (not-false (good_tolerance p.tolerance) (f 3))) tt;
        low_power = ltb-false max_power (slack_power p.slack) (f 4);
        some_channels = leb-true 1 p.channels channels.0;
        few_channels = leb-true p.channels 4 channels.1;
        whole_frames = eqb-true (points % p.channels) 0 (not-false (points % p.channels == 0) lengths.0);
        few_frames = ltb-false max_frames frames lengths.1;
        labels_fit = ltb-false labels frames results.0;
        kinds_fit = ltb-false kinds frames results.1;
        work_fits = ltb-false work (work_words frames (slack_power p.slack)) (f 8);
      }
