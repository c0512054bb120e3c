-- The runs of marks, written from the last one on.
use mathlib.Core.Path.{◌≡◌, refl, sym, ap, ap₂, ◌∙◌}
use mathlib.Core.Bool.{Bool, true, false, cond}
use mathlib.Core.List.{List, [], ◌∷◌, map}
use Prim.Native.Nat.{ℕ, suc, ◌+◌, ◌-◌, ◌<◌, ◌≤◌}
use native.Mathlib.Omega.{arith}
use lib.Dec.{eqb}
use lib.ListN.{length, drop, get_or, set, length-drop}
use lib.Seq.{drop-cons}
use borrow.Author.Tests.{eq-eqb}
use Rattle.std.specs.Prelude.{Option, None, Some}
use Rattle.std.specs.Option.{option_eq}
use Rattle.std.proofs.Common.{eqb→eq}
use Rattle.std.proofs.lemmas.Bool.{false≢true}
use mathlib.Core.Logic.{◌⊎◌, inl, inr}
use Rattle.lists.specs.Words.{over}
use Rattle.lists.specs.ListLaws.{true_T, at_map}
use Rattle.lists.proofs.WordLaws.{over_all, over_next, set_over}
use Rattle.lists.proofs.PartLaws.{set_under}
use Rattle.clustering.specs.Runs.{leading, runs_of}
use Rattle.clustering.specs.RunsLaws.{runs_length, leading_more}

-- how many of the marks right ahead are x: after the first of them `run` have its mark
abbrev pub ahead_of : Option ℕ → (run x : ℕ) → ℕ
ahead_of None run x = 0
ahead_of (Some mark) run x = cond (eqb x mark) (run + 1) 0

-- the run of a mark before them, by whether it is the mark of the first
run_hit : (m : Option ℕ) (run own : ℕ) → option_eq eqb m (Some own) ≡ true → run + 1 ≡ ahead_of m run own
run_hit None run own e = absurd (false≢true e)
run_hit (Some x) run own e = rw (eq-eqb own x (sym (eqb→eq x own (true_T e)))) refl

run_miss : (m : Option ℕ) (run own : ℕ) → option_eq eqb m (Some own) ≡ false → 0 ≡ ahead_of m run own
run_miss None run own e = refl
run_miss (Some x) run own e = go (eqb own x) refl
  where
    go : (b : Bool) → eqb own x ≡ b → 0 ≡ cond b (run + 1) 0
    go true f = absurd (false≢true (sym e ∙ eq-eqb x own (sym (eqb→eq own x (true_T f)))))
    go false f = refl

-- b is that, and r is so
pub run_of : (m : Option ℕ) (run own : ℕ) {b : Bool} {r : ℕ} → b ≡ option_eq eqb m (Some own) → ((b ≡ true) × (r ≡ run + 1)) ⊎ ((b ≡ false) × (r ≡ 0)) → r ≡ ahead_of m run own
run_of m run own eb (inl z) = z.1 ∙ run_hit m run own (sym eb ∙ z.0)
run_of m run own eb (inr z) = z.1 ∙ run_miss m run own (sym eb ∙ z.0)

-- how many of them are as the first
abbrev pub counted : Option ℕ → (run : ℕ) → ℕ
counted None run = 0
counted (Some mark) run = run + 1

ahead_le : (m : Option ℕ) (run x : ℕ) → ahead_of m run x ≤ counted m run
ahead_le None run x = omega arith
ahead_le (Some mark) run x = go (eqb x mark)
  where
    go : (b : Bool) → cond b (run + 1) 0 ≤ run + 1
    go true = omega arith
    go false = omega arith

-- ---- the runs of the marks xs from place p on are written
pub record Writing (xs rs₀ rs : List ℕ) (p : ℕ) (mark : Option ℕ) (run : ℕ) : Type 0 where
  pub high : counted mark run + p ≤ length xs
  pub long : length rs₀ ≡ length xs
  pub work : rs ≡ over rs₀ p (runs_of (drop p xs))
  pub ahead : (x : ℕ) → leading x (drop p xs) ≡ ahead_of mark run x

module _ (xs rs₀ : List ℕ) {rs : List ℕ} (p : ℕ) {mark : Option ℕ} {run : ℕ} (i : Writing xs rs₀ rs p mark run) where
  place_le : p ≤ length xs
  place_le = omega (arith, i.high)

  -- the mark before them, and its run
  module _ (h : 0 < p) {own r : ℕ} (eo : own ≡ get_or xs (p - 1) 0) (er : r ≡ ahead_of mark run own) where
    one_more : drop (p - 1) xs ≡ own ∷ drop p xs
    one_more =
        let e : suc (p - 1) ≡ p = omega arith in
        drop-cons xs (p - 1) 0 (omega (arith, place_le)) ∙ ap₂ (λ (x j : ℕ). x ∷ drop j xs) (sym eo) e

    runs_more : runs_of (drop (p - 1) xs) ≡ r ∷ runs_of (drop p xs)
    runs_more = ap runs_of one_more ∙ ap (λ (x : ℕ). x ∷ runs_of (drop p xs)) (i.ahead own ∙ sym er)

    pub writing_on : Writing xs rs₀ (set rs (p - 1) r) (p - 1) (Some own) r
    writing_on =
        let next : p ≡ p - 1 + 1 = omega arith in
        record {
          high = omega (arith, er, ahead_le mark run own, i.high);
          long = i.long;
          work = ap (λ (z : List ℕ). set z (p - 1) r) i.work
              ∙ set_under rs₀ p (runs_of (drop p xs)) (omega (arith, place_le, i.long)) (p - 1) r (omega arith)
              ∙ ap (λ (z : List ℕ). over z p (runs_of (drop p xs))) (set_over rs₀ (p - 1) r (omega (arith, place_le, i.long)))
              ∙ over_next rs₀ (p - 1) p (r ∷ []) (runs_of (drop p xs)) next (omega (arith, runs_length (drop p xs), length-drop p xs, place_le, i.long))
              ∙ ap (over rs₀ (p - 1)) (sym runs_more);
          ahead = λ y. ap (leading y) one_more ∙ leading_more (drop p xs) own r (i.ahead own ∙ sym er) y;
        }

  pub writing_end : p ≤ 0 → rs ≡ runs_of xs
  writing_end h =
      let e : p ≡ 0 = omega arith in
      i.work ∙ ap (λ (j : ℕ). over rs₀ j (runs_of (drop j xs))) e ∙ over_all rs₀ (runs_of xs) (runs_length xs ∙ sym i.long)

-- ---- the marks of the cells zs
module _ (ms zs : List ℕ) where
  abbrev pub marks : List ℕ
  marks = map (λ c. get_or ms c 0) zs

  pub own_mark : {p : ℕ} → p < length zs → get_or ms (get_or zs p 0) 0 ≡ get_or (map (λ c. get_or ms c 0) zs) p 0
  own_mark {p} h = sym (at_map (λ c. get_or ms c 0) 0 0 zs p h)
