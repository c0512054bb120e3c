-- The loops over the frames of a cell: the least number found of the core ones, whether one passes a test, and what all tell.
use mathlib.Core.Path.{◌≡◌, refl, sym, ap, ◌∙◌}
use mathlib.Core.Logic.{◌⊎◌, inl, inr}
use mathlib.Core.Bool.{Bool, true, false, cond, ◌&&◌, ◌||◌}
use mathlib.Core.List.{List, [], ◌∷◌}
use Prim.Native.Nat.{ℕ, suc, ◌+◌, ◌<◌, ◌≤◌, min}
use native.Mathlib.Omega.{arith}
use lib.ListN.{length, get_or, drop, drop_of_length-le}
use lib.Seq.{drop-cons}
use native.Mathlib.Numerals.{add-one}
use Rattle.std.specs.Bool.{then_some}
use Rattle.std.specs.List.{list_any}
use Rattle.std.proofs.Common.{ltb, ltb-false}
use Rattle.std.specs.Prelude.{Option, Some, None, IfSome, unwrap_or}
use Rattle.lists.specs.Lists.{keep, any}
use Rattle.core_cells.specs.Nearest.{beyond, least_until}
use Rattle.core_cells.specs.NearestLaws.{least_none, least_stop, least_next}
use Rattle.core_cells.specs.Settling.{joined, joined_over}
use Rattle.core_cells.specs.SettlingLaws.{no_not_yes, nothing_not_told}

-- those of xs from place k on that pass p
module _ (p : ℕ → Bool) (xs : List ℕ) where
  abbrev pub left : ℕ → List ℕ
  left k = keep p (drop k xs)

  left_end : {k : ℕ} → length xs ≤ k → left k ≡ []
  left_end h = ap (keep p) (drop_of_length-le xs h)

  left_first : {k : ℕ} → k < length xs → {b : Bool} → b ≡ p (get_or xs k 0) → left k ≡ cond b (get_or xs k 0 ∷ left (k + 1)) (left (k + 1))
  left_first {k} h {b} z =
      ap (keep p) (drop-cons xs k 0 h)
      ∙ ap (λ (c : Bool). cond c (get_or xs k 0 ∷ keep p (drop (suc k) xs)) (keep p (drop (suc k) xs))) (sym z)
      ∙ ap (λ (m : ℕ). cond b (get_or xs k 0 ∷ left m) (left m)) (sym (add-one k))

-- ---- what is found from place k on is found of all, if none before is below `enough`
pub record Looking (p : ℕ → Bool) (enough : ℕ) (f : ℕ → ℕ) (xs : List ℕ) (least k : ℕ) : Type 0 where
  pub none_below : enough ≤ least
  pub bound : least ≤ beyond
  pub value : least_until enough f least (left p xs k) ≡ least_until enough f beyond (keep p xs)

module _ {p : ℕ → Bool} {enough : ℕ} {f : ℕ → ℕ} {xs : List ℕ} where
  pub looking_start : enough ≤ beyond → Looking p enough f xs beyond 0
  looking_start h = record { none_below = h; bound = omega arith; value = refl }

  module _ {least k : ℕ} (I : Looking p enough f xs least k) (h : k < length xs) {b : Bool} (z : b ≡ p (get_or xs k 0)) where
    pub looking_miss : b ≡ false → Looking p enough f xs least (k + 1)
    looking_miss q = record { none_below = I.none_below; bound = I.bound; value = ap (least_until enough f least) (sym (left_first p xs h (sym q ∙ z))) ∙ I.value }

    module _ (q : b ≡ true) {d : ℕ} (e : d ≡ f (get_or xs k 0)) where
      first : least_until enough f least (get_or xs k 0 ∷ left p xs (k + 1)) ≡ least_until enough f beyond (keep p xs)
      first = ap (least_until enough f least) (sym (left_first p xs h (sym q ∙ z))) ∙ I.value

      pub looking_stop : d < enough → d ≡ least_until enough f beyond (keep p xs)
      looking_stop l = e ∙ sym (least_stop enough f least (get_or xs k 0) (left p xs (k + 1)) (omega arith)) ∙ first

      pub looking_more : enough ≤ d → {r : ℕ} → r ≡ min least d → Looking p enough f xs r (k + 1)
      looking_more l {r} er = record {
        none_below = omega (arith, I.none_below);
        bound = omega (arith, I.bound);
        value = ap (λ (m : ℕ). least_until enough f m (left p xs (k + 1))) (er ∙ ap (min least) e)
            ∙ sym (least_next enough f least (get_or xs k 0) (left p xs (k + 1)) (omega arith)) ∙ first;
      }

  -- where d is the number of one that passes, or else `beyond`
  module _ {least k : ℕ} (I : Looking p enough f xs least k) (h : k < length xs) where
    pub looking_skip : (b : Bool) → b ≡ p (get_or xs k 0) → {d : ℕ} → d ≡ cond b (f (get_or xs k 0)) beyond → least ≤ d → Looking p enough f xs least (k + 1)
    looking_skip false z e l = looking_miss I h z refl
    looking_skip true z e l = looking_more I h z refl e (omega (arith, l, I.none_below)) (omega (arith, l))

    pub looking_less : (b : Bool) → b ≡ p (get_or xs k 0) → {d : ℕ} → d ≡ cond b (f (get_or xs k 0)) beyond → d < least → enough ≤ d → Looking p enough f xs d (k + 1)
    looking_less false z e l m = absurd (omega (arith, e, l, I.bound))
    looking_less true z e l m = looking_more I h z refl e m (omega (arith, l))

    pub looking_found : (b : Bool) → b ≡ p (get_or xs k 0) → {d : ℕ} → d ≡ cond b (f (get_or xs k 0)) beyond → d < least → d < enough → d ≡ least_until enough f beyond (keep p xs)
    looking_found false z e l m = absurd (omega (arith, e, l, I.bound))
    looking_found true z e l m = looking_stop I h z refl e m

  pub looking_end : {least k : ℕ} → Looking p enough f xs least k → length xs ≤ k → least ≡ least_until enough f beyond (keep p xs)
  looking_end {least} I h = sym (ap (least_until enough f least) (left_end p xs h) ∙ least_none enough f least) ∙ I.value

-- the least number found, if one is below those of no frame
pub least_found_of : {least : ℕ} → least ≤ beyond → {r : Option ℕ} → r ≡ then_some (ltb least beyond) least → (unwrap_or r beyond ≡ least) × IfSome r (λ x. x ≤ beyond)
least_found_of {least} h {r} e = rw e (go (ltb least beyond) refl)
  where
    go : (b : Bool) → ltb least beyond ≡ b → (unwrap_or (then_some b least) beyond ≡ least) × IfSome (then_some b least) (λ x. x ≤ beyond)
    go true q = (refl, h)
    go false q = (omega (arith, ltb-false least beyond q), tt)

-- the number of one that passes, or else `beyond`
pub passed_or_beyond : {b : Bool} {d x : ℕ} → ((b ≡ true) × (d ≡ x)) ⊎ ((b ≡ false) × (d ≡ beyond)) → d ≡ cond b x beyond
passed_or_beyond {x = x} (inl z) = z.1 ∙ ap (λ (t : Bool). cond t x beyond) (sym z.0)
passed_or_beyond {x = x} (inr z) = z.1 ∙ ap (λ (t : Bool). cond t x beyond) (sym z.0)

-- ---- whether one passes both p and f
pub any_kept : (p f : ℕ → Bool) (xs : List ℕ) → list_any (λ x. p x && f x) xs ≡ any f (keep p xs)
any_kept p f [] = refl
any_kept p f (x ∷ xs) = go (p x) (any_kept p f xs)
  where
    tail : (b : Bool) {r : Bool} → r ≡ any f (keep p xs) → (b || r) ≡ cond b true (any f (keep p xs))
    tail true e = refl
    tail false e = e

    go : (a : Bool) {r : Bool} → r ≡ any f (keep p xs) → ((a && f x) || r) ≡ any f (cond a (x ∷ keep p xs) (keep p xs))
    go true e = tail (f x) e
    go false e = e

-- ---- what f tells of those from place k on, with what is told of those before, is what it tells of all: of those before it tells nothing, or false
pub record Joining (p : ℕ → Bool) (f : ℕ → Option Bool) (xs : List ℕ) (told : Option Bool) (k : ℕ) : Type 0 where
  pub so_far : told ≡ Some true → ⊥
  pub value : joined told (joined_over f (left p xs k)) ≡ joined_over f (keep p xs)

open_stays : (o t : Option Bool) → (o ≡ Some true → ⊥) → joined o (joined None t) ≡ joined None t
open_stays None None h = refl
open_stays None (Some true) h = refl
open_stays None (Some false) h = refl
open_stays (Some false) t h = refl
open_stays (Some true) t h = absurd (h refl)

after_yes : (o : Option Bool) → joined o (Some true) ≡ Some true
after_yes None = refl
after_yes (Some false) = refl
after_yes (Some true) = refl

after_none : (o : Option Bool) → (o ≡ Some true → ⊥) → joined o (Some false) ≡ o
after_none None h = refl
after_none (Some false) h = refl
after_none (Some true) h = absurd (h refl)

module _ {p : ℕ → Bool} {f : ℕ → Option Bool} {xs : List ℕ} where
  pub joining_start : Joining p f xs (Some false) 0
  joining_start = record { so_far = λ e. no_not_yes e; value = refl }

  module _ {o : Option Bool} {k : ℕ} (I : Joining p f xs o k) (h : k < length xs) {a : Bool} (z : a ≡ p (get_or xs k 0)) where
    pub joining_miss : a ≡ false → Joining p f xs o (k + 1)
    joining_miss q = record { so_far = I.so_far; value = ap (λ (ys : List ℕ). joined o (joined_over f ys)) (sym (left_first p xs h (sym q ∙ z))) ∙ I.value }

    module _ (q : a ≡ true) {t : Option Bool} (e : t ≡ f (get_or xs k 0)) where
      told : joined o (joined t (joined_over f (left p xs (k + 1)))) ≡ joined_over f (keep p xs)
      told =
          ap (λ (u : Option Bool). joined o (joined u (joined_over f (left p xs (k + 1))))) e
          ∙ ap (λ (ys : List ℕ). joined o (joined_over f ys)) (sym (left_first p xs h (sym q ∙ z))) ∙ I.value

    pub joining_no : a ≡ true → Some false ≡ f (get_or xs k 0) → Joining p f xs o (k + 1)
    joining_no q e = record { so_far = I.so_far; value = told q e }

    pub joining_open : a ≡ true → None ≡ f (get_or xs k 0) → Joining p f xs None (k + 1)
    joining_open q e = record { so_far = λ e. nothing_not_told e; value = sym (open_stays o (joined_over f (left p xs (k + 1))) I.so_far) ∙ told q e }

    pub joining_yes : a ≡ true → Some true ≡ f (get_or xs k 0) → Some true ≡ joined_over f (keep p xs)
    joining_yes q e = sym (after_yes o) ∙ told q e

  pub joining_end : {o : Option Bool} {k : ℕ} → Joining p f xs o k → length xs ≤ k → o ≡ joined_over f (keep p xs)
  joining_end {o} I h = sym (ap (λ (ys : List ℕ). joined o (joined_over f ys)) (left_end p xs h) ∙ after_none o I.so_far) ∙ I.value
