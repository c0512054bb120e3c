-- A stretch of the sorted cells is walked, marked ones are passed with their runs, and those that are found are listed; one list is written after another.
use mathlib.Core.Path.{◌≡◌, refl, sym, ap, ◌∙◌}
use mathlib.Core.Bool.{Bool, true, false, ◌&&◌, cond}
use mathlib.Core.List.{List, [], ◌∷◌, ◌++◌, append_assoc, append-nil}
use Prim.Native.Nat.{ℕ, zero, suc, ◌+◌, ◌-◌, ◌<◌, ◌≤◌}
use native.Mathlib.Decide.{dec_lt}
use native.Mathlib.Omega.{arith}
use lib.ListN.{length, get_or, set, length-append}
use Rattle.std.specs.Prelude.{Option}
use Rattle.lists.specs.Lists.{keep}
use Rattle.lists.specs.Words.{over, part}
use Rattle.lists.proofs.WordLaws.{over_length, over_nil, over_snoc, over_next}
use Rattle.lists.proofs.PartLaws.{part_first}
use Rattle.cells_grid.specs.declared.listing.Passed.{Passed}
use Rattle.cells_grid.specs.Passing.{Passes, left_of, passed_at}
use Rattle.cells_grid.proofs.PassingLaws.{left_at, left_none, left_append, left_more, none_passed, run_passed}

-- of the sorted cells zs from place a up to b those that are found and left
abbrev pub listed_of : (found : ℕ → Bool) → Option Passed → List ℕ → (a b : ℕ) → List ℕ
listed_of found o zs a b = left_of o (keep found (part zs a (b - a)))

-- they have room in w₀ after its first m words
pub record Searched (found : ℕ → Bool) (o : Option Passed) (zs : List ℕ) (m a b : ℕ) (w₀ : List ℕ) : Type 0 where
  pub passes : Passes zs o
  pub high : b ≤ length zs
  pub room : m + length (listed_of found o zs a b) ≤ length w₀

pub searched : {found : ℕ → Bool} {o : Option Passed} {zs : List ℕ} {m a b : ℕ} {w₀ : List ℕ} → Passes zs o → b ≤ length zs → m + length (listed_of found o zs a b) ≤ length w₀ → Searched found o zs m a b w₀
searched p h r = record { passes = p; high = h; room = r }

-- the walk stands before place p, which a run may lead past b: after the first m words of w₀ the cells `done` are listed
pub record Walking (found : ℕ → Bool) (o : Option Passed) (zs : List ℕ) (m a b : ℕ) (w₀ w : List ℕ) (to p : ℕ) : Type 0 where
  pub done : List ℕ
  pub count : to ≡ m + length done
  pub laid : w ≡ over w₀ m done
  pub left : done ++ listed_of found o zs p b ≡ listed_of found o zs a b

module _ {found : ℕ → Bool} {o : Option Passed} {zs : List ℕ} {m a b : ℕ} {w₀ : List ℕ} (S : Searched found o zs m a b w₀) where
  abbrev coming : ℕ → List ℕ
  coming p = listed_of found o zs p b

  -- ---- what is left of the stretch at place q, and at the next one
  none_coming : (q : ℕ) → b ≤ q → coming q ≡ []
  none_coming q h =
      let e : b - q ≡ 0 = omega arith in
      ap (λ (x : ℕ). left_of o (keep found (part zs q x))) e ∙ left_none o

  abbrev cell : ℕ → ℕ
  cell q = get_or zs q 0

  step : (q : ℕ) → q < b → coming q ≡ cond (left_at o (cell q) && found (cell q)) (cell q ∷ coming (q + 1)) (coming (q + 1))
  step q h =
      let e : b - q ≡ b - (q + 1) + 1 = omega arith in
      ap (λ (l : List ℕ). left_of o (keep found l)) (ap (part zs q) e ∙ part_first zs q (b - (q + 1)) (omega (arith, S.high)))
      ∙ left_more o (found (cell q)) (cell q) (keep found (part zs (q + 1) (b - (q + 1))))

  -- a cell that is passed is none of them, nor are j in a row
  passed_step : (q : ℕ) → (q < b → left_at o (cell q) ≡ false) → coming q ≡ coming (q + 1)
  passed_step q h = elim (dec_lt q b) [
    | yes l ↦ step q l ∙ ap (λ (z : Bool). cond (z && found (cell q)) (cell q ∷ coming (q + 1)) (coming (q + 1))) (h l)
    | no l ↦ none_coming q (omega arith) ∙ sym (none_coming (q + 1) (omega arith))
  ]

  passed_steps : (j q : ℕ) → ((x : ℕ) → x < j → q + x < b → left_at o (cell (q + x)) ≡ false) → coming q ≡ coming (q + j)
  passed_steps zero q h =
      let e : q ≡ q + 0 = omega arith in
      ap coming e
  passed_steps (suc j) q h =
      let e : q + j + 1 ≡ q + suc j = omega arith in
      passed_steps j q (λ x l. h x (omega arith)) ∙ passed_step (q + j) (h j (omega arith)) ∙ ap coming e

  pub walking_start : Walking found o zs m a b w₀ w₀ m a
  walking_start = record { done = []; count = omega arith; laid = sym (over_nil w₀ m); left = refl }

  module _ {w : List ℕ} {to p : ℕ} (W : Walking found o zs m a b w₀ w to p) where
    some : length W.done + length (coming p) ≡ length (coming a)
    some = sym (length-append W.done (coming p)) ∙ ap length W.left

    pub walking_length : length w ≡ length w₀
    walking_length = ap length W.laid ∙ over_length w₀ m W.done (omega (arith, some, S.room))

    module _ (more : p < b) where
      pub walking_place : p < length zs
      walking_place = omega (arith, S.high)

      -- x cells are passed
      module _ {x : ℕ} (e : x ≡ passed_at o p (get_or zs p 0)) where
        pub walking_run : Walking found o zs m a b w₀ w to (p + x)
        walking_run = record {
          done = W.done;
          count = W.count;
          laid = W.laid;
          left = ap (λ (z : List ℕ). W.done ++ z) (sym (passed_steps x p (λ y h k. run_passed o zs S.passes p y (omega (arith, S.high)) (omega (arith, e))))) ∙ W.left;
        }

        module _ (u : x ≡ 0) {t : Bool} (h : t ≡ found (get_or zs p 0)) where
          now_left : {s : Bool} → t ≡ s → coming p ≡ cond s (cell p ∷ coming (p + 1)) (coming (p + 1))
          now_left f = step p more
              ∙ ap (λ (z : Bool). cond (z && found (cell p)) (cell p ∷ coming (p + 1)) (coming (p + 1))) (none_passed o p (cell p) (sym e ∙ u))
              ∙ ap (λ (z : Bool). cond z (cell p ∷ coming (p + 1)) (coming (p + 1))) (sym h ∙ f)

          pub walking_miss : t ≡ false → Walking found o zs m a b w₀ w to (p + 1)
          walking_miss f = record {
            done = W.done;
            count = W.count;
            laid = W.laid;
            left = ap (λ (l : List ℕ). W.done ++ l) (sym (now_left f)) ∙ W.left;
          }

          module _ (f : t ≡ true) where
            pub walking_room : to < length w
            walking_room = omega (arith, W.count, some, ap length (now_left f), S.room, walking_length)

            pub walking_hit : Walking found o zs m a b w₀ (set w to (get_or zs p 0)) (to + 1) (p + 1)
            walking_hit = record {
              done = W.done ++ (cell p ∷ []);
              count = omega (arith, W.count, length-append W.done (cell p ∷ []));
              laid = ap (λ (z : List ℕ). set z to (cell p)) W.laid ∙ over_snoc w₀ m to W.done (cell p) W.count (omega (arith, walking_room, walking_length));
              left = append_assoc W.done (cell p ∷ []) (coming (p + 1)) ∙ ap (λ (l : List ℕ). W.done ++ l) (sym (now_left f)) ∙ W.left;
            }

    pub walking_end : b ≤ p → (to ≡ m + length (listed_of found o zs a b)) × (w ≡ over w₀ m (listed_of found o zs a b))
    walking_end h =
        let l : W.done ≡ coming a = sym (append-nil W.done) ∙ ap (λ (z : List ℕ). W.done ++ z) (sym (none_coming p h)) ∙ W.left in
        (W.count ∙ ap (λ (q : List ℕ). m + length q) l, W.laid ∙ ap (over w₀ m) l)

-- of the cells ls, which are xs and after them ys, those that are left have room in w after its first m words
pub record InTwo (o : Option Passed) (xs ys ls : List ℕ) (m : ℕ) (w : List ℕ) : Type 0 where
  pub whole : xs ++ ys ≡ ls
  pub room : m + length (left_of o ls) ≤ length w

pub in_two : (o : Option Passed) {xs ys ls : List ℕ} {m : ℕ} {w : List ℕ} → xs ++ ys ≡ ls → m + length (left_of o ls) ≤ length w → InTwo o xs ys ls m w
in_two o e r = record { whole = e; room = r }

-- and are listed there
module _ {o : Option Passed} {xs ys ls : List ℕ} {m : ℕ} {w : List ℕ} (T : InTwo o xs ys ls m w) where
  both : left_of o xs ++ left_of o ys ≡ left_of o ls
  both = sym (left_append o xs ys) ∙ ap (left_of o) T.whole

  sizes : length (left_of o xs) + length (left_of o ys) ≡ length (left_of o ls)
  sizes = sym (length-append (left_of o xs) (left_of o ys)) ∙ ap length both

  pub first_room : m + length (left_of o xs) ≤ length w
  first_room = omega (arith, T.room, sizes)

  module _ {t : ℕ} {u : List ℕ} (p : t ≡ m + length (left_of o xs)) (q : u ≡ over w m (left_of o xs)) where
    pub first_length : length u ≡ length w
    first_length = ap length q ∙ over_length w m (left_of o xs) first_room

    pub second_room : t + length (left_of o ys) ≤ length u
    second_room = omega (arith, T.room, sizes, p, first_length)

    pub both_listed : {s : ℕ} {x : List ℕ} → s ≡ t + length (left_of o ys) → x ≡ over u t (left_of o ys) → (s ≡ m + length (left_of o ls)) × (x ≡ over w m (left_of o ls))
    both_listed f g = (
      omega (arith, f, p, sizes),
      g ∙ ap (λ (z : List ℕ). over z t (left_of o ys)) q ∙ over_next w m t (left_of o xs) (left_of o ys) p (omega (arith, T.room, sizes, p)) ∙ ap (over w m) both,
    )
