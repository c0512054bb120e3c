-- Where the numbers of a bucket and of the next one stand among the sorted numbers, by the slice that says where those of each bucket end.
use mathlib.Core.Path.{◌≡◌, refl, sym, ap, ap₂, ◌∙◌}
use mathlib.Core.List.{List, ◌++◌}
use Prim.Native.Nat.{ℕ, zero, suc, ◌+◌, ◌-◌, ◌%◌, ◌<◌, ◌≤◌}
use native.Mathlib.Decide.{dec_lt}
use native.Mathlib.Omega.{arith}
use lib.ListN.{length, take, drop}
use Rattle.std.proofs.Common.{drop-drop, drop_at, take_at, take_all}
use Rattle.std.proofs.lemmas.List.{get_or_append_left}
use Rattle.lists.specs.Words.{part, column}
use Rattle.lists.specs.Sorting.{numbered, start_of, places_of, begin_in, Sorted}
use Rattle.lists.specs.ListLaws.{length_numbers}
use Rattle.lists.proofs.SortLaws.{begin_first, begin_later, begin_at}
use Rattle.blocks.specs.declared.Stretch.{Stretch}
use Rattle.blocks.specs.Blocks.{stretch_in}
use Rattle.blocks.specs.SortedLaws.{stretch_on, stretch_round, stretch_holds}

-- m numbers are sorted by keys below `all`
module _ (key : ℕ → ℕ) (m all : ℕ) where
  abbrev E : List ℕ
  E = column (λ b. start_of key m (b + 1)) all

  abbrev P : List ℕ
  P = places_of key m all

  lE : length E ≡ all
  lE = length_numbers (λ b. start_of key m (b + 1)) all

  -- one after the other they are words that hold the sorted numbers
  at_places : (x y : ℕ) → part (E ++ P) (all + x) y ≡ part P x y
  at_places x y = ap (take y) (sym (drop-drop x all (E ++ P)) ∙ ap (drop x) (drop_at E P all lE))

  begin_same : (b : ℕ) → b ≤ all → begin_in (E ++ P) 0 b ≡ begin_in E 0 b
  begin_same zero h = begin_first (E ++ P) 0 0 refl ∙ sym (begin_first E 0 0 refl)
  begin_same (suc b) h =
      begin_later (E ++ P) 0 (suc b) (λ t. omega arith)
      ∙ get_or_append_left E P 0 (0 + (suc b - 1)) (omega (arith, lE))
      ∙ sym (begin_later E 0 (suc b) (λ t. omega arith))

  module _ (long : length (places_of key m all) ≡ m) where
    together : Sorted key m all 0 all (E ++ P)
    together = record {
      numbers = ap (take m) (drop_at E P all lE) ∙ take_all m P (omega (arith, long));
      ends = take_at E P all lE;
    }

    pub begin_is : (b : ℕ) → b ≤ all → begin_in (column (λ b. start_of key m (b + 1)) all) 0 b ≡ start_of key m b
    begin_is b h = sym (begin_same b h) ∙ begin_at together b h

    module _ {size b : ℕ} (e : all ≡ size + 1) (h : b < size) where
      stretch_same : stretch_in E 0 b size ≡ stretch_in (E ++ P) 0 b size
      stretch_same = elim (dec_lt (b + 1) size) [
        | yes l ↦ sym (stretch_on E 0 b size l refl refl) ∙ stretch_on (E ++ P) 0 b size l (sym (begin_same b (omega arith))) (sym (begin_same (b + 1 + 1) (omega arith)))
        | no l ↦ sym (stretch_round E 0 b size (omega arith) refl refl refl) ∙ stretch_round (E ++ P) 0 b size (omega arith) (sym (begin_same b (omega arith))) (sym (begin_same (b + 1) (omega arith))) (sym (begin_same 1 (omega arith)))
      ]

      -- a stretch has the numbers of bucket b and of the next one
      module _ {s : Stretch} (q : s ≡ stretch_in (column (λ b. start_of key m (b + 1)) all) 0 b size) where
        pub stretch_high : (s.to ≤ m) × (s.rest ≤ m)
        stretch_high = let H = stretch_holds together e h (q ∙ stretch_same) in (H.high, omega (arith, H.high, H.rest_low))

        pub stretch_both : part (places_of key m all) s.«from» (s.to - s.«from») ++ part (places_of key m all) 0 (s.rest - 0) ≡ numbered key m b ++ numbered key m ((b + 1) % size)
        stretch_both = let H = stretch_holds together e h (q ∙ stretch_same) in ap₂ ◌++◌ (sym (at_places s.«from» (s.to - s.«from»))) (sym (at_places 0 (s.rest - 0))) ∙ H.both
