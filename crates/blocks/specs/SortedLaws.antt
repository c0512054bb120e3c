-- Laws of numbers sorted by the blocks of their frames, in words: what sorting leaves, where the numbers of two buckets stand, and what writing and clearing other words does.
use Rattle.std.specs.Prelude.{◌≡◌, ℕ, suc, ◌+◌, ◌-◌, ◌*◌, ◌%◌, ◌<◌, ◌≤◌, get_or, replicate}
use Rattle.std.proofs.Math.Path.{sym, ap, ap₂}
use Rattle.std.proofs.Props.{props}
use Rattle.std.proofs.Common.{subst, ◌∙◌, inl, inr, mod-eq_of_lt, add-one, arith, lt-ltb, le-ltb}
use mathlib.Core.List.{List, [], ◌++◌, map, append-nil}
use Rattle.std.proofs.Math.Nat.{mod_self}
use Rattle.std.proofs.Math.Decide.{dec_lt}
use Rattle.std.proofs.Math.ListN.{length, length-replicate}
use Rattle.lists.specs.Lists.{from, concat}
use Rattle.lists.specs.Words.{over, part, column, Clear, Apart}
use Rattle.lists.specs.ListLaws.{length_numbers, at_numbers}
use Rattle.lists.proofs.WordLaws.{over_length, over_apart, over_swap, over_again}
use Rattle.lists.proofs.PartLaws.{over_cover, part_apart, part_same, get_laid, get_apart, clear_over}
use Rattle.lists.specs.Sorting.{numbered, start_of, places_of, begin_in, Sorted}
use Rattle.lists.proofs.SortLaws.{start_of_none, start_of_all, start_le, start_mono, places_of_length, places_of_same, ends_same, begin_at, between}
use Rattle.lists.proofs.Offsets.{key_at, Sortable}
use Rattle.blocks.specs.declared.Stretch.{Stretch}
use Rattle.blocks.specs.Blocks.{stretch_in, sorted_by}

pub Sorted_prop : (key : ℕ → ℕ) (m size at places : ℕ) (w : List ℕ) → IsProp (Sorted key m size at places w)
Sorted_prop key m size at places w = Prim.hlevel props

-- ---- the numbers of a bucket and of the next one
-- what a stretch is, by where the next bucket stands
module _ (w : List ℕ) (ends b size : ℕ) where
  pub stretch_on : b + 1 < size → {x y : ℕ} → x ≡ begin_in w ends b → y ≡ begin_in w ends (b + 1 + 1) → ◌≡◌ {A = Stretch} record { «from» = x; to = y; rest = 0 } (stretch_in w ends b size)
  unfolding stretch_in
  stretch_on h {x} {y} p q = rw (lt-ltb (b + 1) size h) (ap₂ (λ (u v : ℕ). record { «from» = u; to = v; rest = 0 }) p q)

  pub stretch_round : size ≤ b + 1 → {x y z : ℕ} → x ≡ begin_in w ends b → y ≡ begin_in w ends (b + 1) → z ≡ begin_in w ends 1 → ◌≡◌ {A = Stretch} record { «from» = x; to = y; rest = z } (stretch_in w ends b size)
  unfolding stretch_in
  stretch_round h {x} {y} {z} p q r = rw (le-ltb (b + 1) size h) (ap₂ (λ (u v : ℕ). record { «from» = u; to = v; rest = z }) p q ∙ ap (λ (u : ℕ). record { «from» = begin_in w ends b; to = begin_in w ends (b + 1); rest = u }) r)

-- a stretch of the words from `places` on, of m numbers, has those of bucket b and of the next one, of `size`
pub record Stretched (key : ℕ → ℕ) (m places b size : ℕ) (w : List ℕ) (s : Stretch) : Type 0 where
  pub low : s.«from» ≤ s.to
  pub high : s.to ≤ m
  pub rest_low : s.rest ≤ s.to
  pub both : part w (places + s.«from») (s.to - s.«from») ++ part w (places + 0) (s.rest - 0) ≡ numbered key m b ++ numbered key m ((b + 1) % size)

module _ {key : ℕ → ℕ} {m all size ends places : ℕ} {w : List ℕ} (S : Sorted key m all ends places w) (e : all ≡ size + 1) {b : ℕ} (h : b < size) where
  -- the next bucket follows
  on : b + 1 < size → Stretched key m places b size w record { «from» = start_of key m b; to = start_of key m (b + 2); rest = 0 }
  on l =
      let d : b + 2 - b ≡ 2 = omega arith in
      record {
        low = start_mono key m b (b + 2) (omega arith);
        high = start_le key m (b + 2);
        rest_low = omega arith;
        both = ap (λ (z : List ℕ). z ++ []) (between S b (b + 2) (omega arith) (omega arith) ∙ ap (λ (z : ℕ). concat (map (numbered key m) (from b z))) d)
            ∙ append-nil (numbered key m b ++ (numbered key m (suc b) ++ []))
            ∙ ap (λ (x : List ℕ). numbered key m b ++ x) (append-nil (numbered key m (suc b)))
            ∙ ap (λ (z : ℕ). numbered key m b ++ numbered key m z) (sym (mod-eq_of_lt l ∙ add-one b));
      }

  -- the next bucket is the first
  round : size ≤ b + 1 → Stretched key m places b size w record { «from» = start_of key m b; to = start_of key m (b + 1); rest = start_of key m 1 }
  round l =
      let d : b + 1 - b ≡ 1 = omega arith in
      let z : b + 1 ≡ size = omega arith in
      record {
        low = start_mono key m b (b + 1) (omega arith);
        high = start_le key m (b + 1);
        rest_low = start_mono key m 1 (b + 1) (omega arith);
        both = ap₂ ◌++◌ (between S b (b + 1) (omega arith) (omega arith) ∙ ap (λ (z : ℕ). concat (map (numbered key m) (from b z))) d ∙ append-nil (numbered key m b))
            (ap (λ (y : ℕ). part w (places + y) (start_of key m 1 - y)) (sym (start_of_none key m)) ∙ between S 0 1 (omega arith) (omega arith) ∙ append-nil (numbered key m 0))
            ∙ ap (λ (y : ℕ). numbered key m b ++ numbered key m y) (sym (ap (λ (y : ℕ). y % size) z ∙ mod_self size));
      }

  pub stretch_holds : {s : Stretch} → s ≡ stretch_in w ends b size → Stretched key m places b size w s
  stretch_holds {s} q = elim (dec_lt (b + 1) size) [
    | yes l ↦
        let d : b + 1 + 1 ≡ b + 2 = omega arith in
        subst (Stretched key m places b size w) (sym (q ∙ sym (stretch_on w ends b size l (sym (begin_at S b (omega arith))) (ap (start_of key m) (sym d) ∙ sym (begin_at S (b + 1 + 1) (omega arith)))))) (on l)
    | no l ↦
        subst (Stretched key m places b size w) (sym (q ∙ sym (stretch_round w ends b size (omega arith) (sym (begin_at S b (omega arith))) (sym (begin_at S (b + 1) (omega arith))) (sym (begin_at S 1 (omega arith)))))) (round (omega arith))
  ]

-- ---- m of n numbers, sorted by keys below `size`: from `ends` on stands where those of each key end, apart from the numbers and their keys
module _ (key : ℕ → ℕ) (m size ends n : ℕ) (few : m ≤ n) (apart : Apart (14 * n) (2 * n) ends size) (below : (i : ℕ) → i < m → key i < size) where
  abbrev P : List ℕ
  P = places_of key m size

  abbrev E : List ℕ
  E = column (λ b. start_of key m (b + 1)) size

  pub places_long : length (places_of key m size) ≡ m
  places_long = places_of_length key m size ∙ start_of_all key m size below

  pub ends_long : length (column (λ b. start_of key m (b + 1)) size) ≡ size
  ends_long = length_numbers (λ b. start_of key m (b + 1)) size

  -- a part of these words lies apart from the ends
  beside : (b k : ℕ) → 14 * n ≤ b → b + k ≤ 16 * n → Apart b k ends size × Apart ends size b k
  beside b k h l = elim apart [ inl x ↦ (inl (omega arith), inr (omega arith)) | inr x ↦ (inr (omega arith), inl (omega arith)) ]

  module _ (w : List ℕ) (fit : 16 * n ≤ length w) (room : ends + size ≤ length w) where
    l₁ : length (over w (14 * n) P) ≡ length w
    l₁ = over_length w (14 * n) P (omega (arith, places_long))

    pub sorted_length : length (sorted_by key m size ends n w) ≡ length w
    unfolding sorted_by
    sorted_length = over_length (over w (14 * n) P) ends E (omega (arith, ends_long, l₁)) ∙ l₁

    -- what is sorted holds the numbers
    pub sorted_after : Sorted key m size ends (14 * n) (sorted_by key m size ends n w)
    unfolding sorted_by
    sorted_after = record {
      numbers = part_apart (over w (14 * n) P) (14 * n) m ends E (beside (14 * n) m (omega arith) (omega arith)).0 (omega (arith, ends_long)) (omega (arith, l₁)) ∙ part_same w (14 * n) m P (omega arith) places_long;
      ends = part_same (over w (14 * n) P) ends size E (omega (arith, l₁)) ends_long;
    }

    -- words laid below are laid below them as well before they are sorted
    pub sorted_under : (b : ℕ) (ws : List ℕ) → b + length ws ≤ 14 * n → b + length ws ≤ ends → over (sorted_by key m size ends n w) b ws ≡ sorted_by key m size ends n (over w b ws)
    unfolding sorted_by
    sorted_under b ws g h =
        sym (over_apart (over w (14 * n) P) b ends ws E h (omega (arith, ends_long, l₁)))
        ∙ ap (λ (z : List ℕ). over z ends E) (sym (over_apart w b (14 * n) ws P g (omega (arith, places_long))))

    -- the sorted numbers, over words that were 0, cleared
    pub sorted_cleared : (a k : ℕ) → a ≤ 14 * n → a ≤ ends → 15 * n ≤ a + k → ends + size ≤ a + k → a + k ≤ length w → Clear w a k → over (sorted_by key m size ends n w) a (replicate k 0) ≡ w
    unfolding sorted_by
    sorted_cleared a k p q g h r z =
        let l : length (replicate {A = ℕ} k 0) ≡ k = length-replicate k 0 in
        over_cover (over w (14 * n) P) ends a E (replicate k 0) q (omega (arith, l, ends_long)) (omega (arith, l₁))
        ∙ over_cover w (14 * n) a P (replicate k 0) p (omega (arith, l, places_long)) (omega arith)
        ∙ clear_over w a k r z

    -- ---- as the program sorts them: their keys stand from 15n on
    module _ (z : Clear w ends size) (y : Clear w (15 * n) m) (most : m ≤ 65535) {w₁ : List ℕ} (e : w₁ ≡ over w (15 * n) (column key m)) where
      lk : length (column key m) ≡ m
      lk = length_numbers key m

      long : length w₁ ≡ length w
      long = ap length e ∙ over_length w (15 * n) (column key m) (omega (arith, lk))

      key_is : (i : ℕ) → i < m → key_at w₁ (15 * n) i ≡ key i
      key_is i h = ap (λ (x : List ℕ). get_or x (15 * n + i) 0) e ∙ get_laid w (15 * n) i (column key m) (omega (arith, lk)) (omega arith) ∙ at_numbers key 0 m i h

      pub can_sort : Sortable (15 * n) m ends size (14 * n) w₁ × Clear w₁ ends size
      can_sort = (
        record {
          keyed = record { few = most; fit = omega (arith, long); room = omega (arith, long); apart = (beside (15 * n) m (omega arith) (omega arith)).0; below = λ i h. omega (arith, key_is i h, below i h) };
          wide = omega (arith, long);
          keys_apart = inr (omega arith);
          counts_apart = (beside (14 * n) m (omega arith) (omega arith)).1;
        },
        λ i h. ap (λ (x : List ℕ). get_or x (ends + i) 0) e ∙ get_apart w ends size (15 * n) (column key m) (beside (15 * n) m (omega arith) (omega arith)).1 (omega (arith, lk)) (omega arith) i h ∙ z i h,
      )

      -- sorted, and the keys cleared
      pub keys_cleared : {w₂ : List ℕ} → w₂ ≡ over (over w₁ (14 * n) (places_of (key_at w₁ (15 * n)) m size)) ends (column (λ b. start_of (key_at w₁ (15 * n)) m (b + 1)) size)
          → over w₂ (15 * n) (replicate m 0) ≡ sorted_by key m size ends n w
      unfolding sorted_by
      keys_cleared {w₂} f =
          let K = column key m in
          let l : length (replicate {A = ℕ} m 0) ≡ m = length-replicate m 0 in
          let l₂ : length (over w (15 * n) K) ≡ length w = over_length w (15 * n) K (omega (arith, lk)) in
          let l₃ : length (over (over w (15 * n) K) (14 * n) P) ≡ length w = over_length (over w (15 * n) K) (14 * n) P (omega (arith, places_long, l₂)) ∙ l₂ in
          ap (λ (x : List ℕ). over x (15 * n) (replicate m 0)) (f
          ∙ ap₂ (λ (us vs : List ℕ). over (over w₁ (14 * n) us) ends vs) (places_of_same (key_at w₁ (15 * n)) key m key_is size) (ends_same (key_at w₁ (15 * n)) key m key_is size)
          ∙ ap (λ (x : List ℕ). over (over x (14 * n) P) ends E) e)
          ∙ over_swap (over (over w (15 * n) K) (14 * n) P) ends (15 * n) E (replicate m 0) (beside (15 * n) m (omega arith) (omega arith)).1 (omega (arith, ends_long)) (omega (arith, l)) (omega (arith, ends_long, l₃)) (omega (arith, l, l₃))
          ∙ ap (λ (x : List ℕ). over x ends E) (over_apart (over w (15 * n) K) (14 * n) (15 * n) P (replicate m 0) (omega (arith, places_long)) (omega (arith, l, l₂))
          ∙ ap (λ (x : List ℕ). over x (14 * n) P) (over_again w (15 * n) K (replicate m 0) (omega arith) (l ∙ sym lk) ∙ clear_over w (15 * n) m (omega arith) y))
