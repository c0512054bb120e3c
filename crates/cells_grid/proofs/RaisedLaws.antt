-- Laws of words that rise as their numbers are found: one search after the other adds up, and each word fits as long as the last value does.
use Rattle.std.specs.Prelude.{◌≡◌, refl, Bool, true, false, length, replicate}
use Rattle.std.proofs.Math.Path.{sym, ap, ap₂, subst}
use Rattle.std.proofs.Common.{◌∙◌, zero-add, take, arith, length-append, eq-eqb, ne_eqb}
use Rattle.std.proofs.Math.Seq.{take-length}
use Rattle.std.proofs.Math.Bool.{cond}
use mathlib.Core.List.{List, [], ◌++◌, append_assoc, append-nil}
use Prim.Native.Nat.{ℕ, zero, suc, ◌+◌, ◌<◌, ◌≤◌}
use Rattle.std.proofs.Math.Dec.{eqb}
use Rattle.std.proofs.Math.ListN.{get_or, set}
use Rattle.lists.specs.Lists.{numbers, keep, how_many, In}
use Rattle.lists.specs.Words.{column}
use Rattle.lists.specs.ListLaws.{map_same, in_numbers, at_numbers, length_numbers, append_one, append_two}
use Rattle.lists.specs.CountLaws.{keep_append, how_many_cons}
use Rattle.lists.proofs.PartLaws.{column_part, column_set}
use Rattle.cells_grid.specs.Pairs.{raised, Room}

-- ---- how often a number stands in a list
pub often_append : (f : ℕ → Bool) (xs ys : List ℕ) → how_many f (xs ++ ys) ≡ how_many f xs + how_many f ys
often_append f xs ys = ap length (keep_append f xs ys) ∙ length-append (keep f xs) (keep f ys)

pub often_replicate : (f : ℕ → Bool) (m j : ℕ) → how_many f (replicate m j) ≡ cond (f j) m 0
often_replicate f zero j = go (f j)
  where
    go : (b : Bool) → ◌≡◌ {A = ℕ} 0 (cond b 0 0)
    go true = refl
    go false = refl
often_replicate f (suc m) j = how_many_cons f j (replicate m j) ∙ go (f j) (often_replicate f m j)
  where
    go : (b : Bool) → how_many f (replicate m j) ≡ cond b m 0 → cond b 1 0 + how_many f (replicate m j) ≡ cond b (suc m) 0
    go true e = omega arith
    go false e = omega arith

-- ---- raised words
module _ (n : ℕ) (w : List ℕ) where
  -- what the words become
  abbrev value : List ℕ → ℕ → ℕ
  value js x = get_or w x 0 + how_many (λ j. eqb x j) js

  pub raised_length : (js : List ℕ) → length (raised n w js) ≡ n
  unfolding raised
  raised_length js = length_numbers (value js) n

  pub raised_at_lem : (js : List ℕ) (x : ℕ) → x < n → get_or (raised n w js) x 0 ≡ get_or w x 0 + how_many (λ j. eqb x j) js
  unfolding raised
  raised_at_lem js x h = at_numbers (value js) 0 n x h

  pub raised_append : (xs ys : List ℕ) → raised n (raised n w xs) ys ≡ raised n w (xs ++ ys)
  unfolding raised
  raised_append xs ys =
      let u = raised n w xs in
      let D : ℕ → ℕ = λ x. get_or u x 0 + how_many (λ j. eqb x j) ys in
      map_same D (value (xs ++ ys)) (numbers n) (λ x i. omega (arith, raised_at_lem xs x (in_numbers n x i), often_append (λ j. eqb x j) xs ys))

  module _ (many : length w ≡ n) where
    self : column (λ x. get_or w x 0) n ≡ w
    self =
        map_same (λ x. get_or w x 0) (λ x. get_or w (0 + x) 0) (numbers n) (λ x i. ap (λ (z : ℕ). get_or w z 0) (sym (zero-add x)))
        ∙ column_part w 0 n (omega arith)
        ∙ ap (λ (z : ℕ). take z w) (sym many)
        ∙ take-length w

    pub raised_none : raised n w [] ≡ w
    unfolding raised
    raised_none = map_same (value []) (λ x. get_or w x 0) (numbers n) (λ x i. omega arith) ∙ self

    -- a number found m times
    pub raised_set : (j m : ℕ) → j < n → set w j (get_or w j 0 + m) ≡ raised n w (replicate m j)
    unfolding raised
    raised_set j m h =
        let k : ℕ → ℕ = value (replicate m j) in
        let e : get_or w j 0 + m ≡ k j = ap (λ (z : ℕ). get_or w j 0 + z) (sym (often_replicate (λ y. eqb j y) m j ∙ ap (λ (b : Bool). cond b m 0) (eq-eqb j j refl))) in
        ap₂ (λ (z : List ℕ) (x : ℕ). set z j x) (sym self) e
        ∙ column_set (λ x. get_or w x 0) k n j h
        (λ d l o. omega (arith, often_replicate (λ y. eqb d y) m j ∙ ap (λ (b : Bool). cond b m 0) (ne_eqb d j o)))

-- ---- a search: of the numbers `all` those before `left` are found
pub record Raising (n : ℕ) (w₀ all left w : List ℕ) : Type 0 where
  pub room : Room n w₀ all
  pub done : List ℕ
  pub split : done ++ left ≡ all
  pub work : w ≡ raised n w₀ done

pub raising_start : {n : ℕ} {w₀ all : List ℕ} → Room n w₀ all → Raising n w₀ all all w₀
raising_start {n} {w₀} r = record { room = r; done = []; split = refl; work = sym (raised_none n w₀ r.many) }

module _ {n : ℕ} {w₀ all left w : List ℕ} (R : Raising n w₀ all left w) where
  pub raising_length : length w ≡ n
  raising_length = ap length R.work ∙ raised_length n w₀ R.done

  -- xs come next
  module _ (xs later : List ℕ) (e : left ≡ xs ++ later) where
    whole : R.done ++ (xs ++ later) ≡ all
    whole = ap (λ (l : List ℕ). R.done ++ l) (sym e) ∙ R.split

    counts : (f : ℕ → Bool) → how_many f R.done + how_many f xs ≤ how_many f all
    counts f = omega (arith, often_append f R.done (xs ++ later), often_append f xs later, ap (how_many f) whole)

    pub raising_room : Room n w xs
    raising_room = record {
      many = raising_length;
      below = λ x i. R.room.below x (subst (In x) whole (append_two x R.done (xs ++ later) (append_one x xs later i)));
      small = λ x h. omega (arith, ap (λ (z : List ℕ). get_or z x 0) R.work, raised_at_lem n w₀ R.done x h, counts (λ j. eqb x j), R.room.small x h);
    }

    pub raising_more : {u : List ℕ} → u ≡ raised n w xs → Raising n w₀ all later u
    raising_more {u} q = record {
      room = R.room;
      done = R.done ++ xs;
      split = append_assoc R.done xs later ∙ whole;
      work = q ∙ ap (λ (z : List ℕ). raised n z xs) R.work ∙ raised_append n w₀ R.done xs;
    }

  pub raising_end : left ≡ [] → w ≡ raised n w₀ all
  raising_end e = R.work ∙ ap (raised n w₀) (sym (append-nil R.done) ∙ ap (λ (l : List ℕ). R.done ++ l) (sym e) ∙ R.split)

  pub raising_left : {other : List ℕ} → left ≡ other → Raising n w₀ all other w
  raising_left e = subst (λ (l : List ℕ). Raising n w₀ all l w) e R

-- ---- one number that is found m times fits
pub many_fits : {n : ℕ} {w : List ℕ} (m j : ℕ) → j < n → Room n w (replicate m j) → (j < length w) × (get_or w j 0 + m ≤ 65535)
many_fits m j h r = (omega (arith, r.many), omega (arith, r.small j h, often_replicate (λ y. eqb j y) m j ∙ ap (λ (b : Bool). cond b m 0) (eq-eqb j j refl)))
