-- Whether a lent frame lies near a box, one channel more of it; what it says of the frame's indexes.
use mathlib.Core.Path.{◌≡◌, refl, sym, ap, ap₂, ◌∙◌}
use mathlib.Core.Bool.{Bool, true, false, not, ◌&&◌, cond, and-true, and-false, and_assoc}
use mathlib.Core.List.{List, map}
use Prim.Native.Nat.{ℕ, suc, ◌+◌, ◌≤◌, ◌<◌}
use native.Mathlib.Nat.{add-zero}
use native.Mathlib.Numerals.{add-one}
use native.Mathlib.Omega.{arith}
use borrow.Author.Tests.{ne_eqb}
use lib.Dec.{eqb}
use lib.IntN.{ℤ, pos}
use lib.ListN.{length, get_or, take, drop, drop_of_length-le}
use lib.Seq.{drop-cons, get_or-take, length-take-le}
use lib.Ieee.{Float, nan, binary64, sub, neg, lt, of_int}
use mir.Syntax.{w16}
use mir.Val.{to_z, of_z}
use Rattle.counting_tree.specs.Frames.{Frame}
use Rattle.counting_tree.specs.Grid.{centre, indexes}
use Rattle.counting_tree.specs.Geometry.{same_ints}
use Rattle.counting_tree.specs.Radius.{Side}
use Rattle.counting_tree.specs.Domain.{Count, Counts}
use Rattle.counting_tree.specs.NearBox.{reach, close_to, near_box}
use Rattle.counting_tree.specs.NearBoxLaws.{not_near}
use Rattle.counting_tree.proofs.Counts.{read}

-- the two tests of a count z = x
pub off_is : (most c z : Float) (x : ℤ) → z ≡ of_int binary64 x → (a b : Bool) → lt (sub binary64 z c) (neg most) ≡ a → lt most (sub binary64 z c) ≡ b → ◌≡◌ {A = ℕ} (cond a 1 (cond b 1 0)) (cond (close_to most c x) 0 1)
unfolding close_to
off_is most c z x e a b p q =
    by a b ∙ sym (ap (λ (w : Float). cond (not (lt (sub binary64 w c) (neg most)) && not (lt most (sub binary64 w c))) 0 1) (sym e) ∙ ap₂ (λ (s t : Bool). cond (not s && not t) 0 1) p q)
  where
    by : (a b : Bool) → ◌≡◌ {A = ℕ} (cond a 1 (cond b 1 0)) (cond (not a && not b) 0 1)
    by true b = refl
    by false true = refl
    by false false = refl

-- sum tells how many of the channels below k lie off
pub record Offs (most : Float) (cs : List Float) (xs : Frame) (k sum : ℕ) : Type 0 where
  pub value : (eqb sum 0 && near_box most (drop k cs) (drop k xs)) ≡ near_box most cs xs
  pub few : sum ≤ k

pub offs_none : (most : Float) (cs : List Float) (xs : Frame) → Offs most cs xs 0 0
offs_none most cs xs = record { value = refl; few = omega arith }

none_more : (n : ℕ) (t : Bool) → eqb (n + cond t 0 1) 0 ≡ (eqb n 0 && t)
none_more n true = ap (λ (m : ℕ). eqb m 0) (add-zero n) ∙ sym (and-true (eqb n 0))
none_more n false = ne_eqb (n + 1) 0 (λ e. omega arith) ∙ sym (and-false (eqb n 0))

-- a centre as it stands in an array, and a frame of n counts
module _ {most : Float} {n : ℕ} (centre : List Float) {xs : Frame} (few : n ≤ 4) (long : length centre ≡ 4) (counts : length xs ≡ n) {k sum : ℕ} (s : Offs most (take n centre) xs k sum) where
  channels : length (take n centre) ≡ n
  channels = length-take-le n centre (omega arith)

  -- q tells whether count k lies off
  pub offs_more : k < n → Count (get_or xs k (pos 0)) → (q : ℕ) → q ≡ cond (close_to most (get_or centre k nan) (to_z w16 (of_z w16 (get_or xs k (pos 0))))) 0 1 → q ≤ 1 → Offs most (take n centre) xs (k + 1) (sum + q)
  unfolding near_box
  offs_more h c q e b = record {
    value = ap (λ (m : ℕ). eqb (sum + q) 0 && near_box most (drop m (take n centre)) (drop m xs)) (add-one k)
        ∙ ap (λ (m : ℕ). eqb (sum + m) 0 && rest) told ∙ ap (λ (t : Bool). t && rest) (none_more sum here) ∙ and_assoc (eqb sum 0) here rest
        ∙ ap (λ (t : Bool). eqb sum 0 && t) (sym (ap₂ (near_box most) (drop-cons (take n centre) k nan (omega (arith, channels))) (drop-cons xs k (pos 0) (omega arith)))) ∙ s.value;
    few = omega (arith, s.few);
  }
    where
      here : Bool
      here = close_to most (get_or (take n centre) k nan) (get_or xs k (pos 0))

      rest : Bool
      rest = near_box most (drop (suc k) (take n centre)) (drop (suc k) xs)

      told : q ≡ cond here 0 1
      told = e ∙ ap₂ (λ (f : Float) (z : ℤ). cond (close_to most f z) 0 1) (sym (get_or-take n centre k nan h)) (read (get_or xs k (pos 0)) c)

  pub offs_all : n ≤ k → eqb sum 0 ≡ near_box most (take n centre) xs
  unfolding near_box
  offs_all h = sym (ap (λ (z : List Float). eqb sum 0 && near_box most z (drop k xs)) (drop_of_length-le (take n centre) (omega (arith, channels))) ∙ and-true (eqb sum 0)) ∙ s.value

  -- a channel that is not used
  pub offs_past : n ≤ k → Offs most (take n centre) xs (k + 1) sum
  unfolding near_box
  offs_past h = record {
    value = ap (λ (z : List Float). eqb sum 0 && near_box most z (drop (k + 1) xs)) (drop_of_length-le (take n centre) (omega (arith, channels))) ∙ and-true (eqb sum 0) ∙ offs_all h;
    few = omega (arith, s.few);
  }

-- a frame that is not near the box of the indexes `at` has others
pub other_box : (side : Float) → Side side → (at : List ℤ) (cs : List Float) (xs : Frame) → cs ≡ map (centre side) at → Counts xs → (t : Bool) → t ≡ near_box (reach side) cs xs → t ≡ false → false ≡ same_ints at (indexes side xs)
other_box side s at cs xs e c t f g = sym (not_near side s at xs c (ap (λ (l : List Float). near_box (reach side) l xs) (sym e) ∙ sym f ∙ g))
