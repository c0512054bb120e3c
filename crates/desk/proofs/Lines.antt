-- Laws of the input: a line and lines as parts of the text, powers of two as floats.
use mathlib.Core.Path.{◌≡◌, refl, sym, ap, ap₂, ◌∙◌}
use mathlib.Core.Bool.{Bool, true, false, ◌&&◌}
use mathlib.Core.List.{List, [], ◌∷◌, ◌++◌}
use Prim.Native.Nat.{ℕ, zero, suc, ◌+◌, ◌-◌, ◌*◌, ◌/◌, ◌%◌, ◌^◌, ◌≤◌, ◌<◌}
use native.Mathlib.Omega.{arith}
use lib.Dec.{leb, eqb}
use lib.IntN.{pos}
use lib.ListN.{get_or, length, take, drop}
use lib.Ieee.{Float, nan, binary64, mul, of_int}
use Rattle.std.specs.Float.{powi, pow_by_squaring}
use Rattle.std.specs.Range.{range_inclusive_start, range_inclusive_end, range_inclusive_exhausted, range_inclusive_contains}
use Rattle.std.specs.contracts.prelude.UsizePartialOrd.TheImpl.{partial_cmp-value}
use Rattle.std.proofs.lemmas.Grind.{common_steps}
use Rattle.std.specs.List.{list_all, IsLastAndRest, IsSplitAt}
use Rattle.std.proofs.lemmas.Bool.{eq-eqb, eqb-true, eqb-false}
use Rattle.std.proofs.lemmas.List.{drop-drop, length-drop, length-take-le}
use Rattle.std.proofs.Math.Bool.{and_assoc, and-true, and-false}
use Rattle.std.proofs.Math.Nat.{mod-eq-sub-div-mul, div-mul-le_self, mul-mod_left, zero-add}
use Rattle.lists.specs.Words.{column}
use Rattle.lists.specs.ListLaws.{at_numbers}
use Rattle.hyperparams.specs.Params.{float}
use Rattle.hexadecimal.specs.Hexadecimal.{is_digit}
use Rattle.desk.specs.Desk.{is_line, are_lines, line_feed, line_one, channels_of, frame_count, most_frames, well_formed}
use Rattle.desk.specs.Lengths.{lines_end, whole}

-- ---- a line
line_after : (b : ℕ) (bs : List ℕ) (at k : ℕ) → is_line (b ∷ bs) (suc at) k ≡ is_line bs at k
line_after b bs at zero = refl
line_after b bs at (suc k) = ap (λ (z : Bool). is_digit (get_or bs at 0) && z) (line_after b bs (suc at) k)

line_of_digits : (ds : List ℕ) (x : ℕ) → is_line (ds ++ (x ∷ [])) 0 (length ds) ≡ (list_all is_digit ds && eqb x line_feed)
line_of_digits [] x = refl
line_of_digits (d ∷ ds) x =
    ap (λ (z : Bool). is_digit d && z) (line_after d (ds ++ (x ∷ [])) 0 (length ds) ∙ line_of_digits ds x)
    ∙ sym (and_assoc (is_digit d) (list_all is_digit ds) (eqb x line_feed))

-- whether the first bytes are digits, and then the last byte
pub line_by : (bs ds : List ℕ) (x : ℕ) {b : Bool} → IsLastAndRest bs x ds → b ≡ list_all is_digit ds → (b && eqb x line_feed) ≡ is_line bs 0 (length bs - 1)
line_by bs ds x s t =
    let e : length bs - 1 ≡ length ds = omega (arith, s.1) in
    ap (λ (b : Bool). b && eqb x line_feed) t ∙ sym (ap₂ (λ (l : List ℕ) (n : ℕ). is_line l 0 n) s.0 e ∙ line_of_digits ds x)

-- the bytes after a line decide nothing
line_front : (bs : List ℕ) (k : ℕ) → is_line (take (suc k) bs) 0 k ≡ is_line bs 0 k
line_front [] k = refl
line_front (b ∷ bs) zero = refl
line_front (b ∷ bs) (suc k) = ap (λ (z : Bool). is_digit b && z) (line_after b (take (suc k) bs) 0 k ∙ line_front bs k ∙ sym (line_after b bs 0 k))

-- a text from c on
line_drop : (bs : List ℕ) (c at k : ℕ) → c ≤ length bs → is_line (drop c bs) at k ≡ is_line bs (c + at) k
line_drop bs zero at k h = ap (λ (j : ℕ). is_line bs j k) (sym (zero-add at))
line_drop [] (suc c) at k h = absurd (omega (arith, h))
line_drop (b ∷ bs) (suc c) at k h =
    let e : suc c + at ≡ suc (c + at) = omega arith in
    line_drop bs c at k (omega (arith, h)) ∙ sym (line_after b bs (c + at) k) ∙ ap (λ (j : ℕ). is_line (b ∷ bs) j k) (sym e)

-- ---- lines
abbrev pub is_whole : List ℕ → Bool
is_whole l = is_line l 0 (length l - 1)

-- n parts of a text, of one size
abbrev pub parts : (size n : ℕ) → List ℕ → List (List ℕ)
parts size zero bs = []
parts size (suc n) bs = let more = parts size n (drop size bs) in take size bs ∷ more

parts_are : (bs : List ℕ) (k n at : ℕ) → length bs ≡ at + n * (k + 1) → list_all is_whole (parts (k + 1) n (drop at bs)) ≡ are_lines bs k n at
parts_are bs k zero at e = sym (eq-eqb at (length bs) (omega (arith, e)))
parts_are bs k (suc n) at e =
    let s : k + 1 ≡ suc k = omega arith in
    let front = take (k + 1) (drop at bs) in
    let l : length front - 1 ≡ k = omega (arith, e, length-take-le (k + 1) (drop at bs) (omega (arith, e, length-drop at bs))) in
    let one : is_whole front ≡ is_line bs at k =
    ap₂ (λ (m j : ℕ). is_line (take m (drop at bs)) 0 j) s l ∙ line_front (drop at bs) k ∙ line_drop bs at 0 k (omega (arith, e)) ∙ ap (λ (j : ℕ). is_line bs j k) (omega arith) in
    let others : list_all is_whole (parts (k + 1) n (drop (k + 1) (drop at bs))) ≡ are_lines bs k n (at + k + 1) =
    ap (λ (l : List ℕ). list_all is_whole (parts (k + 1) n l)) (drop-drop (k + 1) at bs) ∙ parts_are bs k n (at + (k + 1)) (omega (arith, e)) ∙ ap (are_lines bs k n) (omega arith) in
    ap₂ (λ (a b : Bool). a && b) one others

-- lines are whole parts, and nothing after them
lines_are : (bs : List ℕ) (size : ℕ) → 0 < size → are_lines bs (size - 1) (length bs / size) 0 ≡ (list_all is_whole (parts size (length bs / size) bs) && eqb (length bs % size) 0)
lines_are bs size some = by (eqb (length bs % size) 0) refl
  where
    n : ℕ
    n = length bs / size

    k : size - 1 + 1 ≡ size
    k = omega (arith, some)

    by : (b : Bool) → eqb (length bs % size) 0 ≡ b → are_lines bs (size - 1) n 0 ≡ (list_all is_whole (parts size n bs) && b)
    by true e =
        let l : length bs ≡ 0 + n * (size - 1 + 1) = omega (arith, eqb-true (length bs % size) 0 e, mod-eq-sub-div-mul (length bs) size, div-mul-le_self (length bs) size, ap (λ (m : ℕ). n * m) k) in
        sym (and-true (list_all is_whole (parts size n bs)) ∙ ap (λ (m : ℕ). list_all is_whole (parts m n bs)) (sym k) ∙ parts_are bs (size - 1) n 0 l)
    by false e = no (are_lines bs (size - 1) n 0) refl ∙ sym (and-false (list_all is_whole (parts size n bs)))
      where
        no : (b : Bool) → are_lines bs (size - 1) n 0 ≡ b → b ≡ false
        no false f = refl
        no true f =
            let l : length bs ≡ n * size = lines_end bs (size - 1) n 0 f ∙ zero-add _ ∙ ap (λ (m : ℕ). n * m) k in
            absurd (eqb-false (length bs % size) 0 e (ap (λ (m : ℕ). m % size) l ∙ mul-mod_left n size))

pub lines_by : (bs : List ℕ) (size : ℕ) → 0 < size → {b : Bool} → b ≡ list_all is_whole (parts size (length bs / size) bs) → (b && eqb (length bs % size) 0) ≡ are_lines bs (size - 1) (length bs / size) 0
lines_by bs size some t = ap (λ (b : Bool). b && eqb (length bs % size) 0) t ∙ sym (lines_are bs size some)

lines_drop : (bs : List ℕ) (c k n at : ℕ) → c ≤ length bs → are_lines (drop c bs) k n at ≡ are_lines bs k n (c + at)
lines_drop bs c k zero at h = grind (arith, length-drop c bs)
lines_drop bs c k (suc n) at h =
    ap₂ (λ (a b : Bool). a && b) (line_drop bs c at k h) (lines_drop bs c k n (at + k + 1) h ∙ ap (are_lines bs k n) (omega arith))

-- ---- the whole input
module _ (bs : List ℕ) {first rest : List ℕ} (split : IsSplitAt bs (line_one + 1) first rest) where
  first_is : is_whole first ≡ is_line bs 0 line_one
  first_is =
      let e : length first - 1 ≡ line_one = omega (arith, split.3) in
      ap₂ (λ (l : List ℕ) (k : ℕ). is_line l 0 k) split.1 e ∙ line_front bs line_one

  rest_are : {d : ℕ} → d ≡ channels_of bs → are_lines rest (4 * d + 1 - 1) (length rest / (4 * d + 1)) 0 ≡ are_lines bs (4 * channels_of bs) (frame_count bs) (line_one + 1)
  rest_are {d} e =
      let s : 4 * d + 1 - 1 ≡ 4 * d = omega arith in
      let n : length rest ≡ length bs - (line_one + 1) = omega (arith, split.4) in
      ap₂ (λ (k m : ℕ). are_lines rest k (m / (4 * d + 1)) 0) s n
      ∙ ap (λ (l : List ℕ). are_lines l (4 * d) ((length bs - (line_one + 1)) / (4 * d + 1)) 0) split.2
      ∙ lines_drop bs (line_one + 1) (4 * d) ((length bs - (line_one + 1)) / (4 * d + 1)) 0 split.0
      ∙ ap (λ (c : ℕ). are_lines bs (4 * c) ((length bs - (line_one + 1)) / (4 * c + 1)) (line_one + 1)) e

  -- four tests, one after the other
  pub well_is : (d : ℕ) {l v w a : Bool} → d ≡ channels_of bs → l ≡ is_whole first → v ≡ (l && (leb 1 d && leb d 4)) → w ≡ (v && leb (frame_count bs) most_frames)
      → a ≡ are_lines rest (4 * d + 1 - 1) (length rest / (4 * d + 1)) 0 → (w && a) ≡ well_formed bs
  unfolding well_formed
  well_is d {l} e line range few others =
      let ranged = range ∙ ap₂ (λ (x : Bool) (c : ℕ). x && (leb 1 c && leb c 4)) (line ∙ first_is) e in
      ap₂ (λ (x y : Bool). x && y) (few ∙ ap (λ (x : Bool). x && leb (frame_count bs) most_frames) ranged) (others ∙ rest_are e)

-- what `1..=4` contains
pub one_to_four : (d : ℕ) {s : _} → range_inclusive_start {A = ℕ} s ≡ 1 → range_inclusive_end s ≡ 4 → range_inclusive_exhausted s ≡ false → range_inclusive_contains partial_cmp-value.it s d ≡ (leb 1 d && leb d 4)
one_to_four d e f g = grind (arith, common_steps)

-- a test that follows another only where that holds
pub both : {a b v : Bool} → a ≡ true → v ≡ b → v ≡ (a && b)
both {b = b} e f = f ∙ ap (λ (z : Bool). z && b) (sym e)

pub neither : {a v : Bool} (b : Bool) → a ≡ false → v ≡ a → v ≡ (a && b)
neither b e f = f ∙ e ∙ ap (λ (z : Bool). z && b) (sym e)

pub too_short : (bs : List ℕ) → length bs < line_one + 1 → well_formed bs ≡ false
too_short bs h = by (well_formed bs) refl
  where
    by : (b : Bool) → well_formed bs ≡ b → b ≡ false
    by false e = refl
    by true e = absurd (omega (arith, h, (whole bs e).size))

-- ---- powers of two
powers : column (λ k. powi binary64 (float 2) (pos k)) 256 ≡ column (λ k. float (2 ^ k)) 256
unfolding powi pow_by_squaring mul of_int
powers = refl

pub power : (k : ℕ) → k < 256 → powi binary64 (float 2) (pos k) ≡ float (2 ^ k)
power k h =
    sym (at_numbers (λ j. powi binary64 (float 2) (pos j)) nan 256 k h)
    ∙ ap (λ (l : List Float). get_or l k nan) powers
    ∙ at_numbers (λ j. float (2 ^ j)) nan 256 k h
