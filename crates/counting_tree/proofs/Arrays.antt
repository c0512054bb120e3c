-- Arrays against the definitions: one coordinate more of a sum, of a corner; the rows of the corners, and one row more of their scan.
use mathlib.Core.Path.{◌≡◌, refl, sym, ap, ap₂, ◌∙◌}
use mathlib.Core.Bool.{Bool, cond}
use mathlib.Core.List.{List, [], ◌∷◌, ◌++◌, map, map-map}
use Prim.Native.Nat.{ℕ, zero, suc, ◌+◌, ◌*◌, ◌/◌, ◌%◌, ◌^◌, ◌≤◌, ◌<◌}
use native.Mathlib.Nat.{pow-succ'}
use native.Mathlib.Numerals.{add-one}
use native.Mathlib.Omega.{arith}
use lib.Dec.{eqb, lit≤}
use lib.Pow.{pow_mono}
use lib.ListN.{length, get_or, set, take, drop, replicate, drop_of_length-le}
use lib.Seq.{drop-cons, length-take-le, get_or-take}
use native.Mathlib.Nat.{zero-add}
use Rattle.std.proofs.lemmas.List.{take_all, append-nil, append_assoc, drop-set-lt}
use Rattle.std.proofs.lemmas.List.{take_more_set}
use lib.Ieee.{Float, nan, binary64, add, sub, mul, lt}
use Rattle.lists.specs.Lists.{from, numbers}
use Rattle.lists.specs.ListLaws.{length_numbers}
use Rattle.lists.specs.Words.{column}
use Rattle.lists.proofs.PartLaws.{part_same}
use Rattle.hyperparams.specs.Params.{float}
use Rattle.counting_tree.specs.Box.{sum_from, both, corners, farthest}
use Rattle.counting_tree.specs.Farthest.{largest_from}
use Rattle.counting_tree.specs.Arrays.{corner_of, row_of, rows_of}

-- ---- the sum of squares from channel i on
module _ (n : ℕ) (q p : List Float) (few : n ≤ 4) (long_q : length q ≡ 4) (long_p : length p ≡ 4) where
  abbrev pub sum_rest : Float → ℕ → Float
  sum_rest s i = sum_from s (drop i (take n q)) (drop i (take n p))

  channels : (xs : List Float) → length xs ≡ 4 → length (take n xs) ≡ n
  channels xs h = length-take-le n xs (omega arith)

  pub sum_step : (s : Float) (i : ℕ) → i < n → sum_rest (add binary64 s (mul binary64 (sub binary64 (get_or q i nan) (get_or p i nan)) (sub binary64 (get_or q i nan) (get_or p i nan)))) (i + 1) ≡ sum_rest s i
  unfolding sum_from
  sum_step s i h =
      let k : i < length (take n q) = omega (arith, channels q long_q) in
      let l : i < length (take n p) = omega (arith, channels p long_p) in
      rw (add-one, drop-cons (take n q) i nan k, drop-cons (take n p) i nan l, get_or-take n q i nan h, get_or-take n p i nan h)

  pub sum_done : (s : Float) (i : ℕ) → n ≤ i → s ≡ sum_rest s i
  unfolding sum_from
  sum_done s i h = let k : length (take n q) ≤ i = omega (arith, channels q long_q) in rw (drop_of_length-le (take n q) k)

  -- a channel that is not used
  pub sum_past : (s : Float) (i : ℕ) → n ≤ i → sum_rest s (i + 1) ≡ sum_rest s i
  sum_past s i h = sym (sum_done s (i + 1) (omega arith)) ∙ sum_done s i h

-- ---- a column of what f gives of the elements
column_from : {A B : Type 0} (f : A → B) (d : A) (xs : List A) (a n : ℕ) → a + n ≤ length xs → map (λ (i : ℕ). f (get_or xs i d)) (from a n) ≡ map f (take n (drop a xs))
column_from f d xs a zero h = refl
column_from f d xs a (suc n) h =
    let k : a < length xs = omega arith in
    ap (λ (l : List _). f (get_or xs a d) ∷ l) (column_from f d xs (suc a) n (omega arith)) ∙ ap (λ (l : List _). map f (take (suc n) l)) (sym (drop-cons xs a d k))

pub column_take : {A B : Type 0} (f : A → B) (d : A) (xs : List A) (n : ℕ) → n ≤ length xs → column (λ (i : ℕ). f (get_or xs i d)) n ≡ map f (take n xs)
column_take f d xs n h = column_from f d xs 0 n (omega arith)

-- ---- one corner, coordinate by coordinate
corner_long : (r : List Float) (e : Float) (k : ℕ) → length (corner_of r e k) ≡ length r
unfolding corner_of
corner_long [] e k = refl
corner_long (c ∷ r) e k = ap suc (corner_long r e (k / 2))

-- of r the first i coordinates are those of corner k already, and b is what is left of its bits
abbrev pub Cornered : List Float → Float → ℕ → List Float → ℕ → ℕ → Type 0
Cornered row e k r i b = take i r ++ corner_of (drop i r) e b ≡ corner_of row e k

pub corner_step : (row : List Float) (e : Float) (k : ℕ) (r : List Float) (i b : ℕ) → i < length r → Cornered row e k r i b → (t : Bool) → eqb (b % 2) 0 ≡ t
    → Cornered row e k (set r i (cond t (sub binary64 (get_or r i nan) e) (add binary64 (get_or r i nan) e))) (i + 1) (b / 2)
unfolding corner_of
corner_step row e k r i b h c t p =
    let x = cond t (sub binary64 (get_or r i nan) e) (add binary64 (get_or r i nan) e) in
    ap₂ (λ (u w : List Float). u ++ corner_of w e (b / 2)) (take_more_set r i x h) (drop-set-lt (i + 1) r i x (omega arith) ∙ ap (λ (m : ℕ). drop m r) (add-one i))
    ∙ append_assoc (take i r) (x ∷ []) (corner_of (drop (suc i) r) e (b / 2))
    ∙ ap (λ (u : Bool). take i r ++ (cond u (sub binary64 (get_or r i nan) e) (add binary64 (get_or r i nan) e) ∷ corner_of (drop (suc i) r) e (b / 2))) (sym p)
    ∙ ap (λ (w : List Float). take i r ++ corner_of w e b) (sym (drop-cons r i nan h)) ∙ c

-- all coordinates
pub corner_done : (n : ℕ) (centre : List Float) (e : Float) (k : ℕ) (r : List Float) (i b : ℕ) → length r ≡ length (take n centre) → n ≤ length centre → length r ≤ i → Cornered (take n centre) e k r i b → r ++ drop n centre ≡ row_of n centre e k
unfolding row_of corner_of
corner_done n centre e k r i b l h d c =
    let all : r ≡ corner_of (take n centre) e k = sym (ap₂ (λ (u w : List Float). u ++ corner_of w e b) (take_all i r d) (drop_of_length-le r d) ∙ append-nil r) ∙ c in
    let long : length (corner_of (take n centre) e k) ≡ n = corner_long (take n centre) e k ∙ length-take-le n centre h in
    ap₂ (λ (u : List Float) (m : ℕ). u ++ drop m centre) all (sym (zero-add _ ∙ long))

-- a box of at most four channels has at most sixteen corners
pub at_most_sixteen : (n : ℕ) → n ≤ 4 → 2 ^ n ≤ 16
at_most_sixteen n h = pow_mono h

-- ---- the corners by number
-- two corners for each of the other channels'
twice : (m k : ℕ) (c : Float) (cs : List Float) (e : Float) → map (corner_of (c ∷ cs) e) (from (2 * k) (2 * m)) ≡ both (sub binary64 c e) (add binary64 c e) (map (corner_of cs e) (from k m))
unfolding both corner_of
twice zero k c cs e = refl
twice (suc m) k c cs e =
    ap (λ (x : ℕ). map (corner_of (c ∷ cs) e) (from (2 * k) x)) (two m)
    ∙ ap₂ (λ (x : List Float) (l : List (List Float)). x ∷ l) (low k)
    (ap₂ (λ (x : List Float) (l : List (List Float)). x ∷ l) (high k) (ap (λ (x : ℕ). map (corner_of (c ∷ cs) e) (from x (2 * m))) (next k) ∙ twice m (suc k) c cs e))
  where
    two : (m : ℕ) → 2 * suc m ≡ suc (suc (2 * m))
    two m = omega arith

    next : (k : ℕ) → suc (suc (2 * k)) ≡ 2 * suc k
    next k = omega arith

    even : (k : ℕ) → (2 * k % 2 ≡ 0) × (2 * k / 2 ≡ k)
    even k = omega arith

    odd : (k : ℕ) → (suc (2 * k) % 2 ≡ 1) × (suc (2 * k) / 2 ≡ k)
    odd k = omega arith

    low : (k : ℕ) → cond (eqb (2 * k % 2) 0) (sub binary64 c e) (add binary64 c e) ∷ corner_of cs e (2 * k / 2) ≡ sub binary64 c e ∷ corner_of cs e k
    low k = rw ((even k).0, (even k).1)

    high : (k : ℕ) → cond (eqb (suc (2 * k) % 2) 0) (sub binary64 c e) (add binary64 c e) ∷ corner_of cs e (suc (2 * k) / 2) ≡ add binary64 c e ∷ corner_of cs e k
    high k = rw ((odd k).0, (odd k).1)

by_number : (cs : List Float) (e : Float) → column (corner_of cs e) (2 ^ length cs) ≡ corners cs e
unfolding corners corner_of
by_number [] e = refl
by_number (c ∷ cs) e =
    ap (column (corner_of (c ∷ cs) e)) (pow-succ' 2 (length cs)) ∙ twice (2 ^ length cs) 0 c cs e ∙ ap (both (sub binary64 c e) (add binary64 c e)) (by_number cs e)

-- the first coordinates of a row are the corner
row_first : (n : ℕ) (c : List Float) (e : Float) (k : ℕ) → n ≤ length c → take n (row_of n c e k) ≡ corner_of (take n c) e k
unfolding row_of
row_first n c e k h = part_same c 0 n (corner_of (take n c) e k) (omega arith) (corner_long (take n c) e k ∙ length-take-le n c h)

-- what is scanned are the corners of the definition
pub farthest_is : (n : ℕ) (qs c : List Float) (e w : Float) (all : List (List Float)) → n ≤ 4 → n ≤ length c → all ≡ rows_of n c e → w ≡ farthest qs (map (take n) (take (2 ^ n) all)) → w ≡ farthest qs (corners (take n c) e)
unfolding rows_of
farthest_is n qs c e w all l h a f =
    f ∙ ap (λ (x : List (List Float)). farthest qs (map (take n) (take (2 ^ n) x))) a
    ∙ ap (λ (x : List (List Float)). farthest qs (map (take n) x)) (part_same (replicate 16 (replicate 4 (float 0))) 0 (2 ^ n) (column (row_of n c e) (2 ^ n)) (lit≤ tt) (length_numbers (row_of n c e) (2 ^ n)))
    ∙ ap (farthest qs) (map-map (take n) (row_of n c e) (numbers (2 ^ n)) ∙ rows (numbers (2 ^ n)) ∙ ap (λ (m : ℕ). column (corner_of (take n c) e) (2 ^ m)) (sym (length-take-le n c h)) ∙ by_number (take n c) e)
  where
    rows : (ks : List ℕ) → map (λ (k : ℕ). take n (row_of n c e k)) ks ≡ map (corner_of (take n c) e) ks
    rows [] = refl
    rows (k ∷ ks) = ap₂ (λ (x : List Float) (r : List (List Float)). x ∷ r) (row_first n c e k h) (rows ks)

-- ---- the scan of rows, n coordinates of each
module _ (n : ℕ) (qs : List Float) (rows : List (List Float)) where
  abbrev pub scan_rest : Float → ℕ → Float
  scan_rest far k = largest_from far qs (map (take n) (drop k rows))

  -- one row more, by the value of the test
  pub scan_step : (far s : Float) (k : ℕ) (t : Bool) → k < length rows → s ≡ sum_from (float 0) qs (take n (get_or rows k [])) → lt far s ≡ t → scan_rest (cond t s far) (k + 1) ≡ scan_rest far k
  unfolding largest_from
  scan_step far s k t h is test =
      rw (add-one, drop-cons rows k [] h)
      (ap (λ (x : Float). largest_from x qs (map (take n) (drop (suc k) rows))) (rw (← test) (ap (λ (x : Float). cond (lt far x) x far) is)))

  pub scan_done : (far : Float) (k : ℕ) → length rows ≤ k → far ≡ scan_rest far k
  unfolding largest_from
  scan_done far k h = rw (drop_of_length-le rows h)
