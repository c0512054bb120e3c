-- The float distance against the exact one, both by squares: its error is a fixed small amount, not a part of the distance.
use Rattle.std.specs.Prelude.{◌≡◌, ◌⊎◌, Bool, true, false, List, [], ◌∷◌, ℕ, suc, ◌+◌, ◌-◌, ◌*◌, ◌^◌, ◌≤◌, ◌<◌, pos, length, Float}
use Rattle.std.proofs.Common.{sym, ap, ◌∙◌, subst, inl, inr, zero-le, le_trans, le_of_eq, mul-le-mul_right, mul-pos, mul_assoc, add-mul, suc-mul, add-le-add, add-zero, zero-add, add-suc, suc-add, add_assoc, le-add_right, mul-one, le_of_lt, le_of_mul-le-mul_right, zero-mul, lit<, lit≤}
use Rattle.std.proofs.Math.Nat.{le_of_mul-le-mul_left}
use native.Mathlib.Omega.{arith, by_contra}
use Rattle.std.specs.Float.{binary64}
use Rattle.std.specs.Float.Ieee.{round, add, sub, mul}
use Rattle.ring.proofs.Ring.{ringℕ, poly, done}
use Rattle.ring.proofs.Order.{belowℕ, equalℕ, num, slackℕ, ◌⊞◌, ◌⊠◌, nil, diffℕ, ◌⊙◌}
use Rattle.ring.specs.Nat.{sq_le_back, lt_or_ge}
use Rattle.ring.specs.InnerProduct.{squares, Tri, none, more}
use Rattle.ring.proofs.InnerProductLaws.{triangle}
use Rattle.ieee754.specs.Value.{unit, unit_pos, tiny, unit_tiny, tiny_large, mag, sign, Good, Close, close_twice}
use Rattle.ieee754.specs.Ops.{plus, minus, SumOf, above, below, near_units, add_pos, sub_of, mul_near}
use Rattle.ieee754.specs.Root.{root}
use Rattle.ieee754.specs.RootLaw.{root_near}
use Rattle.ieee754.specs.Exact.{of_int_pos}
use Rattle.ieee754.specs.Abs.{close_abs}
use Rattle.ieee754.specs.Whole.{like}
use Rattle.hyperparams.specs.Params.{float}
use Rattle.counting_tree.specs.Box.{sum_from, distance}

-- ---- one sum of squares, step by step: X = Q in exact squares, but for c 2 ^ -50 of it and 2 c units
pub record Sums (c X Q u : ℕ) : Type 0 where
  pub high : 2 ^ 52 * X ≤ 2 ^ 52 * Q + 4 * (c * Q) + 2 ^ 52 * (2 * (c * u))
  pub low : 2 ^ 52 * Q ≤ 2 ^ 52 * X + 4 * (c * Q) + 2 ^ 52 * (2 * (c * u))

-- the square
weak : (Y E u : ℕ) → Close Y E u → (2 ^ 52 * (Y * u) ≤ 2 ^ 52 * E + E + 2 ^ 52 * u) × (2 ^ 52 * E ≤ 2 ^ 52 * (Y * u) + E + 2 ^ 52 * u)
weak Y E u c = omega arith

-- W = X + Y
twice : (c X Q E Y u : ℕ) → c ≤ 2 ^ 10 → 2 ^ 52 * X ≤ 2 ^ 52 * Q + 4 * (c * Q) + 2 ^ 52 * (2 * (c * u)) → 2 ^ 52 * Y ≤ 2 ^ 52 * E + E + 2 ^ 52 * u → X + Y ≤ 2 * (Q + E) + (2 * (c * u) + u)
twice c X Q E Y u b h k = omega (arith, mul-le-mul_right Q b)

-- Z = W rounded
sum_high : (W Z Q E v u : ℕ) → 2 ^ 53 * Z ≤ 2 ^ 53 * W + W + 2 ^ 52 * u → W ≤ 2 * (Q + E) + v → v ≤ 2 ^ 50 * u → 2 ^ 52 * Z ≤ 2 ^ 52 * W + (Q + E) + 2 ^ 52 * u
sum_high W Z Q E v u h b k = omega arith

step_high : (c X Y W Z Q E u : ℕ) → W ≡ X + Y → 2 ^ 52 * X ≤ 2 ^ 52 * Q + 4 * (c * Q) + 2 ^ 52 * (2 * (c * u)) → 2 ^ 52 * Y ≤ 2 ^ 52 * E + E + 2 ^ 52 * u
    → 2 ^ 52 * Z ≤ 2 ^ 52 * W + (Q + E) + 2 ^ 52 * u → 2 ^ 52 * Z ≤ 2 ^ 52 * (Q + E) + 4 * (suc c * (Q + E)) + 2 ^ 52 * (2 * (suc c * u))
step_high c X Y W Z Q E u w h k s = omega arith

step_low : (c X Y W Z Q E u : ℕ) → W ≡ X + Y → 2 ^ 52 * Q ≤ 2 ^ 52 * X + 4 * (c * Q) + 2 ^ 52 * (2 * (c * u)) → 2 ^ 52 * E ≤ 2 ^ 52 * Y + E + 2 ^ 52 * u
    → 2 ^ 52 * W ≤ 2 ^ 52 * Z + (Q + E) + 2 ^ 52 * u → 2 ^ 52 * (Q + E) ≤ 2 ^ 52 * Z + 4 * (suc c * (Q + E)) + 2 ^ 52 * (2 * (suc c * u))
step_low c X Y W Z Q E u w h k s =
    belowℕ (c ∷ X ∷ Y ∷ W ∷ Z ∷ Q ∷ E ∷ u ∷ []) (slackℕ h ⊞ slackℕ k ⊞ slackℕ s ⊞ nil (pos (2 ^ 52) ⊙ diffℕ w) ⊞ num (4 * (c * E) + 3 * Q + 2 * E)) (search poly depth 30) done

small_c : (c u : ℕ) → c ≤ 2 ^ 10 → 2 * (c * u) + u ≤ 2 ^ 50 * u
small_c c u b = omega (arith, mul-le-mul_right u b)

times : (Z W u : ℕ) → Close Z W 1 → (2 ^ 53 * (Z * u) ≤ 2 ^ 53 * (W * u) + W * u + 2 ^ 52 * u) × (2 ^ 53 * (W * u) ≤ 2 ^ 53 * (Z * u) + W * u + 2 ^ 52 * u)
times Z W u c = omega (arith, mul-le-mul_right u c.0, mul-le-mul_right u c.1)

pub sums_step : (c A m s Q E u : ℕ) → c ≤ 2 ^ 10 → Sums c (A * u) Q u → Close m E u → Close s (A + m) 1 → Sums (suc c) (s * u) (Q + E) u
sums_step c A m s Q E u b h k j =
    let y = weak m E u k in
    let t = times s (A + m) u j in
    let w : (A + m) * u ≡ A * u + m * u = add-mul A m u in
    let W : (A + m) * u ≤ 2 * (Q + E) + (2 * (c * u) + u) = le_trans (le_of_eq w) (twice c (A * u) Q E (m * u) u b h.high y.0) in
    let v = small_c c u b in
    record {
      high = step_high c (A * u) (m * u) ((A + m) * u) (s * u) Q E u w h.high y.0 (sum_high ((A + m) * u) (s * u) Q E (2 * (c * u) + u) u t.0 W v);
      low = step_low c (A * u) (m * u) ((A + m) * u) (s * u) Q E u w h.low y.1 (sum_low ((A + m) * u) (s * u) Q E (2 * (c * u) + u) u t.1 W v);
    }
  where
    sum_low : (W Z Q E v u : ℕ) → 2 ^ 53 * W ≤ 2 ^ 53 * Z + W + 2 ^ 52 * u → W ≤ 2 * (Q + E) + v → v ≤ 2 ^ 50 * u → 2 ^ 52 * W ≤ 2 ^ 52 * Z + (Q + E) + 2 ^ 52 * u
    sum_low W Z Q E v u h b k = omega arith

-- ---- the gap between two values, and the lists of gaps
abbrev difference : ℕ → ℕ → ℕ
difference a b = (a - b) + (b - a)

difference_is : (a b : ℕ) → (a ≡ b + difference a b) ⊎ (b ≡ a + difference a b)
difference_is a b = elim (lt_or_ge a b) [ inl h ↦ inr (omega arith) | inr h ↦ inl (omega arith) ]

unfoldable pub gap : Float → Float → ℕ
gap x y = difference (plus x + minus y) (minus x + plus y)

pub gap_is : (x y : Float) → (plus x + minus y ≡ minus x + plus y + gap x y) ⊎ (minus x + plus y ≡ plus x + minus y + gap x y)
unfolding gap
gap_is x y = difference_is (plus x + minus y) (minus x + plus y)

-- the difference is the gap, rounded
pub sub_is : (x y : Float) → Good x → Good y → (s : Bool) × (sub binary64 x y ≡ round binary64 s (gap x y) unit)
unfolding gap
sub_is x y g k = go (sub_of x y g k)
  where
    go : SumOf (sub binary64 x y) (plus x + minus y) (minus x + plus y) → (s : Bool) × (sub binary64 x y ≡ round binary64 s (gap x y) unit)
    go (above n e d) = (false, e ∙ ap (λ (m : ℕ). round binary64 false m unit) (omega arith))
    go (below n e d) = (true, e ∙ ap (λ (m : ℕ). round binary64 true m unit) (omega arith))

pub sub_gap : (x y : Float) → Good x → Good y → gap x y ≤ 2 ^ 100 * unit → Good (sub binary64 x y) × Close (mag (sub binary64 x y)) (gap x y) 1
sub_gap x y g k b =
    let d = sub_is x y g k in
    let r = near_units d.0 (gap x y) b in
    subst (λ (z : Float). Good z × Close (mag z) (gap x y) 1) (sym d.1) (r.good, r.close)

abbrev pub gaps : List Float → List Float → List ℕ
gaps [] ps = []
gaps (q ∷ qs) [] = []
gaps (q ∷ qs) (p ∷ ps) = gap q p ∷ gaps qs ps

abbrev pub diffs : List Float → List Float → List ℕ
diffs [] ps = []
diffs (q ∷ qs) [] = []
diffs (q ∷ qs) (p ∷ ps) = mag (sub binary64 q p) ∷ diffs qs ps

-- finite coordinates at most 2 ^ 18 difference
pub data Near : List Float → List Float → Type 0 where
  no_more : Near [] []
  one : {q p : Float} {qs ps : List Float} → Good q → Good p → gap q p ≤ 2 ^ 18 * unit → Near qs ps → Near (q ∷ qs) (p ∷ ps)

-- ---- the sum of the squares of the rounded differences
pub record Summed (c : ℕ) (a : Float) (Q : ℕ) : Type 0 where
  pub good : Good a
  pub sign_is : sign a ≡ false
  pub sums : Sums c (mag a * unit) Q unit
  pub few : Q ≤ c * (2 ^ 40 * (unit * unit))

diff_le : (e g u : ℕ) → 0 < u → g ≤ 2 ^ 18 * u → Close e g 1 → e ≤ 2 ^ 20 * u
diff_le e g u U b c = omega arith

square_le : (e u : ℕ) → e ≤ 2 ^ 20 * u → e * e ≤ 2 ^ 40 * (u * u)
square_le e u h = belowℕ (e ∷ u ∷ []) (slackℕ h ⊠ num (2 ^ 20 * u + e)) (search poly depth 30) done

-- what is summed so far stays far below an overflow
acc_le : (c A Q u : ℕ) → 0 < u → c ≤ 2 ^ 10 → Q ≤ c * (2 ^ 40 * (u * u)) → 2 ^ 52 * (A * u) ≤ 2 ^ 52 * Q + 4 * (c * Q) + 2 ^ 52 * (2 * (c * u)) → A ≤ 2 ^ 52 * u
acc_le c A Q u U b f h = le_of_mul-le-mul_left {k = 2 ^ 52 * u}
    (belowℕ (c ∷ A ∷ Q ∷ u ∷ [])
    (slackℕ h ⊞ num (4 * Q + 2 ^ 53 * u + (2 ^ 52 + 2 ^ 12) * 2 ^ 40 * (u * u)) ⊠ slackℕ b ⊞ num (2 ^ 52 + 2 ^ 12) ⊠ slackℕ f ⊞ num (2 ^ 63 * u) ⊠ slackℕ U
    ⊞ num ((2 ^ 104 - 2 ^ 102 - 2 ^ 63 - 2 ^ 62) * (u * u))) (search poly depth 30) done) (mul-pos (lit< tt) U)

-- a sum of two values that are not negative
pub sum_close : (x y : Float) → Good x → Good y → sign x ≡ false → sign y ≡ false → mag x + mag y ≤ 2 ^ 100 * unit
    → Good (add binary64 x y) × (sign (add binary64 x y) ≡ false) × Close (mag (add binary64 x y)) (mag x + mag y) 1
sum_close x y g k s t b =
    let r = near_units false (mag x + mag y) b in
    subst (λ (z : Float). Good z × (sign z ≡ false) × Close (mag z) (mag x + mag y) 1) (sym (add_pos x y g k s t)) (r.good, r.sign_is, r.close)

pub one_more : (c : ℕ) (a q p : Float) (Q : ℕ) → c ≤ 2 ^ 10 → Summed c a Q → Good q → Good p → gap q p ≤ 2 ^ 18 * unit
    → Summed (suc c) (add binary64 a (mul binary64 (sub binary64 q p) (sub binary64 q p))) (Q + mag (sub binary64 q p) * mag (sub binary64 q p))
one_more c a q p Q b h g k w =
    let d = sub binary64 q p in
    let m = mul binary64 d d in
    let D = sub_gap q p g k (le_trans w (mul-le-mul_right unit (lit≤ tt))) in
    let e-le = diff_le (mag d) (gap q p) unit unit_pos w D.1 in
    let E-le = square_le (mag d) unit e-le in
    let M = mul_near d d D.0 D.0 (le_trans E-le (le_trans (mul-le-mul_right (unit * unit) (lit≤ tt)) (le_of_eq (sym (mul_assoc (2 ^ 100) unit unit))))) in
    let s : sign m ≡ false = M.sign_is ∙ like (sign d) in
    let A-le = acc_le c (mag a) Q unit unit_pos b h.few h.sums.high in
    let m-le : mag m ≤ 2 ^ 42 * unit = square_mag (mag m) (mag d * mag d) unit unit_pos E-le M.close in
    let S = sum_close a m h.good M.good h.sign_is s (le_trans (add-le-add A-le m-le) (belowℕ (unit ∷ []) (num ((2 ^ 100 - 2 ^ 52 - 2 ^ 42) * unit)) (search poly depth 30) done)) in
    record {
      good = S.0;
      sign_is = S.1;
      sums = sums_step c (mag a) (mag m) (mag (add binary64 a m)) Q (mag d * mag d) unit b h.sums M.close S.2;
      few = le_trans (add-le-add h.few E-le) (le_of_eq (sym (suc-mul c (2 ^ 40 * (unit * unit)))));
    }
  where
    square_mag : (m E u : ℕ) → 0 < u → E ≤ 2 ^ 40 * (u * u) → Close m E u → m ≤ 2 ^ 42 * u
    square_mag m E u U b c = le_of_mul-le-mul_right {k = u}
        (belowℕ (m ∷ E ∷ u ∷ []) (slackℕ (close_twice m E u c) ⊞ num 2 ⊠ slackℕ b ⊞ num u ⊠ slackℕ U ⊞ num ((2 ^ 41 - 1) * (u * u))) (search poly depth 30) done) U

pub sum_list : (c : ℕ) (a : Float) (Q : ℕ) {qs ps : List Float} → Near qs ps → c + length qs ≤ 2 ^ 10 → Summed c a Q → Summed (c + length qs) (sum_from a qs ps) (Q + squares (diffs qs ps))
unfolding sum_from
sum_list c a Q no_more b h = rw (add-zero c, add-zero Q) h
sum_list c a Q (one {q} {p} {qs} {ps} g k w n) b h =
    let d = sub binary64 q p in
    let E = mag d * mag d in
    let c-le : c ≤ 2 ^ 10 = le_trans (le-add_right c (suc (length qs))) b in
    let e : suc c + length qs ≡ c + suc (length qs) = suc-add c (length qs) ∙ sym (add-suc c (length qs)) in
    let r = sum_list (suc c) (add binary64 a (mul binary64 d d)) (Q + E) n (subst (λ (x : ℕ). x ≤ 2 ^ 10) (sym e) b) (one_more c a q p Q c-le h g k w) in
    subst (λ (x : ℕ). Summed (c + suc (length qs)) (sum_from (add binary64 a (mul binary64 d d)) qs ps) x) (add_assoc Q E (squares (diffs qs ps)))
    (subst (λ (x : ℕ). Summed x (sum_from (add binary64 a (mul binary64 d d)) qs ps) (Q + E + squares (diffs qs ps))) e r)

start : Summed 0 (float 0) 0
start =
    let z = of_int_pos 0 (lit≤ tt) in
    record {
      good = z.good;
      sign_is = z.sign_is;
      sums = record { high = le_of_eq (equalℕ (mag (float 0) ∷ unit ∷ []) (pos (2 ^ 52 * unit) ⊙ diffℕ z.mag_is) (search poly depth 30) done); low = zero-le };
      few = le_of_eq (sym (zero-mul (2 ^ 40 * (unit * unit))));
    }

-- the whole sum, of at most four channels
pub record Total (a : Float) (Q : ℕ) : Type 0 where
  pub good : Good a
  pub sign_is : sign a ≡ false
  pub small : mag a ≤ 2 ^ 52 * unit
  pub high : 2 ^ 52 * (mag a * unit) ≤ 2 ^ 52 * Q + 16 * Q + 2 ^ 55 * unit
  pub low : 2 ^ 52 * Q ≤ 2 ^ 52 * (mag a * unit) + 16 * Q + 2 ^ 55 * unit

pub total : {qs ps : List Float} → Near qs ps → length qs ≤ 4 → Total (sum_from (float 0) qs ps) (squares (diffs qs ps))
total {qs} {ps} n l =
    let s = sum_list 0 (float 0) 0 n (le_trans (le_of_eq (zero-add (length qs))) (le_trans l (lit≤ tt))) start in
    at (sum_from (float 0) qs ps) (length qs) (squares (diffs qs ps)) l
    (subst (λ (x : ℕ). Summed x (sum_from (float 0) qs ps) (squares (diffs qs ps))) (zero-add (length qs))
    (subst (λ (x : ℕ). Summed (0 + length qs) (sum_from (float 0) qs ps) x) (zero-add (squares (diffs qs ps))) s))
  where
    relax : (c x y Q u : ℕ) → c ≤ 4 → 2 ^ 52 * x ≤ 2 ^ 52 * y + 4 * (c * Q) + 2 ^ 52 * (2 * (c * u)) → 2 ^ 52 * x ≤ 2 ^ 52 * y + 16 * Q + 2 ^ 55 * u
    relax c x y Q u b h = omega (arith, mul-le-mul_right Q b, mul-le-mul_right u b)

    at : (a : Float) (c Q : ℕ) → c ≤ 4 → Summed c a Q → Total a Q
    at a c Q b h = record {
      good = h.good;
      sign_is = h.sign_is;
      small = acc_le c (mag a) Q unit unit_pos (le_trans b (lit≤ tt)) h.few h.sums.high;
      high = relax c (mag a * unit) Q Q unit b h.sums.high;
      low = relax c Q (mag a * unit) Q unit b h.sums.low;
    }

-- ---- from squares to lengths; t = 2 ^ -36
long_high : (Q K X u t : ℕ) → u ≡ 2 ^ 36 * t → 2 ^ 60 ≤ t → K ≤ 2 ^ 56 * t → Q ≤ K * K → 2 ^ 52 * X ≤ 2 ^ 52 * Q + 16 * Q + 2 ^ 55 * u → X ≤ (K + 128 * t) * (K + 128 * t)
long_high Q K X u t e l b q h = le_of_mul-le-mul_left {k = 2 ^ 52}
    (belowℕ (Q ∷ K ∷ X ∷ u ∷ t ∷ [])
    (slackℕ h ⊞ num (2 ^ 52 + 16) ⊠ slackℕ q ⊞ num (16 * K) ⊠ slackℕ b ⊞ num (2 ^ 66 * t) ⊠ slackℕ l ⊞ num ((2 ^ 126 - 2 ^ 91) * t) ⊞ nil (pos (2 ^ 55) ⊙ diffℕ (sym e)))
    (search poly depth 30) done) (lit< tt)

long_low : (Q K X u t : ℕ) → u ≡ 2 ^ 36 * t → 2 ^ 60 ≤ t → K ≤ 2 ^ 56 * t → X ≤ K * K → 2 ^ 52 * Q ≤ 2 ^ 52 * X + 16 * Q + 2 ^ 55 * u → Q ≤ (K + 256 * t) * (K + 256 * t)
long_low Q K X u t e l b q h = le_of_mul-le-mul_left {k = 2 ^ 52 - 16}
    (belowℕ (Q ∷ K ∷ X ∷ u ∷ t ∷ [])
    (slackℕ h ⊞ num (2 ^ 52) ⊠ slackℕ q ⊞ num (16 * K) ⊠ slackℕ b ⊞ num ((2 ^ 68 - 2 ^ 20) * t) ⊠ slackℕ l
    ⊞ num ((2 ^ 60 - 2 ^ 13) * (t * K) + ((2 ^ 68 - 2 ^ 20) * 2 ^ 60 - 2 ^ 91) * t) ⊞ nil (pos (2 ^ 55) ⊙ diffℕ (sym e))) (search poly depth 30) done) (lit< tt)

-- ---- rounded differences against gaps: each within 3 t, so the lengths within 6 t
abbrev pub same : ℕ → List Float → List ℕ
same n [] = []
same n (q ∷ qs) = n ∷ same n qs

pub close_three : (e g u t : ℕ) → u ≡ 2 ^ 36 * t → 2 ^ 60 ≤ t → g ≤ 2 ^ 18 * u → Close e g 1 → (e ≤ g + 3 * t) × (g ≤ e + 3 * t)
close_three e g u t E l b c =
    let m = small g u t E l b in
    let r = close_abs e g 1 (3 * t) m c in
    shape (e * 1) e (mul-one e) r
  where
    small : (g u t : ℕ) → u ≡ 2 ^ 36 * t → 2 ^ 60 ≤ t → g ≤ 2 ^ 18 * u → g + 2 ^ 52 * 1 ≤ 2 ^ 53 * (3 * t)
    small g u t E l b = omega arith

    shape : (x y : ℕ) → x ≡ y → (x ≤ g + 3 * t) × (g ≤ x + 3 * t) → (y ≤ g + 3 * t) × (g ≤ y + 3 * t)
    shape x y h k = omega arith

pub tri_diffs : {qs ps : List Float} → Near qs ps → Tri (diffs qs ps) (gaps qs ps) (same (3 * tiny) qs) × Tri (gaps qs ps) (diffs qs ps) (same (3 * tiny) qs)
tri_diffs no_more = (none, none)
tri_diffs (one {q} {p} {qs} {ps} g k w n) =
    let c = close_three (mag (sub binary64 q p)) (gap q p) unit tiny unit_tiny tiny_large w (sub_gap q p g k (le_trans w (mul-le-mul_right unit (lit≤ tt)))).1 in
    let r = tri_diffs n in
    (more c.0 r.0, more c.1 r.1)

pub same_squares : (n : ℕ) (qs : List Float) → squares (same n qs) ≡ length qs * (n * n)
same_squares n [] = sym (zero-mul (n * n))
same_squares n (q ∷ qs) = ap (λ (x : ℕ). n * n + x) (same_squares n qs) ∙ ringℕ (length qs ∷ n ∷ []) (search poly depth 30) done

pub same_short : (n : ℕ) (qs : List Float) → length qs ≤ 4 → squares (same n qs) ≤ 2 * n * (2 * n)
same_short n qs h = le_trans (le_of_eq (same_squares n qs)) (le_trans (mul-le-mul_right (n * n) h) (le_of_eq (ringℕ (n ∷ []) (search poly depth 30) done)))

-- ---- the distance
pub root_up : (z K t : ℕ) → 2 ^ 60 ≤ t → K ≤ 2 ^ 57 * t → 2 ^ 50 * z ≤ 2 ^ 50 * K + K + 2 ^ 50 → z ≤ K + 129 * t
root_up z K t l b h = omega arith

root_down : (z K t : ℕ) → 2 ^ 60 ≤ t → z ≤ 2 ^ 55 * t → 2 ^ 50 * K ≤ 2 ^ 50 * z + z + 2 ^ 50 → K ≤ z + 33 * t
root_down z K t l b h = omega arith

pub dist_high : {qs ps : List Float} → Near qs ps → length qs ≤ 4 → (K : ℕ) → K ≤ 2 ^ 55 * tiny → squares (gaps qs ps) ≤ K * K → mag (distance qs ps) ≤ K + 512 * tiny
unfolding distance
dist_high {qs} {ps} n l K b h =
    let s = sum_from (float 0) qs ps in
    let T = total n l in
    let e : squares (diffs qs ps) ≤ (K + 2 * (3 * tiny)) * (K + 2 * (3 * tiny)) = triangle K (2 * (3 * tiny)) (tri_diffs n).0 h (same_short (3 * tiny) qs l) in
    let x = long_high (squares (diffs qs ps)) (K + 2 * (3 * tiny)) (mag s * unit) unit tiny unit_tiny tiny_large (first K tiny b) e T.high in
    let r = root_near s T.good T.sign_is (le_trans T.small (mul-le-mul_right unit (lit≤ tt))) in
    let z = root_up (mag (root s)) (K + 2 * (3 * tiny) + 128 * tiny) tiny tiny_large (second K tiny b) (r.high (K + 2 * (3 * tiny) + 128 * tiny) x) in
    last (mag (root s)) K tiny z
  where
    first : (K t : ℕ) → K ≤ 2 ^ 55 * t → K + 2 * (3 * t) ≤ 2 ^ 56 * t
    first K t b = omega arith

    second : (K t : ℕ) → K ≤ 2 ^ 55 * t → K + 2 * (3 * t) + 128 * t ≤ 2 ^ 57 * t
    second K t b = omega arith

    last : (z K t : ℕ) → z ≤ K + 2 * (3 * t) + 128 * t + 129 * t → z ≤ K + 512 * t
    last z K t h = omega arith

pub dist_low : {qs ps : List Float} → Near qs ps → length qs ≤ 4 → (K : ℕ) → K ≤ 2 ^ 55 * tiny → K * K ≤ squares (gaps qs ps) → K ≤ mag (distance qs ps) + 512 * tiny
unfolding distance
dist_low {qs} {ps} n l K b h = by_contra K (mag (root s) + 512 * tiny) bad
  where
    s : Float
    s = sum_from (float 0) qs ps

    T : Total s (squares (diffs qs ps))
    T = total n l

    z_le : (z K t : ℕ) → z + 512 * t < K → K ≤ 2 ^ 55 * t → (z ≤ 2 ^ 55 * t) × (z + 34 * t ≤ 2 ^ 56 * t)
    z_le z K t h b = omega arith

    too_far : (z t : ℕ) → 1 ≤ t → z + 34 * t ≤ z + 33 * t → ⊥
    too_far z t p h = omega arith

    end : (z K t : ℕ) → z + 512 * t < K → K ≤ z + 34 * t + 256 * t + 2 * (3 * t) → ⊥
    end z K t a b = omega arith

    bad : mag (root s) + 512 * tiny < K → ⊥
    bad g =
        let z = mag (root s) in
        let y = z_le z K tiny g b in
        let r = root_near s T.good T.sign_is (le_trans T.small (mul-le-mul_right unit (lit≤ tt))) in
        let x = by_contra (mag s * unit) ((z + 34 * tiny) * (z + 34 * tiny)) (λ f.
        too_far z tiny (omega (arith, tiny_large)) (root_down z (z + 34 * tiny) tiny tiny_large y.0 (r.low (z + 34 * tiny) (le_of_lt f)))) in
        let q = long_low (squares (diffs qs ps)) (z + 34 * tiny) (mag s * unit) unit tiny unit_tiny tiny_large y.1 x T.low in
        let w : squares (gaps qs ps) ≤ (z + 34 * tiny + 256 * tiny + 2 * (3 * tiny)) * (z + 34 * tiny + 256 * tiny + 2 * (3 * tiny)) = triangle (z + 34 * tiny + 256 * tiny) (2 * (3 * tiny)) (tri_diffs n).1 q (same_short (3 * tiny) qs l) in
        end z K tiny g (sq_le_back K (z + 34 * tiny + 256 * tiny + 2 * (3 * tiny)) (le_trans h w))

pub dist_good : {qs ps : List Float} → Near qs ps → length qs ≤ 4 → Good (distance qs ps) × (sign (distance qs ps) ≡ false)
unfolding distance
dist_good {qs} {ps} n l =
    let a = total n l in
    let r = root_near (sum_from (float 0) qs ps) a.good a.sign_is (le_trans a.small (mul-le-mul_right unit (lit≤ tt))) in
    (r.good, r.sign_is)
