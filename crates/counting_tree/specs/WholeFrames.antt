-- The box tests on frames of whole numbers: what they say of the sum of squared differences.
use Rattle.std.specs.Prelude.{◌≡◌, refl, Bool, true, false, not, List, [], ◌∷◌, map, ℕ, suc, ◌+◌, ◌-◌, ◌*◌, ◌^◌, ◌≤◌, ◌<◌, ℤ, pos, negsuc, nat_abs, T, length, Float}
use Rattle.std.proofs.Common.{sym, ap, ap₂, ◌∙◌, subst, le_trans, le_of_eq, mul-le-mul_right, zero-mul, add-mul, mul_comm, lt_of_mul-lt-mul_right, arith, lit≤}
use Rattle.std.proofs.Math.Nat.{mul-sub}
use Rattle.std.proofs.lemmas.List.{length-map}
use Rattle.std.specs.Float.{binary64}
use Rattle.std.specs.Float.Ieee.{add, sub, lt, le, of_int}
use Rattle.ring.proofs.Ring.{ringℕ, poly, done}
use Rattle.ring.specs.InnerProduct.{squares}
use Rattle.ieee754.specs.Value.{unit, unit_pos, tiny, unit_tiny, mag, sign}
use Rattle.ieee754.specs.Ops.{plus, minus, plus_pos, minus_pos, plus_neg, minus_neg, mag_parts}
use Rattle.ieee754.specs.Exact.{of_int_pos, of_int_neg}
use Rattle.counting_tree.specs.Distance.{gap, gaps, Near, no_more, one}
use Rattle.counting_tree.specs.Margins.{gap_triangle}
use Rattle.counting_tree.specs.Radius.{Side, radius}
use Rattle.counting_tree.specs.Frames.{Frame, apart, squared, floats}
use Rattle.counting_tree.specs.Grid.{side_at, index, centre, indexes, centres, half}
use Rattle.counting_tree.specs.Sides.{Scale, level_side}
use Rattle.counting_tree.specs.InBox.{index_box, side_half, half_side, coordinate_is}
use Rattle.counting_tree.specs.Tests.{Under, Extended, disjoint_right, covered_right, last_decides, same_cell_lem}
use Rattle.counting_tree.specs.Corners.{Around, corners_right}
use Rattle.counting_tree.specs.Box.{distance, corners, farthest}
use Rattle.counting_tree.specs.Tests as Tests
use Rattle.counting_tree.specs.Corners as Corners

-- two frames: as many channels, and counts of at most 2 ^ 15 in size
pub data Pair : Frame → Frame → Type 0 where
  no_channel : Pair [] []
  channel : {x y : ℤ} {xs ys : Frame} → nat_abs x ≤ 2 ^ 15 → nat_abs y ≤ 2 ^ 15 → Pair xs ys → Pair (x ∷ xs) (y ∷ ys)

-- the gap by the parts of the two values
gap_by : (x y : Float) {p m q n : ℕ} → plus x ≡ p → minus x ≡ m → plus y ≡ q → minus y ≡ n → gap x y ≡ (p + n - (m + q)) + (m + q - (p + n))
unfolding gap
gap_by x y a b c d = rw (a, b, c, d)

same_sign : (a b u : ℕ) → (a * u - b * u) + (b * u - a * u) ≡ ((a - b) + (b - a)) * u
same_sign a b u = ap₂ ◌+◌ (part a b) (part b a) ∙ sym (add-mul (a - b) (b - a) u)
  where
    part : (a b : ℕ) → a * u - b * u ≡ (a - b) * u
    part a b = ap₂ ◌-◌ (mul_comm a u) (mul_comm b u) ∙ sym (mul_comm (a - b) u ∙ mul-sub u a b)

pub gap_apart : (x y : ℤ) → nat_abs x ≤ 2 ^ 15 → nat_abs y ≤ 2 ^ 15 → gap (of_int binary64 x) (of_int binary64 y) ≡ apart x y * unit
gap_apart (pos a) (pos b) h k =
    let X = of_int binary64 (pos a) in
    let Y = of_int binary64 (pos b) in
    let i = of_int_pos a (le_trans h (lit≤ tt)) in
    let j = of_int_pos b (le_trans k (lit≤ tt)) in
    gap_by X Y (plus_pos X i.sign_is ∙ i.mag_is) (minus_pos X i.sign_is) (plus_pos Y j.sign_is ∙ j.mag_is) (minus_pos Y j.sign_is) ∙ both (a * unit) (b * unit) ∙ same_sign a b unit
  where
    both : (p q : ℕ) → (p + 0 - (0 + q)) + (0 + q - (p + 0)) ≡ (p - q) + (q - p)
    both p q = omega arith
gap_apart (pos a) (negsuc b) h k =
    let X = of_int binary64 (pos a) in
    let Y = of_int binary64 (negsuc b) in
    let i = of_int_pos a (le_trans h (lit≤ tt)) in
    let j = of_int_neg b (le_trans k (lit≤ tt)) in
    gap_by X Y (plus_pos X i.sign_is ∙ i.mag_is) (minus_pos X i.sign_is) (plus_neg Y j.sign_is) (minus_neg Y j.sign_is ∙ j.mag_is)
    ∙ both (a * unit) (suc b * unit) ∙ sym (add-mul a (suc b) unit)
  where
    both : (p q : ℕ) → (p + q - (0 + 0)) + (0 + 0 - (p + q)) ≡ p + q
    both p q = omega arith
gap_apart (negsuc a) (pos b) h k =
    let X = of_int binary64 (negsuc a) in
    let Y = of_int binary64 (pos b) in
    let i = of_int_neg a (le_trans h (lit≤ tt)) in
    let j = of_int_pos b (le_trans k (lit≤ tt)) in
    gap_by X Y (plus_neg X i.sign_is) (minus_neg X i.sign_is ∙ i.mag_is) (plus_pos Y j.sign_is ∙ j.mag_is) (minus_pos Y j.sign_is)
    ∙ both (suc a * unit) (b * unit) ∙ sym (add-mul (suc a) b unit)
  where
    both : (p q : ℕ) → (0 + 0 - (p + q)) + (p + q - (0 + 0)) ≡ p + q
    both p q = omega arith
gap_apart (negsuc a) (negsuc b) h k =
    let X = of_int binary64 (negsuc a) in
    let Y = of_int binary64 (negsuc b) in
    let i = of_int_neg a (le_trans h (lit≤ tt)) in
    let j = of_int_neg b (le_trans k (lit≤ tt)) in
    gap_by X Y (plus_neg X i.sign_is) (minus_neg X i.sign_is ∙ i.mag_is) (plus_neg Y j.sign_is) (minus_neg Y j.sign_is ∙ j.mag_is)
    ∙ both (suc a * unit) (suc b * unit) ∙ same_sign (suc a) (suc b) unit ∙ ap (λ (n : ℕ). n * unit) (less a b)
  where
    both : (p q : ℕ) → (0 + q - (p + 0)) + (p + 0 - (0 + q)) ≡ (p - q) + (q - p)
    both p q = omega arith

    less : (a b : ℕ) → (suc a - suc b) + (suc b - suc a) ≡ (a - b) + (b - a)
    less a b = omega arith

pub apart_le : (x y : ℤ) → nat_abs x ≤ 2 ^ 15 → nat_abs y ≤ 2 ^ 15 → apart x y ≤ 2 ^ 16
apart_le (pos a) (pos b) h k = omega arith
apart_le (pos a) (negsuc b) h k = omega arith
apart_le (negsuc a) (pos b) h k = omega arith
apart_le (negsuc a) (negsuc b) h k = omega arith

-- the sum of squared gaps of whole frames is N units squared
pub squares_squared : {xs ys : Frame} → Pair xs ys → squares (gaps (floats xs) (floats ys)) ≡ squared xs ys * (unit * unit)
squares_squared no_channel = sym (zero-mul (unit * unit))
squares_squared (channel {x} {y} {xs} {ys} h k c) =
    ap (λ (n : ℕ). n * n + squares (gaps (floats xs) (floats ys))) (gap_apart x y h k)
    ∙ ap (λ (n : ℕ). apart x y * unit * (apart x y * unit) + n) (squares_squared c)
    ∙ ringℕ (apart x y ∷ squared xs ys ∷ unit ∷ []) (search poly depth 30) done

pub near_floats : {xs ys : Frame} → Pair xs ys → Near (floats xs) (floats ys)
near_floats no_channel = no_more
near_floats (channel {x} {y} h k c) =
    one (coordinate_is x h).0 (coordinate_is y k).0 (le_trans (le_of_eq (gap_apart x y h k)) (mul-le-mul_right unit (le_trans (apart_le x y h k) (lit≤ tt)))) (near_floats c)

-- ---- a frame under the box of its indexes
pub half_le : (side : Float) (s : Side side) → (side_half side s).part ≤ 2 ^ 15 * unit
half_le side s = go (side_half side s).part (mag side) unit (side_half side s).twice s.high
  where
    go : (p m u : ℕ) → m ≡ 2 * p → m ≤ 2 ^ 16 * u → p ≤ 2 ^ 15 * u
    go p m u e h = omega arith

box_gap : (n H u t : ℕ) → u ≡ 2 ^ 36 * t → H ≤ 2 ^ 15 * u → n ≤ H + 6 * t → n ≤ 2 ^ 18 * u
box_gap n H u t e h k = omega arith

far_gap : (a b c H u t : ℕ) → u ≡ 2 ^ 36 * t → H ≤ 2 ^ 15 * u → a ≤ b + c → b ≤ 2 ^ 16 * u → c ≤ H + 6 * t → a ≤ 2 ^ 17 * u
far_gap a b c H u t e h k i j = omega arith

-- the size of a centre
mag_gap : (x c : Float) → mag c ≤ mag x + gap x c
unfolding gap
mag_gap x c = go (sign c) refl
  where
    go : (t : Bool) → sign c ≡ t → mag c ≤ mag x + gap x c
    go false f = omega (arith, mag_parts x, plus_pos c f, minus_pos c f)
    go true f = omega (arith, mag_parts x, plus_neg c f, minus_neg c f)

centre_le : (m x g H u t : ℕ) → u ≡ 2 ^ 36 * t → m ≤ x + g → x ≤ 2 ^ 16 * u → g ≤ H + 6 * t → H ≤ 2 ^ 15 * u → m ≤ 2 ^ 17 * u
centre_le m x g H u t e h k i j = omega arith

-- q, a frame y, and the centre of its box
pub around : (side : Float) (s : Side side) {qs ys : Frame} → Pair qs ys → Around (side_half side s).part (floats qs) (floats ys) (centres side ys)
unfolding centres indexes
around side s no_channel = Corners.no_channel
around side s (channel {x = q} {y} a b c) =
    let i = index_box side s y b in
    let Q = of_int binary64 q in
    let Y = of_int binary64 y in
    let C = centre side (index side y) in
    let H = (side_half side s).part in
    Corners.channel (coordinate_is q a).0 (coordinate_is y b).0 i.good
    (centre_le (mag C) (mag Y) (gap Y C) H unit tiny unit_tiny (mag_gap Y C) (coordinate_is y b).1 i.near (half_le side s))
    (far_gap (gap Q C) (gap Q Y) (gap Y C) H unit tiny unit_tiny (half_le side s) (gap_triangle Q Y C) (le_trans (le_of_eq (gap_apart q y a b)) (mul-le-mul_right unit (apart_le q y a b))) i.near)
    i.near (around side s c)

near_around : (H : ℕ) {qs xs cs : List Float} → Around H qs xs cs → Near qs cs
near_around H Corners.no_channel = no_more
near_around H (Corners.channel {q} {x} {c} gq gx gc m w v a) = one gq gc (le_trans w (mul-le-mul_right unit (lit≤ tt))) (near_around H a)

under_around : (H : ℕ) {qs xs cs : List Float} → Around H qs xs cs → Under H xs cs
under_around H Corners.no_channel = Tests.no_channel
under_around H (Corners.channel gq gx gc m w v a) = Tests.channel gx gc v (under_around H a)

near_under : (H : ℕ) → H ≤ 2 ^ 15 * unit → {xs cs : List Float} → Under H xs cs → Near xs cs
near_under H h Tests.no_channel = no_more
near_under H h (Tests.channel {x} {c} gx gc v u) = one gx gc (box_gap (gap x c) H unit tiny unit_tiny h v) (near_under H h u)

pub length_floats : (xs : Frame) → length (floats xs) ≡ length xs
length_floats xs = length-map xs (of_int binary64)

-- ---- the frame y in its own box of level l, against q
module _ {d : ℕ} {t : Float} {τ : ℕ} (S : Scale d t τ) (l : ℕ) (ll : l ≤ 11) (qs ys : Frame) (c : Pair qs ys) (lq : length qs ≡ d) (ly : length ys ≡ d) where
  sd : Side (side_at d t l)
  sd = level_side S l ll

  abbrev H : ℕ
  H = (side_half (side_at d t l) sd).part

  a : Around H (floats qs) (floats ys) (centres (side_at d t l) ys)
  a = around (side_at d t l) sd c

  pub near_centre : Near (floats qs) (centres (side_at d t l) ys)
  near_centre = near_around H a

  u : Under H (floats ys) (centres (side_at d t l) ys)
  u = under_around H a

  -- a box that passes the test of Disjoint has no frame with N < t * t
  pub disjoint_frames : T (lt t (sub binary64 (distance (floats qs) (centres (side_at d t l) ys)) (radius d (side_at d t l)))) → squared qs ys < τ * τ → ⊥
  disjoint_frames f g =
      disjoint_right S l ll (floats qs) (centres (side_at d t l) ys) near_centre (length_floats qs ∙ lq) H (side_half (side_at d t l) sd).twice (floats ys) (near_floats c) (near_under H (half_le (side_at d t l) sd) u) u (length_floats ys ∙ ly)
      (squared qs ys) (le_of_eq (squares_squared c)) f g

  -- a box that passes the first test of FullyCovered has only frames within the far reach: N < ext * ext + 1
  pub covered_frames : (ext : Float) → Extended ext → T (le (add binary64 (distance (floats qs) (centres (side_at d t l) ys)) (radius d (side_at d t l))) ext) → squared qs ys * (unit * unit) < mag ext * mag ext + unit * unit
  covered_frames ext E f =
      subst (λ (n : ℕ). n < mag ext * mag ext + unit * unit) (squares_squared c)
      (covered_right S l ll (floats qs) (centres (side_at d t l) ys) near_centre (length_floats qs ∙ lq) H (side_half (side_at d t l) sd).twice (floats ys) (near_floats c) (near_under H (half_le (side_at d t l) sd) u) u (length_floats ys ∙ ly) ext E f)

  -- and so one whose farthest corner is nearer than the extended tolerance
  pub corner_frames : (ext : Float) → Extended ext → T (lt (farthest (floats qs) (corners (centres (side_at d t l) ys) (half (side_at d t l)))) ext) → squared qs ys * (unit * unit) < mag ext * mag ext + unit * unit
  corner_frames ext E f =
      subst (λ (n : ℕ). n < mag ext * mag ext + unit * unit) (squares_squared c)
      (corners_right H (half (side_at d t l)) ext (half_side (side_at d t l) sd (side_half (side_at d t l) sd)) (half_le (side_at d t l) sd) E.good E.sign_is E.high a (le_trans (le_of_eq (length_floats qs ∙ lq)) S.most) f)

  -- at the last level a box passes the test of Disjoint or the first of FullyCovered
  pub last_frames : (ext : Float) → Extended ext → 2 ^ l * mag ext ≡ 2 ^ l * mag t + 2 * mag t
      → T (not (lt t (sub binary64 (distance (floats qs) (centres (side_at d t l) ys)) (radius d (side_at d t l))))) → T (le (add binary64 (distance (floats qs) (centres (side_at d t l) ys)) (radius d (side_at d t l))) ext)
  last_frames ext E x f = last_decides S l ll (floats qs) (centres (side_at d t l) ys) near_centre (length_floats qs ∙ lq) ext E x f

-- two frames of one cell: N ≤ t * t
pub cell_frames : {d : ℕ} {t : Float} {τ : ℕ} → Scale d t τ → (ys zs : Frame) → Pair ys zs → Pair zs ys → indexes (side_at d t 0) ys ≡ indexes (side_at d t 0) zs → length ys ≡ d → squared ys zs ≤ τ * τ
unfolding centres
cell_frames {d} {t} {τ} S ys zs c c' e l =
    let s = level_side S 0 (lit≤ tt) in
    let H = (side_half (side_at d t 0) s).part in
    let k = same_cell_lem S H (side_half (side_at d t 0) s).twice (floats ys) (floats zs) (centres (side_at d t 0) ys) (length_floats ys ∙ l) (under_around H (around (side_at d t 0) s c'))
    (subst (λ (w : List ℤ). Under H (floats zs) (map (centre (side_at d t 0)) w)) (sym e) (under_around H (around (side_at d t 0) s c))) in
    whole (squared ys zs) τ unit unit_pos (subst (λ (n : ℕ). squared ys zs * (unit * unit) < n * n + unit * unit) S.is.mag_is (subst (λ (n : ℕ). n < mag t * mag t + unit * unit) (squares_squared c) k))
  where
    whole : (N τ u : ℕ) → 0 < u → N * (u * u) < τ * u * (τ * u) + u * u → N ≤ τ * τ
    whole N τ u U h = let k : N < τ * τ + 1 = lt_of_mul-lt-mul_right (u * u) (omega arith) in omega arith
