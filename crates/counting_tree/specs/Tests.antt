-- The box tests of floats decide soundly: Disjoint, the first test of FullyCovered, and the last level; and two frames of one cell.
use Rattle.std.specs.Prelude.{◌≡◌, refl, Bool, false, not, List, [], ◌∷◌, ℕ, ◌+◌, ◌*◌, ◌^◌, ◌≤◌, ◌<◌, pos, T, length, Float}
use Rattle.std.proofs.Common.{sym, ap, subst, le_trans, le_of_eq, le_refl, lt_of_le_of_lt, mul-le-mul_right, add-le-add, arith, leb→le, le→leb, nltb→le, T_not, lit≤, pow_pos, pow_mono}
use Rattle.std.proofs.Math.Arith.{le→nltb}
use Rattle.std.specs.Float.{binary64}
use Rattle.std.specs.Float.Ieee.{add, sub, lt, le}
use Rattle.ring.proofs.Ring.{ringℕ, poly, done}
use Rattle.ring.proofs.Order.{equalℕ, diffℕ, ◌⊙◌}
use Rattle.ring.specs.Nat.{sq_mono}
use Rattle.ring.specs.InnerProduct.{squares, Tri, none, more}
use Rattle.ring.proofs.InnerProductLaws.{triangle}
use Rattle.ieee754.specs.Value.{unit, tiny, unit_tiny, tiny_large, mag, sign, Good}
use Rattle.ieee754.specs.Ops.{plus, minus, plus_pos, minus_pos, Approx, SumOf, add_of, sub_of, sum_approx}
use Rattle.ieee754.specs.Compare.{lt_is, le_is}
use Rattle.ieee754.specs.Exact.{Rep, sum_le}
use Rattle.ieee754.specs.Abs.{approx_abs}
use Rattle.counting_tree.specs.Distance.{gap, gaps, Near, no_more, one, same, same_short, same_squares, dist_high, dist_good}
use Rattle.counting_tree.specs.Margins.{not_far, within_reach, last_level, gap_triangle, gap_comm, reach_sum}
use Rattle.counting_tree.specs.Radius.{Radius, radius, radius_is}
use Rattle.counting_tree.specs.Grid.{side_at}
use Rattle.counting_tree.specs.Sides.{Scale, tolerance_low, tolerance_high, tolerance_rep, level_side, radius_high}
use Rattle.counting_tree.specs.Box.{distance}

-- ---- a frame under a box: each coordinate within half the side of the centre, but for 6 * 2 ^ -36
pub data Under (H : ℕ) : List Float → List Float → Type 0 where
  no_channel : Under H [] []
  channel : {x c : Float} {xs cs : List Float} → Good x → Good c → gap x c ≤ H + 6 * tiny → Under H xs cs → Under H (x ∷ xs) (c ∷ cs)

tri_under : (H : ℕ) {xs cs : List Float} → Under H xs cs → Tri (gaps xs cs) (same H xs) (same (6 * tiny) xs)
tri_under H no_channel = none
tri_under H (channel g k w u) = more w (tri_under H u)

pub under_squares : (H hh : ℕ) {xs cs : List Float} → Under H xs cs → length xs ≤ 4 → length xs * (H * H) ≤ (hh + 10 * tiny) * (hh + 10 * tiny)
    → squares (gaps xs cs) ≤ (hh + 32 * tiny) * (hh + 32 * tiny)
under_squares H hh {xs} {cs} u l h =
    le_trans (triangle (hh + 10 * tiny) (2 * (6 * tiny)) (tri_under H u) (le_trans (le_of_eq (same_squares H xs)) h) (same_short (6 * tiny) xs l))
    (sq_mono (sum hh tiny))
  where
    sum : (hh t : ℕ) → hh + 10 * t + 2 * (6 * t) ≤ hh + 32 * t
    sum hh t = omega arith

-- ---- the tests, of a distance D and a radius h, by their sizes
pub record Sizes (D h : Float) : Type 0 where
  pub D_good : Good D
  pub D_sign : sign D ≡ false
  pub h_good : Good h
  pub h_sign : sign h ≡ false
  pub D_small : mag D ≤ 2 ^ 20 * unit
  pub h_small : mag h ≤ 2 ^ 17 * unit

err : (u t : ℕ) → u ≡ 2 ^ 36 * t → 2 ^ 60 ≤ t → 2 ^ 21 * u + 2 ^ 52 ≤ 2 ^ 53 * (32 * t)
err u t e l = omega arith

module _ (D h : Float) (s : Sizes D h) where
  p_d : plus D ≡ mag D
  p_d = plus_pos D s.D_sign

  m_d : minus D ≡ 0
  m_d = minus_pos D s.D_sign

  ph : plus h ≡ mag h
  ph = plus_pos h s.h_sign

  mh : minus h ≡ 0
  mh = minus_pos h s.h_sign

  sub_sum : SumOf (sub binary64 D h) (plus D + minus h) (minus D + plus h)
  sub_sum = sub_of D h s.D_good s.h_good

  add_sum : SumOf (add binary64 D h) (plus D + plus h) (minus D + minus h)
  add_sum = add_of D h s.D_good s.h_good

  sub_approx : Approx (sub binary64 D h) (plus D + minus h) (minus D + plus h) (2 ^ 21 * unit + 2 ^ 52)
  sub_approx = sum_approx (sub binary64 D h) (plus D + minus h) (minus D + plus h) (2 ^ 21 * unit) sub_sum (mul-le-mul_right unit (lit≤ tt)) (one_way (plus D) (minus D) (plus h) (minus h) (mag D) (mag h) unit p_d m_d ph mh s.D_small s.h_small) (other_way (plus D) (minus D) (plus h) (minus h) (mag D) (mag h) unit p_d m_d ph mh s.D_small s.h_small)
    where
      one_way : (a b c d x y u : ℕ) → a ≡ x → b ≡ 0 → c ≡ y → d ≡ 0 → x ≤ 2 ^ 20 * u → y ≤ 2 ^ 17 * u → a + d ≤ b + c + 2 ^ 21 * u
      one_way a b c d x y u e f g h i j = omega arith

      other_way : (a b c d x y u : ℕ) → a ≡ x → b ≡ 0 → c ≡ y → d ≡ 0 → x ≤ 2 ^ 20 * u → y ≤ 2 ^ 17 * u → b + c ≤ a + d + 2 ^ 21 * u
      other_way a b c d x y u e f g h i j = omega arith

  add_approx : Approx (add binary64 D h) (plus D + plus h) (minus D + minus h) (2 ^ 21 * unit + 2 ^ 52)
  add_approx = sum_approx (add binary64 D h) (plus D + plus h) (minus D + minus h) (2 ^ 21 * unit) add_sum (mul-le-mul_right unit (lit≤ tt)) (one_way (plus D) (minus D) (plus h) (minus h) (mag D) (mag h) unit p_d m_d ph mh s.D_small s.h_small) (other_way (plus D) (minus D) (plus h) (minus h) (mag D) (mag h) unit p_d m_d ph mh s.D_small s.h_small)
    where
      one_way : (a b c d x y u : ℕ) → a ≡ x → b ≡ 0 → c ≡ y → d ≡ 0 → x ≤ 2 ^ 20 * u → y ≤ 2 ^ 17 * u → a + c ≤ b + d + 2 ^ 21 * u
      one_way a b c d x y u e f g h i j = omega arith

      other_way : (a b c d x y u : ℕ) → a ≡ x → b ≡ 0 → c ≡ y → d ≡ 0 → x ≤ 2 ^ 20 * u → y ≤ 2 ^ 17 * u → b + d ≤ a + c + 2 ^ 21 * u
      other_way a b c d x y u e f g h i j = omega arith

  module _ (t : Float) (g : Good t) (k : sign t ≡ false) where
    pt : plus t ≡ mag t
    pt = plus_pos t k

    mt : minus t ≡ 0
    mt = minus_pos t k

    -- the exact D - h is at most t, so the rounded one is
    pub sub_le_test : Rep (mag t) → mag t ≤ 2 ^ 100 * unit → mag D ≤ mag t + mag h → T (not (lt t (sub binary64 D h)))
    sub_le_test r b l =
        let z = sub binary64 D h in
        let q : plus z ≤ mag t + minus z = sum_le z (plus D + minus h) (minus D + plus h) (mag t) sub_sum r b (first (plus D) (minus D) (plus h) (minus h) (mag D) (mag h) (mag t) p_d m_d ph mh l) (second (plus D) (minus D) (plus h) (minus h) (mag h) unit m_d ph s.h_small) in
        subst (λ (w : Bool). T (not w)) (sym (lt_is t z g sub_approx.good)) (le→nltb (plus t + minus z) (plus z + minus t) (third (plus t) (minus t) (plus z) (minus z) (mag t) pt mt q))
      where
        first : (a b c d x y t : ℕ) → a ≡ x → b ≡ 0 → c ≡ y → d ≡ 0 → x ≤ t + y → a + d ≤ b + c + t
        first a b c d x y t e f g h i = omega arith

        second : (a b c d y u : ℕ) → b ≡ 0 → c ≡ y → y ≤ 2 ^ 17 * u → b + c ≤ a + d + 2 ^ 100 * u
        second a b c d y u e f g = omega arith

        third : (a b c d t : ℕ) → a ≡ t → b ≡ 0 → c ≤ t + d → c + b ≤ a + d
        third a b c d t e f g = omega arith

    -- what is not above t is at most t
    pub sub_not_above : T (not (lt t (sub binary64 D h))) → T (le (sub binary64 D h) t)
    sub_not_above n =
        let z = sub binary64 D h in
        subst T (sym (le_is z t sub_approx.good g)) (le→leb (plus z + minus t) (plus t + minus z) (nltb→le (plus t + minus z) (plus z + minus t) (subst (λ (w : Bool). T (not w)) (lt_is t z g sub_approx.good) n)))

    pub not_lt_sub : T (not (lt t (sub binary64 D h))) → mag D ≤ mag t + mag h + 32 * tiny
    not_lt_sub n =
        let z = sub binary64 D h in
        let q : plus z + minus t ≤ plus t + minus z = nltb→le (plus t + minus z) (plus z + minus t) (subst (λ (w : Bool). T (not w)) (lt_is t z g sub_approx.good) n) in
        let a = approx_abs z (plus D + minus h) (minus D + plus h) (2 ^ 21 * unit + 2 ^ 52) (32 * tiny) (err unit tiny unit_tiny tiny_large) sub_approx in
        last (plus D) (minus D) (plus h) (minus h) (plus t) (minus t) (plus z) (minus z) (mag D) (mag h) (mag t) tiny p_d m_d ph mh pt mt q a.1
      where
        last : (a b c d e f g h x y t w : ℕ) → a ≡ x → b ≡ 0 → c ≡ y → d ≡ 0 → e ≡ t → f ≡ 0 → g + f ≤ e + h → a + d + h ≤ g + (b + c) + 32 * w → x ≤ t + y + 32 * w
        last a b c d e f g h x y t w i j k l m n o p = omega arith

    pub le_add_test : Rep (mag t) → mag t ≤ 2 ^ 100 * unit → mag D + mag h ≤ mag t → T (le (add binary64 D h) t)
    le_add_test r b l =
        let z = add binary64 D h in
        let q : plus z ≤ mag t + minus z = sum_le z (plus D + plus h) (minus D + minus h) (mag t) add_sum r b (first (plus D) (minus D) (plus h) (minus h) (mag D) (mag h) (mag t) p_d m_d ph mh l) (second (plus D) (minus D) (plus h) (minus h) unit m_d mh) in
        subst T (sym (le_is z t add_approx.good g)) (le→leb (plus z + minus t) (plus t + minus z) (third (plus t) (minus t) (plus z) (minus z) (mag t) pt mt q))
      where
        first : (a b c d x y t : ℕ) → a ≡ x → b ≡ 0 → c ≡ y → d ≡ 0 → x + y ≤ t → a + c ≤ b + d + t
        first a b c d x y t e f g h i = omega arith

        second : (a b c d u : ℕ) → b ≡ 0 → d ≡ 0 → b + d ≤ a + c + 2 ^ 100 * u
        second a b c d u e f = omega arith

        third : (a b c d t : ℕ) → a ≡ t → b ≡ 0 → c ≤ t + d → c + b ≤ a + d
        third a b c d t e f g = omega arith

    pub le_add : T (le (add binary64 D h) t) → mag D + mag h ≤ mag t + 32 * tiny
    le_add n =
        let z = add binary64 D h in
        let q : plus z + minus t ≤ plus t + minus z = leb→le (plus z + minus t) (plus t + minus z) (subst T (le_is z t add_approx.good g) n) in
        let a = approx_abs z (plus D + plus h) (minus D + minus h) (2 ^ 21 * unit + 2 ^ 52) (32 * tiny) (err unit tiny unit_tiny tiny_large) add_approx in
        last (plus D) (minus D) (plus h) (minus h) (plus t) (minus t) (plus z) (minus z) (mag D) (mag h) (mag t) tiny p_d m_d ph mh pt mt q a.1
      where
        last : (a b c d e f g h x y t w : ℕ) → a ≡ x → b ≡ 0 → c ≡ y → d ≡ 0 → e ≡ t → f ≡ 0 → g + f ≤ e + h → a + c + h ≤ g + (b + d) + 32 * w → x + y ≤ t + 32 * w
        last a b c d e f g h x y t w i j k l m n o p = omega arith

-- the extended tolerance: a number that the format holds, at most 2 ^ 17
pub record Extended (ext : Float) : Type 0 where
  pub good : Good ext
  pub sign_is : sign ext ≡ false
  pub rep : Rep (mag ext)
  pub high : mag ext ≤ 2 ^ 17 * unit

-- ---- a box of level l with the centre cs, and a frame qs against it
module _ {d : ℕ} {t : Float} {τ : ℕ} (S : Scale d t τ) (l : ℕ) (ll : l ≤ 11) (qs cs : List Float) (near : Near qs cs) (channels : length qs ≡ d) where
  h_ok : Radius d (side_at d t l)
  h_ok = radius_is d (side_at d t l) S.some S.most (level_side S l ll)

  four : length qs ≤ 4
  four = le_trans (le_of_eq channels) S.most

  h_le : mag (radius d (side_at d t l)) ≤ 2 ^ 17 * unit
  h_le = go (2 ^ l) (mag (radius d (side_at d t l))) (mag t) unit tiny (pow_pos l) (radius_high S l ll) (tolerance_high S) unit_tiny
    where
      go : (R hh T u y : ℕ) → 0 < R → R * (2 * hh) ≤ T + 4 * y → T ≤ 65535 * u → u ≡ 2 ^ 36 * y → hh ≤ 2 ^ 17 * u
      go R hh T u y p b h e = omega (arith, mul-le-mul_right (2 * hh) p)

  far : {qs ps : List Float} → Near qs ps → squares (gaps qs ps) ≤ squares (same (2 ^ 18 * unit) qs)
  far no_more = le_refl 0
  far (one g k w n) = add-le-add (sq_mono w) (far n)

  D_le : mag (distance qs cs) ≤ 2 ^ 19 * unit + 512 * tiny
  D_le =
      dist_high near four (2 ^ 19 * unit) (le_of_eq (equalℕ (unit ∷ tiny ∷ []) (pos (2 ^ 19) ⊙ diffℕ unit_tiny) (search poly depth 30) done))
      (le_trans (far near) (le_trans (same_short (2 ^ 18 * unit) qs four) (le_of_eq (ringℕ (unit ∷ []) (search poly depth 30) done))))

  pub sizes : Sizes (distance qs cs) (radius d (side_at d t l))
  sizes = record { D_good = (dist_good near four).0; D_sign = (dist_good near four).1; h_good = h_ok.good; h_sign = h_ok.sign_is; D_small = le_trans D_le (more_room unit tiny unit_tiny); h_small = h_le }
    where
      more_room : (u y : ℕ) → u ≡ 2 ^ 36 * y → 2 ^ 19 * u + 512 * y ≤ 2 ^ 20 * u
      more_room u y e = omega arith

  module _ (H : ℕ) (e : mag (side_at d t l) ≡ 2 * H) (xs : List Float) (n : Near qs xs) (k : Near xs cs) (u : Under H xs cs) (len : length xs ≡ d) where
    frames : squares (gaps xs cs) ≤ (mag (radius d (side_at d t l)) + 32 * tiny) * (mag (radius d (side_at d t l)) + 32 * tiny)
    frames = under_squares H (mag (radius d (side_at d t l))) u (le_trans (le_of_eq len) S.most) (le_trans (le_of_eq (ap (λ (w : ℕ). w * (H * H)) len)) (h_ok.covers H e))

    -- a box that passes the test of Disjoint has no frame nearer than t
    pub disjoint_right : (N : ℕ) → squares (gaps qs xs) ≤ N * (unit * unit) → T (lt t (sub binary64 (distance qs cs) (radius d (side_at d t l)))) → N < τ * τ → ⊥
    disjoint_right N q f g =
        T_not (lt t (sub binary64 (distance qs cs) (radius d (side_at d t l))))
        (sub_le_test (distance qs cs) (radius d (side_at d t l)) sizes t S.is.good S.is.sign_is (tolerance_rep S) (le_trans (tolerance_high S) (mul-le-mul_right unit (lit≤ tt)))
        (subst (λ (w : ℕ). mag (distance qs cs) ≤ w + mag (radius d (side_at d t l))) (sym S.is.mag_is) (not_far near n k four N τ (mag (radius d (side_at d t l))) q g (le_trans S.high (lit≤ tt)) frames h_le)))
        f

    -- a box that passes the first test of FullyCovered has all its frames within the far reach
    pub covered_right : (ext : Float) → Extended ext → T (le (add binary64 (distance qs cs) (radius d (side_at d t l))) ext) → squares (gaps qs xs) < mag ext * mag ext + unit * unit
    covered_right ext E f = within_reach near n k four (mag ext) (mag (radius d (side_at d t l))) E.high frames (le_add (distance qs cs) (radius d (side_at d t l)) sizes ext E.good E.sign_is f)

  -- at the last level, l = 1 + s with the extended tolerance t + 2 t / 2 ^ l, a box passes the test of Disjoint or that one
  pub last_decides : (ext : Float) → Extended ext → 2 ^ l * mag ext ≡ 2 ^ l * mag t + 2 * mag t
      → T (not (lt t (sub binary64 (distance qs cs) (radius d (side_at d t l))))) → T (le (add binary64 (distance qs cs) (radius d (side_at d t l))) ext)
  last_decides ext E x f =
      le_add_test (distance qs cs) (radius d (side_at d t l)) sizes ext E.good E.sign_is E.rep (le_trans E.high (mul-le-mul_right unit (lit≤ tt)))
      (last_level (mag (distance qs cs)) (mag (radius d (side_at d t l))) (mag t) (mag ext) (2 ^ l) tiny (pow_mono ll) (radius_high S l ll) x
      (le_trans (le_of_eq (sym unit_tiny)) (tolerance_low S)) (not_lt_sub (distance qs cs) (radius d (side_at d t l)) sizes t S.is.good S.is.sign_is f) (pow_pos l))

-- ---- two frames of one cell: N < t * t + 1
tri_cell : (H : ℕ) {xs ys cs : List Float} → Under H xs cs → Under H ys cs → Tri (gaps xs ys) (same (2 * H) xs) (same (12 * tiny) xs)
tri_cell H no_channel no_channel = none
tri_cell H (channel {x} {c} g k w u) (channel {x = y} g' k' w' u') =
    more (go (gap x y) (gap x c) (gap y c) (gap c y) H tiny (gap_triangle x c y) w w' (gap_comm c y)) (tri_cell H u u')
  where
    go : (a b c d H t : ℕ) → a ≤ b + d → b ≤ H + 6 * t → c ≤ H + 6 * t → d ≤ c → a ≤ 2 * H + 12 * t
    go a b c d H t h i j k = omega arith

pub same_cell_lem : {d : ℕ} {t : Float} {τ : ℕ} → Scale d t τ → (H : ℕ) → mag (side_at d t 0) ≡ 2 * H → (xs ys cs : List Float) → length xs ≡ d → Under H xs cs → Under H ys cs
    → squares (gaps xs ys) < mag t * mag t + unit * unit
same_cell_lem {d} {t} S H e xs ys cs l u w =
    let hh = mag (radius d (side_at d t 0)) in
    let r = radius_is d (side_at d t 0) S.some S.most (level_side S 0 (lit≤ tt)) in
    let D : length xs * (2 * H * (2 * H)) ≤ 2 * (hh + 10 * tiny) * (2 * (hh + 10 * tiny)) = le_trans (le_of_eq (ap (λ (n : ℕ). n * (2 * H * (2 * H))) l)) (double d H (hh + 10 * tiny) (r.covers H e)) in
    let Q : 1 ≤ tiny = omega (arith, tiny_large) in
    lt_of_le_of_lt (triangle (2 * (hh + 10 * tiny)) (2 * (12 * tiny)) (tri_cell H u w) (le_trans (le_of_eq (same_squares (2 * H) xs)) D) (same_short (12 * tiny) xs (le_trans (le_of_eq l) S.most)))
    (lt_of_le_of_lt (sq_mono (total (2 ^ 0 * (2 * hh)) hh (mag t) tiny refl (radius_high S 0 (lit≤ tt)))) (reach_sum (mag t) unit tiny unit_tiny Q (le_trans (tolerance_high S) (mul-le-mul_right unit (lit≤ tt)))))
  where
    double : (d H w : ℕ) → d * (H * H) ≤ w * w → d * (2 * H * (2 * H)) ≤ 2 * w * (2 * w)
    double d H w h = omega arith

    total : (x hh T t : ℕ) → x ≡ 1 * (2 * hh) → x ≤ T + 4 * t → 2 * (hh + 10 * t) + 2 * (12 * t) ≤ T + 600 * t
    total x hh T t e h = omega arith
