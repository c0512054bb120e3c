-- Where the sum of squares is clear of a limit by 1, the box test says what the sum does, at every level: 1 in the square is more than the roundings of the root and of the limits come to.
use Rattle.std.specs.Prelude.{◌≡◌, ◌⊎◌, Bool, false, not, List, [], ◌∷◌, ℤ, pos, length, Float}
use Rattle.std.proofs.Common.{sym, ◌∙◌, subst, le_trans, le_of_eq, le_of_lt, mul-le-mul_right, one-mul, le_of_mul-le-mul_right, ltb→lt, lit<, lit≤, pow_pos}
use Rattle.std.proofs.Math.Logic.{inl, inr}
use Prim.Native.Nat.{ℕ, ◌+◌, ◌-◌, ◌*◌, ◌^◌, ◌≤◌, ◌<◌}
use Rattle.std.proofs.Math.Nat.{le-add_right, le_dest, le_of_mul-le-mul_left}
use native.Mathlib.Omega.{arith}
use Rattle.std.proofs.Math.Dec.{T}
use Rattle.std.specs.Float.Ieee.{binary64, add, sub, mul, lt, le}
use Rattle.lists.specs.ListLaws.{and_left, and_right, or_cases}
use Rattle.ring.proofs.Ring.{poly, done, ◌⊖◌}
use Rattle.ring.proofs.Order.{belowℕ, num, slackℕ, ◌⊞◌, ◌⊠◌, nil, diffℕ, ◌⊕◌, ◌⊙◌}
use Rattle.ring.specs.Nat.{sq_mono, sq_le_back}
use Rattle.ieee754.specs.Value.{unit, unit_pos, tiny, unit_tiny, tiny_large, mag, sign, Good, Is, Close}
use Rattle.ieee754.specs.Ops.{plus, minus, plus_pos, minus_pos, near_units, sub_pos, mul_near}
use Rattle.ieee754.specs.Compare.{lt_is}
use Rattle.ieee754.specs.Exact.{of_int_pos}
use Rattle.ieee754.specs.Whole.{like}
use Rattle.hyperparams.specs.Params.{float}
use Rattle.hyperparams.specs.declared.ValidParams.{ValidParams}
use Rattle.counting_tree.specs.declared.IntersectionType.TheVariants.{Disjoint, Intersecting}
use Rattle.counting_tree.specs.Frames.{floats, frames_in}
use Rattle.counting_tree.specs.FramesIn.{frame_length}
use Rattle.counting_tree.specs.Box.{sum_from, distance, corners, farthest}
use Rattle.counting_tree.specs.Distance.{Near, sum_close, close_three, root_up}
use Rattle.counting_tree.specs.Radius.{unit_large, Side, radius, radius_is}
use Rattle.counting_tree.specs.InBox.{side_half, half_side}
use Rattle.counting_tree.specs.Grid.{half, side_at, centres}
use Rattle.counting_tree.specs.Geometry.{frame, box_at}
use Rattle.counting_tree.specs.Settings.{extended}
use Rattle.counting_tree.specs.Sides.{Scale, tolerance_low, tolerance_high, tolerance_rep, level_side, radius_high}
use Rattle.counting_tree.specs.Tests.{Sizes, sizes, Extended, sub_le_test, sub_not_above, not_lt_sub, le_add}
use Rattle.counting_tree.specs.Corners.{Around}
use Rattle.counting_tree.specs.Outward.{corners_outward}
use Rattle.counting_tree.specs.WholeFrames.{Pair, half_le, around, near_centre, length_floats}
use Rattle.counting_tree.specs.Answers.{answer, apart_test, inside_test, near_test, corner_test, intersection_is, says_disjoint, says_crossing}
use Rattle.counting_tree.specs.Domain.{Counts}
use Rattle.counting_tree.specs.Sound.{pair}
use Rattle.counting_tree.specs.Ready.{Ready}
use Rattle.counting_tree.specs.Indexes.{LevelSide}
use Rattle.counting_tree.specs.BySum.{sum_is, rooted}
use Rattle.counting_tree.specs.Clear.{clearly_apart, clearly_between, clearly_crossing}

-- ---- numbers: F a limit, P its square, Q = P + 1, M the sum; u = 1, y = 2 ^ -36
-- F² + 1 < M: F + 2 ^ -24 is below the root of M
over : (F P Q M u y : ℕ) → u ≡ 2 ^ 36 * y → F ≤ 2 ^ 19 * u → 2 ^ 14 * (F * F) ≤ 2 ^ 14 * (P * u) + u * u → 2 ^ 13 * (P + u) ≤ 2 ^ 13 * Q + u → Q ≤ M
    → (F + 4096 * y) * (F + 4096 * y) ≤ M * u
over F P Q M u y e a b c d = le_of_mul-le-mul_left {k = 2 ^ 14}
    (belowℕ (F ∷ P ∷ Q ∷ M ∷ u ∷ y ∷ [])
    (num (2 ^ 14 * u) ⊠ slackℕ d ⊞ num (2 * u) ⊠ slackℕ c ⊞ slackℕ b ⊞ num (2 ^ 27 * y) ⊠ slackℕ a ⊞ num (((2 ^ 14 - 3) * 2 ^ 72 - 2 ^ 82 - 2 ^ 38) * (y * y))
    ⊞ nil ((pos ((2 ^ 14 - 3) * (u + 2 ^ 36 * y)) ⊖ pos (2 ^ 46 * y)) ⊙ diffℕ e)) (search poly depth 30) done) (lit< tt)

-- M + 1 < F²: F - 2 ^ -27 is above it
under : (K F P M u y : ℕ) → u ≡ 2 ^ 36 * y → 512 * y + K ≡ F → F ≤ 2 ^ 19 * u → 2 ^ 14 * (P * u) ≤ 2 ^ 14 * (F * F) + u * u → 2 ^ 13 * (M + u) ≤ 2 ^ 13 * P + u
    → M * u ≤ K * K
under K F P M u y e k a b c = le_of_mul-le-mul_left {k = 2 ^ 14}
    (belowℕ (K ∷ F ∷ P ∷ M ∷ u ∷ y ∷ [])
    (num (2 * u) ⊠ slackℕ c ⊞ slackℕ b ⊞ num (2 ^ 24 * y) ⊠ slackℕ a ⊞ num (((2 ^ 14 - 3) * 2 ^ 72 - 2 ^ 79 + 2 ^ 32) * (y * y))
    ⊞ nil ((pos ((2 ^ 14 - 3) * (u + 2 ^ 36 * y)) ⊖ pos (2 ^ 43 * y)) ⊙ diffℕ e ⊕ (pos (2 ^ 14 * (K + F)) ⊖ pos (2 ^ 23 * y)) ⊙ diffℕ k)) (search poly depth 30) done) (lit< tt)

-- ---- floats that are not negative
less_mag : (x y : Float) → Good x → Good y → sign x ≡ false → sign y ≡ false → T (lt x y) → mag x < mag y
less_mag x y g k s t l =
    let h : plus x + minus y < plus y + minus x = ltb→lt (plus x + minus y) (plus y + minus x) (subst T (lt_is x y g k) l) in
    let a = plus_pos x s in
    let b = minus_pos x s in
    let c = plus_pos y t in
    let d = minus_pos y t in
    omega arith

record Squared (x : Float) : Type 0 where
  good : Good (mul binary64 x x)
  sign_is : sign (mul binary64 x x) ≡ false
  high : 2 ^ 14 * (mag (mul binary64 x x) * unit) ≤ 2 ^ 14 * (mag x * mag x) + unit * unit
  low : 2 ^ 14 * (mag x * mag x) ≤ 2 ^ 14 * (mag (mul binary64 x x) * unit) + unit * unit
  small : mag (mul binary64 x x) ≤ 2 ^ 39 * unit

squared_near : (x : Float) → Good x → mag x ≤ 2 ^ 19 * unit → Squared x
squared_near x g b =
    let q : mag x * mag x ≤ 2 ^ 38 * (unit * unit) = area (mag x) unit b in
    let r = mul_near x x g g (le_trans q (room unit)) in
    let w : 2 ^ 60 * unit ≤ unit * unit = mul-le-mul_right unit (le_trans (lit≤ tt) unit_large) in
    let a = within (mag x * mag x) (mag x * mag x) (mag (mul binary64 x x) * unit) unit (unit * unit) q w r.close.0 in
    record {
      good = r.good;
      sign_is = r.sign_is ∙ like (sign x);
      high = a;
      low = within (mag x * mag x) (mag (mul binary64 x x) * unit) (mag x * mag x) unit (unit * unit) q w r.close.1;
      small = le_of_mul-le-mul_right {k = unit} (most (mag x * mag x) (mag (mul binary64 x x)) unit q a) unit_pos;
    }
  where
    area : (F u : ℕ) → F ≤ 2 ^ 19 * u → F * F ≤ 2 ^ 38 * (u * u)
    area F u h = le_trans (sq_mono h) (le_of_eq (omega arith))

    room : (u : ℕ) → 2 ^ 38 * (u * u) ≤ 2 ^ 100 * u * u
    room u = belowℕ (u ∷ []) (num ((2 ^ 100 - 2 ^ 38) * (u * u))) (search poly depth 30) done

    within : (A B C u U : ℕ) → A ≤ 2 ^ 38 * U → 2 ^ 60 * u ≤ U → 2 ^ 53 * C ≤ 2 ^ 53 * B + A + 2 ^ 52 * u → 2 ^ 14 * C ≤ 2 ^ 14 * B + U
    within A B C u U a b c = le_of_mul-le-mul_left {k = 2 ^ 39}
        (belowℕ (A ∷ B ∷ C ∷ u ∷ U ∷ []) (slackℕ c ⊞ slackℕ a ⊞ slackℕ b ⊞ num ((2 ^ 38 - 1) * U + (2 ^ 60 - 2 ^ 52) * u)) (search poly depth 30) done) (lit< tt)

    most : (A P u : ℕ) → A ≤ 2 ^ 38 * (u * u) → 2 ^ 14 * (P * u) ≤ 2 ^ 14 * A + u * u → P * u ≤ 2 ^ 39 * u * u
    most A P u a b = omega arith

-- x + 1
next : (x : Float) → Good x → sign x ≡ false → mag x ≤ 2 ^ 52 * unit → Good (add binary64 x (float 1)) × (sign (add binary64 x (float 1)) ≡ false) × Close (mag (add binary64 x (float 1))) (mag x + unit) 1
next x g k b =
    let o = of_int_pos 1 (lit≤ tt) in
    let O : mag (float 1) ≡ unit = o.mag_is ∙ one-mul unit in
    let c = sum_close x (float 1) g o.good k o.sign_is (le_trans (small (mag x) (mag (float 1)) unit b O) (mul-le-mul_right unit (lit≤ tt))) in
    (c.0, c.1, subst (λ (n : ℕ). Close (mag (add binary64 x (float 1))) (mag x + n) 1) O c.2)
  where
    small : (m n u : ℕ) → m ≤ 2 ^ 52 * u → n ≡ u → m + n ≤ 2 ^ 53 * u
    small m n u b e = omega arith

module _ (x s : Float) (g : Good x) (b : mag x ≤ 2 ^ 19 * unit) (k : Good s) (n : sign s ≡ false) where
  over_root : T (lt (add binary64 (mul binary64 x x) (float 1)) s) → (mag x + 4096 * tiny) * (mag x + 4096 * tiny) ≤ mag s * unit
  over_root f =
      let p = mul binary64 x x in
      let q = squared_near x g b in
      let z = next p q.good q.sign_is (le_trans q.small (mul-le-mul_right unit (lit≤ tt))) in
      over (mag x) (mag p) (mag (add binary64 p (float 1))) (mag s) unit tiny unit_tiny b q.low (limit (mag p) (mag (add binary64 p (float 1))) unit (le_trans (lit≤ tt) unit_large) q.small z.2)
      (le_of_lt (less_mag (add binary64 p (float 1)) s z.0 k z.1 n f))
    where
      limit : (P Q u : ℕ) → 2 ^ 60 ≤ u → P ≤ 2 ^ 39 * u → Close Q (P + u) 1 → 2 ^ 13 * (P + u) ≤ 2 ^ 13 * Q + u
      limit P Q u l b c = le_of_mul-le-mul_left {k = 2 ^ 40}
          (belowℕ (P ∷ Q ∷ u ∷ []) (slackℕ c.1 ⊞ slackℕ b ⊞ slackℕ l ⊞ num ((2 ^ 39 - 2) * u + (2 ^ 60 - 2 ^ 52))) (search poly depth 30) done) (lit< tt)

  under_root : mag s ≤ 2 ^ 52 * unit → (K : ℕ) → 512 * tiny + K ≡ mag x → T (lt (add binary64 s (float 1)) (mul binary64 x x)) → mag s * unit ≤ K * K
  under_root m K e f =
      let p = mul binary64 x x in
      let q = squared_near x g b in
      let z = next s k n m in
      under K (mag x) (mag p) (mag s) unit tiny unit_tiny e b q.high
      (limit (mag p) (mag (add binary64 s (float 1))) (mag s) unit (le_trans (lit≤ tt) unit_large) q.small z.2 (le_of_lt (less_mag (add binary64 s (float 1)) p z.0 q.good z.1 q.sign_is f)))
    where
      limit : (P Q M u : ℕ) → 2 ^ 60 ≤ u → P ≤ 2 ^ 39 * u → Close Q (M + u) 1 → Q ≤ P → 2 ^ 13 * (M + u) ≤ 2 ^ 13 * P + u
      limit P Q M u l b c d = le_of_mul-le-mul_left {k = 2 ^ 53 - 1}
          (belowℕ (P ∷ Q ∷ M ∷ u ∷ [])
          (num (2 ^ 13) ⊠ (slackℕ c.1 ⊞ slackℕ b) ⊞ num (2 ^ 66) ⊠ slackℕ d ⊞ num (2 ^ 5) ⊠ slackℕ l ⊞ num ((2 ^ 52 - 1 - 2 ^ 5) * u)) (search poly depth 30) done) (lit< tt)

-- x - y
diff_close : (x y : Float) → Good x → Good y → sign x ≡ false → sign y ≡ false → mag y ≤ mag x → mag x ≤ 2 ^ 100 * unit → Good (sub binary64 x y) × Close (mag (sub binary64 x y)) (mag x - mag y) 1
diff_close x y g k s t h b =
    let r = near_units false (mag x - mag y) (le_trans (less (mag x) (mag y)) b) in
    subst (λ (z : Float). Good z × Close (mag z) (mag x - mag y) 1) (sym (sub_pos x y g k s t h)) (r.good, r.close)
  where
    less : (m n : ℕ) → m - n ≤ m
    less m n = omega arith

-- a limit X, rounded to F
small : (F X u y : ℕ) → u ≡ 2 ^ 36 * y → X ≤ 2 ^ 18 * u → F ≤ X + 3 * y → F ≤ 2 ^ 19 * u
small F X u y e b c = omega arith

-- ---- a box of level l with the centre cs, and a frame qs against it
module _ {d : ℕ} {t : Float} {τ : ℕ} (S : Scale d t τ) (l : ℕ) (ll : l ≤ 11) (qs cs : List Float) (near : Near qs cs) (channels : length qs ≡ d) where
  abbrev s : Float
  s = sum_from (float 0) qs cs

  abbrev D : Float
  D = distance qs cs

  abbrev h : Float
  h = radius d (side_at d t l)

  tested : Sizes D h
  tested = sizes S l ll qs cs near channels

  -- a limit K below the root
  above : (K : ℕ) → K * K ≤ mag s * unit → K ≤ mag D + 65 * tiny
  above K k = go (mag D) K unit tiny unit_tiny tiny_large tested.D_small ((rooted S qs cs near channels).low K k)
    where
      go : (z K u y : ℕ) → u ≡ 2 ^ 36 * y → 2 ^ 60 ≤ y → z ≤ 2 ^ 20 * u → 2 ^ 50 * K ≤ 2 ^ 50 * z + z + 2 ^ 50 → K ≤ z + 65 * y
      go z K u y e l b h = omega arith

  -- a limit that is a sum of t and a size of at most 2 ^ 17, rounded
  module _ (x : Float) (g : Good x) (k : sign x ≡ false) (b : mag x ≤ 2 ^ 17 * unit) where
    abbrev limit : Float
    limit = add binary64 t x

    room : mag t + mag x ≤ 2 ^ 18 * unit
    room = go (mag t) (mag x) unit (tolerance_high S) b
      where
        go : (T x u : ℕ) → T ≤ 65535 * u → x ≤ 2 ^ 17 * u → T + x ≤ 2 ^ 18 * u
        go T x u a b = omega arith

    limit_is : Good limit × (sign limit ≡ false) × Close (mag limit) (mag t + mag x) 1
    limit_is = sum_close t x S.is.good g S.is.sign_is k (le_trans room (mul-le-mul_right unit (lit≤ tt)))

    limit_near : (mag limit ≤ mag t + mag x + 3 * tiny) × (mag t + mag x ≤ mag limit + 3 * tiny)
    limit_near = close_three (mag limit) (mag t + mag x) unit tiny unit_tiny tiny_large room limit_is.2

    limit_small : mag limit ≤ 2 ^ 19 * unit
    limit_small = small (mag limit) (mag t + mag x) unit tiny unit_tiny room limit_near.0

  -- (t + h)² + 1 < sum: the box passes the test of Disjoint
  pub apart_clear : T (clearly_apart t h s) → T (not (lt t (sub binary64 D h))) → ⊥
  unfolding clearly_apart
  apart_clear f n =
      let a = sum_is S qs cs near channels in
      let far = add binary64 t h in
      let k = above (mag far + 4096 * tiny) (over_root far s (limit_is h tested.h_good tested.h_sign tested.h_small).0 (limit_small h tested.h_good tested.h_sign tested.h_small) a.good a.sign_is f) in
      go (mag D) (mag t + mag h) (mag far) tiny tiny_large (limit_near h tested.h_good tested.h_sign tested.h_small).1 k (not_lt_sub D h tested t S.is.good S.is.sign_is n)
    where
      go : (z X F y : ℕ) → 2 ^ 60 ≤ y → X ≤ F + 3 * y → F + 4096 * y ≤ z + 65 * y → z ≤ X + 32 * y → ⊥
      go z X F y l a k n = omega arith

  -- ---- half the side, at most half the diagonal but for a rounding
  abbrev side_ok : Side (side_at d t l)
  side_ok = level_side S l ll

  abbrev e : Float
  e = half (side_at d t l)

  e_is : Is e false (side_half (side_at d t l) side_ok).part
  e_is = half_side (side_at d t l) side_ok (side_half (side_at d t l) side_ok)

  e_small : mag e ≤ 2 ^ 17 * unit
  e_small = le_trans (le_of_eq e_is.mag_is) (le_trans (half_le (side_at d t l) side_ok) (mul-le-mul_right unit (lit≤ tt)))

  e_least : mag e ≤ mag h + 10 * tiny
  e_least =
      let p = (side_half (side_at d t l) side_ok).part in
      le_trans (le_of_eq e_is.mag_is) (sq_le_back p (mag h + 10 * tiny) (le_trans (once d (p * p) S.some) ((radius_is d (side_at d t l) S.some S.most side_ok).covers p (side_half (side_at d t l) side_ok).twice)))
    where
      once : (d q : ℕ) → 0 < d → q ≤ d * q
      once d q h = le_trans (le_of_eq (sym (one-mul q))) (mul-le-mul_right q h)

  tested_side : Sizes D e
  tested_side = record { D_good = tested.D_good; D_sign = tested.D_sign; h_good = e_is.good; h_sign = e_is.sign_is; D_small = tested.D_small; h_small = e_small }

  -- the distance is under t + x, and over ext - x
  module _ (x : Float) (g : Good x) (k : sign x ≡ false) (b : mag x ≤ 2 ^ 17 * unit) where
    under_clear : T (lt (add binary64 s (float 1)) (mul binary64 (add binary64 t x) (add binary64 t x))) → mag D + 256 * tiny ≤ mag t + mag x
    under_clear f =
        let a = sum_is S qs cs near channels in
        let at = add binary64 t x in
        let r = limit_near x g k b in
        let K = le_dest (least (mag t) (mag x) (mag at) unit tiny unit_tiny (tolerance_low S) r.1) in
        let c = limit_small x g k b in
        let q = under_root at s (limit_is x g k b).0 c a.good a.sign_is a.small K.0 K.1 f in
        let z = root_up (mag D) K.0 tiny tiny_large (low K.0 (mag at) unit tiny unit_tiny K.1 c) ((rooted S qs cs near channels).high K.0 q) in
        go (mag D) K.0 (mag at) (mag t) (mag x) tiny K.1 z r.0
      where
        least : (T x N u y : ℕ) → u ≡ 2 ^ 36 * y → u ≤ T → T + x ≤ N + 3 * y → 512 * y ≤ N
        least T x N u y i a b = omega arith

        low : (K N u y : ℕ) → u ≡ 2 ^ 36 * y → 512 * y + K ≡ N → N ≤ 2 ^ 19 * u → K ≤ 2 ^ 57 * y
        low K N u y i k b = omega arith

        go : (z K N T x y : ℕ) → 512 * y + K ≡ N → z ≤ K + 129 * y → N ≤ T + x + 3 * y → z + 256 * y ≤ T + x
        go z K N T x y k a b = omega arith

    over_clear : (ext : Float) → Extended ext → mag x ≤ mag ext → T (lt (add binary64 (mul binary64 (sub binary64 ext x) (sub binary64 ext x)) (float 1)) s) → mag ext + 4000 * tiny ≤ mag D + mag x
    over_clear ext E w f =
        let a = sum_is S qs cs near channels in
        let inner = sub binary64 ext x in
        let c = diff_close ext x E.good g E.sign_is k w (le_trans E.high (mul-le-mul_right unit (lit≤ tt))) in
        let m = less (mag ext) (mag x) unit E.high in
        let r = close_three (mag inner) (mag ext - mag x) unit tiny unit_tiny tiny_large m c.1 in
        let K = above (mag inner + 4096 * tiny) (over_root inner s c.0 (small (mag inner) (mag ext - mag x) unit tiny unit_tiny m r.0) a.good a.sign_is f) in
        go (mag D) (mag x) (mag ext) (mag inner) tiny w r.1 K
      where
        less : (X x u : ℕ) → X ≤ 2 ^ 17 * u → X - x ≤ 2 ^ 18 * u
        less X x u b = omega arith

        go : (z x X I y : ℕ) → x ≤ X → X - x ≤ I + 3 * y → I + 4096 * y ≤ z + 65 * y → X + 4000 * y ≤ z + x
        go z x X I y w a k = omega arith

  -- ---- an extended tolerance that is not below t
  module _ (ext : Float) (E : Extended ext) (m : mag t ≤ mag ext) where
    shorter : (x : ℕ) → x ≤ mag h + 10 * tiny → x ≤ mag ext
    shorter x k = go (2 ^ l) (mag h) (mag t) (mag ext) x unit tiny unit_tiny (pow_pos l) (radius_high S l ll) (tolerance_low S) m k
      where
        go : (R h T X x u y : ℕ) → u ≡ 2 ^ 36 * y → 0 < R → R * (2 * h) ≤ T + 4 * y → u ≤ T → T ≤ X → x ≤ h + 10 * y → x ≤ X
        go R h T X x u y e p b c d k = omega (arith, mul-le-mul_right (2 * h) p)

    not_above : (x : Float) → Sizes D x → mag D ≤ mag t + mag x → T (not (lt t (sub binary64 D x)))
    not_above x z = sub_le_test D x z t S.is.good S.is.sign_is (tolerance_rep S) (le_trans (tolerance_high S) (mul-le-mul_right unit (lit≤ tt)))

    -- between the limits of a and b, at most half the diagonal: the box passes neither the test of Disjoint nor the first of FullyCovered
    between_clear : (a b : Float) → Sizes D a → Sizes D b → mag a ≤ mag h + 10 * tiny → mag b ≤ mag h + 10 * tiny → T (clearly_between t ext a b s)
        → T (not (lt t (sub binary64 D h))) × (T (le (add binary64 D h) ext) → ⊥) × (mag D ≤ mag t + mag a) × (mag ext + 4000 * tiny ≤ mag D + mag b)
    unfolding clearly_between
    between_clear a b za zb la lb f =
        let at = add binary64 t a in
        let inner = sub binary64 ext b in
        let i = lt (add binary64 s (float 1)) (mul binary64 at at) in
        let j = lt (add binary64 (mul binary64 inner inner) (float 1)) s in
        let p = under_clear a za.h_good za.h_sign za.h_small (and_left i j f) in
        let q = over_clear b zb.h_good zb.h_sign zb.h_small ext E (shorter (mag b) lb) (and_right i j f) in
        let n = near_enough (mag D) (mag t) (mag a) (mag h) tiny la p in
        (not_above h tested n.1, λ k. far_enough (mag D) (mag b) (mag h) (mag ext) tiny tiny_large lb q (le_add D h tested ext E.good E.sign_is k), n.0, q)
      where
        near_enough : (z T a h y : ℕ) → a ≤ h + 10 * y → z + 256 * y ≤ T + a → (z ≤ T + a) × (z ≤ T + h)
        near_enough z T a h y k p = omega arith

        far_enough : (z b h X y : ℕ) → 2 ^ 60 ≤ y → b ≤ h + 10 * y → X + 4000 * y ≤ z + b → z + h ≤ X + 32 * y → ⊥
        far_enough z b h X y l k q n = omega arith

    -- it passes the test of Intersecting, or fails the last of FullyCovered
    pub crossing_clear : {xs : List Float} → Around (side_half (side_at d t l) side_ok).part qs xs cs → T (clearly_crossing t ext h e s)
        → T (not (lt t (sub binary64 D h))) × (T (le (add binary64 D h) ext) → ⊥) × (T (le (sub binary64 D e) t) ⊎ (T (lt (farthest qs (corners cs e)) ext) → ⊥))
    unfolding clearly_crossing
    crossing_clear a f =
        let r : mag h ≤ mag h + 10 * tiny = le-add_right (mag h) (10 * tiny) in
        elim (or_cases (clearly_between t ext e h s) (clearly_between t ext h e s) f) [
          | inl g ↦ let c = between_clear e h tested_side tested e_least r g in (c.0, c.1, inl (sub_not_above D e tested_side t S.is.good S.is.sign_is (not_above e tested_side c.2)))
          | inr g ↦ let c = between_clear h e tested tested_side r e_least g in (c.0, c.1, inr (λ w. too_far (mag D) (mag e) part (mag ext) tiny tiny_large e_is.mag_is c.3 (outward w)))
        ]
      where
        part : ℕ
        part = (side_half (side_at d t l) side_ok).part

        outward : T (lt (farthest qs (corners cs e)) ext) → mag D + part ≤ mag ext + 1200 * tiny
        outward = corners_outward part e ext e_is (half_le (side_at d t l) side_ok) E.good E.sign_is E.high a near (subst (λ (k : ℕ). 0 < k) (sym channels) S.some) (le_trans (le_of_eq channels) S.most)

        too_far : (z e p X y : ℕ) → 2 ^ 60 ≤ y → e ≡ p → X + 4000 * y ≤ z + e → z + p ≤ X + 1200 * y → ⊥
        too_far z e p X y l a b c = omega arith

-- ---- the box of frame x at a level's side, against frame q
module _ {ps : List ℤ} {v : ValidParams} {n : ℕ} (r : Ready ps v n) (q x : ℕ) (hq : q < n) (hx : x < n) (cq : Counts (frame v (frames_in n v.channels ps) q)) (cx : Counts (frame v (frames_in n v.channels ps) x)) where
  abbrev ts : List Float
  ts = floats (frame v (frames_in n v.channels ps) q)

  abbrev centres_at : Float → List Float
  centres_at side = centres side (frame v (frames_in n v.channels ps) x)

  abbrev sum_at : Float → Float
  sum_at side = sum_from (float 0) ts (centres_at side)

  scale : Scale v.channels v.tolerance v.t
  scale = r.settings.scale

  lq : length (frame v (frames_in n v.channels ps) q) ≡ v.channels
  lq = frame_length n v.channels ps q r.room hq

  lx : length (frame v (frames_in n v.channels ps) x) ≡ v.channels
  lx = frame_length n v.channels ps x r.room hx

  paired : Pair (frame v (frames_in n v.channels ps) q) (frame v (frames_in n v.channels ps) x)
  paired = pair (frame v (frames_in n v.channels ps) q) (frame v (frames_in n v.channels ps) x) (lq ∙ sym lx) cq cx

  long : length ts ≡ v.channels
  long = length_floats (frame v (frames_in n v.channels ps) q) ∙ lq

  close : (l : ℕ) → l ≤ 11 → Near ts (centres_at (side_at v.channels v.tolerance l))
  close l ll = near_centre scale l ll (frame v (frames_in n v.channels ps) q) (frame v (frames_in n v.channels ps) x) paired lq lx

  abbrev of_tests : Float → (ℕ → Float → Float → Float → List Float → List Float → Bool) → Bool
  of_tests side f = f v.channels v.tolerance v.appx_tolerance side (centres_at side) ts

  box_tests : (side : Float) → box_at v (frames_in n v.channels ps) side q x ≡ answer (of_tests side apart_test) (of_tests side inside_test) (of_tests side near_test) (of_tests side corner_test)
  box_tests side = intersection_is v.channels v.tolerance v.appx_tolerance side (centres_at side) ts

  low_level : {side : Float} (L : LevelSide v side) → L.level ≤ 11
  low_level L = let p = r.settings.power in let d = L.depth in omega arith

  -- the extended tolerance is not below the tolerance
  extended_long : mag v.tolerance ≤ mag v.appx_tolerance
  extended_long = le_trans (le_of_eq scale.is.mag_is) (go (mag v.appx_tolerance) (2 ^ v.s) v.t unit (pow_pos v.s) r.settings.scaled)
    where
      go : (E a τ u : ℕ) → 0 < a → a * E ≡ τ * (a + 1) * u → τ * u ≤ E
      go E a τ u p s = le_of_mul-le-mul_left {k = a} (belowℕ (E ∷ a ∷ τ ∷ u ∷ []) (num (τ * u) ⊞ nil (diffℕ s)) (search poly depth 30) done) p

  module _ (side : Float) (L : LevelSide v side) where
    abbrev y : Float
    y = side_at v.channels v.tolerance L.level

    pub box_apart : T (clearly_apart v.tolerance (radius v.channels side) (sum_from (float 0) (floats (frame v (frames_in n v.channels ps) q)) (centres side (frame v (frames_in n v.channels ps) x))))
        → box_at v (frames_in n v.channels ps) side q x ≡ Disjoint
    box_apart =
        subst (λ (z : Float). T (clearly_apart v.tolerance (radius v.channels z) (sum_at z)) → box_at v (frames_in n v.channels ps) z q x ≡ Disjoint) (sym L.is)
        (λ f. box_tests y ∙ says_disjoint (of_tests y apart_test) (of_tests y inside_test) (of_tests y near_test) (of_tests y corner_test)
        (apart_clear scale L.level (low_level L) ts (centres_at y) (close L.level (low_level L)) long f))

    pub box_crossing : T (clearly_crossing v.tolerance v.appx_tolerance (radius v.channels side) (half side) (sum_from (float 0) (floats (frame v (frames_in n v.channels ps) q)) (centres side (frame v (frames_in n v.channels ps) x))))
        → box_at v (frames_in n v.channels ps) side q x ≡ Intersecting
    box_crossing =
        subst (λ (z : Float). T (clearly_crossing v.tolerance v.appx_tolerance (radius v.channels z) (half z) (sum_at z)) → box_at v (frames_in n v.channels ps) z q x ≡ Intersecting) (sym L.is)
        (λ f.
        let c = crossing_clear scale L.level (low_level L) ts (centres_at y) (close L.level (low_level L)) long v.appx_tolerance (extended r.settings) extended_long (around y (level_side scale L.level (low_level L)) paired) f in
        box_tests y ∙ says_crossing (of_tests y apart_test) (of_tests y inside_test) (of_tests y near_test) (of_tests y corner_test) c.0 c.1 c.2)
