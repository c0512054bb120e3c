-- The first two tests of a root box, by the sum of squares alone: where it is clear of their limits the rounding of the root, and of half the diagonal, does not matter.
use Rattle.std.specs.Prelude.{◌≡◌, false, not, List, [], ◌∷◌, ℕ, ◌+◌, ◌-◌, ◌*◌, ◌^◌, ◌≤◌, ◌<◌, pos, T, length, Float}
use Rattle.std.proofs.Common.{sym, ap, ap₂, ◌∙◌, subst, le_trans, le_of_eq, mul-le-mul, mul-le-mul_right, mul-pos, one-mul, arith, lit<, lit≤}
use Rattle.std.proofs.Math.Nat.{le_dest, le_of_mul-le-mul_left}
use Rattle.std.specs.Float.{binary64}
use Rattle.std.specs.Float.Ieee.{add, sub, mul, lt, le, unlike}
use Rattle.ring.proofs.Ring.{ringℕ, poly, done, ◌⊖◌}
use Rattle.ring.proofs.Order.{belowℕ, equalℕ, num, slackℕ, ◌⊞◌, ◌⊠◌, nil, diffℕ, ◌⊕◌, ◌⊙◌}
use Rattle.ring.specs.Nat.{sq_mono}
use Rattle.ring.specs.InnerProduct.{squares}
use Rattle.ieee754.specs.Value.{unit, unit_pos, tiny, unit_tiny, tiny_large, mag, sign, Good, Close, close_twice}
use Rattle.ieee754.specs.Ops.{close_one, mul_near}
use Rattle.ieee754.specs.Exact.{positive_mag, of_int_pos}
use Rattle.ieee754.specs.RootLaw.{Rooted, root_near}
use Rattle.hyperparams.specs.Params.{float}
use Rattle.counting_tree.specs.Grid.{side_at}
use Rattle.counting_tree.specs.Box.{sum_from, distance}
use Rattle.counting_tree.specs.Distance.{diffs, Near, sum_close, Total, total, root_up}
use Rattle.counting_tree.specs.Radius.{unit_large, radius}
use Rattle.counting_tree.specs.Sides.{Scale, tolerance_high, tolerance_rep, radius_high, radius_low}
use Rattle.counting_tree.specs.Tests.{Sizes, sizes, Extended, not_lt_sub, sub_le_test, le_add_test}

-- ---- numbers: M the sum, τ the tolerance, u = 1, y = 2 ^ -36, z the root, hh half the diagonal
-- K = 3 τ / 2 + 2 ^ -28 is below the root of M
root_far : (M τ u y : ℕ) → u ≡ 2 ^ 36 * y → τ ≤ 65535 → (18 * (τ * τ) + 1) * u ≤ 8 * M → (3 * 2 ^ 35 * τ + 256) * y * ((3 * 2 ^ 35 * τ + 256) * y) ≤ M * u
root_far M τ u y e b h = le_of_mul-le-mul_left {k = 8}
    (belowℕ (M ∷ τ ∷ u ∷ y ∷ [])
    (num u ⊠ slackℕ h ⊞ num (6144 * 2 ^ 36 * (y * y)) ⊠ slackℕ b ⊞ num ((2 ^ 72 - 6144 * 65535 * 2 ^ 36 - 2 ^ 19) * (y * y))
    ⊞ nil (pos ((18 * (τ * τ) + 1) * (u + 2 ^ 36 * y)) ⊙ diffℕ e)) (search poly depth 30) done) (lit< tt)

clear_far : (z hh τ T u y : ℕ) → u ≡ 2 ^ 36 * y → 2 ^ 60 ≤ y → T ≡ τ * u → z ≤ 2 ^ 20 * u → z ≤ T + hh + 32 * y → 1 * (2 * hh) ≤ T + 4 * y
    → 2 ^ 50 * ((3 * 2 ^ 35 * τ + 256) * y) ≤ 2 ^ 50 * z + z + 2 ^ 50 → ⊥
clear_far z hh τ T u y e l m b h r k = omega (arith, ap (λ (n : ℕ). τ * n) e)

-- a = 2 ^ s, and the extended tolerance E is τ (a + 1) / a: K = E - τ / 2 - 2 ^ -28 is above the root of M
below_extended : (E a τ u y : ℕ) → u ≡ 2 ^ 36 * y → 0 < a → 1 ≤ τ → a * E ≡ τ * (a + 1) * u → (2 ^ 35 * τ + 256) * y ≤ E
below_extended E a τ u y e p b s = le_of_mul-le-mul_left {k = a}
    (belowℕ (E ∷ a ∷ τ ∷ u ∷ y ∷ []) (num (256 * (a * y)) ⊠ slackℕ b ⊞ num ((2 ^ 35 - 256) * (a * (τ * y)) + τ * u) ⊞ nil (diffℕ s ⊕ pos (τ * a) ⊙ diffℕ e)) (search poly depth 30) done) p

twice : (E a τ u : ℕ) → 0 < a → a * E ≡ τ * (a + 1) * u → E ≤ 2 * (τ * u)
twice E a τ u p s = le_of_mul-le-mul_left {k = a} (belowℕ (E ∷ a ∷ τ ∷ u ∷ []) (num (τ * u) ⊠ slackℕ p ⊞ nil (diffℕ (sym s))) (search poly depth 30) done) p

root_near_by : (M K E a τ u y : ℕ) → u ≡ 2 ^ 36 * y → 0 < a → τ ≤ 65535 → a * E ≡ τ * (a + 1) * u → (2 ^ 35 * τ + 256) * y + K ≡ E
    → 2 * (a * a) * (2 * M + u) ≤ τ * (a + 2) * (τ * (a + 2)) * u → M * u ≤ K * K
root_near_by M K E a τ u y e p b s k h = le_of_mul-le-mul_left {k = 4 * (a * a)} (step (512 * (a * y)) (τ * (a + 2)) whole room h) (mul-pos (lit< tt) (mul-pos p p))
  where
    whole : 2 * (a * K) + 512 * (a * y) ≡ τ * (a + 2) * u
    whole = equalℕ (K ∷ E ∷ a ∷ τ ∷ u ∷ y ∷ []) (pos 2 ⊙ diffℕ s ⊕ pos (2 * a) ⊙ diffℕ k ⊕ pos (a * τ) ⊙ diffℕ e) (search poly depth 30) done

    room : 2 * (512 * (a * y)) * (τ * (a + 2) * u) ≤ 2 * (a * a) * (u * u)
    room = belowℕ (a ∷ τ ∷ u ∷ y ∷ [])
        (num (1024 * (a * y * u) * (a + 2)) ⊠ slackℕ b ⊞ num (1024 * 65535 * 2 * (a * y * u)) ⊠ slackℕ p ⊞ num ((2 ^ 37 - 3 * 1024 * 65535) * (a * a * y * u)) ⊞ nil (pos (2 * (a * a) * u) ⊙ diffℕ e))
        (search poly depth 30) done

    step : (c r : ℕ) → 2 * (a * K) + c ≡ r * u → 2 * c * (r * u) ≤ 2 * (a * a) * (u * u) → 2 * (a * a) * (2 * M + u) ≤ r * r * u → 4 * (a * a) * (M * u) ≤ 4 * (a * a) * (K * K)
    step c r f g h = belowℕ (M ∷ K ∷ a ∷ u ∷ c ∷ r ∷ [])
        (num u ⊠ slackℕ h ⊞ slackℕ g ⊞ num (c * c) ⊞ nil ((pos (2 * (a * K) + r * u) ⊖ pos c) ⊙ diffℕ f)) (search poly depth 30) done

clear_near : (z K hh τ T E u y : ℕ) → u ≡ 2 ^ 36 * y → T ≡ τ * u → (2 ^ 35 * τ + 256) * y + K ≡ E → E ≤ 2 * (τ * u) → z ≤ K + 129 * y → 1 * (2 * hh) ≤ T + 4 * y → T ≤ 1 * (2 * hh) + 4 * y
    → (z ≤ T + hh) × (z + hh ≤ E)
clear_near z K hh τ T E u y e m k f h r q = omega (arith, ap (λ (n : ℕ). τ * n) e)

-- ---- a root box with the centre cs, and a frame qs against it
module _ {d : ℕ} {t : Float} {τ : ℕ} (S : Scale d t τ) (qs cs : List Float) (near : Near qs cs) (channels : length qs ≡ d) where
  abbrev s : Float
  s = sum_from (float 0) qs cs

  abbrev h : Float
  h = radius d (side_at d t 0)

  pub sum_is : Total s (squares (diffs qs cs))
  sum_is = total near (le_trans (le_of_eq channels) S.most)

  pub rooted : Rooted s (distance qs cs)
  unfolding distance
  rooted = root_near s sum_is.good sum_is.sign_is (le_trans sum_is.small (mul-le-mul_right unit (lit≤ tt)))

  tested : Sizes (distance qs cs) h
  tested = sizes S 0 (lit≤ tt) qs cs near channels

  -- 4 × sum ≥ 9 × t² + 1 / 2: the box passes the test of Disjoint
  pub far_sum : (18 * (τ * τ) + 1) * unit ≤ 8 * mag s → T (not (lt t (sub binary64 (distance qs cs) h))) → ⊥
  far_sum f n =
      clear_far (mag (distance qs cs)) (mag h) τ (mag t) unit tiny unit_tiny tiny_large S.is.mag_is tested.D_small (not_lt_sub (distance qs cs) h tested t S.is.good S.is.sign_is n) (radius_high S 0 (lit≤ tt))
      (rooted.low ((3 * 2 ^ 35 * τ + 256) * tiny) (root_far (mag s) τ unit tiny unit_tiny S.high f))

  -- (sum + 1 / 2) × 4 × 4 ^ s ≤ (t × (2 ^ s + 2))²: it passes the first test of FullyCovered, and not that of Disjoint
  pub near_sum : (ext : Float) → Extended ext → (a : ℕ) → 0 < a → a * mag ext ≡ τ * (a + 1) * unit → 2 * (a * a) * (2 * mag s + unit) ≤ τ * (a + 2) * (τ * (a + 2)) * unit
      → T (not (lt t (sub binary64 (distance qs cs) h))) × T (le (add binary64 (distance qs cs) h) ext)
  near_sum ext E a p e f =
      let k = le_dest (below_extended (mag ext) a τ unit tiny unit_tiny p S.low e) in
      let z = root_up (mag (distance qs cs)) k.0 tiny tiny_large (small k.0 ((2 ^ 35 * τ + 256) * tiny) (mag ext) unit tiny unit_tiny k.1 E.high) (rooted.high k.0 (root_near_by (mag s) k.0 (mag ext) a τ unit tiny unit_tiny p S.high e k.1 f)) in
      let c = clear_near (mag (distance qs cs)) k.0 (mag h) τ (mag t) (mag ext) unit tiny unit_tiny S.is.mag_is k.1 (twice (mag ext) a τ unit p e) z (radius_high S 0 (lit≤ tt)) (radius_low S 0 (lit≤ tt)) in (
        sub_le_test (distance qs cs) h tested t S.is.good S.is.sign_is (tolerance_rep S) (le_trans (tolerance_high S) (mul-le-mul_right unit (lit≤ tt))) c.0,
        le_add_test (distance qs cs) h tested ext E.good E.sign_is E.rep (le_trans E.high (mul-le-mul_right unit (lit≤ tt))) c.1,
      )
    where
      small : (K x E u y : ℕ) → u ≡ 2 ^ 36 * y → x + K ≡ E → E ≤ 2 ^ 17 * u → K ≤ 2 ^ 57 * y
      small K x E u y e k b = omega arith

-- ---- from the comparisons to such bounds, for any sum
-- x times a whole number, rounded
scaled : (x : Float) (n : ℕ) → Good x → sign x ≡ false → mag x ≤ 2 ^ 60 * unit → n ≤ 2 ^ 22 → Good (mul binary64 x (float n)) × (sign (mul binary64 x (float n)) ≡ false) × Close (mag (mul binary64 x (float n))) (n * mag x) 1
scaled x n g k b l =
    let w = of_int_pos n (le_trans l (lit≤ tt)) in
    let e : mag x * mag (float n) ≡ n * mag x * unit = ap (λ (m : ℕ). mag x * m) w.mag_is ∙ ringℕ (mag x ∷ n ∷ unit ∷ []) (search poly depth 30) done in
    let r = mul_near x (float n) g w.good (le_trans (le_of_eq e) (room (mag x) n unit b l)) in
    (r.good, r.sign_is ∙ ap₂ unlike k w.sign_is, close_one (mag (mul binary64 x (float n))) (n * mag x) unit unit_pos (subst (λ (m : ℕ). Close (mag (mul binary64 x (float n))) m unit) e r.close))
  where
    room : (m n u : ℕ) → m ≤ 2 ^ 60 * u → n ≤ 2 ^ 22 → n * m * u ≤ 2 ^ 100 * u * u
    room m n u b l = belowℕ (m ∷ n ∷ u ∷ []) (num (n * u) ⊠ slackℕ b ⊞ num (2 ^ 60 * (u * u)) ⊠ slackℕ l ⊞ num ((2 ^ 100 - 2 ^ 82) * (u * u))) (search poly depth 30) done

-- z = 4 M, rounded
far_limit : (M z q u : ℕ) → 2 ^ 10 ≤ u → q ≤ 2 ^ 32 → (9 * q + 1) * u ≤ z → 2 ^ 53 * (z * 1) ≤ 2 ^ 53 * (4 * M) + 4 * M + 2 ^ 52 * 1 → (18 * q + 1) * u ≤ 8 * M
far_limit M z q u U b h c = le_of_mul-le-mul_left {k = 2 ^ 53 + 1}
    (belowℕ (M ∷ z ∷ q ∷ u ∷ [])
    (num 2 ⊠ slackℕ c ⊞ num (2 ^ 54) ⊠ slackℕ h ⊞ num (18 * u) ⊠ slackℕ b ⊞ num (2 ^ 43) ⊠ slackℕ U ⊞ num ((2 ^ 53 - 1 - 18 * 2 ^ 32 - 2 ^ 43) * u)) (search poly depth 30) done) (lit< tt)

-- x = M + 1 and z = 4 A x, rounded
near_limit : (M x z A R u : ℕ) → 2 ^ 10 ≤ u → 1 ≤ A → R ≤ 2 ^ 37 * A → z ≤ R * u → 2 ^ 53 * (M + u) ≤ 2 ^ 53 * (x * 1) + (M + u) + 2 ^ 52 * 1
    → 2 ^ 53 * (4 * A * x) ≤ 2 ^ 53 * (z * 1) + 4 * A * x + 2 ^ 52 * 1 → 2 * A * (2 * M + u) ≤ R * u
near_limit M x z A R u U p b h c d = le_of_mul-le-mul_left {k = 2 * (2 ^ 53 - 1) * (2 ^ 53 - 1)}
    (belowℕ (M ∷ x ∷ z ∷ A ∷ R ∷ u ∷ [])
    (num (8 * (2 ^ 53 - 1) * A) ⊠ slackℕ c ⊞ num (2 ^ 54) ⊠ slackℕ d ⊞ num (2 ^ 107) ⊠ slackℕ h ⊞ num (2 * (2 ^ 54 - 1) * u) ⊠ slackℕ b ⊞ num (2 ^ 100 * A) ⊠ slackℕ U ⊞ num (2 ^ 106) ⊠ slackℕ p
    ⊞ num ((4 * (2 ^ 53 - 1) * (2 ^ 53 - 1) - 2 ^ 38 * (2 ^ 54 - 1) - 2 ^ 100) * (A * u) + (2 ^ 110 - 2 ^ 108 + 2 ^ 55 - 2 ^ 106) * A)) (search poly depth 99 fits 9999) done) (lit< tt)

-- the limits are whole numbers that a float holds
pub far_fits : (τ : ℕ) → τ ≤ 65535 → 9 * (τ * τ) + 1 ≤ 2 ^ 53
far_fits τ l = go (τ * τ) (mul-le-mul l l)
  where
    go : (q : ℕ) → q ≤ 65535 * 65535 → 9 * q + 1 ≤ 2 ^ 53
    go q h = omega arith

pub four_fits : (a : ℕ) → a ≤ 1024 → 4 * (a * a) ≤ 2 ^ 22
four_fits a l = go (a * a) (mul-le-mul l l)
  where
    go : (A : ℕ) → A ≤ 1024 * 1024 → 4 * A ≤ 2 ^ 22
    go A h = omega arith

pub reach_le : (τ a : ℕ) → τ ≤ 65535 → a ≤ 1024 → τ * (a + 2) ≤ 67238910
reach_le τ a l q = mul-le-mul l (go a q)
  where
    go : (a : ℕ) → a ≤ 1024 → a + 2 ≤ 1026
    go a h = omega arith

pub reach_fits : (τ a : ℕ) → τ ≤ 65535 → a ≤ 1024 → τ * (a + 2) * (τ * (a + 2)) ≤ 2 ^ 53
reach_fits τ a l q = le_trans (sq_mono (reach_le τ a l q)) (lit≤ tt)

module _ (s : Float) (g : Good s) (k : sign s ≡ false) (b : mag s ≤ 2 ^ 52 * unit) (τ : ℕ) (l : τ ≤ 65535) where
  pub beyond_bound : T (le (float (9 * (τ * τ) + 1)) (mul binary64 s (float 4))) → (18 * (τ * τ) + 1) * unit ≤ 8 * mag s
  beyond_bound f =
      let q : τ * τ ≤ 2 ^ 32 = le_trans (mul-le-mul l l) (lit≤ tt) in
      let i = of_int_pos (9 * (τ * τ) + 1) (far_fits τ l) in
      let m = scaled s 4 g k (le_trans b (mul-le-mul_right unit (lit≤ tt))) (lit≤ tt) in
      far_limit (mag s) (mag (mul binary64 s (float 4))) (τ * τ) unit (le_trans (lit≤ tt) unit_large) q
      (le_trans (le_of_eq (sym i.mag_is)) (positive_mag (float (9 * (τ * τ) + 1)) (mul binary64 s (float 4)) i.good m.0 i.sign_is m.1 f)) m.2.0

  pub inside_bound : (a : ℕ) → 0 < a → a ≤ 1024 → T (le (mul binary64 (add binary64 s (float 1)) (float (4 * (a * a)))) (float (τ * (a + 2) * (τ * (a + 2)))))
      → 2 * (a * a) * (2 * mag s + unit) ≤ τ * (a + 2) * (τ * (a + 2)) * unit
  inside_bound a p q f =
      let x = add binary64 s (float 1) in
      let z = mul binary64 x (float (4 * (a * a))) in
      let o = of_int_pos 1 (lit≤ tt) in
      let O : mag (float 1) ≡ unit = o.mag_is ∙ one-mul unit in
      let c = sum_close s (float 1) g o.good k o.sign_is (le_trans (small (mag s) (mag (float 1)) unit b O) (mul-le-mul_right unit (lit≤ tt))) in
      let m = scaled x (4 * (a * a)) c.0 c.1 (least (mag x) (mag s) (mag (float 1)) unit unit_pos b O (close_twice (mag x) (mag s + mag (float 1)) 1 c.2)) (four_fits a q) in
      let R = of_int_pos (τ * (a + 2) * (τ * (a + 2))) (reach_fits τ a l q) in
      near_limit (mag s) (mag x) (mag z) (a * a) (τ * (a + 2) * (τ * (a + 2))) unit (le_trans (lit≤ tt) unit_large) (mul-pos p p) (ratio p)
      (le_trans (positive_mag z (float (τ * (a + 2) * (τ * (a + 2)))) m.0 R.good m.1 R.sign_is f) (le_of_eq R.mag_is))
      (subst (λ (n : ℕ). 2 ^ 53 * (mag s + n) ≤ 2 ^ 53 * (mag x * 1) + (mag s + n) + 2 ^ 52 * 1) O c.2.1) m.2.1
    where
      small : (m n u : ℕ) → m ≤ 2 ^ 52 * u → n ≡ u → m + n ≤ 2 ^ 53 * u
      small m n u b e = omega arith

      least : (x m n u : ℕ) → 0 < u → m ≤ 2 ^ 52 * u → n ≡ u → x * 1 ≤ 2 * (m + n) + 1 → x ≤ 2 ^ 60 * u
      least x m n u p b e h = omega arith

      ratio : 0 < a → τ * (a + 2) * (τ * (a + 2)) ≤ 2 ^ 37 * (a * a)
      ratio p = le_trans (sq_mono (mul-le-mul l (thrice a p))) (belowℕ (a ∷ []) (num ((2 ^ 37 - 9 * 65535 * 65535) * (a * a))) (search poly depth 30) done)
        where
          thrice : (a : ℕ) → 0 < a → a + 2 ≤ 3 * a
          thrice a p = omega arith
