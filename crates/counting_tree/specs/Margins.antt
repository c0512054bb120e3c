-- The margins of the box tests, in units: what is nearer than t is not Disjoint, what passes FullyCovered lies within the far reach, and the last level decides.
use Rattle.std.specs.Prelude.{◌≡◌, refl, ◌⊎◌, List, [], ◌∷◌, ℕ, zero, suc, ◌+◌, ◌-◌, ◌*◌, ◌^◌, ◌≤◌, ◌<◌, pos, length, Float}
use Rattle.std.proofs.Common.{◌∙◌, inl, inr, le_trans, le_of_eq, lt_of_le_of_lt, mul-le-mul_left, mul-le-mul_right, le_of_lt, add_comm, add-one}
use Rattle.std.proofs.Math.Nat.{le_dest, le_of_mul-le-mul_left}
use native.Mathlib.Omega.{arith, by_contra}
use Rattle.ring.proofs.Ring.{ringℕ, poly, done, ◌⊖◌}
use Rattle.ring.proofs.Order.{belowℕ, num, slackℕ, ◌⊞◌, ◌⊠◌, nil, diffℕ, ◌⊕◌, ◌⊙◌}
use Rattle.ring.specs.Nat.{sq_mono}
use Rattle.ring.specs.InnerProduct.{squares, Tri, none, more}
use Rattle.ring.proofs.InnerProductLaws.{triangle}
use Rattle.ieee754.specs.Value.{unit, tiny, unit_tiny, tiny_large, mag}
use Rattle.ieee754.specs.Ops.{plus, minus}
use Rattle.counting_tree.specs.Box.{distance}
use Rattle.counting_tree.specs.Distance.{gap, gap_is, gaps, Near, no_more, one, dist_high, dist_low}

-- ---- the gap is a distance
gap_sum : (a b c d e f g h k : ℕ) → (a + f ≡ b + e + g) ⊎ (b + e ≡ a + f + g) → (a + d ≡ b + c + h) ⊎ (b + c ≡ a + d + h) → (c + f ≡ d + e + k) ⊎ (d + e ≡ c + f + k) → g ≤ h + k
gap_sum a b c d e f g h k (inl x) (inl y) (inl z) = omega arith
gap_sum a b c d e f g h k (inl x) (inl y) (inr z) = omega arith
gap_sum a b c d e f g h k (inl x) (inr y) (inl z) = omega arith
gap_sum a b c d e f g h k (inl x) (inr y) (inr z) = omega arith
gap_sum a b c d e f g h k (inr x) (inl y) (inl z) = omega arith
gap_sum a b c d e f g h k (inr x) (inl y) (inr z) = omega arith
gap_sum a b c d e f g h k (inr x) (inr y) (inl z) = omega arith
gap_sum a b c d e f g h k (inr x) (inr y) (inr z) = omega arith

pub gap_triangle : (x y z : Float) → gap x z ≤ gap x y + gap y z
gap_triangle x y z = gap_sum (plus x) (minus x) (plus y) (minus y) (plus z) (minus z) (gap x z) (gap x y) (gap y z) (gap_is x z) (gap_is x y) (gap_is y z)

pub gap_comm : (x y : Float) → gap x y ≤ gap y x
gap_comm x y = go (plus x) (minus x) (plus y) (minus y) (gap x y) (gap y x) (gap_is x y) (gap_is y x)
  where
    go : (a b c d g h : ℕ) → (a + d ≡ b + c + g) ⊎ (b + c ≡ a + d + g) → (c + b ≡ d + a + h) ⊎ (d + a ≡ c + b + h) → g ≤ h
    go a b c d g h (inl x) (inl y) = omega arith
    go a b c d g h (inl x) (inr y) = omega arith
    go a b c d g h (inr x) (inl y) = omega arith
    go a b c d g h (inr x) (inr y) = omega arith

-- q, x and the centre c
pub tri_gaps : {qs xs cs : List Float} → Near qs xs → Near xs cs → Tri (gaps qs cs) (gaps qs xs) (gaps xs cs)
tri_gaps no_more no_more = none
tri_gaps (one {q} {p = x} g k w n) (one {p = c} g' k' w' n') = more (gap_triangle q x c) (tri_gaps n n')

-- from c by way of q's distance to the box's frames
pub tri_back : {qs xs cs : List Float} → Near qs xs → Near xs cs → Tri (gaps qs xs) (gaps qs cs) (gaps xs cs)
tri_back no_more no_more = none
tri_back (one {q} {p = x} g k w n) (one {p = c} g' k' w' n') = more (turn (gap q x) (gap q c) (gap x c) (gap c x) (gap_triangle q c x) (gap_comm c x)) (tri_back n n')
  where
    turn : (a b c d : ℕ) → a ≤ b + d → d ≤ c → a ≤ b + c
    turn a b c d h k = omega arith

-- ---- a frame nearer than t under the box keeps it from being Disjoint
-- A = t - 2 ^ -17
below_t : (N t u κ A : ℕ) → u ≡ 2 ^ 17 * κ → t ≤ 2 ^ 16 → A + κ ≡ t * u → N + 1 ≤ t * t → N * (u * u) ≤ A * A
below_t N t u κ A e b a h =
    belowℕ (N ∷ t ∷ u ∷ κ ∷ A ∷ []) (slackℕ h ⊠ num (u * u) ⊞ num (2 * κ * u) ⊠ slackℕ b ⊞ num (κ * κ) ⊞ nil ((pos (A + t * u) ⊖ pos κ) ⊙ diffℕ a ⊕ pos u ⊙ diffℕ e)) (search poly depth 30) done

last_g1 : (z A hh t κ u T : ℕ) → A + κ ≡ T → κ ≡ 2 ^ 19 * t → z ≤ A + (hh + 32 * t) + 512 * t → z ≤ T + hh
last_g1 z A hh t κ u T a k h = omega arith

pub not_far : {qs xs cs : List Float} → Near qs cs → Near qs xs → Near xs cs → length qs ≤ 4 → (N t hh : ℕ) → squares (gaps qs xs) ≤ N * (unit * unit) → N < t * t → t ≤ 2 ^ 16
    → squares (gaps xs cs) ≤ (hh + 32 * tiny) * (hh + 32 * tiny) → hh ≤ 2 ^ 17 * unit → mag (distance qs cs) ≤ t * unit + hh
not_far {qs} {xs} {cs} n m k l N t hh u lt b v small =
    let κ = 2 ^ 19 * tiny in
    let U : unit ≡ 2 ^ 17 * κ = unit_tiny ∙ ringℕ (tiny ∷ []) (search poly depth 30) done in
    let d = le_dest (positive t lt U) in
    let A = d.0 in
    let a : A + κ ≡ t * unit = add_comm A κ ∙ d.1 in
    let x : squares (gaps qs xs) ≤ A * A = le_trans u (below_t N t unit κ A U b a (le_trans (le_of_eq (add-one N)) lt)) in
    let w = triangle A (hh + 32 * tiny) (tri_gaps m k) x v in
    last_g1 (mag (distance qs cs)) A hh tiny κ unit (t * unit) a refl (dist_high n l (A + (hh + 32 * tiny)) (bound A hh t unit tiny unit_tiny b a small) w)
  where
    positive : (t : ℕ) → N < t * t → unit ≡ 2 ^ 17 * (2 ^ 19 * tiny) → 2 ^ 19 * tiny ≤ t * unit
    positive zero h e = absurd (none_below N h)
      where
        none_below : (N : ℕ) → N < 0 * 0 → ⊥
        none_below N h = omega arith
    positive (suc t) h e = belowℕ (t ∷ unit ∷ tiny ∷ []) (num (t * unit + (2 ^ 36 - 2 ^ 19) * tiny) ⊞ nil (diffℕ e)) (search poly depth 30) done

    bound : (A hh t u y : ℕ) → u ≡ 2 ^ 36 * y → t ≤ 2 ^ 16 → A + 2 ^ 19 * y ≡ t * u → hh ≤ 2 ^ 17 * u → A + (hh + 32 * y) ≤ 2 ^ 55 * y
    bound A hh t u y e b a h = omega (arith, mul-le-mul_right u b)

-- ---- a frame under a box that passes the first test of FullyCovered
-- (E + 600 t)² < E² + u²
pub reach_sum : (E u t : ℕ) → u ≡ 2 ^ 36 * t → 0 < t → E ≤ 2 ^ 17 * u → (E + 600 * t) * (E + 600 * t) < E * E + u * u
reach_sum E u t e p b = belowℕ (E ∷ u ∷ t ∷ [])
    (num (1200 * t) ⊠ slackℕ b ⊞ slackℕ p ⊠ num (t + 1) ⊞ num (((2 ^ 36 - 1200 * 2 ^ 17) * 2 ^ 36 - 360001) * (t * t)) ⊞ nil (pos (u + (2 ^ 36 - 1200 * 2 ^ 17) * t) ⊙ diffℕ e))
    (search poly depth 30) done

pub within_reach : {qs xs cs : List Float} → Near qs cs → Near qs xs → Near xs cs → length qs ≤ 4 → (E hh : ℕ) → E ≤ 2 ^ 17 * unit
    → squares (gaps xs cs) ≤ (hh + 32 * tiny) * (hh + 32 * tiny) → mag (distance qs cs) + hh ≤ E + 32 * tiny → squares (gaps qs xs) < E * E + unit * unit
within_reach {qs} {xs} {cs} n m k l E hh b v h =
    let z = mag (distance qs cs) in
    let P : 1 ≤ tiny = omega (arith, tiny_large) in
    let s = bounds z hh E unit tiny unit_tiny b P h in
    let w = by_contra (squares (gaps qs cs)) ((z + 512 * tiny + 1) * (z + 512 * tiny + 1)) (λ f. more_than (z + 512 * tiny) (dist_low n l (z + 512 * tiny + 1) s (le_of_lt f))) in
    lt_of_le_of_lt (triangle (z + 512 * tiny + 1) (hh + 32 * tiny) (tri_back m k) w v)
    (lt_of_le_of_lt (sq_mono (total z hh E tiny P h)) (reach_sum E unit tiny unit_tiny P b))
  where
    more_than : (x : ℕ) → x + 1 ≤ x → ⊥
    more_than x h = omega arith

    bounds : (z hh E u t : ℕ) → u ≡ 2 ^ 36 * t → E ≤ 2 ^ 17 * u → 1 ≤ t → z + hh ≤ E + 32 * t → z + 512 * t + 1 ≤ 2 ^ 55 * t
    bounds z hh E u t e b p h = omega arith

    total : (z hh E t : ℕ) → 1 ≤ t → z + hh ≤ E + 32 * t → z + 512 * t + 1 + (hh + 32 * t) ≤ E + 600 * t
    total z hh E t p h = omega arith

-- ---- at the last level a box that is not Disjoint passes the first test of FullyCovered
-- R = 2 ^ (1 + s): R * 2 hh is the tolerance T but for 4 t, R * (E - T) = 2 T
pub last_level : (z hh T E R t : ℕ) → R ≤ 2 ^ 11 → R * (2 * hh) ≤ T + 4 * t → R * E ≡ R * T + 2 * T → 2 ^ 36 * t ≤ T → z ≤ T + hh + 32 * t → 0 < R → z + hh ≤ E
last_level z hh T E R t b r e l h p = le_of_mul-le-mul_left {k = R} (omega (arith, mul-le-mul_left R h, mul-le-mul_right t b)) p
