-- The farthest corner of a box lies at least half a side farther than its centre: where it is nearer than the extended tolerance, the centre is so by half a side, but for the roundings.
use Rattle.std.specs.Prelude.{◌≡◌, ◌⊎◌, false, List, [], ◌∷◌, ℕ, ◌+◌, ◌*◌, ◌^◌, ◌≤◌, ◌<◌, T, length, Float}
use Rattle.std.proofs.Common.{inl, inr, le_trans, le_of_lt}
use Rattle.std.proofs.Math.Nat.{le_dest}
use native.Mathlib.Omega.{arith, by_contra}
use Rattle.std.specs.Float.{binary64}
use Rattle.std.specs.Float.Ieee.{add, sub, lt}
use Rattle.lists.specs.Lists.{total}
use Rattle.ring.proofs.Ring.{poly, done}
use Rattle.ring.proofs.Order.{belowℕ, num, slackℕ, ◌⊞◌, ◌⊠◌}
use Rattle.ring.specs.Nat.{sq_le_back}
use Rattle.ring.specs.InnerProduct.{squares}
use Rattle.ieee754.specs.Value.{unit, tiny, unit_tiny, tiny_large, mag, sign, Good, Is}
use Rattle.ieee754.specs.Ops.{plus, minus}
use Rattle.counting_tree.specs.Box.{distance, corners, farthest}
use Rattle.counting_tree.specs.Distance.{gap, gap_is, gaps, Near, dist_high}
use Rattle.counting_tree.specs.Corners.{ends, ends_are, Around, no_channel, channel, Beyond, no_beyond, more_beyond, corners_within}

-- ---- lists of lengths
-- H more in each place
abbrev grown : ℕ → List ℕ → List ℕ
grown H [] = []
grown H (u ∷ us) = (u + H) ∷ grown H us

abbrev sum : List ℕ → ℕ
sum us = total (λ u. u) us

squares_sum : (us : List ℕ) → squares us ≤ sum us * sum us
squares_sum [] = omega arith
squares_sum (u ∷ us) = belowℕ (u ∷ squares us ∷ sum us ∷ []) (slackℕ (squares_sum us) ⊞ num (2 * (u * sum us))) (search poly depth 30) done

squares_grown : (H : ℕ) (us : List ℕ) → squares us + 2 * (H * sum us) ≤ squares (grown H us)
squares_grown H [] = omega arith
squares_grown H (u ∷ us) = belowℕ (H ∷ u ∷ squares us ∷ sum us ∷ squares (grown H us) ∷ []) (slackℕ (squares_grown H us) ⊞ num (H * H)) (search poly depth 30) done

-- a list of length M or more is then of length M + H or more: the sum of its places is at least M
long_grown : (M H u : ℕ) (us : List ℕ) → M * M ≤ squares (u ∷ us) → (M + H) * (M + H) ≤ squares (grown H (u ∷ us))
long_grown M H u us h =
    let m : M ≤ u + sum us = sq_le_back M (u + sum us) (le_trans h (squares_sum (u ∷ us))) in
    belowℕ (M ∷ H ∷ u ∷ squares us ∷ sum us ∷ squares (grown H us) ∷ []) (slackℕ h ⊞ num (2 * H) ⊠ slackℕ m ⊞ slackℕ (squares_grown H us)) (search poly depth 30) done

-- ---- one channel: q = a - b, the centre e - f at the gap m, the ends g - h and g' - h'; the end away from q is beyond the point that lies just H from the centre
outward : (a b e f g h g' h' m n n' H t : ℕ)
    → (a + f ≡ b + e + m) ⊎ (b + e ≡ a + f + m) → (a + h ≡ b + g + n) ⊎ (b + g ≡ a + h + n) → (a + h' ≡ b + g' + n') ⊎ (b + g' ≡ a + h' + n')
    → g + (f + H) ≤ e + h + 3 * t → e + H + h' ≤ g' + f + 3 * t → (m + H ≤ n + 9 * t) ⊎ (m + H ≤ n' + 9 * t)
outward a b e f g h g' h' m n n' H t (inl x) y z p q = ends a b e (f + H) e f g h g' h' (m + H) H n n' H t (inl (omega arith)) (inr (omega arith)) (omega arith) y z p q
outward a b e f g h g' h' m n n' H t (inr x) y z p q = ends a b (e + H) f e f g h g' h' (m + H) H n n' H t (inr (omega arith)) (inl (omega arith)) (omega arith) y z p q

-- the corner away from q in each channel
outward_is : (H : ℕ) (e : Float) → Is e false H → H ≤ 2 ^ 15 * unit → {qs xs cs : List Float} → Around H qs xs cs → Beyond e qs cs (grown H (gaps qs cs))
outward_is H e i h no_channel = no_beyond e
outward_is H e i h (channel {q} {x} {c} {qs} {xs} {cs} gq gx gc mc w v a) =
    let k = ends_are c e H gc mc i h in
    let lo = sub binary64 c e in
    let hi = add binary64 c e in
    more_beyond H q c e (gap q c + H) gq w h k
    (outward (plus q) (minus q) (plus c) (minus c) (plus lo) (minus lo) (plus hi) (minus hi) (gap q c) (gap q lo) (gap q hi) H tiny (gap_is q c) (gap_is q lo) (gap_is q hi) k.low k.high)
    (outward_is H e i h a)

-- ---- the distance to the centre
long_around : (M H : ℕ) {qs xs cs : List Float} → Around H qs xs cs → 0 < length qs → M * M ≤ squares (gaps qs cs) → (M + H) * (M + H) ≤ squares (grown H (gaps qs cs))
long_around M H no_channel p h = omega arith
long_around M H (channel {q} {x} {c} {qs} {xs} {cs} _ _ _ _ _ _ a) p h = long_grown M H (gap q c) (gaps qs cs) h

module _ (H : ℕ) (e ext : Float) (i : Is e false H) (h : H ≤ 2 ^ 15 * unit) (g : Good ext) (s : sign ext ≡ false) (b : mag ext ≤ 2 ^ 17 * unit) {qs xs cs : List Float} (a : Around H qs xs cs) (n : Near qs cs) (p : 0 < length qs) (l : length qs ≤ 4) where
  pub corners_outward : T (lt (farthest qs (corners cs e)) ext) → mag (distance qs cs) + H ≤ mag ext + 1200 * tiny
  corners_outward t =
      let R = mag ext + 600 * tiny in
      let w : squares (grown H (gaps qs cs)) ≤ R * R = corners_within H e ext i h g s b a l (outward_is H e i h a) t in
      let within : (M : ℕ) → M * M ≤ squares (gaps qs cs) → M + H ≤ R = λ M f. sq_le_back (M + H) R (le_trans (long_around M H a p f) w) in
      let K = le_dest (within 0 (omega arith)) in
      let f = by_contra (squares (gaps qs cs)) ((K.0 + 1) * (K.0 + 1)) (λ f. past K.0 H R K.1 (within (K.0 + 1) (le_of_lt f))) in
      end (mag (distance qs cs)) K.0 H (mag ext) tiny tiny_large K.1 (dist_high n l (K.0 + 1) (bounds K.0 H (mag ext) unit tiny unit_tiny tiny_large b K.1) f)
    where
      past : (K H R : ℕ) → 0 + H + K ≡ R → K + 1 + H ≤ R → ⊥
      past K H R e h = omega arith

      bounds : (K H E u t : ℕ) → u ≡ 2 ^ 36 * t → 2 ^ 60 ≤ t → E ≤ 2 ^ 17 * u → 0 + H + K ≡ E + 600 * t → K + 1 ≤ 2 ^ 55 * t
      bounds K H E u t e l b h = omega arith

      end : (z K H E t : ℕ) → 2 ^ 60 ≤ t → 0 + H + K ≡ E + 600 * t → z ≤ K + 1 + 512 * t → z + H ≤ E + 1200 * t
      end z K H E t l h k = omega arith
