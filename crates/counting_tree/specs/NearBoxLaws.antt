-- A frame lies near the box of its indexes, at any side: one that does not has other indexes.
use Rattle.std.specs.Prelude.{◌≡◌, Bool, true, false, not, ◌&&◌, ℕ, suc, ◌+◌, ◌*◌, ◌^◌, ◌≤◌, ℤ, nat_abs, Float}
use Rattle.std.proofs.Common.{sym, ap, ap₂, ◌∙◌, zero-le, suc-le-suc, le_trans, mul-le-mul_right, le-ltb, lit≤}
use Rattle.std.proofs.Math.Path.{subst}
use mathlib.Core.List.{List, [], ◌∷◌, map}
use native.Mathlib.Omega.{arith}
use Rattle.std.proofs.Math.Dec.{T}
use Rattle.std.specs.Float.Ieee.{binary64, sub, neg, lt, of_int}
use Rattle.lists.specs.ListLaws.{T_false, and_both}
use Rattle.ieee754.specs.Value.{unit, tiny, unit_tiny, tiny_large, mag, sign, Good}
use Rattle.ieee754.specs.Ops.{plus, minus, plus_pos, minus_pos, mag_parts, neg_good, neg_parts}
use Rattle.ieee754.specs.Compare.{lt_is}
use Rattle.ieee754.specs.Exact.{of_int_pos}
use Rattle.ieee754.specs.Abs.{close_abs}
use Rattle.hyperparams.specs.Params.{float}
use Rattle.counting_tree.specs.Frames.{Frame}
use Rattle.counting_tree.specs.Grid.{half, index, centre, indexes, centres}
use Rattle.counting_tree.specs.Geometry.{same_ints}
use Rattle.counting_tree.specs.Distance.{gap, sub_gap, sum_close}
use Rattle.counting_tree.specs.Radius.{Side}
use Rattle.counting_tree.specs.InBox.{coordinate_is, side_half, half_side, index_box}
use Rattle.counting_tree.specs.Domain.{Counts}
use Rattle.counting_tree.specs.Sound.{count_small, same_ints_lem}
use Rattle.counting_tree.specs.NearBox.{reach, close_to, near_box}

-- d is at most m in size
within_size : (m d : Float) → Good m → Good d → sign m ≡ false → mag d ≤ mag m → (not (lt d (neg m)) && not (lt m d)) ≡ true
within_size m d g k s h =
    let n = neg_parts m g in
    ap₂ (λ (a b : Bool). not a && not b)
    (lt_is d (neg m) k (neg_good m g) ∙ le-ltb (plus d + minus (neg m)) (plus (neg m) + minus d) (low (plus d) (minus d) (plus m) (minus m) (plus (neg m)) (minus (neg m)) (mag d) (mag m) (mag_parts d) n.0 n.1 (plus_pos m s) (minus_pos m s) h))
    (lt_is m d g k ∙ le-ltb (plus m + minus d) (plus d + minus m) (high (plus d) (minus d) (plus m) (minus m) (mag d) (mag m) (mag_parts d) (plus_pos m s) (minus_pos m s) h))
  where
    low : (pd md pm mm pn mn D M : ℕ) → D ≡ pd + md → pn ≡ mm → mn ≡ pm → pm ≡ M → mm ≡ 0 → D ≤ M → pn + md ≤ pd + mn
    low pd md pm mm pn mn D M a b c e f h = omega arith

    high : (pd md pm mm D M : ℕ) → D ≡ pd + md → pm ≡ M → mm ≡ 0 → D ≤ M → pd + mm ≤ pm + md
    high pd md pm mm D M a b c h = omega arith

module _ (side : Float) (s : Side side) where
  abbrev H : ℕ
  H = (side_half side s).part

  H_small : H ≤ 2 ^ 15 * unit
  H_small = go H (mag side) unit (side_half side s).twice s.high
    where
      go : (h S u : ℕ) → S ≡ 2 * h → S ≤ 2 ^ 16 * u → h ≤ 2 ^ 15 * u
      go h S u a b = omega arith

  -- the reach, rounded, is over half the side by more than any rounding
  reach_is : Good (reach side) × (sign (reach side) ≡ false) × (H + 7 * tiny ≤ mag (reach side))
  unfolding reach
  reach_is =
      let h = half_side side s (side_half side s) in
      let o = of_int_pos 1 (lit≤ tt) in
      let c = sum_close (half side) (float 1) h.good o.good h.sign_is o.sign_is (small (mag (half side)) (mag (float 1)) H unit h.mag_is o.mag_is H_small) in
      let n = mag (half side) + mag (float 1) in
      (c.0, c.1, last (mag (half side)) (mag (float 1)) H unit tiny _ h.mag_is o.mag_is unit_tiny (close_abs _ n 1 tiny (room (mag (half side)) (mag (float 1)) H unit tiny h.mag_is o.mag_is H_small unit_tiny tiny_large) c.2).1)
    where
      small : (a b h u : ℕ) → a ≡ h → b ≡ 1 * u → h ≤ 2 ^ 15 * u → a + b ≤ 2 ^ 100 * u
      small a b h u e f l = omega arith

      room : (a b h u t : ℕ) → a ≡ h → b ≡ 1 * u → h ≤ 2 ^ 15 * u → u ≡ 2 ^ 36 * t → 2 ^ 60 ≤ t → a + b + 2 ^ 52 * 1 ≤ 2 ^ 53 * t
      room a b h u t e f l x y = omega arith

      last : (a b h u t r : ℕ) → a ≡ h → b ≡ 1 * u → u ≡ 2 ^ 36 * t → a + b ≤ r * 1 + t → h + 7 * t ≤ r
      last a b h u t r e f x l = omega arith

  count_near : (x : ℤ) → nat_abs x ≤ 2 ^ 15 → T (close_to (reach side) (centre side (index side x)) x)
  unfolding close_to
  count_near x b =
      let i = index_box side s x b in
      let c = centre side (index side x) in
      let X = of_int binary64 x in
      let d = sub_gap X c (coordinate_is x b).0 i.good (le_trans (small (gap X c) H unit tiny i.near H_small unit_tiny) (mul-le-mul_right unit (lit≤ tt))) in
      let n = close_abs (mag (sub binary64 X c)) (gap X c) 1 tiny (room (gap X c) H unit tiny i.near H_small unit_tiny tiny_large) d.1 in
      let r = reach_is in
      subst T (sym (within_size (reach side) (sub binary64 X c) r.0 d.0 r.1 (le_trans (most (mag (sub binary64 X c)) (gap X c) H tiny n.0 i.near) r.2))) tt
    where
      small : (g h u t : ℕ) → g ≤ h + 6 * t → h ≤ 2 ^ 15 * u → u ≡ 2 ^ 36 * t → g ≤ 2 ^ 16 * u
      small g h u t a b c = omega arith

      room : (g h u t : ℕ) → g ≤ h + 6 * t → h ≤ 2 ^ 15 * u → u ≡ 2 ^ 36 * t → 2 ^ 60 ≤ t → g + 2 ^ 52 * 1 ≤ 2 ^ 53 * t
      room g h u t a b c d = omega arith

      most : (m g h t : ℕ) → m * 1 ≤ g + t → g ≤ h + 6 * t → m ≤ h + 7 * t
      most m g h t a b = omega arith

  -- a frame lies near the box of its indexes
  frame_near : (xs : Frame) → Counts xs → T (near_box (reach side) (centres side xs) xs)
  unfolding near_box centres indexes
  frame_near [] c = tt
  frame_near (x ∷ xs) c = and_both (close_to (reach side) (centre side (index side x)) x) (near_box (reach side) (centres side xs) xs) (count_near x (count_small x (c 0 (suc-le-suc zero-le)))) (frame_near xs (λ k h. c (suc k) (suc-le-suc h)))

  -- the box of the indexes `at`
  pub not_near : (at : List ℤ) (xs : Frame) → Counts xs → near_box (reach side) (map (centre side) at) xs ≡ false → same_ints at (indexes side xs) ≡ false
  unfolding centres
  not_near at xs c e = T_false (same_ints at (indexes side xs)) (λ t. other (same_ints_lem at (indexes side xs) t))
    where
      other : at ≡ indexes side xs → ⊥
      other i = subst T (sym (ap (λ (l : List ℤ). near_box (reach side) (map (centre side) l) xs) i) ∙ e) (frame_near xs c)
