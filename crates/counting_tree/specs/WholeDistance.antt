-- Between frames the float distance is exact but for its root, and "distance ≤ t" is "sum of squares ≤ t × t".
use Rattle.std.specs.Prelude.{◌≡◌, false, ℕ, suc, ◌+◌, ◌*◌, ◌^◌, ◌≤◌, ◌<◌, leb, length, Float}
use Rattle.std.proofs.Common.{sym, ap, ◌∙◌, subst, zero-le, le_trans, le_of_eq, lt_of_le_of_lt, mul-le-mul, mul-le-mul_right, add_assoc, add-zero, zero-add, leb→le, le→leb, lit<, lit≤}
use native.Mathlib.Omega.{arith, by_contra}
use Rattle.std.specs.Float.{binary64}
use Rattle.std.specs.Float.Ieee.{round, add, sub, mul, of_int, le}
use Rattle.lists.specs.ListLaws.{both_ways}
use Rattle.ieee754.specs.Value.{unit, mag, Good, Is}
use Rattle.ieee754.specs.Ops.{plus, minus, plus_pos, minus_pos}
use Rattle.ieee754.specs.Compare.{le_is}
use Rattle.ieee754.specs.Exact.{rep_whole, round_rep, of_int_pos}
use Rattle.ieee754.specs.Root.{root}
use Rattle.ieee754.specs.RootLaw.{root_near}
use Rattle.ieee754.specs.Whole.{root_whole_le, root_whole_lt, whole_square, whole_sum}
use Rattle.hyperparams.specs.Params.{float}
use Rattle.counting_tree.specs.Frames.{Frame, apart, squared, floats}
use Rattle.counting_tree.specs.Box.{sum_from, distance}
use Rattle.counting_tree.specs.Distance.{gap, sub_is}
use Rattle.counting_tree.specs.InBox.{coordinate_is}
use Rattle.counting_tree.specs.Sides.{Scale}
use Rattle.counting_tree.specs.WholeFrames.{Pair, no_channel, channel, gap_apart, apart_le}

whole_difference : (q p : Float) (k : ℕ) → Good q → Good p → k ≤ 2 ^ 16 → gap q p ≡ k * unit → Good (sub binary64 q p) × (mag (sub binary64 q p) ≡ k * unit)
whole_difference q p k g h b e =
    let d = sub_is q p g h in
    let i = round_rep d.0 (k * unit) (rep_whole k (lt_of_le_of_lt b (lit< tt))) (mul-le-mul_right unit (le_trans b (lit≤ tt))) in
    subst (λ (w : Float). Good w × (mag w ≡ k * unit)) (sym (d.1 ∙ ap (λ (n : ℕ). round binary64 d.0 n unit) e)) (i.good, i.mag_is)

-- the sum of squares is exact
pub whole_total : (a : Float) (m : ℕ) {xs ys : Frame} → Pair xs ys → m + squared xs ys < 2 ^ 53 → Is a false (m * unit) → Is (sum_from a (floats xs) (floats ys)) false ((m + squared xs ys) * unit)
unfolding sum_from
whole_total a m no_channel b i = subst (λ (w : ℕ). Is a false (w * unit)) (sym (add-zero m)) i
whole_total a m (channel {x} {y} {xs} {ys} h k c) b i =
    let q = of_int binary64 x in
    let p = of_int binary64 y in
    let n = apart x y in
    let l = apart_le x y h k in
    let d = whole_difference q p n (coordinate_is x h).0 (coordinate_is y k).0 l (gap_apart x y h k) in
    let s = whole_square (sub binary64 q p) n (le_trans l (lit≤ tt)) d.0 d.1 in
    let t = whole_sum a (mul binary64 (sub binary64 q p) (sub binary64 q p)) m (n * n) i s (first m (n * n) (squared xs ys) b) in
    let e = add_assoc m (n * n) (squared xs ys) in
    subst (λ (v : ℕ). Is (sum_from (add binary64 a (mul binary64 (sub binary64 q p) (sub binary64 q p))) (floats xs) (floats ys)) false (v * unit)) e
    (whole_total (add binary64 a (mul binary64 (sub binary64 q p) (sub binary64 q p))) (m + n * n) c (subst (λ (v : ℕ). v < 2 ^ 53) (sym e) b) t)
  where
    first : (m k n : ℕ) → m + (k + n) < 2 ^ 53 → m + k < 2 ^ 53
    first m k n h = omega arith

squared_small : {xs ys : Frame} → Pair xs ys → squared xs ys ≤ length xs * 2 ^ 32
squared_small no_channel = zero-le
squared_small (channel {x} {y} {xs} {ys} h k c) = go (apart x y * apart x y) (squared xs ys) (length xs) (mul-le-mul (apart_le x y h k) (apart_le x y h k)) (squared_small c)
  where
    go : (a b n : ℕ) → a ≤ 2 ^ 16 * 2 ^ 16 → b ≤ n * 2 ^ 32 → a + b ≤ suc n * 2 ^ 32
    go a b n h k = omega arith

pub squared_le : {d : ℕ} {t : Float} {τ : ℕ} → Scale d t τ → {xs ys : Frame} → Pair xs ys → length xs ≡ d → squared xs ys ≤ 2 ^ 34
squared_le S {xs} c e = le_trans (squared_small c) (le_trans (mul-le-mul_right (2 ^ 32) (le_trans (le_of_eq e) S.most)) (lit≤ tt))

-- between frames "distance ≤ t" is "sum of squares ≤ t × t"
pub within_frames : {d : ℕ} {t : Float} {τ : ℕ} → Scale d t τ → {xs ys : Frame} → Pair xs ys → length xs ≡ d → le (distance (floats xs) (floats ys)) t ≡ leb (squared xs ys) (τ * τ)
unfolding distance
within_frames {d} {t} {τ} S {xs} {ys} c e =
    let n = squared xs ys in
    let s = sum_from (float 0) (floats xs) (floats ys) in
    let b : n ≤ 2 ^ 34 = squared_le S c e in
    let i = S.is in
    let z = whole_total (float 0) 0 c (lt_of_le_of_lt (le_of_eq (zero-add n)) (lt_of_le_of_lt b (lit< tt))) (of_int_pos 0 (lit≤ tt)) in
    let m : mag s ≡ n * unit = z.mag_is ∙ ap (λ (v : ℕ). v * unit) (zero-add n) in
    let w : n ≤ 2 ^ 100 = le_trans b (lit≤ tt) in
    let r = root_near s z.good z.sign_is (le_trans (le_of_eq m) (mul-le-mul_right unit w)) in
    le_is (root s) t r.good i.good ∙ both_ways (leb (plus (root s) + minus t) (plus t + minus (root s))) (leb n (τ * τ))
    (λ f. le→leb n (τ * τ) (by_contra n (τ * τ) (λ l.
    clash (plus (root s)) (minus (root s)) (plus t) (minus t) (mag (root s)) (τ * unit)
    (plus_pos (root s) r.sign_is) (minus_pos (root s) r.sign_is) (plus_pos t i.sign_is ∙ i.mag_is) (minus_pos t i.sign_is)
    (leb→le (plus (root s) + minus t) (plus t + minus (root s)) f) (root_whole_lt s n τ z.good z.sign_is m w l (le_trans S.high (lit≤ tt))))))
    (λ f. le→leb (plus (root s) + minus t) (plus t + minus (root s)) (back (plus (root s)) (minus (root s)) (plus t) (minus t) (mag (root s)) (τ * unit) (plus_pos (root s) r.sign_is) (minus_pos (root s) r.sign_is) (plus_pos t i.sign_is ∙ i.mag_is) (minus_pos t i.sign_is) (root_whole_le s n τ z.good z.sign_is m w (leb→le n (τ * τ) f) (lt_of_le_of_lt S.high (lit< tt)))))
  where
    clash : (a b c d z e : ℕ) → a ≡ z → b ≡ 0 → c ≡ e → d ≡ 0 → a + d ≤ c + b → e < z → ⊥
    clash a b c d z e i j k l m n = omega arith

    back : (a b c d z e : ℕ) → a ≡ z → b ≡ 0 → c ≡ e → d ≡ 0 → z ≤ e → a + d ≤ c + b
    back a b c d z e i j k l m = omega arith
