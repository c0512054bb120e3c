-- The last test of FullyCovered: a box whose farthest corner is nearer than the extended tolerance has all its frames within the far reach.
use Rattle.std.specs.Prelude.{◌≡◌, ◌⊎◌, Bool, true, false, not, cond, List, [], ◌∷◌, ℕ, ◌+◌, ◌*◌, ◌^◌, ◌≤◌, ◌<◌, T, ltb, length, Float}
use Rattle.std.proofs.Common.{sym, ◌∙◌, subst, inl, inr, le_trans, lt_of_le_of_lt, mul-le-mul_right, le_of_lt, ltb→lt, lt→ltb, nltb→le, lit≤}
use native.Mathlib.Omega.{arith, by_contra}
use Rattle.std.specs.Float.{binary64}
use Rattle.std.specs.Float.Ieee.{add, sub, lt}
use Rattle.ring.specs.Nat.{sq_mono}
use Rattle.ring.specs.InnerProduct.{squares, Tri, none, more}
use Rattle.ring.proofs.InnerProductLaws.{triangle}
use Rattle.ieee754.specs.Value.{unit, tiny, unit_tiny, tiny_large, mag, sign, Good, Is}
use Rattle.ieee754.specs.Ops.{plus, minus, plus_pos, minus_pos, mag_parts, add_near, sub_near}
use Rattle.ieee754.specs.Compare.{lt_is}
use Rattle.ieee754.specs.Exact.{of_int_pos}
use Rattle.ieee754.specs.Abs.{approx_abs}
use Rattle.hyperparams.specs.Params.{float}
use Rattle.counting_tree.specs.Distance.{gap, gap_is, gaps, Near, no_more, one, same, same_short, dist_low, dist_good}
use Rattle.counting_tree.specs.Margins.{reach_sum}
use Rattle.counting_tree.specs.Box.{distance, corners, both, farthest_from, farthest}

-- ---- one channel: q, x and the centre c, with the two ends of the box
-- each signed number a - b: q = a - b, x = c - d, the centre e - f, an end g - h
pub ends : (a b c d e f g h g' h' k m n n' H t : ℕ)
    → (a + d ≡ b + c + k) ⊎ (b + c ≡ a + d + k) → (c + f ≡ d + e + m) ⊎ (d + e ≡ c + f + m) → m ≤ H + 6 * t
    → (a + h ≡ b + g + n) ⊎ (b + g ≡ a + h + n) → (a + h' ≡ b + g' + n') ⊎ (b + g' ≡ a + h' + n')
    → g + (f + H) ≤ e + h + 3 * t → e + H + h' ≤ g' + f + 3 * t → (k ≤ n + 9 * t) ⊎ (k ≤ n' + 9 * t)
ends a b c d e f g h g' h' k m n n' H t (inl x) y b' (inl z) w p q = inl (lower y)
  where
    lower : (c + f ≡ d + e + m) ⊎ (d + e ≡ c + f + m) → k ≤ n + 9 * t
    lower (inl y) = omega arith
    lower (inr y) = omega arith
ends a b c d e f g h g' h' k m n n' H t (inl x) y b' (inr z) w p q = inl (lower y)
  where
    lower : (c + f ≡ d + e + m) ⊎ (d + e ≡ c + f + m) → k ≤ n + 9 * t
    lower (inl y) = omega arith
    lower (inr y) = omega arith
ends a b c d e f g h g' h' k m n n' H t (inr x) y b' z (inl w) p q = inr (upper y)
  where
    upper : (c + f ≡ d + e + m) ⊎ (d + e ≡ c + f + m) → k ≤ n' + 9 * t
    upper (inl y) = omega arith
    upper (inr y) = omega arith
ends a b c d e f g h g' h' k m n n' H t (inr x) y b' z (inr w) p q = inr (upper y)
  where
    upper : (c + f ≡ d + e + m) ⊎ (d + e ≡ c + f + m) → k ≤ n' + 9 * t
    upper (inl y) = omega arith
    upper (inr y) = omega arith

-- ---- the ends, rounded: within 2 * 2 ^ -36
room : (u t : ℕ) → u ≡ 2 ^ 36 * t → 2 ^ 60 ≤ t → 2 ^ 18 * u + 2 ^ 52 ≤ 2 ^ 53 * (3 * t)
room u t e l = omega arith

pub record Ends (c e : Float) (H : ℕ) : Type 0 where
  pub low_good : Good (sub binary64 c e)
  pub high_good : Good (add binary64 c e)
  pub low : plus (sub binary64 c e) + (minus c + H) ≤ plus c + minus (sub binary64 c e) + 3 * tiny
  pub low' : plus c + minus (sub binary64 c e) ≤ plus (sub binary64 c e) + (minus c + H) + 3 * tiny
  pub high : plus c + H + minus (add binary64 c e) ≤ plus (add binary64 c e) + minus c + 3 * tiny
  pub high' : plus (add binary64 c e) + minus c ≤ plus c + H + minus (add binary64 c e) + 3 * tiny

pub ends_are : (c e : Float) (H : ℕ) → Good c → mag c ≤ 2 ^ 17 * unit → Is e false H → H ≤ 2 ^ 15 * unit → Ends c e H
ends_are c e H g b i h =
    let p = plus_pos e i.sign_is ∙ i.mag_is in
    let m = minus_pos e i.sign_is in
    let k = mag_parts c in
    let a = add_near c e (2 ^ 18 * unit) g i.good (mul-le-mul_right unit (lit≤ tt)) (one_way (plus c) (minus c) (plus e) (minus e) (mag c) H unit p m k b h) (two_way (plus c) (minus c) (plus e) (minus e) (mag c) H unit p m k b h) in
    let s = sub_near c e (2 ^ 18 * unit) g i.good (mul-le-mul_right unit (lit≤ tt)) (three_way (plus c) (minus c) (plus e) (minus e) (mag c) H unit p m k b h) (four_way (plus c) (minus c) (plus e) (minus e) (mag c) H unit p m k b h) in
    let r = room unit tiny unit_tiny tiny_large in
    let x = approx_abs (add binary64 c e) (plus c + plus e) (minus c + minus e) (2 ^ 18 * unit + 2 ^ 52) (3 * tiny) r a in
    let y = approx_abs (sub binary64 c e) (plus c + minus e) (minus c + plus e) (2 ^ 18 * unit + 2 ^ 52) (3 * tiny) r s in
    record {
      low_good = s.good;
      high_good = a.good;
      low = low1 (plus c) (minus c) (plus e) (minus e) (plus (sub binary64 c e)) (minus (sub binary64 c e)) H tiny p m y.0;
      low' = low2 (plus c) (minus c) (plus e) (minus e) (plus (sub binary64 c e)) (minus (sub binary64 c e)) H tiny p m y.1;
      high = high1 (plus c) (minus c) (plus e) (minus e) (plus (add binary64 c e)) (minus (add binary64 c e)) H tiny p m x.1;
      high' = high2 (plus c) (minus c) (plus e) (minus e) (plus (add binary64 c e)) (minus (add binary64 c e)) H tiny p m x.0;
    }
  where
    one_way : (a b c d x H u : ℕ) → c ≡ H → d ≡ 0 → x ≡ a + b → x ≤ 2 ^ 17 * u → H ≤ 2 ^ 15 * u → a + c ≤ b + d + 2 ^ 18 * u
    one_way a b c d x H u e f g h i = omega arith

    two_way : (a b c d x H u : ℕ) → c ≡ H → d ≡ 0 → x ≡ a + b → x ≤ 2 ^ 17 * u → H ≤ 2 ^ 15 * u → b + d ≤ a + c + 2 ^ 18 * u
    two_way a b c d x H u e f g h i = omega arith

    three_way : (a b c d x H u : ℕ) → c ≡ H → d ≡ 0 → x ≡ a + b → x ≤ 2 ^ 17 * u → H ≤ 2 ^ 15 * u → a + d ≤ b + c + 2 ^ 18 * u
    three_way a b c d x H u e f g h i = omega arith

    four_way : (a b c d x H u : ℕ) → c ≡ H → d ≡ 0 → x ≡ a + b → x ≤ 2 ^ 17 * u → H ≤ 2 ^ 15 * u → b + c ≤ a + d + 2 ^ 18 * u
    four_way a b c d x H u e f g h i = omega arith

    low1 : (a b c d g h H t : ℕ) → c ≡ H → d ≡ 0 → g + (b + c) ≤ a + d + h + 3 * t → g + (b + H) ≤ a + h + 3 * t
    low1 a b c d g h H t e f k = omega arith

    low2 : (a b c d g h H t : ℕ) → c ≡ H → d ≡ 0 → a + d + h ≤ g + (b + c) + 3 * t → a + h ≤ g + (b + H) + 3 * t
    low2 a b c d g h H t e f k = omega arith

    high1 : (a b c d g h H t : ℕ) → c ≡ H → d ≡ 0 → a + c + h ≤ g + (b + d) + 3 * t → a + H + h ≤ g + b + 3 * t
    high1 a b c d g h H t e f k = omega arith

    high2 : (a b c d g h H t : ℕ) → c ≡ H → d ≡ 0 → g + (b + d) ≤ a + c + h + 3 * t → g + b ≤ a + H + h + 3 * t
    high2 a b c d g h H t e f k = omega arith

-- ---- the channels of q, of a frame x under the box, and of its centre
pub data Around (H : ℕ) : List Float → List Float → List Float → Type 0 where
  no_channel : Around H [] [] []
  channel : {q x c : Float} {qs xs cs : List Float} → Good q → Good x → Good c → mag c ≤ 2 ^ 17 * unit → gap q c ≤ 2 ^ 17 * unit → gap x c ≤ H + 6 * tiny → Around H qs xs cs → Around H (q ∷ qs) (x ∷ xs) (c ∷ cs)

pub data Member (k : List Float) : List (List Float) → Type 0 where
  here : {ls : List (List Float)} → Member k (k ∷ ls)
  there : {l : List Float} {ls : List (List Float)} → Member k ls → Member k (l ∷ ls)

pub in_low : (x y : Float) (k : List Float) (ls : List (List Float)) → Member k ls → Member (x ∷ k) (both x y ls)
unfolding both
in_low x y k [] m = elim m [ ]
in_low x y k (_ ∷ ls) here = here
in_low x y k (l ∷ ls) (there m) = there (there (in_low x y k ls m))

pub in_high : (x y : Float) (k : List Float) (ls : List (List Float)) → Member k ls → Member (y ∷ k) (both x y ls)
unfolding both
in_high x y k [] m = elim m [ ]
in_high x y k (_ ∷ ls) here = there here
in_high x y k (l ∷ ls) (there m) = there (there (in_high x y k ls m))

-- a corner whose gap to q is w in each channel, or more, but for 9 * 2 ^ -36
pub record Beyond (e : Float) (qs cs : List Float) (ws : List ℕ) : Type 0 where
  pub corner : List Float
  pub member : Member corner (corners cs e)
  pub near : Near qs corner
  pub beyond : Tri ws (gaps qs corner) (same (9 * tiny) qs)

reach_end : (a b c d g h k n m H u t : ℕ) → (a + h ≡ b + g + n) ⊎ (b + g ≡ a + h + n) → (a + d ≡ b + c + k) ⊎ (b + c ≡ a + d + k) → k ≤ 2 ^ 17 * u → H ≤ 2 ^ 15 * u → u ≡ 2 ^ 36 * t
    → g + d ≤ c + H + h + 3 * t → c + h ≤ g + d + H + 3 * t → n ≤ 2 ^ 18 * u
reach_end a b c d g h k n m H u t (inl x) (inl y) p q e r s = omega arith
reach_end a b c d g h k n m H u t (inl x) (inr y) p q e r s = omega arith
reach_end a b c d g h k n m H u t (inr x) (inl y) p q e r s = omega arith
reach_end a b c d g h k n m H u t (inr x) (inr y) p q e r s = omega arith

low_end : (q c e : Float) (H : ℕ) → Ends c e H → gap q c ≤ 2 ^ 17 * unit → H ≤ 2 ^ 15 * unit → gap q (sub binary64 c e) ≤ 2 ^ 18 * unit
low_end q c e H k g h = go (plus q) (minus q) (plus c) (minus c) (plus (sub binary64 c e)) (minus (sub binary64 c e)) (gap q c) (gap q (sub binary64 c e)) H unit tiny (gap_is q (sub binary64 c e)) (gap_is q c) g h unit_tiny k.low k.low'
  where
    go : (a b c d g h k n H u t : ℕ) → (a + h ≡ b + g + n) ⊎ (b + g ≡ a + h + n) → (a + d ≡ b + c + k) ⊎ (b + c ≡ a + d + k) → k ≤ 2 ^ 17 * u → H ≤ 2 ^ 15 * u → u ≡ 2 ^ 36 * t
        → g + (d + H) ≤ c + h + 3 * t → c + h ≤ g + (d + H) + 3 * t → n ≤ 2 ^ 18 * u
    go a b c d g h k n H u t x y p q e r s = reach_end a b c d g h k n n H u t x y p q e (first a b c d g h H t r) (second a b c d g h H t s)
      where
        first : (a b c d g h H t : ℕ) → g + (d + H) ≤ c + h + 3 * t → g + d ≤ c + H + h + 3 * t
        first a b c d g h H t r = omega arith

        second : (a b c d g h H t : ℕ) → c + h ≤ g + (d + H) + 3 * t → c + h ≤ g + d + H + 3 * t
        second a b c d g h H t r = omega arith

high_end : (q c e : Float) (H : ℕ) → Ends c e H → gap q c ≤ 2 ^ 17 * unit → H ≤ 2 ^ 15 * unit → gap q (add binary64 c e) ≤ 2 ^ 18 * unit
high_end q c e H k g h = go (plus q) (minus q) (plus c) (minus c) (plus (add binary64 c e)) (minus (add binary64 c e)) (gap q c) (gap q (add binary64 c e)) H unit tiny (gap_is q (add binary64 c e)) (gap_is q c) g h unit_tiny k.high k.high'
  where
    go : (a b c d g h k n H u t : ℕ) → (a + h ≡ b + g + n) ⊎ (b + g ≡ a + h + n) → (a + d ≡ b + c + k) ⊎ (b + c ≡ a + d + k) → k ≤ 2 ^ 17 * u → H ≤ 2 ^ 15 * u → u ≡ 2 ^ 36 * t
        → c + H + h ≤ g + d + 3 * t → g + d ≤ c + H + h + 3 * t → n ≤ 2 ^ 18 * u
    go a b c d g h k n H u t x y p q e r s = reach_end a b c d g h k n n H u t x y p q e s (second a b c d g h H t r)
      where
        second : (a b c d g h H t : ℕ) → c + H + h ≤ g + d + 3 * t → c + h ≤ g + d + H + 3 * t
        second a b c d g h H t r = omega arith

pub no_beyond : (e : Float) → Beyond e [] [] []
unfolding corners
no_beyond e = record { corner = []; member = here; near = no_more; beyond = none }

-- one channel more: one of its ends is w away
pub more_beyond : (H : ℕ) (q c e : Float) (w : ℕ) {qs cs : List Float} {ws : List ℕ} → Good q → gap q c ≤ 2 ^ 17 * unit → H ≤ 2 ^ 15 * unit → Ends c e H
    → (w ≤ gap q (sub binary64 c e) + 9 * tiny) ⊎ (w ≤ gap q (add binary64 c e) + 9 * tiny) → Beyond e qs cs ws → Beyond e (q ∷ qs) (c ∷ cs) (w ∷ ws)
unfolding corners
more_beyond H q c e w {qs} {cs} g b h k (inl f) r = record {
  corner = sub binary64 c e ∷ r.corner;
  member = in_low (sub binary64 c e) (add binary64 c e) r.corner (corners cs e) r.member;
  near = one g k.low_good (low_end q c e H k b h) r.near;
  beyond = more f r.beyond;
}
more_beyond H q c e w {qs} {cs} g b h k (inr f) r = record {
  corner = add binary64 c e ∷ r.corner;
  member = in_high (sub binary64 c e) (add binary64 c e) r.corner (corners cs e) r.member;
  near = one g k.high_good (high_end q c e H k b h) r.near;
  beyond = more f r.beyond;
}

-- the corner that lies beyond x as seen from q
beyond_is : (H : ℕ) (e : Float) → Is e false H → H ≤ 2 ^ 15 * unit → {qs xs cs : List Float} → Around H qs xs cs → Beyond e qs cs (gaps qs xs)
beyond_is H e i h no_channel = no_beyond e
beyond_is H e i h (channel {q} {x} {c} {qs} {xs} {cs} gq gx gc mc w v a) =
    let k = ends_are c e H gc mc i h in
    more_beyond H q c e (gap q x) gq w h k
    (ends (plus q) (minus q) (plus x) (minus x) (plus c) (minus c) (plus (sub binary64 c e)) (minus (sub binary64 c e)) (plus (add binary64 c e)) (minus (add binary64 c e)) (gap q x) (gap x c) (gap q (sub binary64 c e)) (gap q (add binary64 c e)) H tiny
    (gap_is q x) (gap_is x c) v (gap_is q (sub binary64 c e)) (gap_is q (add binary64 c e)) k.low k.high) (beyond_is H e i h a)

-- every corner is near q
pub data Nears (qs : List Float) : List (List Float) → Type 0 where
  no_row : Nears qs []
  row : {l : List Float} {ls : List (List Float)} → Near qs l → Nears qs ls → Nears qs (l ∷ ls)

both_near : (q x y : Float) (qs : List Float) → Good q → Good x → Good y → gap q x ≤ 2 ^ 18 * unit → gap q y ≤ 2 ^ 18 * unit → (ls : List (List Float)) → Nears qs ls → Nears (q ∷ qs) (both x y ls)
unfolding both
both_near q x y qs gq gx gy a b [] no_row = no_row
both_near q x y qs gq gx gy a b (l ∷ ls) (row n r) = row (one gq gx a n) (row (one gq gy b n) (both_near q x y qs gq gx gy a b ls r))

all_near : (H : ℕ) (e : Float) → Is e false H → H ≤ 2 ^ 15 * unit → {qs xs cs : List Float} → Around H qs xs cs → Nears qs (corners cs e)
unfolding corners
all_near H e i h no_channel = row no_more no_row
all_near H e i h (channel {q} {x} {c} {qs} {xs} {cs} gq gx gc mc w v a) =
    let k = ends_are c e H gc mc i h in
    both_near q (sub binary64 c e) (add binary64 c e) qs gq k.low_good k.high_good (low_end q c e H k w h) (high_end q c e H k w h) (corners cs e) (all_near H e i h a)

-- what is farther than each is nearer than ext: so is each
module _ (b d ext : Float) (g : Good b) (k : Good d) (x : Good ext) where
  lower : T (lt d ext) → plus b + minus d ≤ plus d + minus b → T (lt b ext)
  lower l h =
      subst T (sym (lt_is b ext g x)) (lt→ltb (plus b + minus ext) (plus ext + minus b)
      (through (plus b) (minus b) (plus d) (minus d) (plus ext) (minus ext) h (ltb→lt (plus d + minus ext) (plus ext + minus d) (subst T (lt_is d ext k x) l))))
    where
      through : (a b c d e f : ℕ) → a + d ≤ c + b → c + f < e + d → a + f < e + b
      through a b c d e f h l = omega arith

larger_good : (b d : Float) → Good b → Good d → Good (cond (lt b d) d b)
larger_good b d g k = go (lt b d)
  where
    go : (t : Bool) → Good (cond t d b)
    go true = k
    go false = g

larger_nearer : (b d ext : Float) → Good b → Good d → Good ext → T (lt (cond (lt b d) d b) ext) → T (lt b ext) × T (lt d ext)
larger_nearer b d ext g k x l = go (lt b d) (lt_is b d g k) l
  where
    go : (t : Bool) → t ≡ ltb (plus b + minus d) (plus d + minus b) → T (lt (cond t d b) ext) → T (lt b ext) × T (lt d ext)
    go true e h = (lower b d ext g k x h (le_of_lt (ltb→lt (plus b + minus d) (plus d + minus b) (subst T e tt))), h)
    go false e h = (h, lower d b ext k g x h (nltb→le (plus b + minus d) (plus d + minus b) (subst (λ (t : Bool). T (not t)) e tt)))

from_nearer : (b ext : Float) (qs : List Float) (ls : List (List Float)) → Good b → Good ext → length qs ≤ 4 → Nears qs ls → T (lt (farthest_from b qs ls) ext) → T (lt b ext) × ((k : List Float) → Member k ls → T (lt (distance qs k) ext))
unfolding farthest_from
from_nearer b ext qs [] g x l n t = (t, λ k m. none k m)
  where
    none : (k : List Float) → Member k [] → T (lt (distance qs k) ext)
    none k m = elim m [ ]
from_nearer b ext qs (r ∷ ls) g x l (row n ns) t =
    let d = (dist_good n l).0 in
    let f = from_nearer (cond (lt b (distance qs r)) (distance qs r) b) ext qs ls (larger_good b (distance qs r) g d) x l ns t in
    let w = larger_nearer b (distance qs r) ext g d x f.0 in
    (w.0, λ k m. each k m w.1 f.1)
  where
    each : (k : List Float) → Member k (r ∷ ls) → T (lt (distance qs r) ext) → ((k : List Float) → Member k ls → T (lt (distance qs k) ext)) → T (lt (distance qs k) ext)
    each _ here u f = u
    each k (there m) u f = f k m

nearer : (qs k : List Float) (ext : Float) (ls : List (List Float)) → Good ext → length qs ≤ 4 → Nears qs ls → Member k ls → T (lt (farthest qs ls) ext) → T (lt (distance qs k) ext)
unfolding farthest
nearer qs k ext ls x l n m t = (from_nearer (float 0) ext qs ls (of_int_pos 0 (lit≤ tt)).good x l n t).1 k m

module _ (H : ℕ) (e ext : Float) (i : Is e false H) (h : H ≤ 2 ^ 15 * unit) (g : Good ext) (s : sign ext ≡ false) (b : mag ext ≤ 2 ^ 17 * unit) {qs xs cs : List Float} (a : Around H qs xs cs) (l : length qs ≤ 4) where
  -- where the farthest corner is nearer than ext, what a corner lies beyond is no longer than ext, but for the roundings
  pub corners_within : {ws : List ℕ} → Beyond e qs cs ws → T (lt (farthest qs (corners cs e)) ext) → squares ws ≤ (mag ext + 600 * tiny) * (mag ext + 600 * tiny)
  corners_within r t =
      let k = r.corner in
      let z = mag (distance qs k) in
      let dg = dist_good r.near l in
      let P : 1 ≤ tiny = omega (arith, tiny_large) in
      let c : plus (distance qs k) + minus ext < plus ext + minus (distance qs k) = ltb→lt (plus (distance qs k) + minus ext) (plus ext + minus (distance qs k)) (subst T (lt_is (distance qs k) ext dg.0 g) (nearer qs k ext (corners cs e) g l (all_near H e i h a) r.member t)) in
      let zl : z < mag ext = below (plus (distance qs k)) (minus (distance qs k)) (plus ext) (minus ext) z (mag ext) (plus_pos (distance qs k) dg.1) (minus_pos (distance qs k) dg.1) (plus_pos ext s) (minus_pos ext s) c in
      let w = by_contra (squares (gaps qs k)) ((z + 512 * tiny + 1) * (z + 512 * tiny + 1)) (λ f.
      more_than (z + 512 * tiny) (dist_low r.near l (z + 512 * tiny + 1) (bounds z (mag ext) unit tiny unit_tiny b P zl) (le_of_lt f))) in
      le_trans (triangle (z + 512 * tiny + 1) (2 * (9 * tiny)) r.beyond w (same_short (9 * tiny) qs l)) (sq_mono (total z (mag ext) tiny P zl))
    where
      below : (a b c d z e : ℕ) → a ≡ z → b ≡ 0 → c ≡ e → d ≡ 0 → a + d < c + b → z < e
      below a b c d z e i j k l h = omega arith

      more_than : (x : ℕ) → x + 1 ≤ x → ⊥
      more_than x h = omega arith

      bounds : (z E u t : ℕ) → u ≡ 2 ^ 36 * t → E ≤ 2 ^ 17 * u → 1 ≤ t → z < E → z + 512 * t + 1 ≤ 2 ^ 55 * t
      bounds z E u t e b p h = omega arith

      total : (z E t : ℕ) → 1 ≤ t → z < E → z + 512 * t + 1 + 2 * (9 * t) ≤ E + 600 * t
      total z E t p h = omega arith

  pub corners_right : T (lt (farthest qs (corners cs e)) ext) → squares (gaps qs xs) < mag ext * mag ext + unit * unit
  corners_right t = lt_of_le_of_lt (corners_within (beyond_is H e i h a) t) (reach_sum (mag ext) unit tiny unit_tiny (omega (arith, tiny_large)) b)
