-- The size of a value as one number, its rank: an infinity lies above all others. Rounding keeps the order of ranks, and so do sums, squares and roots, whatever overflows.
use Rattle.std.specs.Prelude.{◌≡◌, ℕ, zero, suc, ◌+◌, ◌*◌, ◌^◌, ◌<◌, ◌≤◌, Bool, true, false, cond, not, T, ltb, ◌⊎◌, nat_lt, refl, Float}
use Rattle.std.proofs.Common.{sym, ap, ap₂, ◌∙◌, subst, inl, inr, true≢false, le_trans, le_of_eq, le_of_lt, not-le_of_lt, mul-le-mul_right, mul-pos, add-zero, lt-ltb, le-ltb}
use native.Mathlib.Omega.{arith, by_contra}
use Rattle.std.specs.Float.{nan, inf, fin}
use Rattle.std.specs.Float.Ieee.{binary64, fits, is_nan, up, down, unlike, odd, units, round, add, mul, lt, le, eq}
use Rattle.std.specs.Float.Ieee.Fits.{round_is, round-fits}
use Rattle.std.specs.Float.Ieee.Order.{round_mono}
use Rattle.std.specs.Float.Ieee.Scale.{finite}
use Rattle.ring.specs.Nat.{sq_mono}
use Rattle.ieee754.specs.Value.{unit, unit_pos, mag, sign, Good}
use Rattle.ieee754.specs.Ops.{plus, minus, plus_pos, minus_pos, plus_neg, minus_neg, SumOf, above, below, add_pos, mul_of}
use Rattle.ieee754.specs.Compare.{lt_is}
use Rattle.ieee754.specs.Exact.{Rep, round_same_rep, positive_mag, good_finite, fits_good, fits_below}
use Rattle.ieee754.specs.Root.{root}
use Rattle.ieee754.specs.RootLaw.{scale, whole_of, stick, root_of_is}
use Rattle.ieee754.specs.RootNearest.{root_placed}

-- above every finite value
unfoldable pub top : ℕ
top = 2 ^ 2098

unfoldable pub rank : Float → ℕ
unfolding mag top
rank nan = 0
rank (inf s) = top
rank (fin s m e) = mag (fin s m e)

-- a value of the format that is not NaN
pub record Number (x : Float) : Type 0 where
  pub held : T (fits binary64 x)
  pub known : T (not (is_nan x))

-- one that is not negative either
pub record Size (x : Float) : Type 0 where
  pub held : T (fits binary64 x)
  pub known : T (not (is_nan x))
  pub sign_is : sign x ≡ false

pub number : {x : Float} → Size x → Number x
number s = record { held = s.held; known = s.known }

-- ---- what a value can be
pub data Kind (x : Float) (s : Bool) : Type 0 where
  endless : x ≡ inf s → rank x ≡ top → Kind x s
  ended : Good x → sign x ≡ s → Rep (mag x) → rank x ≡ mag x → mag x < top → Kind x s

pub kind : (x : Float) → Number x → Kind x (sign x)
unfolding is_nan sign rank top
kind nan n = absurd n.known
kind (inf s) n = endless refl refl
kind (fin s m e) n = let g = fits_good (fin s m e) n.held tt in ended g.0 refl g.1 refl (fits_below (fin s m e) n.held tt)

pub size_kind : (x : Float) → Size x → Kind x false
size_kind x s = subst (Kind x) s.sign_is (kind x (number s))

pub rank_top : (x : Float) → Number x → rank x ≤ top
rank_top x n = elim (kind x n) [ endless e r ↦ le_of_eq r | ended g s p r l ↦ le_trans (le_of_eq r) (le_of_lt l) ]

rank_lt : (x : Float) → T (fits binary64 x) → T (finite x) → mag x < top
unfolding top
rank_lt x f t = fits_below x f t

good_rank : (x : Float) → Good x → rank x ≡ mag x
unfolding Good rank
good_rank nan g = absurd g
good_rank (inf s) g = absurd g
good_rank (fin s m e) g = refl

-- ---- the comparisons of values that are not negative
pub lt_rank : (x y : Float) → Size x → Size y → lt x y ≡ nat_lt (rank x) (rank y)
unfolding lt rank sign is_nan
lt_rank nan y s t = absurd s.known
lt_rank (inf true) y s t = absurd (true≢false s.sign_is)
lt_rank (inf false) nan s t = absurd t.known
lt_rank (inf false) (inf v) s t = sym (le-ltb top top (le_of_eq refl))
lt_rank (inf false) (fin v n d) s t = sym (le-ltb top (mag (fin v n d)) (rank_top (fin v n d) (number t)))
lt_rank (fin u m e) nan s t = absurd t.known
lt_rank (fin u m e) (inf true) s t = absurd (true≢false t.sign_is)
lt_rank (fin u m e) (inf false) s t = sym (lt-ltb (mag (fin u m e)) top (rank_lt (fin u m e) s.held tt))
lt_rank (fin u m e) (fin v n d) s t =
    let x = fin u m e in
    let y = fin v n d in
    lt_is x y (fits_good x s.held tt).0 (fits_good y t.held tt).0
    ∙ ap₂ ltb (ap₂ ◌+◌ (plus_pos x s.sign_is) (minus_pos y t.sign_is) ∙ add-zero (mag x)) (ap₂ ◌+◌ (plus_pos y t.sign_is) (minus_pos x s.sign_is) ∙ add-zero (mag y))

pub le_rank : (x y : Float) → Size x → Size y → T (le x y) → rank x ≤ rank y
unfolding le lt eq rank sign is_nan
le_rank nan y s t h = absurd s.known
le_rank (inf true) y s t h = absurd (true≢false s.sign_is)
le_rank (inf false) nan s t h = absurd t.known
le_rank (inf false) (inf v) s t h = le_of_eq refl
le_rank (inf false) (fin v n d) s t h = absurd h
le_rank (fin u m e) nan s t h = absurd t.known
le_rank (fin u m e) (inf v) s t h = rank_top (fin u m e) (number s)
le_rank (fin u m e) (fin v n d) s t h = positive_mag (fin u m e) (fin v n d) (fits_good (fin u m e) s.held tt).0 (fits_good (fin v n d) t.held tt).0 s.sign_is t.sign_is h

-- ---- rounding
units_sign : (s : Bool) (q k : ℕ) → (sign (units binary64 s q k) ≡ s) × T (not (is_nan (units binary64 s q k)))
unfolding units odd sign is_nan
units_sign s q k = go (nat_lt (q * 2 ^ k) (2 ^ 2098)) q
  where
    go : (b : Bool) (q : ℕ) → (sign (cond b (odd 54 s q k 1074) (inf s)) ≡ s) × T (not (is_nan (cond b (odd 54 s q k 1074) (inf s))))
    go false q = (refl, tt)
    go true zero = (refl, tt)
    go true (suc q) = (refl, tt)

units_rank : (s t : Bool) (q k : ℕ) → rank (units binary64 s q k) ≡ rank (units binary64 t q k)
unfolding units odd rank mag
units_rank s t q k = go (nat_lt (q * 2 ^ k) (2 ^ 2098)) q
  where
    go : (b : Bool) (q : ℕ) → rank (cond b (odd 54 s q k 1074) (inf s)) ≡ rank (cond b (odd 54 t q k 1074) (inf t))
    go false q = refl
    go true zero = refl
    go true (suc q) = refl

pub round_number : (s : Bool) (a c : ℕ) → Number (round binary64 s a c)
round_number s a c = record { held = round-fits binary64 s a c; known = subst (λ (x : Float). T (not (is_nan x))) (sym (round_is binary64 s a c)) (units_sign s _ _).1 }

pub round_sign : (s : Bool) (a c : ℕ) → sign (round binary64 s a c) ≡ s
round_sign s a c = ap sign (round_is binary64 s a c) ∙ (units_sign s _ _).0

pub round_size : (a c : ℕ) → Size (round binary64 false a c)
round_size a c = let n = round_number false a c in record { held = n.held; known = n.known; sign_is = round_sign false a c }

pub round_rank : (s t : Bool) (a b c d : ℕ) → 0 < b → 0 < d → a * d ≤ c * b → rank (round binary64 s a b) ≤ rank (round binary64 t c d)
round_rank s t a b c d B D h =
    le_trans (le_of_eq (same s a b)) (le_trans (le_rank (round binary64 false a b) (round binary64 false c d) (round_size a b) (round_size c d) (round_mono binary64 a b c d B D h)) (le_of_eq (sym (same t c d))))
  where
    same : (s : Bool) (a b : ℕ) → rank (round binary64 s a b) ≡ rank (round binary64 false a b)
    same s a b = ap rank (round_is binary64 s a b) ∙ units_rank s false _ _ ∙ sym (ap rank (round_is binary64 false a b))

pub units_order : (s t : Bool) (m n : ℕ) → m ≤ n → rank (round binary64 s m unit) ≤ rank (round binary64 t n unit)
units_order s t m n h = round_rank s t m unit n unit unit_pos unit_pos (mul-le-mul_right unit h)

-- ---- sums: A - B against A' - B', rounded
module _ (z z' : Float) (A B A' B' : ℕ) where
  rounded : (s t : Bool) (n n' : ℕ) → z ≡ round binary64 s n unit → z' ≡ round binary64 t n' unit → n ≤ n' → rank z ≤ rank z'
  rounded s t n n' e e' h = le_trans (le_of_eq (ap rank e)) (le_trans (units_order s t n n' h) (le_of_eq (sym (ap rank e'))))

  pub sum_up : SumOf z A B → SumOf z' A' B' → B ≤ A → A + B' ≤ A' + B → rank z ≤ rank z'
  sum_up (above n e d) (above n' e' d') h k = rounded false false n n' e e' (omega arith)
  sum_up (above n e d) (below n' e' d') h k = rounded false true n n' e e' (omega arith)
  sum_up (below n e d) (above n' e' d') h k = rounded true false n n' e e' (omega arith)
  sum_up (below n e d) (below n' e' d') h k = rounded true true n n' e e' (omega arith)

  pub sum_down : SumOf z A B → SumOf z' A' B' → A ≤ B → A' + B ≤ A + B' → rank z ≤ rank z'
  sum_down (above n e d) (above n' e' d') h k = rounded false false n n' e e' (omega arith)
  sum_down (above n e d) (below n' e' d') h k = rounded false true n n' e e' (omega arith)
  sum_down (below n e d) (above n' e' d') h k = rounded true false n n' e e' (omega arith)
  sum_down (below n e d) (below n' e' d') h k = rounded true true n n' e e' (omega arith)

-- z ≤ P - M, and z ≥ P - M
pub data Under (z : Float) (P M : ℕ) : Type 0 where
  lowest : z ≡ inf true → Under z P M
  under : Good z → plus z + M ≤ P + minus z → Under z P M

pub data Over (z : Float) (P M : ℕ) : Type 0 where
  highest : z ≡ inf false → Over z P M
  over : Good z → P + minus z ≤ plus z + M → Over z P M

pub sum_number : (z : Float) (A B : ℕ) → SumOf z A B → Number z
sum_number z A B (above n e d) = subst Number (sym e) (round_number false n unit)
sum_number z A B (below n e d) = subst Number (sym e) (round_number true n unit)

-- a sum keeps its order with a value of the format, of which P or M is the size
module _ (z : Float) (A B P M : ℕ) (one : (P ≡ 0) ⊎ (M ≡ 0)) (rep : Rep (P + M)) (small : P + M < top) where
  kept : (s : Bool) → rank (round binary64 s (P + M) unit) ≡ P + M
  unfolding top
  kept s = let i = round_same_rep s (P + M) rep small in good_rank (round binary64 s (P + M) unit) i.good ∙ i.mag_is

  pub sum_under : SumOf z A B → A + M ≤ P + B → Under z P M
  sum_under (above n e d) h = go (subst (Kind z) (ap sign e ∙ round_sign false n unit) (kind z (sum_number z A B (above n e d))))
    where
      r : rank z ≤ P + M
      r = le_trans (le_of_eq (ap rank e)) (le_trans (units_order false false n (P + M) (omega arith)) (le_of_eq (kept false)))

      go : Kind z false → Under z P M
      go (endless i t) = absurd (not-le_of_lt small (le_trans (le_of_eq (sym t)) r))
      go (ended g s _ t _) = under g (less one (plus_pos z s) (minus_pos z s))
        where
          less : (P ≡ 0) ⊎ (M ≡ 0) → plus z ≡ mag z → minus z ≡ 0 → plus z + M ≤ P + minus z
          less (inl x) p m = omega (arith, r)
          less (inr x) p m = omega (arith, r)
  sum_under (below n e d) h = go (subst (Kind z) (ap sign e ∙ round_sign true n unit) (kind z (sum_number z A B (below n e d))))
    where
      go : Kind z true → Under z P M
      go (endless i t) = lowest i
      go (ended g s _ t _) = under g (less one (plus_neg z s) (minus_neg z s))
        where
          less : (P ≡ 0) ⊎ (M ≡ 0) → plus z ≡ 0 → minus z ≡ mag z → plus z + M ≤ P + minus z
          less (inl x) p m = let r = le_trans (le_of_eq (sym (kept true))) (le_trans (units_order true true (P + M) n (omega arith)) (le_of_eq (sym (ap rank e)))) in omega arith
          less (inr x) p m = omega arith

  pub sum_over : SumOf z A B → P + B ≤ A + M → Over z P M
  sum_over (above n e d) h = go (subst (Kind z) (ap sign e ∙ round_sign false n unit) (kind z (sum_number z A B (above n e d))))
    where
      go : Kind z false → Over z P M
      go (endless i t) = highest i
      go (ended g s _ t _) = over g (more one (plus_pos z s) (minus_pos z s))
        where
          more : (P ≡ 0) ⊎ (M ≡ 0) → plus z ≡ mag z → minus z ≡ 0 → P + minus z ≤ plus z + M
          more (inl x) p m = omega arith
          more (inr x) p m = let r = le_trans (le_of_eq (sym (kept false))) (le_trans (units_order false false (P + M) n (omega arith)) (le_of_eq (sym (ap rank e)))) in omega arith
  sum_over (below n e d) h = go (subst (Kind z) (ap sign e ∙ round_sign true n unit) (kind z (sum_number z A B (below n e d))))
    where
      r : rank z ≤ P + M
      r = le_trans (le_of_eq (ap rank e)) (le_trans (units_order true true n (P + M) (omega arith)) (le_of_eq (kept true)))

      go : Kind z true → Over z P M
      go (endless i t) = absurd (not-le_of_lt small (le_trans (le_of_eq (sym t)) r))
      go (ended g s _ t _) = over g (more one (plus_neg z s) (minus_neg z s))
        where
          more : (P ≡ 0) ⊎ (M ≡ 0) → plus z ≡ 0 → minus z ≡ mag z → P + minus z ≤ plus z + M
          more (inl x) p m = omega (arith, r)
          more (inr x) p m = omega (arith, r)

-- ---- sums of values that are not negative
pub top_size : Size (inf false)
unfolding fits is_nan sign
top_size = record { held = tt; known = tt; sign_is = refl }

pub top_left : (y : Float) → Size y → add binary64 (inf false) y ≡ inf false
unfolding add is_nan sign
top_left nan t = absurd t.known
top_left (inf true) t = absurd (true≢false t.sign_is)
top_left (inf false) t = refl
top_left (fin v n d) t = refl

top_right : (x : Float) → Size x → add binary64 x (inf false) ≡ inf false
unfolding add is_nan sign
top_right nan t = absurd t.known
top_right (inf true) t = absurd (true≢false t.sign_is)
top_right (inf false) t = refl
top_right (fin v n d) t = refl

pub add_size : (x y : Float) → Size x → Size y → Size (add binary64 x y)
add_size x y s t = go (size_kind x s) (size_kind y t)
  where
    go : Kind x false → Kind y false → Size (add binary64 x y)
    go (endless e _) k = subst Size (sym (ap (λ (w : Float). add binary64 w y) e ∙ top_left y t)) top_size
    go (ended _ _ _ _ _) (endless e _) = subst Size (sym (ap (add binary64 x) e ∙ top_right x s)) top_size
    go (ended g p _ _ _) (ended k q _ _ _) = subst Size (sym (add_pos x y g k p q)) (round_size (mag x + mag y) unit)

top_rank : (x : Float) → x ≡ inf false → rank x ≡ top
unfolding rank
top_rank x e = ap rank e

beyond : (a b m : ℕ) → a ≡ top → b ≡ m → m < top → a ≤ b → ⊥
beyond a b m e f h k = omega arith

pub add_rank : (x y x' y' : Float) → Size x → Size y → Size x' → Size y' → rank x ≤ rank x' → rank y ≤ rank y' → rank (add binary64 x y) ≤ rank (add binary64 x' y')
add_rank x y x' y' s t s' t' h k = go (size_kind x s) (size_kind y t) (size_kind x' s') (size_kind y' t')
  where
    most : add binary64 x' y' ≡ inf false → rank (add binary64 x y) ≤ rank (add binary64 x' y')
    most e = le_trans (rank_top (add binary64 x y) (number (add_size x y s t))) (le_of_eq (sym (top_rank (add binary64 x' y') e)))

    go : Kind x false → Kind y false → Kind x' false → Kind y' false → rank (add binary64 x y) ≤ rank (add binary64 x' y')
    go _ _ (endless e _) _ = most (ap (λ (w : Float). add binary64 w y') e ∙ top_left y' t')
    go _ _ (ended _ _ _ _ _) (endless e _) = most (ap (add binary64 x') e ∙ top_right x' s')
    go (endless _ r) _ (ended _ _ _ r' l) (ended _ _ _ _ _) = absurd (beyond (rank x) (rank x') (mag x') r r' l h)
    go (ended _ _ _ _ _) (endless _ r) (ended _ _ _ _ _) (ended _ _ _ r' l) = absurd (beyond (rank y) (rank y') (mag y') r r' l k)
    go (ended g p _ r _) (ended i q _ w _) (ended g' p' _ r' _) (ended i' q' _ w' _) =
        le_trans (le_of_eq (ap rank (add_pos x y g i p q)))
        (le_trans (units_order false false (mag x + mag y) (mag x' + mag y') (omega arith)) (le_of_eq (sym (ap rank (add_pos x' y' g' i' p' q')))))

-- ---- squares
alike : (s : Bool) → unlike s s ≡ false
alike true = refl
alike false = refl

top_square : (s : Bool) → mul binary64 (inf s) (inf s) ≡ inf false
unfolding mul
top_square true = refl
top_square false = refl

square_of : (x : Float) → Good x → mul binary64 x x ≡ round binary64 false (mag x * mag x) (unit * unit)
square_of x g = mul_of x x g g ∙ ap (λ (s : Bool). round binary64 s (mag x * mag x) (unit * unit)) (alike (sign x))

top_squared : (x : Float) (s : Bool) → x ≡ inf s → mul binary64 x x ≡ inf false
top_squared x s e = ap (λ (w : Float). mul binary64 w w) e ∙ top_square s

pub square_size : (x : Float) → Number x → Size (mul binary64 x x)
square_size x n = elim (kind x n) [ endless e r ↦ subst Size (sym (top_squared x (sign x) e)) top_size | ended g s p r l ↦ subst Size (sym (square_of x g)) (round_size (mag x * mag x) (unit * unit)) ]

pub square_rank : (x y : Float) → Number x → Number y → rank x ≤ rank y → rank (mul binary64 x x) ≤ rank (mul binary64 y y)
square_rank x y m n h = go (kind x m) (kind y n)
  where
    go : Kind x (sign x) → Kind y (sign y) → rank (mul binary64 x x) ≤ rank (mul binary64 y y)
    go _ (endless e _) = le_trans (rank_top (mul binary64 x x) (number (square_size x m))) (le_of_eq (sym (top_rank (mul binary64 y y) (top_squared y (sign y) e))))
    go (endless _ r) (ended _ _ _ r' l) = absurd (beyond (rank x) (rank y) (mag y) r r' l h)
    go (ended g _ _ r _) (ended k _ _ r' _) =
        le_trans (le_of_eq (ap rank (square_of x g)))
        (le_trans (round_rank false false (mag x * mag x) (unit * unit) (mag y * mag y) (unit * unit) (mul-pos unit_pos unit_pos) (mul-pos unit_pos unit_pos) (mul-le-mul_right (unit * unit) (sq_mono (le_trans (le_of_eq (sym r)) (le_trans h (le_of_eq r'))))))
        (le_of_eq (sym (ap rank (square_of y k)))))

-- ---- roots
pub root_held : (x : Float) → T (fits binary64 x) → T (fits binary64 (root x))
unfolding root fits
root_held nan f = tt
root_held (inf true) f = tt
root_held (inf false) f = tt
root_held (fin s zero e) f = f
root_held (fin true (suc m) e) f = tt
root_held (fin false (suc m) e) f =
    let a = suc m * up e in
    let c = down e in
    subst (λ (z : Float). T (fits binary64 z)) (sym (root_of_is a c)) (round-fits binary64 false (2 * whole_of a c + stick (whole_of a c) (a * scale c * 2 ^ 54)) (2 * scale c))

root_top : root (inf false) ≡ inf false
unfolding root
root_top = refl

pub good_known : (x : Float) → Good x → T (not (is_nan x))
unfolding Good is_nan
good_known nan g = absurd g
good_known (inf s) g = tt
good_known (fin s m e) g = tt

pub root_size : (x : Float) → Size x → Size (root x)
root_size x s = go (size_kind x s)
  where
    go : Kind x false → Size (root x)
    go (endless e _) = subst Size (sym (ap root e ∙ root_top)) top_size
    go (ended g p _ _ _) = let w = root_placed x s.held (good_finite x g) p in record { held = root_held x s.held; known = good_known (root x) w.good; sign_is = w.sign_is }

pub root_rank : (x y : Float) → Size x → Size y → rank x ≤ rank y → rank (root x) ≤ rank (root y)
root_rank x y s t h = go (size_kind x s) (size_kind y t)
  where
    go : Kind x false → Kind y false → rank (root x) ≤ rank (root y)
    go _ (endless e _) = le_trans (rank_top (root x) (number (root_size x s))) (le_of_eq (sym (top_rank (root y) (ap root e ∙ root_top))))
    go (endless _ r) (ended _ _ _ r' l) = absurd (beyond (rank x) (rank y) (mag y) r r' l h)
    go (ended g p _ r _) (ended k q _ r' _) =
        let v = root_placed x s.held (good_finite x g) p in
        let w = root_placed y t.held (good_finite y k) q in
        let m = (fits_good (root x) (root_held x s.held) (good_finite (root x) v.good)).1 in
        let n = (fits_good (root y) (root_held y t.held) (good_finite (root y) w.good)).1 in
        le_trans (le_of_eq (good_rank (root x) v.good))
        (le_trans (by_contra (mag (root x)) (mag (root y))
        (λ l. clash (mag (root x)) (mag (root y)) (mag x * unit) (mag y * unit) (mul-le-mul_right unit (le_trans (le_of_eq (sym r)) (le_trans h (le_of_eq r')))) (v.below (mag (root y)) n l) (w.above (mag (root x)) m l)))
        (le_of_eq (sym (good_rank (root y) w.good))))
      where
        clash : (a b n m : ℕ) → n ≤ m → (b + a) * (b + a) ≤ 4 * n → 4 * m < (a + b) * (a + b) → ⊥
        clash a b n m h i j = omega arith
