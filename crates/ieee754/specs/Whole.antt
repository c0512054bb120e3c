-- Whole floats: their squares and sums are exact, and their root is at most a whole number t exactly where they are at most t * t.
use Rattle.std.specs.Prelude.{◌≡◌, ℕ, zero, suc, ◌+◌, ◌-◌, ◌*◌, ◌^◌, ◌<◌, ◌≤◌, Bool, true, false, cond, T, [], ◌∷◌, pos, nat_lt, refl, Float}
use Rattle.std.proofs.Common.{sym, ap, ap₂, ◌∙◌, subst, true≢false, zero-le, le_trans, le_of_eq, lt_of_le_of_lt, lt_of_lt_of_le, mul-le-mul, mul-le-mul_right, mul-pos, add-mul, zero-lt-suc, lt_of_not-le, le_of_lt, mul_right_comm, arith, ltb→lt, lit<, lit≤, pow_pos}
use Rattle.std.proofs.Math.Nat.{eq_of_mul-eq-mul_right}
use Rattle.std.specs.Float.{nan, inf, fin, binary64}
use Rattle.std.specs.Float.Ieee.{round, add, mul, unlike, up, down}
use Rattle.std.specs.Float.Ieee.Fits.{up_pos, down_pos}
use Rattle.ring.proofs.Ring.{ringℕ, poly, done}
use Rattle.ring.proofs.Order.{belowℕ, num, slackℕ, ◌⊞◌, ◌⊠◌, nil, diffℕ, ◌⊙◌}
use Rattle.ring.specs.Nat.{sq_le_back, sq_lt_back}
use Rattle.ieee754.specs.Value.{unit, unit_pos, tiny, unit_tiny, tiny_large, mag, sign, Good, Is}
use Rattle.ieee754.specs.Ops.{add_pos}
use Rattle.ieee754.specs.Exact.{rep_whole, round_rep, round_le, mul_exact}
use Rattle.ieee754.specs.Root.{root_of, root}
use Rattle.ieee754.specs.RootLaw.{isqrt_root, root_of_is, scale, whole_of, stick, fits_in, zero_mag, root_near, reach}

-- ---- the root of a whole number n against a whole number t
stick_cases : (r x y : ℕ) → r * r ≤ x → x ≤ y * y → 2 * r + stick r x ≤ 2 * y
stick_cases r x y h k = go (nat_lt (r * r) x) (ltb→lt (r * r) x)
  where
    go : (b : Bool) → (T b → r * r < x) → 2 * r + cond b 1 0 ≤ 2 * y
    go true f = let l : r < y = sq_lt_back r y (lt_of_lt_of_le (f tt) k) in omega arith
    go false f = let l : r ≤ y = sq_le_back r y (le_trans h k) in omega arith

-- a / c is n ≤ t * t
root_of_whole : (a c n t : ℕ) → 0 < a → 0 < c → a ≤ 2 ^ 100 * c → a ≡ n * c → n ≤ t * t → t < 2 ^ 53 → mag (root_of a c) ≤ t * unit
root_of_whole a c n t A C S e h b =
    let l = scale c in
    let x = a * l * 2 ^ 54 in
    let r = whole_of a c in
    let k : x ≤ t * l * (t * l) = belowℕ (a ∷ c ∷ n ∷ t ∷ []) (slackℕ h ⊠ num (l * l) ⊞ nil (pos (l * 2 ^ 54) ⊙ diffℕ (sym e))) (search poly depth 30) done in
    let s : 2 * r + stick r x ≤ 2 * (t * l) = stick_cases r x (t * l) (isqrt_root x).0 k in
    subst (λ (z : Float). mag z ≤ t * unit) (sym (root_of_is a c))
    (round_le (2 * r + stick r x) (2 * l) (t * unit) (mul-pos (zero-lt-suc 1) (mul-pos C (pow_pos 54))) (rep_whole t b) (mul-le-mul_right unit (le_trans (le_of_lt b) (lit≤ tt))) (fits_in a c A C S)
    (le_trans (mul-le-mul_right unit s) (le_of_eq (ringℕ (t ∷ l ∷ unit ∷ []) (search poly depth 30) done))))

-- a * u = M * c and M = n * u
whole_fraction : (a u M c n : ℕ) → 0 < u → a * u ≡ M * c → M ≡ n * u → a ≡ n * c
whole_fraction a u M c n U g m = eq_of_mul-eq-mul_right u U a (n * c) (g ∙ ap (λ (z : ℕ). z * c) m ∙ mul_right_comm n u c)

pub root_whole_le : (x : Float) (n t : ℕ) → Good x → sign x ≡ false → mag x ≡ n * unit → n ≤ 2 ^ 100 → n ≤ t * t → t < 2 ^ 53 → mag (root x) ≤ t * unit
unfolding root Good sign
root_whole_le nan n t g s m b h k = absurd g
root_whole_le (inf q) n t g s m b h k = absurd g
root_whole_le (fin q zero e) n t g s m b h k = le_trans (le_of_eq (zero_mag q e)) zero-le
root_whole_le (fin true (suc j) e) n t g s m b h k = absurd (true≢false s)
root_whole_le (fin false (suc j) e) n t g s m b h k =
    root_of_whole (suc j * up e) (down e) n t (mul-pos (zero-lt-suc j) (up_pos e)) (down_pos e)
    (reach (suc j * up e) unit (mag (fin false (suc j) e)) (down e) (2 ^ 100) unit_pos g (le_trans (le_of_eq m) (mul-le-mul_right unit b)))
    (whole_fraction (suc j * up e) unit (mag (fin false (suc j) e)) (down e) n unit_pos g m) h k

too_far : (x z y : ℕ) → x ≤ 2 ^ 52 * y → 1 ≤ y → z ≤ x → 2 ^ 50 * (x + 2 ^ 18 * y) ≤ 2 ^ 50 * z + z + 2 ^ 50 → ⊥
too_far x z y a b c d = omega arith

-- where n is more than t * t the root is more than t
pub root_whole_lt : (x : Float) (n t : ℕ) → Good x → sign x ≡ false → mag x ≡ n * unit → n ≤ 2 ^ 100 → t * t < n → t ≤ 2 ^ 16 → t * unit < mag (root x)
root_whole_lt x n t g s m b h k = lt_of_not-le bad
  where
    κ : ℕ
    κ = 2 ^ 18 * tiny

    U : unit ≡ 2 ^ 18 * κ
    U = unit_tiny ∙ ringℕ (tiny ∷ []) (search poly depth 30) done

    square : (t u κ : ℕ) → u ≡ 2 ^ 18 * κ → t ≤ 2 ^ 16 → (t * u + κ) * (t * u + κ) ≤ (t * t + 1) * (u * u)
    square t u κ e b = belowℕ (t ∷ u ∷ κ ∷ []) (num (2 * u * κ) ⊠ slackℕ b ⊞ nil (pos (u + 2 ^ 17 * κ) ⊙ diffℕ e) ⊞ num ((2 ^ 35 - 1) * (κ * κ))) (search poly depth 30) done

    next : (t u M n : ℕ) → M ≡ n * u → t * t < n → (t * t + 1) * (u * u) ≤ M * u
    next t u M n e h = belowℕ (t ∷ u ∷ M ∷ n ∷ []) (slackℕ h ⊠ num (u * u) ⊞ nil (pos u ⊙ diffℕ e)) (search poly depth 30) done

    no_way : (t u z y : ℕ) → u ≡ 2 ^ 36 * y → 2 ^ 60 ≤ y → t * u ≤ 2 ^ 16 * u → z ≤ t * u → 2 ^ 50 * (t * u + 2 ^ 18 * y) ≤ 2 ^ 50 * z + z + 2 ^ 50 → ⊥
    no_way t u z y e l b h k = too_far (t * u) z y (le_trans b (le_of_eq (shape u y e))) (le_trans (lit≤ tt) l) h k
      where
        shape : (u y : ℕ) → u ≡ 2 ^ 36 * y → 2 ^ 16 * u ≡ 2 ^ 52 * y
        shape u y e = omega arith

    bad : mag (root x) ≤ t * unit → ⊥
    bad l =
        let r = root_near x g s (le_trans (le_of_eq m) (mul-le-mul_right unit b)) in
        no_way t unit (mag (root x)) tiny unit_tiny tiny_large (mul-le-mul_right unit k) l (r.low (t * unit + κ) (le_trans (square t unit κ U k) (next t unit (mag x) n m h)))

-- ---- whole floats squared and added
pub like : (s : Bool) → unlike s s ≡ false
like true = refl
like false = refl

pub whole_square : (d : Float) (k : ℕ) → k ≤ 2 ^ 17 → Good d → mag d ≡ k * unit → Is (mul binary64 d d) false (k * k * unit)
whole_square d k b g e =
    let h : k * k ≤ 2 ^ 34 = mul-le-mul b b in
    let i = mul_exact d d (k * k * unit) g g (ap (λ (n : ℕ). n * n) e ∙ ringℕ (k ∷ unit ∷ []) (search poly depth 30) done)
    (rep_whole (k * k) (lt_of_le_of_lt h (lit< tt))) (mul-le-mul_right unit (le_trans h (lit≤ tt))) in
    record { good = i.good; mag_is = i.mag_is; sign_is = i.sign_is ∙ like (sign d) }

pub whole_sum : (x y : Float) (a b : ℕ) → Is x false (a * unit) → Is y false (b * unit) → a + b < 2 ^ 53 → Is (add binary64 x y) false ((a + b) * unit)
whole_sum x y a b i j h =
    let s : mag x + mag y ≡ (a + b) * unit = ap₂ (λ (m n : ℕ). m + n) i.mag_is j.mag_is ∙ sym (add-mul a b unit) in
    subst (λ (w : Float). Is w false ((a + b) * unit)) (sym (add_pos x y i.good j.good i.sign_is j.sign_is ∙ ap (λ (n : ℕ). round binary64 false n unit) s))
    (round_rep false ((a + b) * unit) (rep_whole (a + b) h) (mul-le-mul_right unit (le_trans (le_of_lt h) (lit≤ tt))))
