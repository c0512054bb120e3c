-- The format writes each value in one way: two values that are not negative and have the same rank are the same.
use Rattle.std.specs.Prelude.{◌≡◌, ℕ, zero, suc, ◌+◌, ◌*◌, ◌%◌, ◌^◌, ◌<◌, Bool, true, false, ◌&&◌, T, ltb, ℤ, pos, negsuc, ◌≢◌, nat_eq, nat_le, nat_lt, refl, Float}
use Rattle.std.proofs.Common.{sym, ap, ap₂, ◌∙◌, subst, true≢false, lt_irrefl, mul-pos, mul-one, one-mul, mul_assoc, mul_left_comm, pow-suc, zero-lt-suc, zero-mul, arith, eqb→eq, pow-add}
use Rattle.std.proofs.Math.Nat.{eq_of_mul-eq-mul_right, pow-succ'}
use Rattle.std.specs.Float.{nan, inf, fin, binary64}
use Rattle.std.specs.Float.Ieee.{fits, is_nan, up, down}
use Rattle.std.specs.Float.Ieee.Fits.{and_l, up_pos, down_pos}
use Rattle.ieee754.specs.Value.{unit, unit_pos, mag, sign, Good}
use Rattle.ieee754.specs.Ops.{cross, cross'}
use Rattle.ieee754.specs.Exact.{fits_good, fits_below}
use Rattle.ieee754.specs.Rank.{top, rank, Size}

-- ---- an odd number times a power of two
not_even : (m t : ℕ) → m % 2 ≡ 1 → m ≢ 2 * t
not_even m t o h = omega arith

odd_power : (m n a b : ℕ) → m % 2 ≡ 1 → n % 2 ≡ 1 → m * 2 ^ a ≡ n * 2 ^ b → (m ≡ n) × (a ≡ b)
odd_power m n zero zero o p h = (sym (mul-one m) ∙ h ∙ mul-one n, refl)
odd_power m n zero (suc b) o p h = absurd (not_even m (n * 2 ^ b) o (sym (mul-one m) ∙ h ∙ ap (λ (x : ℕ). n * x) (pow-succ' 2 b) ∙ mul_left_comm n 2 (2 ^ b)))
odd_power m n (suc a) zero o p h = absurd (not_even n (m * 2 ^ a) p (sym (mul-one n) ∙ sym h ∙ ap (λ (x : ℕ). m * x) (pow-succ' 2 a) ∙ mul_left_comm m 2 (2 ^ a)))
odd_power m n (suc a) (suc b) o p h =
    let e = mul_assoc m (2 ^ a) 2 ∙ ap (λ (x : ℕ). m * x) (sym (pow-suc 2 a)) ∙ h ∙ ap (λ (x : ℕ). n * x) (pow-suc 2 b) ∙ sym (mul_assoc n (2 ^ b) 2) in
    let r = odd_power m n a b o p (eq_of_mul-eq-mul_right 2 (zero-lt-suc 1) (m * 2 ^ a) (n * 2 ^ b) e) in
    (r.0, ap suc r.1)

join : (m a b : ℕ) → m * 2 ^ (a + b) ≡ m * 2 ^ a * 2 ^ b
join m a b = ap (λ (x : ℕ). m * x) (pow-add 2 a b) ∙ sym (mul_assoc m (2 ^ a) (2 ^ b))

-- m × 2 ^ e = n × 2 ^ d, both odd
odd_same : (m n : ℕ) (e d : ℤ) → m % 2 ≡ 1 → n % 2 ≡ 1 → m * up e * down d ≡ n * up d * down e → (m ≡ n) × (e ≡ d)
odd_same m n (pos a) (pos b) o p h = let r = odd_power m n a b o p (sym (mul-one (m * 2 ^ a)) ∙ h ∙ mul-one (n * 2 ^ b)) in (r.0, ap pos r.1)
odd_same m n (pos a) (negsuc b) o p h = absurd (apart (odd_power m n (a + suc b) 0 o p (join m a (suc b) ∙ h ∙ mul-one (n * 1))).1)
  where
    apart : a + suc b ≡ 0 → ⊥
    apart e = omega arith
odd_same m n (negsuc a) (pos b) o p h = absurd (apart (odd_power m n 0 (b + suc a) o p (sym (mul-one (m * 1)) ∙ h ∙ sym (join n b (suc a)))).1)
  where
    apart : 0 ≡ b + suc a → ⊥
    apart e = omega arith
odd_same m n (negsuc a) (negsuc b) o p h =
    let r = odd_power m n (suc b) (suc a) o p (ap (λ (x : ℕ). x * 2 ^ suc b) (sym (mul-one m)) ∙ h ∙ ap (λ (x : ℕ). x * 2 ^ suc a) (mul-one n)) in
    (r.0, sym (back r.1))
  where
    back : suc b ≡ suc a → negsuc b ≡ negsuc a
    back e = ap negsuc (omega arith)

-- ---- a value that fits: its digits are odd, or it is 0 with the exponent 0
is_odd : (s : Bool) (m : ℕ) (e : ℤ) → T (fits binary64 (fin s (suc m) e)) → suc m % 2 ≡ 1
unfolding fits
is_odd s m e t =
    let a = nat_eq (suc m % 2) 1 in
    let b = ltb (suc m) (2 ^ 53) in
    let c = nat_le (down e) (2 ^ 1074) in
    eqb→eq (suc m % 2) 1 (and_l a b (and_l (a && b) c (and_l (a && b && c) (nat_lt (suc m * up e) (2 ^ 1024 * down e)) t)))

flat : (e : ℤ) → up e * down e ≡ 1 → e ≡ pos 0
flat (pos zero) h = refl
flat (pos (suc k)) h = absurd (not_even 1 (2 ^ k) refl (sym h ∙ mul-one (2 ^ suc k) ∙ pow-succ' 2 k))
flat (negsuc k) h = absurd (not_even 1 (2 ^ k) refl (sym h ∙ one-mul (2 ^ suc k) ∙ pow-succ' 2 k))

zero_flat : (s : Bool) (e : ℤ) → T (fits binary64 (fin s zero e)) → e ≡ pos 0
unfolding fits
zero_flat s e t = flat e (eqb→eq (up e * down e) 1 t)

-- ---- finite values of the same size
cross_same : (s t : Bool) (m n : ℕ) (e d : ℤ) → T (fits binary64 (fin s m e)) → T (fits binary64 (fin t n d)) → mag (fin s m e) ≡ mag (fin t n d) → m * up e * down d ≡ n * up d * down e
unfolding Good
cross_same s t m n e d f g h =
    let M = mag (fin t n d) in
    let i = (fits_good (fin s m e) f tt).0 in
    let j = (fits_good (fin t n d) g tt).0 in
    eq_of_mul-eq-mul_right unit unit_pos (m * up e * down d) (n * up d * down e)
    (cross (m * up e) unit (mag (fin s m e)) (down e) (down d) i ∙ ap (λ (k : ℕ). k * (down e * down d)) h ∙ sym (cross' (n * up d) unit M (down d) (down e) j))

positive : (n : ℕ) (d e : ℤ) → 0 ≢ suc n * up d * down e
positive n d e h = lt_irrefl 0 (subst (λ (x : ℕ). 0 < x) (sym h) (mul-pos (mul-pos (zero-lt-suc n) (up_pos d)) (down_pos e)))

none : (e d : ℤ) → zero * up e * down d ≡ 0
none e d = ap (λ (x : ℕ). x * down d) (zero-mul (up e)) ∙ zero-mul (down d)

finite_same : (m n : ℕ) (e d : ℤ) → T (fits binary64 (fin false m e)) → T (fits binary64 (fin false n d)) → mag (fin false m e) ≡ mag (fin false n d) → fin false m e ≡ fin false n d
finite_same zero zero e d f g h = ap (fin false zero) (zero_flat false e f ∙ sym (zero_flat false d g))
finite_same zero (suc n) e d f g h = absurd (positive n d e (sym (none e d) ∙ cross_same false false zero (suc n) e d f g h))
finite_same (suc m) zero e d f g h = absurd (positive m e d (sym (none d e) ∙ sym (cross_same false false (suc m) zero e d f g h)))
finite_same (suc m) (suc n) e d f g h =
    let r = odd_same (suc m) (suc n) e d (is_odd false m e f) (is_odd false n d g) (cross_same false false (suc m) (suc n) e d f g h) in
    ap₂ (fin false) r.0 r.1

below_top : (s : Bool) (m : ℕ) (e : ℤ) → T (fits binary64 (fin s m e)) → mag (fin s m e) ≢ top
unfolding top
below_top s m e f h = lt_irrefl (2 ^ 2098) (subst (λ (n : ℕ). n < 2 ^ 2098) h (fits_below (fin s m e) f tt))

pub rank_unique : (x y : Float) → Size x → Size y → rank x ≡ rank y → x ≡ y
unfolding rank sign is_nan
rank_unique nan y s t h = absurd s.known
rank_unique (inf true) y s t h = absurd (true≢false s.sign_is)
rank_unique (fin true m e) y s t h = absurd (true≢false s.sign_is)
rank_unique (inf false) nan s t h = absurd t.known
rank_unique (inf false) (inf true) s t h = absurd (true≢false t.sign_is)
rank_unique (inf false) (inf false) s t h = refl
rank_unique (inf false) (fin v n d) s t h = absurd (below_top v n d t.held (sym h))
rank_unique (fin false m e) nan s t h = absurd t.known
rank_unique (fin false m e) (inf v) s t h = absurd (below_top false m e s.held h)
rank_unique (fin false m e) (fin true n d) s t h = absurd (true≢false t.sign_is)
rank_unique (fin false m e) (fin false n d) s t h = finite_same m n e d s.held t.held h
