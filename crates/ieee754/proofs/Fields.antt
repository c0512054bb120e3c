-- A float from the fields of its bits, and the root of each kind: what `positive_root` and `root` need.
use Rattle.std.proofs.Common.{◌≡◌, ℕ, zero, suc, ◌+◌, ◌-◌, ◌*◌, ◌/◌, ◌%◌, ◌^◌, ◌<◌, ◌≤◌, Bool, true, false, cond, not, T, eqb, ℤ, sym, refl, ap, ◌∙◌, subst, true≢false, mod-eq_of_lt, mul-pos, arith, pow_pos, le-ltb, ne_eqb, le-leb}
use borrow.Author.Tests.{lt-leb}
use lib.Ieee.{Float, nan, inf, fin, binary64, up, down, odd, fits, of_bits, of_fields, to_bits, is_nan, nan_bits, ne, eq}
use lib.Ieee.Bits.{of_bits-to_bits, nan_bits_above}
use lib.Ieee.Exact.{HasValue, odd_sign}
use lib.Ieee.Fits.{down_pos, round-fits}
use Rattle.ieee754.specs.Root.{root}
use Rattle.ieee754.specs.RootLaw.{root_of_is, whole_of, stick, scale}

-- ---- the fields
below_top : (b : ℕ) → b < 2 ^ 63 → of_bits binary64 b ≡ of_fields binary64 false (b / 2 ^ 52) (b % 2 ^ 52)
unfolding of_bits
below_top b h = rw (lt-leb (2 ^ 63) b h, mod-eq_of_lt h)

-- a field of 0 for the exponent: no leading digit
pub low_field : (b : ℕ) → b < 2047 * 2 ^ 52 → b / 2 ^ 52 ≡ 0 → of_bits binary64 b ≡ odd 53 false (b % 2 ^ 52) 0 1074
unfolding of_fields
low_field b h e = below_top b (omega arith) ∙ ap (λ (x : ℕ). of_fields binary64 false x (b % 2 ^ 52)) e

normal : (x t : ℕ) → 0 < x → x < 2047 → of_fields binary64 false x t ≡ odd 53 false (2 ^ 52 + t) (x - 1) 1074
unfolding of_fields
normal zero t p h = absurd (omega arith)
normal (suc x) t p h = rw (ne_eqb (suc x) 2047 (λ e. omega arith)) (ap (λ (n : ℕ). odd 53 false (2 ^ 52 + t) n 1074) (back x))
  where
    back : (x : ℕ) → x ≡ suc x - 1
    back x = omega arith

pub high_field : (b : ℕ) → b < 2047 * 2 ^ 52 → (b / 2 ^ 52 ≡ 0 → ⊥) → of_bits binary64 b ≡ odd 53 false (2 ^ 52 + b % 2 ^ 52) (b / 2 ^ 52 - 1) 1074
high_field b h n = below_top b (omega arith) ∙ normal (b / 2 ^ 52) (b % 2 ^ 52) (omega arith) (omega arith)

-- ---- NaN
pub nan_root : (x : Float) → is_nan x ≡ true → x ≡ root x
unfolding is_nan root
nan_root nan e = refl
nan_root (inf s) e = absurd (true≢false (sym e))
nan_root (fin s m d) e = absurd (true≢false (sym e))

pub no_nan : (x : Float) → ne x x ≡ false → T (not (is_nan x))
unfolding ne eq is_nan
no_nan nan e = absurd (true≢false e)
no_nan (inf s) e = tt
no_nan (fin s m d) e = tt

-- ---- zeros and positive infinity are their own roots
pub zero_root : (b : ℕ) → b % 2 ^ 63 ≡ 0 → of_bits binary64 b ≡ root (of_bits binary64 b)
unfolding of_bits of_fields odd root
zero_root b e =
    let x : b % 2 ^ 63 / 2 ^ 52 ≡ 0 = omega arith in
    let t : b % 2 ^ 52 ≡ 0 = omega arith in
    rw (x, t)

largest : (t : ℕ) → of_fields binary64 false 2047 t ≡ root (of_fields binary64 false 2047 t)
unfolding of_fields root
largest t = go (eqb t 0)
  where
    go : (z : Bool) → cond z (inf false) nan ≡ root (cond z (inf false) nan)
    go true = refl
    go false = refl

pub infinite_root : (b : ℕ) → 2047 * 2 ^ 52 ≤ b → b < 2 ^ 63 → of_bits binary64 b ≡ root (of_bits binary64 b)
infinite_root b l h =
    let e : b / 2 ^ 52 ≡ 2047 = omega arith in
    subst (λ (x : Float). x ≡ root x) (sym (below_top b h ∙ ap (λ (x : ℕ). of_fields binary64 false x (b % 2 ^ 52)) e)) (largest (b % 2 ^ 52))

-- ---- a value that is not zero has digits
digits_of : (y : Float) (s : Bool) (a u : ℕ) → 0 < a → HasValue y s a u → (n : ℕ) × (e : ℤ) × (y ≡ fin s (suc n) e)
digits_of nan s a u A v = absurd v
digits_of (inf t) s a u A v = absurd v
digits_of (fin t zero e) s a u A v = absurd (none (up e) (a * down e) (mul-pos A (down_pos e)) v.1)
  where
    none : (x y : ℕ) → 0 < y → 0 * x * u ≡ y → ⊥
    none x y p e = omega arith
digits_of (fin t (suc n) e) s a u A v = (n, e, ap (λ (q : Bool). fin q (suc n) e) v.0)

-- ---- below zero
negative : (m f : ℕ) → 0 < m → root (odd 53 true m f 1074) ≡ nan
unfolding root
negative m f M = ap root (digits_of (odd 53 true m f 1074) true (m * 2 ^ f) (2 ^ 1074) (mul-pos M (pow_pos f)) (odd_sign 53 true m f 1074)).2

negative_fields : (x t : ℕ) → (x ≡ 0 → t ≡ 0 → ⊥) → root (of_fields binary64 true x t) ≡ nan
unfolding of_fields root
negative_fields zero t n = let p = n refl in negative t 0 (omega arith)
negative_fields (suc x) t n = go (eqb (suc x) 2047) (eqb t 0)
  where
    go : (b z : Bool) → root (cond b (cond z (inf true) nan) (odd 53 true (2 ^ 52 + t) x 1074)) ≡ nan
    go true true = refl
    go true false = refl
    go false z = negative (2 ^ 52 + t) x (omega arith)

pub negative_root : (b : ℕ) → 2 ^ 63 ≤ b → (b % 2 ^ 63 ≡ 0 → ⊥) → root (of_bits binary64 b) ≡ nan
unfolding of_bits
negative_root b l n = rw (le-leb (2 ^ 63) b l) (negative_fields (b % 2 ^ 63 / 2 ^ 52) (b % 2 ^ 52) (λ e f. n (both b e f)))
  where
    both : (b : ℕ) → b % 2 ^ 63 / 2 ^ 52 ≡ 0 → b % 2 ^ 52 ≡ 0 → b % 2 ^ 63 ≡ 0
    both b e f = omega arith

-- ---- above zero: the root is its bits'
root_fits : (m f : ℕ) → 0 < m → T (fits binary64 (root (odd 53 false m f 1074)))
unfolding root
root_fits m f M =
    let d = digits_of (odd 53 false m f 1074) false (m * 2 ^ f) (2 ^ 1074) (mul-pos M (pow_pos f)) (odd_sign 53 false m f 1074) in
    let a = suc d.0 * up d.1 in
    let c = down d.1 in
    subst (λ (y : Float). T (fits binary64 y)) (sym (ap root d.2 ∙ root_of_is a c)) (round-fits binary64 false (2 * whole_of a c + stick (whole_of a c) (a * scale c * 2 ^ 54)) (2 * scale c))

pub own_bits : (m f : ℕ) → 0 < m → of_bits binary64 (to_bits binary64 (root (odd 53 false m f 1074))) ≡ root (odd 53 false m f 1074)
own_bits m f M = of_bits-to_bits binary64 (root (odd 53 false m f 1074)) (root_fits m f M)

-- bits that are, but for the sign, at most those of infinity are no NaN's
pub no_nan_bits : (b : ℕ) → b % 2 ^ 63 ≤ 2047 * 2 ^ 52 → T (not (nan_bits binary64 b))
no_nan_bits b h = subst (λ (t : Bool). T (not t)) (sym (nan_bits_above binary64 b ∙ le-ltb (2047 * 2 ^ 52) (b % 2 ^ 63) h)) tt
