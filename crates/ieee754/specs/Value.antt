-- A finite binary64 as a whole number of units of 2 ^ -1074, `mag`, with a sign. `unit`, how many units make 1, stays shut: `omega` takes it for an unknown.
-- `Good x`: x is finite and a whole number of units. `Close r n den`: r is n / den rounded to 53 digits.
use Rattle.std.specs.Prelude.{◌≡◌, ℕ, ◌+◌, ◌*◌, ◌/◌, ◌^◌, ◌<◌, ◌≤◌, Bool, false, refl, Float}
use Rattle.std.proofs.Common.{sym, ap, ◌∙◌, subst, le_of_eq, mul-le-mul_right, mul-div_cancel, le_of_mul-le-mul_right, arith, lit<, lit≤, pow_pos}
use Rattle.std.proofs.Math.Nat.{lt_of_le_of_lt}
use Rattle.std.proofs.Props.{props}
use Rattle.std.specs.Float.{nan, inf, fin, binary64}
use Rattle.std.specs.Float.Ieee.{up, down, round, units}
use Rattle.std.specs.Float.Ieee.Fits.{down_pos, round_is}
use Rattle.std.specs.Float.Ieee.Exact.{HasValue, units_val}
use Rattle.std.specs.Float.Ieee.Order.{drop, kept}
use Rattle.ieee754.specs.Near.{kept_within}

unfoldable pub unit : ℕ
unit = 2 ^ 1074

pub unit_pos : 0 < unit
unfolding unit
unit_pos = pow_pos 1074

-- 2 ^ -36 in units: what one operation errs by at most, at magnitudes up to 2 ^ 17. In it the numbers of the error analysis stay short.
unfoldable pub tiny : ℕ
tiny = 2 ^ 1038

pub unit_tiny : unit ≡ 2 ^ 36 * tiny
unfolding unit tiny
unit_tiny = refl

pub tiny_large : 2 ^ 60 ≤ tiny
unfolding tiny
tiny_large = lit≤ tt

-- 2 ^ -48 in units
unfoldable pub speck : ℕ
speck = 2 ^ 1026

pub tiny_speck : tiny ≡ 2 ^ 12 * speck
unfolding tiny speck
tiny_speck = refl

pub speck_large : 2 ^ 60 ≤ speck
unfolding speck
speck_large = lit≤ tt

-- ---- the size and the sign
unfoldable pub mag : Float → ℕ
mag nan = 0
mag (inf s) = 0
mag (fin s m e) = m * up e * unit / down e

unfoldable pub sign : Float → Bool
sign nan = false
sign (inf s) = s
sign (fin s m e) = s

-- finite, and a whole number of units
unfoldable pub Good : Float → Type 0
unfolding mag
Good nan = ⊥
Good (inf s) = ⊥
Good (fin s m e) = m * up e * unit ≡ mag (fin s m e) * down e

pub Good_prop : (x : Float) → IsProp (Good x)
unfolding Good
Good_prop nan = Prim.hlevel props
Good_prop (inf s) = Prim.hlevel props
Good_prop (fin s m e) = Prim.hlevel props

-- x is a units, with the sign s
pub record Is (x : Float) (s : Bool) (a : ℕ) : Type 0 where
  pub good : Good x
  pub mag_is : mag x ≡ a
  pub sign_is : sign x ≡ s

pub of_value : (x : Float) (s : Bool) (a : ℕ) → HasValue x s a unit → Is x s a
unfolding Good mag sign
of_value nan s a h = absurd h
of_value (inf t) s a h = absurd h
of_value (fin t m e) s a h =
    let q : m * up e * unit / down e ≡ a = ap (λ (z : ℕ). z / down e) h.1 ∙ mul-div_cancel a (down_pos e) in
    record { good = h.1 ∙ ap (λ (z : ℕ). z * down e) (sym q); mag_is = q; sign_is = h.0 }

pub to_value : (x : Float) → Good x → HasValue x (sign x) (mag x) unit
unfolding Good mag sign
to_value nan g = g
to_value (inf t) g = g
to_value (fin t m e) g = (refl, g)

-- ---- `round`, in units
-- r is n / den, but for 2 ^ -53 of it and half a unit
abbrev pub Close : ℕ → ℕ → ℕ → Type 0
Close r n den = (2 ^ 53 * (r * den) ≤ 2 ^ 53 * n + n + 2 ^ 52 * den) × (2 ^ 53 * n ≤ 2 ^ 53 * (r * den) + n + 2 ^ 52 * den)

pub close_twice : (r n den : ℕ) → Close r n den → r * den ≤ 2 * n + den
close_twice r n den c = omega arith

-- x is n / den units, rounded, with the sign s
pub record Rounded (x : Float) (s : Bool) (n den : ℕ) : Type 0 where
  pub good : Good x
  pub sign_is : sign x ≡ s
  pub close : Close (mag x) n den

-- the units that `round` comes to, by the digits that it keeps
pub round_kept : (s : Bool) (num den n : ℕ) → kept 53 (num * unit) den * 2 ^ drop 53 (num * unit) den ≡ n → n < 2 ^ 2098 → Is (round binary64 s num den) s n
unfolding unit
round_kept s num den n e h =
    let q = kept 53 (num * unit) den in
    let k = drop 53 (num * unit) den in
    of_value (round binary64 s num den) s n
    (subst (λ (x : Float). HasValue x s n unit) (sym (round_is binary64 s num den))
    (subst (λ (m : ℕ). HasValue (units binary64 s q k) s m unit) e (units_val binary64 s q k (lt_of_le_of_lt (le_of_eq e) h))))

-- a value up to 2 ^ 100 does not overflow
pub round_near : (s : Bool) (num den : ℕ) → 0 < den → num ≤ 2 ^ 100 * den → Rounded (round binary64 s num den) s (num * unit) den
round_near s num den D h =
    let r = kept 53 (num * unit) den * 2 ^ drop 53 (num * unit) den in
    let c : Close r (num * unit) den = kept_within 53 (num * unit) den (lit< tt) D in
    let i = round_kept s num den r refl (top r (below r (close_twice r (num * unit) den c))) in
    record { good = i.good; sign_is = i.sign_is; close = subst (λ (m : ℕ). Close m (num * unit) den) (sym i.mag_is) c }
  where
    below : (r : ℕ) → r * den ≤ 2 * (num * unit) + den → r ≤ 2 * 2 ^ 100 * unit + 1
    below r c =
        let a : num * unit ≤ 2 ^ 100 * den * unit = mul-le-mul_right unit h in
        le_of_mul-le-mul_right {k = den} (omega arith) D

    top : (r : ℕ) → r ≤ 2 * 2 ^ 100 * unit + 1 → r < 2 ^ 2098
    top r h = unfold unit in lt_of_le_of_lt h (lit< tt)
