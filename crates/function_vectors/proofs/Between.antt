-- A float from 2 ^ -13 to 2 ^ 16 is a side.
use Rattle.std.proofs.Common.{◌≡◌, ℕ, ◌+◌, ◌*◌, ◌^◌, ◌≤◌, ◌<◌, Bool, true, false, T, pos, negsuc, refl, sym, ◌∙◌, subst, true≢false, mul-one, arith, pow_pos, leb-true}
use lib.Ieee.{Float, nan, inf, fin, binary64, fits, le}
use Rattle.ieee754.specs.Value.{unit, mag, sign, Good, Is, of_value}
use Rattle.ieee754.specs.Ops.{plus, minus, plus_pos, minus_pos, plus_neg}
use Rattle.ieee754.specs.Compare.{le_is}
use Rattle.ieee754.specs.Exact.{Rep, fits_good}
use Rattle.counting_tree.specs.Radius.{Side}

abbrev pub lowest : Float
lowest = fin false 1 (negsuc 12)

abbrev pub highest : Float
highest = fin false 1 (pos 16)

lowest_is : Is lowest false (2 ^ 1061)
unfolding unit
lowest_is = of_value lowest false (2 ^ 1061) (refl, refl)

highest_is : Is highest false (65536 * unit)
highest_is = of_value highest false (65536 * unit) (refl, sym (mul-one (65536 * unit)))

unit_lowest : unit ≡ 2 ^ 13 * 2 ^ 1061
unfolding unit
unit_lowest = refl

ordered : (x y : Float) → Good x → Good y → le x y ≡ true → plus x + minus y ≤ plus y + minus x
ordered x y g h e = leb-true (plus x + minus y) (plus y + minus x) (sym (le_is x y g h) ∙ e)

pub side_between : (x : Float) → fits binary64 x ≡ true → le lowest x ≡ true → le x highest ≡ true → Side x
unfolding le
side_between nan f a b = absurd (true≢false (sym a))
side_between (inf true) f a b = absurd (true≢false (sym a))
side_between (inf false) f a b = absurd (true≢false (sym b))
side_between (fin s m d) f a b =
    let x = fin s m d in
    let g = fits_good x (subst T (sym f) tt) tt in
    at x g.0 g.1 (ordered lowest x lowest_is.good g.0 a) (ordered x highest g.0 highest_is.good b) (sign x) refl
  where
    negative : (a b c d L : ℕ) → a ≡ L → b ≡ 0 → c ≡ 0 → 0 < L → a + d ≤ c + b → ⊥
    negative a b c d L e f g p h = omega arith

    low : (a b c d L M u : ℕ) → a ≡ L → b ≡ 0 → c ≡ M → d ≡ 0 → a + d ≤ c + b → u ≡ 2 ^ 13 * L → u ≤ 2 ^ 13 * M
    low a b c d L M u e f g h i j = omega arith

    high : (a b c d M u : ℕ) → a ≡ M → b ≡ 0 → c ≡ 65536 * u → d ≡ 0 → a + d ≤ c + b → M ≤ 2 ^ 16 * u
    high a b c d M u e f g h i = omega arith

    at : (x : Float) → Good x → Rep (mag x) → plus lowest + minus x ≤ plus x + minus lowest → plus x + minus highest ≤ plus highest + minus x → (t : Bool) → sign x ≡ t → Side x
    at x g r l h true e = absurd (negative (plus lowest) (minus lowest) (plus x) (minus x) (2 ^ 1061) (plus_pos lowest lowest_is.sign_is ∙ lowest_is.mag_is) (minus_pos lowest lowest_is.sign_is) (plus_neg x e) (pow_pos 1061) l)
    at x g r l h false e = record {
      good = g;
      sign_is = e;
      rep = r;
      high = high (plus x) (minus x) (plus highest) (minus highest) (mag x) unit (plus_pos x e) (minus_pos x e) (plus_pos highest highest_is.sign_is ∙ highest_is.mag_is) (minus_pos highest highest_is.sign_is) h;
      low = low (plus lowest) (minus lowest) (plus x) (minus x) (2 ^ 1061) (mag x) unit (plus_pos lowest lowest_is.sign_is ∙ lowest_is.mag_is) (minus_pos lowest lowest_is.sign_is) (plus_pos x e) (minus_pos x e) l unit_lowest;
    }
