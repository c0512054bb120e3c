-- The index by its three branches, and that what is rounded up is small enough for an i64.
use mathlib.Core.Path.{◌≡◌, refl, sym, ap, subst, ◌∙◌}
use mathlib.Core.Bool.{Bool, ◌&&◌}
use Prim.Native.Nat.{ℕ, ◌+◌, ◌*◌, ◌^◌, ◌≤◌, ◌<◌}
use native.Mathlib.Nat.{lt_of_le_of_lt, lt_of_mul-lt-mul_right, mul-le-mul_right, mul-pos, lt_trans}
use native.Mathlib.Omega.{arith}
use lib.Dec.{T, lit<}
use lib.IntN.{ℤ, pos, negsuc, nat_abs, ◌+ℤ◌}
use lib.Signed as Signed
use lib.Ieee.{Float, nan, inf, fin, binary64, up, down, of_bits, of_int, add, sub, div, neg, lt, le, in_float}
use lib.Ieee.Fits.{down_pos}
use mir.Syntax.{w16, w64}
use mir.Val.{SFits, to_z, of_z}
use mir.Facts.{to_z-of_z}
use Rattle.ieee754.specs.Value.{unit, unit_pos, mag, Good}
use Rattle.ieee754.specs.Ceil.{ceil}
use Rattle.ieee754.specs.Small.{Small}
use Rattle.ieee754.proofs.Signed.{mag_add}
use Rattle.ieee754.proofs.Ceil.{ceil_small, in_float_lem}
use Rattle.hyperparams.specs.Params.{float}
use Rattle.counting_tree.specs.Grid.{index, index_at, half}
use Rattle.counting_tree.specs.Radius.{Side}
use Rattle.counting_tree.specs.IndexBound.{above_bound, below_bound, index_small}
use Rattle.counting_tree.specs.InBox.{index_by, index_by_lem}

pub zero_is : float 0 ≡ of_bits binary64 0
unfolding of_int of_bits
zero_is = refl

-- ---- sizes
small_of : (y : Float) → Good y × (mag y ≤ 7 * 2 ^ 28 * unit) → Small y
unfolding Good
small_of nan (g, h) = absurd g
small_of (inf s) (g, h) = absurd g
small_of (fin s m e) (g, h) = lt_of_mul-lt-mul_right unit (go (m * up e) (mag (fin s m e)) (down e) unit g h unit_pos (down_pos e))
  where
    go : (N M D u : ℕ) → N * u ≡ M * D → M ≤ 7 * 2 ^ 28 * u → 0 < u → 0 < D → N * u < 1099511627776 * D * u
    go N M D u e h U P = omega (arith, mul-le-mul_right D h, mul-pos P U)

-- the coordinate x = c, and h half the side
module _ (side h x : Float) (c : ℤ) (half_is : h ≡ half side) (e : x ≡ of_int binary64 c) where
  pub by_tests : (a b : Bool) → (le (neg h) x && lt x h) ≡ a → lt (of_bits binary64 0) x ≡ b → index_by a b side h x ≡ index side c
  unfolding index
  by_tests a b p q =
      sym (ap (λ (w : Float). index_at side w (of_int binary64 c)) (sym half_is) ∙ ap (index_at side h) (sym e) ∙ index_by_lem side h x
      ∙ ap (λ (t : Bool). index_by t (lt (float 0) x) side h x) p ∙ ap (λ (t : Bool). index_by a t side h x) (ap (λ (z : Float). lt z x) zero_is ∙ q))

  module _ (s : Side side) (b : nat_abs c ≤ 2 ^ 15) where
    pub above_small : Small (div binary64 (sub binary64 x h) side)
    above_small = small_of (div binary64 (sub binary64 x h) side) (above_bound side h x c half_is e s b)

    pub below_small : Small (div binary64 (add binary64 x h) side)
    below_small = small_of (div binary64 (add binary64 x h) side) (below_bound side h x c half_is e s b)

-- a 16-bit coordinate
pub coordinate : (c : ℤ) → SFits w16 c → nat_abs c ≤ 2 ^ 15
coordinate (pos n) f = omega (arith, f.sfits)
coordinate (negsuc n) f = omega (arith, f.sfits)

-- the ceiling fits an i64, and so does one less
pub ceiling_fits : (r : ℤ) (q : Float) → r ≡ ceil q → Small q → SFits w64 r
ceiling_fits r q e z = record { sfits = subst (λ (k : ℤ). Signed.mag k < 9223372036854775808) (sym e) (lt_of_le_of_lt (ceil_small q z) (lit< tt)) }

pub less_fits : (r : ℤ) (q : Float) → r ≡ ceil q → Small q → SFits w64 (negsuc 0 +ℤ r)
less_fits r q e z = record { sfits = subst (λ (k : ℤ). Signed.mag (negsuc 0 +ℤ k) < 9223372036854775808) (sym e) (lt_of_le_of_lt (mag_add (negsuc 0) (ceil q)) (room (Signed.mag (ceil q)) (ceil_small q z))) }
  where
    room : (n : ℕ) → n ≤ 1099511627776 → 0 + n + 1 < 9223372036854775808
    room n h = omega arith

pub index_fits : (r : ℤ) (side : Float) (c : ℤ) → Side side → nat_abs c ≤ 2 ^ 15 → r ≡ index side c → (Signed.mag r < 2 ^ 31) × SFits w64 r
index_fits r side c s b e = let h = subst (λ (k : ℤ). Signed.mag k < 2 ^ 31) (sym e) (index_small side c s b) in (h, record { sfits = lt_trans h (lit< tt) })

-- the index, read back from its bits
pub index_back : (r : ℤ) (side : Float) (c : ℤ) → Side side → nat_abs c ≤ 2 ^ 15 → r ≡ index side c → T (in_float binary64 (to_z w64 (of_z w64 r))) × (to_z w64 (of_z w64 r) ≡ index side c)
index_back r side c s b e =
    let f = index_fits r side c s b e in
    (subst (λ (k : ℤ). T (in_float binary64 k)) (sym (to_z-of_z f.1)) (in_float_lem r (lt_trans f.0 (lit< tt))), to_z-of_z f.1 ∙ e)
