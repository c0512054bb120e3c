-- Each return is one kind of float.
use Rattle.std.proofs.Common.{◌≡◌, T, true, sym, ap, ◌∙◌, subst}
use lib.Ieee.{Float, nan, binary64, of_bits, to_bits, div, fits}
use lib.Ieee.Bits.{of_bits-to_bits}
use Rattle.ieee754.specs.Root.{root}
use Rattle.ieee754.proofs.Fields.{nan_root, zero_root, negative_root, infinite_root}
use Rattle.ieee754.proofs.root.Goals as goal

own_bits : (x : Float) → fits binary64 x ≡ true → of_bits binary64 (to_bits binary64 x) ≡ x
own_bits x h = of_bits-to_bits binary64 x (subst T (sym h) tt)

pub returns-then-is_nan : goal.returns-then-is_nan
returns-then-is_nan c = nan_root c.args.x (sym c.is_nan.ensures.value ∙ c.if-is_nan.true)

pub returns-then-bits-eq0 : goal.returns-then-bits-eq0
returns-then-bits-eq0 c = subst (λ (y : Float). y ≡ root y) (own_bits c.args.x c.well_formed.0.1) (zero_root _ c.if-bits-eq0.true)

pub returns-then-bits-ge-SIGN_BIT : goal.returns-then-bits-ge-SIGN_BIT
unfolding div of_bits
returns-then-bits-ge-SIGN_BIT c =
    sym (subst (λ (y : Float). root y ≡ nan) (own_bits c.args.x c.well_formed.0.1) (negative_root _ c.if-bits-ge-SIGN_BIT.true c.if-bits-eq0.false))

pub returns-then-bits-ge-INFINITY : goal.returns-then-bits-ge-INFINITY
returns-then-bits-ge-INFINITY c = subst (λ (y : Float). y ≡ root y) (own_bits c.args.x c.well_formed.0.1) (infinite_root _ c.if-bits-ge-INFINITY.true c.if-bits-ge-SIGN_BIT.false)

pub returns : goal.returns
returns c = c.positive_root.ensures ∙ ap root (own_bits c.args.x c.well_formed.0.1)
