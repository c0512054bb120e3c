-- The four roots of the table: each is the definition's, and the nearest by its square.
use Rattle.std.proofs.Common.{◌≡◌, ℕ, zero, suc, ◌-◌, ◌≤◌, T, List, [], ◌∷◌, get_or, pos, refl, arith}
use lib.Ieee.{Float, nan, binary64, of_bits, of_int}
use Rattle.ieee754.specs.Root.{root}
use Rattle.ieee754.specs.Nearest.{nearest_root}

abbrev roots : List Float
roots = of_bits binary64 0x3ff0000000000000 ∷ of_bits binary64 0x3ff6a09e667f3bcd ∷ of_bits binary64 0x3ffbb67ae8584caa ∷ of_bits binary64 0x4000000000000000 ∷ []

pub table : (n : ℕ) → 1 ≤ n → n ≤ 4 → (get_or roots (n - 1) nan ≡ root (of_int binary64 (pos n))) × T (nearest_root n (get_or roots (n - 1) nan))
unfolding root of_int of_bits nearest_root
table zero a b = absurd (omega arith)
table (suc zero) a b = (refl, tt)
table (suc (suc zero)) a b = (refl, tt)
table (suc (suc (suc zero))) a b = (refl, tt)
table (suc (suc (suc (suc zero)))) a b = (refl, tt)
table (suc (suc (suc (suc (suc n))))) a b = absurd (omega arith)
