-- The far reach in 64 bits: a is 2 ^ s.
use mathlib.Core.Path.{◌≡◌, ◌∙◌}
use Prim.Native.Nat.{ℕ, ◌+◌, ◌*◌, ◌%◌, ◌^◌, ◌≤◌}
use native.Mathlib.Omega.{arith}
use native.Mathlib.Nat.{mul-le-mul, one-mul}
use lib.Dec.{leb, lit<}
use lib.Pow.{pow_mono, shl_exact}
use Rattle.counting_tree.specs.Sound.{four_power}
use Rattle.core_cells.specs.Nearest.{beyond, out_of_reach}

pub shifted : (s : ℕ) → s ≤ 10 → 1 * 2 ^ s % 2 ^ 64 ≡ 2 ^ s
shifted s h = shl_exact 1 s 64 (lit< tt) (omega arith) ∙ one-mul (2 ^ s)

pub record Reachable (t a square : ℕ) : Type 0 where
  pub two : a ≤ 1024
  pub four : a * a ≤ 1048576
  pub reach : t * (a + 1) ≤ 67173375
  pub far : t * (a + 1) * (t * (a + 1)) ≤ 4512262308890625
  pub near : square * (a * a) ≤ 36028797018963968

pub reachable : (t s square : ℕ) → t ≤ 65535 → s ≤ 10 → square ≤ beyond → Reachable t (1 * 2 ^ s % 2 ^ 64) square
reachable t s square h k l = rw (shifted s k) record { two = two; four = four; reach = reach; far = mul-le-mul reach reach; near = mul-le-mul l four }
  where
    two : 2 ^ s ≤ 1024
    two = pow_mono k

    four : 2 ^ s * 2 ^ s ≤ 1048576
    four = mul-le-mul {n₂ = 1024} {m₂ = 1024} two two

    reach : t * (2 ^ s + 1) ≤ 67173375
    reach = mul-le-mul {n₂ = 65535} {m₂ = 1025} h (omega (arith, two))

pub reach_is : (t s square a : ℕ) → a ≡ 2 ^ s → leb (t * (a + 1) * (t * (a + 1)) + a * a) (square * (a * a)) ≡ out_of_reach t s square
unfolding out_of_reach
reach_is t s square a e = rw (e, four_power s)
