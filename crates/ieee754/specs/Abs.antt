-- Errors in absolute terms, of one operation and of a cell's index and centre: in `tiny`, 2 ^ -36.
use Rattle.std.specs.Prelude.{◌≡◌, ℕ, ◌+◌, ◌-◌, ◌*◌, ◌^◌, ◌≤◌, List, [], ◌∷◌, pos, Float}
use Rattle.std.proofs.Common.{sym, le_trans, le_of_eq, mul-pos, add_assoc, arith, lit<}
use Rattle.std.proofs.Math.Nat.{le_of_mul-le-mul_left}
use Rattle.ring.proofs.Ring.{poly, done}
use Rattle.ring.proofs.Order.{belowℕ, num, slackℕ, ◌⊞◌, ◌⊠◌, nil, diffℕ, ◌⊕◌, ◌⊙◌}
use Rattle.ieee754.specs.Value.{unit, unit_pos, tiny, unit_tiny, tiny_large, Close}
use Rattle.ieee754.specs.Ops.{plus, minus, Approx}

shrink : (p q e T : ℕ) → 2 ^ 53 * p ≤ 2 ^ 53 * q + e → e ≤ 2 ^ 53 * T → p ≤ q + T
shrink p q e T c h = omega arith

-- with an error of at most T in all: for a fraction, and for a sum
pub close_abs : (r n den T : ℕ) → n + 2 ^ 52 * den ≤ 2 ^ 53 * T → Close r n den → (r * den ≤ n + T) × (n ≤ r * den + T)
close_abs r n den T h c = (
  shrink (r * den) n (n + 2 ^ 52 * den) T (le_trans c.0 (le_of_eq (add_assoc (2 ^ 53 * n) n (2 ^ 52 * den)))) h,
  shrink n (r * den) (n + 2 ^ 52 * den) T (le_trans c.1 (le_of_eq (add_assoc (2 ^ 53 * (r * den)) n (2 ^ 52 * den)))) h,
)

pub approx_abs : (z : Float) (A B e T : ℕ) → e ≤ 2 ^ 53 * T → Approx z A B e → (plus z + B ≤ A + minus z + T) × (A + minus z ≤ plus z + B + T)
approx_abs z A B e T h x = (shrink (plus z + B) (A + minus z) e T x.high h, shrink (A + minus z) (plus z + B) e T x.low h)

-- ---- a coordinate of size C, its index i and its box's centre M, all in units: H is half the side S
-- D = C - H rounded, Y = D / S rounded, i = Y rounded up to a whole number, M = i S rounded
pub record Indexed (C H S D Y M i : ℕ) : Type 0 where
  pub coordinate : C ≤ 2 ^ 16 * unit
  pub side : S ≤ 2 ^ 16 * unit
  pub half : S ≡ 2 * H
  pub under : C ≤ D + H + tiny
  pub over : D + H ≤ C + tiny
  pub quotient : Close Y (D * unit) S
  pub above : Y ≤ i * unit
  pub near : i * unit ≤ Y + unit
  pub centre : Close M (i * unit * S) unit

-- the coordinate lies within half the side of the centre, but for 6 * 2 ^ -36
pub box : (C H S D Y M i : ℕ) → Indexed C H S D Y M i → (C ≤ M + H + 6 * tiny) × (M ≤ C + H + 6 * tiny)
box C H S D Y M i x = (
  le_of_mul-le-mul_left {k = 2 ^ 106 * unit} (belowℕ ρ
      (num (2 ^ 53) ⊠ slackℕ x.centre.1 ⊞ num ((2 ^ 106 - 2 ^ 53) * S) ⊠ slackℕ x.above ⊞ num (2 ^ 53 - 1) ⊠ slackℕ x.quotient.1 ⊞ num (2 ^ 106 * unit) ⊠ slackℕ x.under
      ⊞ num ((2 ^ 54 - 1) * unit) ⊠ (slackℕ x.over ⊞ slackℕ x.coordinate) ⊞ num ((2 ^ 53 - 1) * 2 ^ 52) ⊠ slackℕ x.side ⊞ num (2 ^ 62 * unit) ⊠ slackℕ tiny_large
      ⊞ num ((2 ^ 54 - 1) * (unit * H) + (5 * 2 ^ 106 - (2 ^ 54 - 1) * (2 ^ 52 + 1) - 2 ^ 62) * (tiny * unit) + (2 ^ 122 - 2 ^ 121 - 2 ^ 105 + 2 ^ 68) * unit)
      ⊞ nil (pos ((2 ^ 54 - 1) * 2 ^ 16 * unit) ⊙ diffℕ (sym unit_tiny))) (search poly depth 99 fits 9999) done) (mul-pos (lit< tt) unit_pos),
  le_of_mul-le-mul_left {k = 2 ^ 106 * unit} (belowℕ ρ
      (num (2 ^ 53) ⊠ slackℕ x.centre.0 ⊞ num ((2 ^ 106 + 2 ^ 53) * S) ⊠ slackℕ x.near ⊞ num (2 ^ 53 + 1) ⊠ slackℕ x.quotient.0 ⊞ num (2 ^ 106 * unit) ⊠ slackℕ x.over
      ⊞ num ((2 ^ 54 + 1) * unit) ⊠ (slackℕ x.over ⊞ slackℕ x.coordinate) ⊞ num (2 ^ 53 * unit + (2 ^ 53 + 1) * 2 ^ 52) ⊠ slackℕ x.side ⊞ num (2 ^ 62 * unit) ⊠ slackℕ tiny_large
      ⊞ num ((2 ^ 54 + 1) * (unit * H) + (5 * 2 ^ 106 - (2 ^ 54 + 1) * (2 ^ 52 + 1) - 2 ^ 105 - 2 ^ 62) * (tiny * unit) + (2 ^ 122 - 2 ^ 121 - 2 ^ 105 - 2 ^ 68) * unit)
      ⊞ nil (pos (2 ^ 106 * unit) ⊙ diffℕ (sym x.half) ⊕ pos (((2 ^ 54 + 1) * 2 ^ 16 + 2 ^ 69) * unit) ⊙ diffℕ (sym unit_tiny))) (search poly depth 99 fits 9999) done) (mul-pos (lit< tt) unit_pos),
)
  where
    ρ : List ℕ
    ρ = C ∷ H ∷ S ∷ D ∷ Y ∷ M ∷ i ∷ unit ∷ tiny ∷ []
