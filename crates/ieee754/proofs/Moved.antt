-- A significand moved up to 63 or 64 digits, so that an even power of two is left: what `root_bits` needs.
use Rattle.std.proofs.Common.{◌≡◌, ℕ, suc, ◌+◌, ◌-◌, ◌*◌, ◌/◌, ◌%◌, ◌^◌, ◌<◌, ◌≤◌, false, [], ◌∷◌, sym, ap, ◌∙◌, subst, le_trans, le_of_eq, lt_of_lt_of_le, lt_of_le_of_lt, mul-le-mul_right, mod-eq_of_lt, mul-lt-mul_of_pos_right, mul-pos, lt_of_not-le, not-le_of_lt, arith, pow_pos, pow_mono, pow-add, shl_lt}
use native.Mathlib.Nat.{mul-mul-mul_comm}
use lib.Count.{count_leading_zeros, leading_top}
use lib.Ieee.{Float, binary64, to_bits, odd}
use lib.Ieee.Exact.{odd_sign}
use Rattle.ring.proofs.Ring.{ringℕ, poly, done}
use Rattle.ieee754.specs.Steps.{Root, root_from, root_below}
use Rattle.ieee754.specs.Value.{unit, mag, Is, of_value}
use Rattle.ieee754.specs.Root.{root}
use Rattle.ieee754.specs.RootDigits.{root_digits, four_square}
use Rattle.ieee754.proofs.Written.{bits_are}

module _ {m : ℕ} (f : ℕ) (M : 0 < m) (S : m < 2 ^ 53) where
  -- the zeros above m, how far it is moved, and half the power of two that is left
  abbrev zeros : ℕ
  zeros = count_leading_zeros 64 m

  abbrev moved : ℕ
  moved = zeros - (zeros + f) % 2

  abbrev left : ℕ
  left = (f + 1032 - moved) / 2

  top : (j : ℕ) × (zeros + suc j ≡ 64) × (2 ^ j ≤ m) × (m < 2 ^ suc j)
  top = leading_top 64 m M (omega arith)

  pub zeros_from : 11 ≤ zeros
  zeros_from = go top.0 top.1 (lt_of_not-le (λ g. not-le_of_lt S (le_trans (pow_mono g) top.2)))
    where
      go : (j : ℕ) → zeros + suc j ≡ 64 → j < 53 → 11 ≤ zeros
      go j e l = omega arith

  pub zeros_to : zeros ≤ 63
  zeros_to = go top.0 top.1
    where
      go : (j : ℕ) → zeros + suc j ≡ 64 → zeros ≤ 63
      go j e = omega arith

  pub moved_from : 2 ^ 62 ≤ m * 2 ^ moved
  moved_from = go top.0 top.1 top.2
    where
      enough : (j l n : ℕ) → l + suc j ≡ 64 → 62 ≤ j + (l - n % 2)
      enough j l n e = omega arith

      go : (j : ℕ) → zeros + suc j ≡ 64 → 2 ^ j ≤ m → 2 ^ 62 ≤ m * 2 ^ moved
      go j e l = le_trans (pow_mono (enough j zeros (zeros + f) e)) (le_trans (le_of_eq (pow-add 2 j moved)) (mul-le-mul_right (2 ^ moved) l))

  moved_below : m * 2 ^ moved < 2 ^ 64
  moved_below = go top.0 top.1 top.3
    where
      enough : (j l r : ℕ) → l + suc j ≡ 64 → suc j + (l - r) ≤ 64
      enough j l r e = omega arith

      go : (j : ℕ) → zeros + suc j ≡ 64 → m < 2 ^ suc j → m * 2 ^ moved < 2 ^ 64
      go j e l = lt_of_lt_of_le (shl_lt (suc j) moved l) (pow_mono (enough j zeros ((zeros + f) % 2) e))

  pub kept_whole : m * 2 ^ moved % 2 ^ 64 ≡ m * 2 ^ moved
  kept_whole = mod-eq_of_lt moved_below

  even_left : f + 1076 ≡ moved + 44 + (left + left)
  even_left = go zeros zeros_from zeros_to
    where
      go : (l : ℕ) → 11 ≤ l → l ≤ 63 → f + 1076 ≡ l - (l + f) % 2 + 44 + ((f + 1032 - (l - (l + f) % 2)) / 2 + (f + 1032 - (l - (l + f) % 2)) / 2)
      go l a b = omega arith

  -- the digits s of the root of what `all_digits` is given
  module _ (s : ℕ) (F : f < 2046) (R : Root (m * 2 ^ moved % 2 ^ 64 * 2 ^ 44) s) where
    abbrev n : ℕ
    n = m * 2 ^ moved * 2 ^ 44

    whole : Root n s
    whole = subst (λ (i : ℕ). Root (i * 2 ^ 44) s) kept_whole R

    digits_from : 2 ^ 53 ≤ s
    digits_from = root_from n s (2 ^ 53) whole (mul-le-mul_right (2 ^ 44) moved_from)

    pub digits_below : s < 2 ^ 54
    digits_below = root_below n s (2 ^ 54) whole (mul-lt-mul_of_pos_right moved_below (pow_pos 44))

    -- four times the square of the root, in units
    four : 4 * (m * 2 ^ f * 2 ^ 1074) ≡ n * (2 ^ left * 2 ^ left)
    four = four_square m f ∙ ap (λ (i : ℕ). m * 2 ^ i) even_left ∙ ringℕ (m ∷ 2 ^ moved ∷ 2 ^ left ∷ []) (search poly depth 30) done

    abbrev x : Float
    x = odd 53 false m f 1074

    value : Is x false (m * 2 ^ f)
    unfolding unit
    value = of_value x false (m * 2 ^ f) (odd_sign 53 false m f 1074)

    root_is : Is (root x) false ((s + 1) / 2 * 2 ^ left)
    unfolding unit
    root_is =
        let e : mag x ≡ m * 2 ^ f = value.mag_is in
        let v : 4 * (mag x * 2 ^ 1074) ≡ n * (2 ^ left * 2 ^ left) = ap (λ (i : ℕ). 4 * (i * 2 ^ 1074)) e ∙ four in
        root_digits x s left value.good value.sign_is (record { digits = m; places = f; few = S; is = e })
        (lt_of_le_of_lt (le_of_eq e) (lt_of_lt_of_le (shl_lt 53 f S) (pow_mono {i = 53 + f} {j = 2098} (omega arith))))
        digits_from digits_below
        (le_trans (le_of_eq (mul-mul-mul_comm s (2 ^ left) s (2 ^ left))) (le_trans (mul-le-mul_right (2 ^ left * 2 ^ left) whole.0) (le_of_eq (sym v))))
        (lt_of_le_of_lt (le_of_eq v) (lt_of_lt_of_le (mul-lt-mul_of_pos_right whole.1 (mul-pos (pow_pos left) (pow_pos left))) (le_of_eq (sym (mul-mul-mul_comm (s + 1) (2 ^ left) (s + 1) (2 ^ left))))))

    pub bits_of_root : left * 2 ^ 52 + (s + 1) / 2 ≡ to_bits binary64 (root (odd 53 false m f 1074))
    bits_of_root = sym (bits_are (root x) ((s + 1) / 2) left root_is (omega (arith, digits_from)) (omega (arith, digits_below)))
