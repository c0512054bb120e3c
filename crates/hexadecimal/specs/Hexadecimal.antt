-- Numbers in lowercase hexadecimal digits. Definitions only.
use Rattle.std.specs.Prelude.{Bool, ◌&&◌, cond, Option, Some, None, is_some, List, ℕ, zero, suc, ◌+◌, ◌-◌, ◌*◌, leb, ltb, ℤ, pos, negsuc, get_or}
use Rattle.std.specs.Option.{unwrap_or}

-- 0 to 9
abbrev pub is_decimal : ℕ → Bool
is_decimal b = leb 48 b && leb b 57

-- a to f
abbrev pub is_letter : ℕ → Bool
is_letter b = leb 97 b && leb b 102

-- what a digit stands for
abbrev pub digit : ℕ → Option ℕ
digit b = cond (is_decimal b) (Some (b - 48)) (cond (is_letter b) (Some (b - 87)) None)

abbrev pub is_digit : ℕ → Bool
is_digit b = is_some (digit b)

-- what a digit stands for, 0 where the byte is none
abbrev pub digit_of : ℕ → ℕ
digit_of b = unwrap_or (digit b) 0

-- the number of the k digits at a place; past the end there is no digit
unfoldable pub number : List ℕ → (at k : ℕ) → ℕ
number bs at zero = 0
number bs at (suc k) = 16 * number bs at k + digit_of (get_or bs (at + k) 0)

-- "two's complement"
abbrev pub signed : ℕ → ℤ
signed n = cond (ltb n 32768) (pos n) (negsuc (65535 - n))
