-- What any bytes count for as digits. Definitions only.
use Rattle.std.specs.Prelude.{List, ℕ, ◌+◌, ◌-◌, ◌*◌, ◌%◌, cond, leb, get_or}

-- bytes that are no digits count on from 0 and a, modulo 16; those below 0 are 0
abbrev pub digit_of : ℕ → ℕ
digit_of b = cond (leb 97 b) (b - 87) (b - 48) % 16

-- the number of the 2 digits at a place
abbrev pub two_of : List ℕ → ℕ → ℕ
two_of bs at = 16 * digit_of (get_or bs at 0) + digit_of (get_or bs (at + 1) 0)

-- the number of the 4 digits at a place
abbrev pub four_of : List ℕ → ℕ → ℕ
four_of bs at = 256 * two_of bs at + two_of bs (at + 2)
