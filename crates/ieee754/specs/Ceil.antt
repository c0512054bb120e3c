-- The ceiling of a float as a whole number. Definition only.
use Rattle.std.specs.Prelude.{◌+◌, ◌-◌, ◌*◌, ◌/◌, true, false, ℤ, pos, neg_ℤ, Float}
use Rattle.std.specs.Float.{nan, inf, fin}
use Rattle.std.specs.Float.Ieee.{up, down}

-- the least whole number that is not below a finite x
unfoldable pub ceil : Float → ℤ
ceil nan = pos 0
ceil (inf s) = pos 0
ceil (fin false m e) = pos ((m * up e + (down e - 1)) / down e)
ceil (fin true m e) = neg_ℤ (pos (m * up e / down e))
