-- Document 01, "Domain": frames as lists of counts, and the sum of squared differences. Definitions only.
use Rattle.std.specs.Prelude.{List, [], ◌∷◌, map, ℕ, zero, suc, ◌+◌, ◌-◌, ◌*◌, ◌/◌, ℤ, pos, negsuc, length, take, drop, Float}
use Rattle.std.specs.Float.{binary64}
use Rattle.std.specs.Float.Ieee.{of_int}

-- "A frame is 1 to 4 channels, each a signed 16-bit count."
abbrev pub Frame : Type 0
Frame = List ℤ

-- "Points are given frame after frame": n frames of d counts
abbrev pub frames_in : ℕ → ℕ → List ℤ → List Frame
frames_in zero d ps = []
frames_in (suc n) d ps = take d ps ∷ frames_in n d (drop d ps)

-- all the frames of the points
unfoldable pub frames_of : ℕ → List ℤ → List Frame
frames_of d ps = frames_in (length ps / d) d ps

-- |a - b|
abbrev pub apart : ℤ → ℤ → ℕ
apart (pos a) (pos b) = (a - b) + (b - a)
apart (pos a) (negsuc b) = a + suc b
apart (negsuc a) (pos b) = suc a + b
apart (negsuc a) (negsuc b) = (a - b) + (b - a)

-- "N the sum of squared differences"
abbrev pub squared : Frame → Frame → ℕ
squared [] ys = 0
squared (x ∷ xs) [] = 0
squared (x ∷ xs) (y ∷ ys) = apart x y * apart x y + squared xs ys

-- the counts as floats
abbrev pub floats : Frame → List Float
floats = map (of_int binary64)
