-- Document 01, "The desk program" and the table's number 10: from the bytes of the input to the bytes of the output. Definitions only.
use Rattle.std.specs.Prelude.{Bool, ◌&&◌, cond, List, [], ◌∷◌, ◌++◌, ℕ, zero, suc, ◌+◌, ◌-◌, ◌*◌, ◌/◌, ◌%◌, leb, ltb, eqb, ℤ, length, get_or, replicate, Ok, Err}
use Rattle.lists.specs.Lists.{concat}
use Rattle.lists.specs.Words.{column}
use Rattle.hexadecimal.specs.Hexadecimal.{is_digit, number, signed}
use Rattle.hyperparams.specs.declared.Params.{Params}
use Rattle.hyperparams.specs.Params.{Verdict, float, slack_at, checked_of, number_of, work_words}
use Rattle.appx_dbscan.specs.Transform.{Outcome, run, outcome_of, labels_left, kinds_left}

-- ---- the input: "lowercase hexadecimal, each line ended by a line feed"
abbrev pub line_feed : ℕ
line_feed = 10

-- a line of k digits stands at a place; past the end there is no digit and no line feed
abbrev pub is_line : List ℕ → (at k : ℕ) → Bool
is_line bs at zero = eqb (get_or bs at 0) line_feed
is_line bs at (suc k) = let more = is_line bs (suc at) k in is_digit (get_or bs at 0) && more

-- n lines of k digits stand from a place on, and then the input ends
abbrev pub are_lines : List ℕ → (k n at : ℕ) → Bool
are_lines bs k zero at = eqb at (length bs)
are_lines bs k (suc n) at = let more = are_lines bs k n (at + k + 1) in is_line bs at k && more

-- "Line one, 12 digits: channels (2), `min_points` (4), t (4), s (2)."
abbrev pub line_one : ℕ
line_one = 12

abbrev pub channels_of : List ℕ → ℕ
channels_of bs = number bs 0 2

-- "Then one frame a line, 4 two's complement digits a channel": how many such lines are as long as what follows line one
abbrev pub frame_count : List ℕ → ℕ
frame_count bs = (length bs - (line_one + 1)) / (4 * channels_of bs + 1)

abbrev pub most_frames : ℕ
most_frames = 256

-- "Number 10: another character or length, channels not 01 to 04, over 256 frames, a missing line end."
unfoldable pub well_formed : List ℕ → Bool
unfolding number
well_formed bs =
    let d = channels_of bs in
    let n = frame_count bs in
    is_line bs 0 line_one
    && (leb 1 d && leb d 4)
    && leb n most_frames
    && are_lines bs (4 * d) n (line_one + 1)

-- count i of frames of d channels: after line one, four digits for each count before it and a line feed for each frame before it
unfoldable pub count_at : List ℕ → (d i : ℕ) → ℤ
unfolding number
count_at bs d i = signed (number bs (line_one + 1 + 4 * i + i / d) 4)

pub record Parsed : Type 0 where
  pub channels : ℕ
  pub min_points : ℕ
  pub t : ℕ
  pub s : ℕ
  pub points : List ℤ

-- what a well-formed input says
unfoldable pub parsed : List ℕ → Parsed
unfolding number count_at
parsed bs = record {
  channels = channels_of bs;
  min_points = number bs 2 4;
  t = number bs 6 4;
  s = number bs 10 2;
  points = column (count_at bs (channels_of bs)) (frame_count bs * channels_of bs);
}

-- ---- the run
-- "Tolerance t: an f64 holding a whole number", "The slack is an f64 equal to 1 divided by 2 to the power s", for any two digits of s
abbrev pub settings_of : Parsed → Params
settings_of p = record { channels = p.channels; min_points = p.min_points; tolerance = float p.t; slack = slack_at p.s }

-- the memory that the program lends: for 256 frames at s = 10
abbrev pub most_words : ℕ
most_words = work_words most_frames 10

-- the table's verdict on the parsed input
abbrev pub verdict : Parsed → Verdict
verdict p = checked_of (settings_of p) (length p.points) most_frames most_frames most_words

-- ---- the output: "in lowercase hexadecimal with the same line ends"
unfoldable pub glyph : ℕ → ℕ
glyph n = cond (ltb n 10) (48 + n) (87 + n)

-- the last two and the last four digits of a number
unfoldable pub hex2 : ℕ → List ℕ
unfolding glyph
hex2 n = glyph (n / 16 % 16) ∷ (glyph (n % 16) ∷ [])

unfoldable pub hex4 : ℕ → List ℕ
unfolding hex2
hex4 n = hex2 (n / 256) ++ hex2 n

-- "a line per frame, kind (2 digits) and label (4)"
unfoldable pub frame_line : (kind label : ℕ) → List ℕ
unfolding hex2 hex4
frame_line kind label = hex2 kind ++ hex4 label ++ (line_feed ∷ [])

abbrev pub frame_lines : (kinds labels : List ℕ) → (frames : ℕ) → List ℕ
frame_lines kinds labels frames = concat (column (λ f. frame_line (get_or kinds f 0) (get_or labels f 0)) frames)

-- "then a line of clusters (4) and core frames (4)"
unfoldable pub count_line : (clusters cores : ℕ) → List ℕ
unfolding hex4
count_line clusters cores = hex4 clusters ++ hex4 cores ++ (line_feed ∷ [])

-- "A refusal prints only one line, `ee` and its number in 2 such digits"
unfoldable pub refusal_line : ℕ → List ℕ
unfolding hex2
refusal_line number = 101 ∷ (101 ∷ (hex2 number ++ (line_feed ∷ [])))

abbrev pub lines_of : Outcome → (kinds labels : List ℕ) → (frames : ℕ) → List ℕ
lines_of (Err r) kinds labels frames = refusal_line (number_of r)
lines_of (Ok k) kinds labels frames = frame_lines kinds labels frames ++ count_line k.clusters k.core_frames

-- the answer to a parsed input: "A label is the number left in the labels slice", and so the kind byte
unfoldable pub answer_to : Parsed → List ℕ
unfolding frame_line count_line refusal_line checked_of slack_at run
answer_to p =
    let c = verdict p in
    let empty : List ℕ = replicate most_frames 0 in
    lines_of (outcome_of c p.points) (kinds_left c p.points empty) (labels_left c p.points empty) (length p.points / p.channels)

-- "the desk program, which tests its whole input before any run"; "so `ee0a` for number 10"
unfoldable pub desk_of : List ℕ → List ℕ
unfolding well_formed parsed answer_to refusal_line
desk_of bs =
    let answer = answer_to (parsed bs) in
    cond (well_formed bs) answer (refusal_line 10)

-- the longest output: a line of 7 bytes for each frame, and 9 for the last line
abbrev pub most_bytes : ℕ
most_bytes = most_frames * 7 + 9
