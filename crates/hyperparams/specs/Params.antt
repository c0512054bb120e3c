-- Document 01, "Domain", "The table of refusals" and module 1: what is accepted, and the numbers t and s of the settings. Definitions only.
use Rattle.std.specs.Prelude.{ℕ, zero, suc, ◌+◌, ◌*◌, ◌/◌, ◌%◌, ◌^◌, Bool, cond, not, ◌&&◌, ◌||◌, pos, ◌==◌, nat_le, nat_lt, Float, Option, None, Some, Result, Ok, Err, List, codes}
use Rattle.std.specs.Float.Ieee as Ieee
use Rattle.std.specs.Float.{binary64}
use Rattle.std.specs.Float.Ieee.{add, mul, div, le, eq, of_int, to_unsigned, in_unsigned}
use Rattle.hyperparams.specs.declared.Params.{Params}
use Rattle.hyperparams.specs.declared.ValidParams.{ValidParams}
use Rattle.hyperparams.specs.declared.Refusal.{Refusal}
use Rattle.hyperparams.specs.declared.Refusal.TheVariants.{MinPoints, Tolerance, Slack, ToleranceDomain, SlackDomain, Channels, Points, Results, Work}

-- "0 to 4,096 frames"
abbrev pub max_frames : ℕ
max_frames = 4096

-- "s from 0 to 10"
abbrev pub max_power : ℕ
max_power = 10

-- n as a float
abbrev pub float : ℕ → Float
float n = of_int binary64 (pos n)

-- "Tolerance t: an f64 holding a whole number, 1 to 65,535" (NaN and infinity hold none); the number itself is `whole_tolerance`
unfoldable pub good_tolerance : Float → Bool
unfolding in_unsigned Ieee.whole to_unsigned
good_tolerance x = in_unsigned binary64 16 x && nat_lt 0 (to_unsigned 16 x)

unfoldable pub whole_tolerance : Float → ℕ
unfolding to_unsigned
whole_tolerance x = to_unsigned 16 x

-- the number that x holds, if it holds one
abbrev pub whole_tolerance_of : Float → Option ℕ
whole_tolerance_of x = cond (good_tolerance x) (Some (whole_tolerance x)) None

-- "1 divided by 2 to the power s"
unfoldable pub slack_at : ℕ → Float
unfolding div of_int
slack_at s = div binary64 (float 1) (float (2 ^ s))

-- the first of k numbers from s on whose slack x is; s + k if there is none
abbrev pub slack_from : ℕ → ℕ → Float → ℕ
slack_from zero s x = s
slack_from (suc k) s x = let r = slack_from k (suc s) x in cond (eq x (slack_at s)) s r

-- the s of the slack, "s from 0 to 10"; 11 where the slack is none of these
unfoldable pub slack_power : Float → ℕ
unfolding eq slack_at
slack_power x = slack_from (suc max_power) 0 x

-- the s of the slack, if it has one
abbrev pub slack_power_of : Float → Option ℕ
slack_power_of x = cond (nat_le (slack_power x) max_power) (Some (slack_power x)) None

-- "Extended tolerance = t × (1 + slack)"
unfoldable pub appx_tolerance_of : Float → Float → Float
unfolding add mul of_int
appx_tolerance_of t slack = mul binary64 t (add binary64 (float 1) slack)

-- AppxDbscanValidParams of the source, with t of "an f64 holding a whole number" and s of "1 divided by 2 to the power s"
abbrev pub valid_of : Params → ValidParams
valid_of p = record {
  channels = p.channels;
  min_points = p.min_points;
  tolerance = p.tolerance;
  appx_tolerance = appx_tolerance_of p.tolerance p.slack;
  t = whole_tolerance p.tolerance;
  s = slack_power p.slack;
}

-- "Levels below the root: L = 1 + s."
abbrev pub levels : ℕ → ℕ
levels s = 1 + s

-- "Work memory (added): unsigned 16-bit words, frames × (16 + 4 × (L + 1))."
abbrev pub work_words : ℕ → ℕ → ℕ
work_words frames s = frames * (16 + 4 * (levels s + 1))

-- the table's verdict: the settings that passed, or why the call is refused
abbrev pub Verdict : Type 0
Verdict = Result ValidParams Refusal

-- "The table of refusals (first that applies, top down)", on the settings and the lengths of the slices; "A run is accepted if no refusal's condition holds."
unfoldable pub checked_of : Params → (points labels kinds work : ℕ) → Verdict
unfolding good_tolerance slack_power appx_tolerance_of whole_tolerance le of_int
checked_of p points labels kinds work =
    let d = p.channels in
    let frames = points / d in
    let s = slack_power p.slack in
    cond (nat_le p.min_points 1) (Err MinPoints)
    (cond (le p.tolerance (float 0)) (Err Tolerance)
    (cond (le p.slack (float 0)) (Err Slack)
    (cond (not (good_tolerance p.tolerance)) (Err ToleranceDomain)
    (cond (nat_lt max_power s) (Err SlackDomain)
    (cond (not (nat_le 1 d && nat_le d 4)) (Err Channels)
    (cond (not (points % d == 0) || nat_lt max_frames frames) (Err Points)
    (cond (nat_lt labels frames || nat_lt kinds frames) (Err Results)
    (cond (nat_lt work (work_words frames s)) (Err Work)
    (Ok (valid_of p))))))))))

-- the table's numbers
abbrev pub number_of : Refusal → ℕ
number_of MinPoints = 1
number_of Tolerance = 2
number_of Slack = 3
number_of ToleranceDomain = 4
number_of SlackDomain = 5
number_of Channels = 6
number_of Points = 7
number_of Results = 8
number_of Work = 9

-- what is printed of a refusal; the first three are the source's words
abbrev pub text_of : Refusal → List ℕ
text_of MinPoints = codes "min_points must be greater than 1"
text_of Tolerance = codes "tolerance must be greater than 0"
text_of Slack = codes "slack must be greater than 0"
text_of ToleranceDomain = codes "tolerance must be a whole number from 1 to 65535"
text_of SlackDomain = codes "slack must be 1 divided by 2 to the power s, s from 0 to 10"
text_of Channels = codes "a frame must have 1 to 4 channels"
text_of Points = codes "points must be whole frames, at most 4096"
text_of Results = codes "labels and kinds must have room for every frame"
text_of Work = codes "work must have frames * (16 + 4 * (s + 2)) words"
