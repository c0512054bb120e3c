-- The lines of what comes of an input. Definitions only.
use Rattle.std.specs.Prelude.{List, ℕ, Result, Ok, Err}
use Rattle.hyperparams.specs.Params.{number_of}
use Rattle.desk.specs.Desk.{refusal_line, lines_of}
use Rattle.desk.specs.declared.outcome.Labelled.{Labelled}
use Rattle.desk.specs.declared.outcome.Failure.{Failure}
use Rattle.desk.specs.declared.outcome.Failure.TheVariants.{Malformed, Refused}

-- "Number 10" of a malformed input, the table's of a refused run
abbrev pub number_after : Failure → ℕ
number_after Malformed = 10
number_after (Refused r) = number_of r

-- the lines of the labels, or of the failure
abbrev pub lines_after : Result Labelled Failure → List ℕ
lines_after (Ok r) = lines_of (Ok r.counts) r.kinds r.labels r.frames
lines_after (Err f) = refusal_line (number_after f)
