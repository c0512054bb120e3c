-- The answer of a run as numbers, for callers in other languages. Definitions only.
use Rattle.std.specs.Prelude.{cond, ◌&&◌, ℕ, leb, Ok, Err}
use Rattle.hyperparams.specs.Params.{max_frames, work_words, number_of}
use Rattle.appx_dbscan.specs.Transform.{Outcome}
use Rattle.appx_dbscan_c.specs.declared.AppxDbscanOutcome.{AppxDbscanOutcome}

-- the number of the refusal, 0 where the frames are labelled; then the counts, 0 where they are not
abbrev pub told_of : Outcome → AppxDbscanOutcome
told_of (Ok k) = record { refusal = 0; clusters = k.clusters; core_frames = k.core_frames }
told_of (Err r) = record { refusal = number_of r; clusters = 0; core_frames = 0 }

-- the work words that a run on so many frames needs, its slack 1 / 2^s; 0 outside the domain
abbrev pub needed_of : ℕ → ℕ → ℕ
needed_of frames s = cond (leb frames max_frames && leb s 10) (work_words frames s) 0
