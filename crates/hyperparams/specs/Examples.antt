-- Computed examples of the table: the number returned, 0 for an accepted run.
use Rattle.std.specs.Prelude.{◌≡◌, ℕ, true, false, [], ◌∷◌, map, pos, negsuc, refl, Float, Ok}
use Rattle.std.specs.Float.{nan, inf, fin}
use Rattle.hyperparams.specs.declared.Params.{Params}
use Rattle.hyperparams.specs.Params.{float, slack_power, checked_of}
use Rattle.hyperparams.specs.Accepted.{returned}

abbrev settings : (channels points : ℕ) → (tolerance slack : Float) → Params
settings channels points tolerance slack = record { channels = channels; min_points = points; tolerance = tolerance; slack = slack }

-- by the tolerance, by the slack, and by the lengths of the slices; the other settings are good
abbrev by_tolerance : Float → ℕ
by_tolerance t = returned (checked_of (settings 1 2 t (float 1)) 0 0 0 0)

abbrev by_slack : Float → ℕ
by_slack x = returned (checked_of (settings 1 2 (float 1) x) 0 0 0 0)

abbrev by_lengths : (channels points labels kinds work : ℕ) → ℕ
by_lengths channels points labels kinds work = returned (checked_of (settings channels 2 (float 1) (float 1)) points labels kinds work)

-- NaN (case (m)), the infinities, -0, the least positive float, 2.5, -1
not_whole : map by_tolerance (nan ∷ (inf false ∷ (inf true ∷ (fin true 0 (pos 0) ∷ (fin false 1 (negsuc 1073) ∷ (fin false 5 (negsuc 0) ∷ (fin true 1 (pos 0) ∷ []))))))) ≡ 4 ∷ (4 ∷ (2 ∷ (2 ∷ (4 ∷ (4 ∷ (2 ∷ []))))))
unfolding checked_of
not_whole = refl

whole_tolerances : map by_tolerance (float 0 ∷ (float 1 ∷ (float 65535 ∷ (float 65536 ∷ [])))) ≡ 2 ∷ (0 ∷ (0 ∷ (4 ∷ [])))
unfolding checked_of
whole_tolerances = refl

-- 1, 1 / 1024, 1 / 2048, 0.3, NaN, -1
slacks : map by_slack (float 1 ∷ (fin false 1 (negsuc 9) ∷ (fin false 1 (negsuc 10) ∷ (fin false 5404319552844595 (negsuc 53) ∷ (nan ∷ (fin true 1 (pos 0) ∷ [])))))) ≡ 0 ∷ (0 ∷ (5 ∷ (5 ∷ (5 ∷ (3 ∷ [])))))
unfolding checked_of
slacks = refl

-- the infinities, -0, the least positive float
no_slacks : map by_slack (inf false ∷ (inf true ∷ (fin true 0 (pos 0) ∷ (fin false 1 (negsuc 1073) ∷ [])))) ≡ 5 ∷ (3 ∷ (3 ∷ (5 ∷ [])))
unfolding checked_of
no_slacks = refl

powers : map slack_power (float 1 ∷ (fin false 1 (negsuc 9) ∷ (fin false 1 (negsuc 10) ∷ []))) ≡ 0 ∷ (10 ∷ (11 ∷ []))
unfolding slack_power
powers = refl

-- case (l)
case_l : returned (checked_of (settings 1 1 (float 0) (float 1)) 0 0 0 0) ≡ 1
unfolding checked_of
case_l = refl

-- 0, 1, 4 and 5 channels
channels : map (λ d. by_lengths d 0 0 0 0) (0 ∷ (1 ∷ (4 ∷ (5 ∷ [])))) ≡ 6 ∷ (0 ∷ (0 ∷ (6 ∷ [])))
unfolding checked_of
channels = refl

no_multiple : by_lengths 2 5 3 3 100 ≡ 7
unfolding checked_of
no_multiple = refl

-- three frames of two channels: nothing short, then labels, kinds and work memory one short
one_short : by_lengths 2 6 3 3 72 ∷ (by_lengths 2 6 2 3 72 ∷ (by_lengths 2 6 3 2 72 ∷ (by_lengths 2 6 3 3 71 ∷ []))) ≡ 0 ∷ (8 ∷ (8 ∷ (9 ∷ [])))
unfolding checked_of
one_short = refl

most_frames_lem : by_lengths 4 16384 4096 4096 98304 ∷ (by_lengths 1 4097 4097 4097 98328 ∷ []) ≡ 0 ∷ (7 ∷ [])
unfolding checked_of
most_frames_lem = refl

-- the settings of case (h), and no frames
no_frames : checked_of (settings 1 3 (float 2) (float 1)) 0 0 0 0 ≡ Ok (record { channels = 1; min_points = 3; tolerance = float 2; appx_tolerance = float 4; t = 2; s = 0 })
unfolding checked_of
no_frames = refl
