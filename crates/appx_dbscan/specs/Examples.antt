-- Small runs computed against the definitions: document 01's "Run only" cases, and sets where only rounding decides.
use Rattle.std.specs.Prelude.{◌≡◌, refl, List, [], ◌∷◌, ◌++◌, ℕ, ℤ, pos}
use Rattle.hyperparams.specs.Params.{float, slack_at, valid_of, whole_tolerance, slack_power, appx_tolerance_of}
use Rattle.appx_dbscan.specs.Transform.{Answer, run}
use Rattle.appx_dbscan.specs.Small.{params, minus}

-- channels, min_points, t, s and the points
abbrev answer : ℕ → ℕ → ℕ → ℕ → List ℤ → Answer
answer d m t s ps = run (valid_of (params d m (float t) (slack_at s))) ps

abbrev told : (labels kinds : List ℕ) → (clusters cores : ℕ) → Answer
told labels kinds clusters cores = record { labels = labels; kinds = kinds; cluster_count = clusters; core_count = cores }

-- "Zero frames are accepted: no clusters, no core frames."
no_frames : answer 1 2 2 0 [] ≡ told [] [] 0 0
unfolding run
no_frames = refl

-- "one frame with `min_points` 2 is noise"
one_frame : answer 1 2 2 0 (pos 7 ∷ []) ≡ told (65535 ∷ []) (0 ∷ []) 0 0
unfolding run whole_tolerance slack_power appx_tolerance_of
one_frame = refl

-- "frames 5 and 5, t = 1, `min_points` 2, one cluster"
twins : answer 1 2 1 0 (pos 5 ∷ pos 5 ∷ []) ≡ told (0 ∷ 0 ∷ []) (2 ∷ 2 ∷ []) 1 2
unfolding run whole_tolerance slack_power appx_tolerance_of
twins = refl

-- "−32,768 against 32,767", at the largest tolerance and one below it
ends : (answer 1 2 65535 0 (minus 32768 ∷ pos 32767 ∷ []) ≡ told (0 ∷ 0 ∷ []) (2 ∷ 2 ∷ []) 1 2) × (answer 1 2 65534 10 (minus 32768 ∷ pos 32767 ∷ []) ≡ told (65535 ∷ 65535 ∷ []) (0 ∷ 0 ∷ []) 0 0)
unfolding run whole_tolerance slack_power appx_tolerance_of
ends = (refl, refl)

-- `min_points` above the number of frames: all noise
too_few : answer 1 3 1 0 (pos 5 ∷ pos 5 ∷ []) ≡ told (65535 ∷ 65535 ∷ []) (0 ∷ 0 ∷ []) 0 0
unfolding run whole_tolerance slack_power appx_tolerance_of
too_few = refl

-- Only rounding decides: three channels, s = 1, min_points 3, d = t + h exactly in real numbers. The last frame is noise at t = 12, and border with all counts times three.
abbrev thrice : (p q : List ℤ) → List ℤ
thrice p q = p ++ p ++ p ++ q

noise_by_rounding : answer 3 3 12 1 (thrice (minus 14 ∷ minus 3 ∷ minus 3 ∷ []) (minus 1 ∷ pos 2 ∷ pos 2 ∷ [])) ≡ told (0 ∷ 0 ∷ 0 ∷ 65535 ∷ []) (2 ∷ 2 ∷ 2 ∷ 0 ∷ []) 1 3
unfolding run whole_tolerance slack_power appx_tolerance_of
noise_by_rounding = refl

border_by_rounding : answer 3 3 36 1 (thrice (minus 42 ∷ minus 9 ∷ minus 9 ∷ []) (minus 3 ∷ pos 6 ∷ pos 6 ∷ [])) ≡ told (0 ∷ 0 ∷ 0 ∷ 0 ∷ []) (2 ∷ 2 ∷ 2 ∷ 1 ∷ []) 1 3
unfolding run whole_tolerance slack_power appx_tolerance_of
border_by_rounding = refl

-- a border frame between two clusters: frame 4 has core frames of both nearer than t, and takes the cluster of the first listed cell
between_clusters : answer 1 4 5 1 (pos 9 ∷ minus 3 ∷ minus 5 ∷ pos 5 ∷ pos 1 ∷ minus 8 ∷ pos 8 ∷ []) ≡ told (1 ∷ 0 ∷ 0 ∷ 1 ∷ 0 ∷ 0 ∷ 1 ∷ []) (1 ∷ 2 ∷ 1 ∷ 2 ∷ 1 ∷ 1 ∷ 1 ∷ []) 2 2
unfolding run whole_tolerance slack_power appx_tolerance_of
between_clusters = refl

-- four channels, s = 2
four_channels : answer 4 2 4 2 (
    pos 0 ∷ pos 0 ∷ pos 0 ∷ pos 0 ∷ pos 1 ∷ pos 1 ∷ pos 1 ∷ pos 1 ∷ pos 3 ∷ pos 3 ∷ pos 3 ∷ pos 3
    ∷ pos 9 ∷ minus 9 ∷ pos 9 ∷ minus 9 ∷ pos 10 ∷ minus 9 ∷ pos 9 ∷ minus 9 ∷ minus 30 ∷ pos 0 ∷ pos 0 ∷ pos 0 ∷ [])
    ≡ told (0 ∷ 0 ∷ 0 ∷ 1 ∷ 1 ∷ 65535 ∷ []) (2 ∷ 2 ∷ 2 ∷ 2 ∷ 2 ∷ 0 ∷ []) 2 5
unfolding run whole_tolerance slack_power appx_tolerance_of
four_channels = refl

-- a cell with a core frame, −5, and one that is not, −6: the latter is a border frame
mixed_cell : answer 1 3 2 0 (minus 3 ∷ minus 5 ∷ minus 6 ∷ []) ≡ told (0 ∷ 0 ∷ 0 ∷ []) (1 ∷ 2 ∷ 1 ∷ []) 1 1
unfolding run whole_tolerance slack_power appx_tolerance_of
mixed_cell = refl

-- a child that straddles its parent's edge: the box of −1 at the next level is [−1.5, −0.5], its cell is [−1, 1]; that child is Disjoint of 3, and 3 is noise
straddling_child : answer 1 2 2 1 (minus 1 ∷ minus 1 ∷ pos 3 ∷ []) ≡ told (0 ∷ 0 ∷ 65535 ∷ []) (2 ∷ 2 ∷ 0 ∷ []) 1 2
unfolding run whole_tolerance slack_power appx_tolerance_of
straddling_child = refl
