-- Document 01, "Cases by letter (a to m proved together)": one computed table against the definitions.
use Rattle.std.specs.Prelude.{◌≡◌, refl, ℕ, ℤ, eqb, replicate, Ok, Err}
use mathlib.Core.List.{List, [], ◌∷◌, ◌++◌, map}
use Rattle.std.proofs.Math.IntN.{pos}
use Rattle.lists.specs.Lists.{how_many}
use Rattle.std.specs.Float.{nan}
use Rattle.std.specs.Float.Ieee.{of_int}
use Rattle.hyperparams.specs.declared.Params.{Params}
use Rattle.hyperparams.specs.Params.{float, slack_at, valid_of, appx_tolerance_of, checked_of, number_of}
use Rattle.counting_tree.specs.declared.IntersectionType.{IntersectionType}
use Rattle.counting_tree.specs.declared.IntersectionType.TheVariants.{Disjoint, FullyCovered, Intersecting}
use Rattle.counting_tree.specs.Grid.{index}
use Rattle.counting_tree.specs.Box.{intersection}
use Rattle.counting_tree.specs.Geometry.{side}
use Rattle.appx_dbscan.specs.Transform.{Outcome, run, outcome_of, labels_left, kinds_left, work_left, checked_call}
use Rattle.appx_dbscan.specs.Small.{params, minus}

-- "One channel, t = 2, side 2": the base side of these settings
abbrev index_at2 : ℤ → ℤ
index_at2 c = unfold index in index (side (valid_of (params 1 2 (float 2) (slack_at 0))) [] 0) c

abbrev told : IntersectionType → ℕ
told Disjoint = 0
told FullyCovered = 1
told Intersecting = 2

-- "Box centre 0, side 2, t = 2", against q at the slack of s
abbrev box_at2 : ℕ → ℕ → ℤ
box_at2 s q = unfold intersection in pos (told (intersection 1 (float 2) (appx_tolerance_of (float 2) (slack_at s)) (float 2) (float 0 ∷ []) (float q ∷ [])))

-- the outcome of a call: clusters and core frames, or the number of the refusal
abbrev answer_told : Outcome → List ℕ
answer_told (Ok k) = k.clusters ∷ k.core_frames ∷ []
answer_told (Err r) = number_of r ∷ []

-- the labels and kinds that a call leaves in slices of four, which held 7 and 9, its outcome, and how many of 96 work words, which held 5, are 0 and how many still 5
abbrev call : Params → List ℤ → List ℤ
call p ps =
    let labels : List ℕ = replicate 4 7 in
    let kinds : List ℕ = replicate 4 9 in
    let work : List ℕ = replicate 96 5 in
    let c = checked_call p ps labels kinds work in
    let words = work_left c ps work in
    map pos (labels_left c ps labels ++ kinds_left c ps kinds ++ answer_told (outcome_of c ps) ++ (how_many (eqb 0) words ∷ how_many (eqb 5) words ∷ []))

unfoldable pub computed : List (List ℤ)
unfolding index side intersection appx_tolerance_of slack_at checked_of run of_int
computed =
    (index_at2 (pos 1) ∷ index_at2 (minus 1) ∷ [])
    ∷ (index_at2 (pos 3) ∷ [])
    ∷ (index_at2 (minus 3) ∷ [])
    ∷ (index_at2 (minus 2) ∷ [])
    ∷ (box_at2 0 3 ∷ [])
    ∷ (box_at2 0 4 ∷ [])
    ∷ (box_at2 1 3 ∷ [])
    ∷ call (params 1 3 (float 2) (slack_at 0)) (minus 1 ∷ pos 1 ∷ pos 3 ∷ [])
    ∷ call (params 1 3 (float 2) (slack_at 0)) (minus 1 ∷ pos 1 ∷ pos 4 ∷ [])
    ∷ call (params 2 2 (float 100) (slack_at 0)) (minus 35 ∷ minus 35 ∷ pos 35 ∷ pos 0 ∷ pos 176 ∷ pos 35 ∷ pos 107 ∷ pos 0 ∷ [])
    ∷ call (params 2 2 (float 100) (slack_at 0)) (pos 35 ∷ pos 0 ∷ minus 35 ∷ minus 35 ∷ pos 107 ∷ pos 0 ∷ pos 176 ∷ pos 35 ∷ [])
    ∷ call (params 1 1 (float 0) (slack_at 0)) (pos 5 ∷ [])
    ∷ call (params 1 2 nan (slack_at 0)) (pos 5 ∷ [])
    ∷ []

-- labels, kinds, then clusters and core frames or a number, then work words that are 0 and that are as they were
abbrev told4 : List ℕ → List ℕ → List ℕ → List ℤ
told4 labels kinds counts = map pos (labels ++ kinds ++ counts)

unfoldable pub expected : List (List ℤ)
expected =
    (pos 0 ∷ pos 0 ∷ [])  -- (a) counts 1 and −1 have index 0
    ∷ (pos 1 ∷ [])  -- (b) 3 has 1
    ∷ (minus 2 ∷ [])  -- (c) −3 has −2
    ∷ (minus 1 ∷ [])  -- (d) −2 has −1
    ∷ (pos 1 ∷ [])  -- (e) s = 0, q = 3 FullyCovered
    ∷ (pos 0 ∷ [])  -- (f) q = 4 Disjoint
    ∷ (pos 2 ∷ [])  -- (g) s = 1, q = 3 Intersecting
    ∷ told4 (0 ∷ 0 ∷ 0 ∷ 7 ∷ []) (1 ∷ 2 ∷ 1 ∷ 9 ∷ []) (1 ∷ 1 ∷ 72 ∷ 24 ∷ [])  -- (h) only the frame 1 is core
    ∷ told4 (65535 ∷ 65535 ∷ 65535 ∷ 7 ∷ []) (0 ∷ 0 ∷ 0 ∷ 9 ∷ []) (0 ∷ 0 ∷ 72 ∷ 24 ∷ [])  -- (i) three noise frames
    ∷ told4 (0 ∷ 0 ∷ 1 ∷ 1 ∷ []) (2 ∷ 2 ∷ 2 ∷ 2 ∷ []) (2 ∷ 4 ∷ 96 ∷ 0 ∷ [])  -- (j) all core, labels 0, 0, 1, 1
    ∷ told4 (0 ∷ 0 ∷ 0 ∷ 0 ∷ []) (2 ∷ 2 ∷ 2 ∷ 2 ∷ []) (1 ∷ 4 ∷ 96 ∷ 0 ∷ [])  -- (k) one cluster
    ∷ told4 (7 ∷ 7 ∷ 7 ∷ 7 ∷ []) (9 ∷ 9 ∷ 9 ∷ 9 ∷ []) (1 ∷ 0 ∷ 96 ∷ [])  -- (l) min_points 1 with t = 0: number 1, nothing changed
    ∷ told4 (7 ∷ 7 ∷ 7 ∷ 7 ∷ []) (9 ∷ 9 ∷ 9 ∷ 9 ∷ []) (4 ∷ 0 ∷ 96 ∷ [])  -- (m) NaN tolerance with slack 1: number 4, nothing changed
    ∷ []

pub cases : computed ≡ expected
unfolding computed expected
cases = refl
