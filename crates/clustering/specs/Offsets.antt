-- The marks of the sorted cells and their runs in words of one slice, each from an offset on: what such words hold, and what laying others does to them.
use Rattle.std.specs.Prelude.{◌≡◌, List, map, ℕ, ◌+◌, ◌*◌, ◌<◌, ◌≤◌, length, get_or}
use Rattle.std.proofs.Common.{sym, ap, ◌∙◌, arith}
use Rattle.lists.specs.Lists.{Below}
use Rattle.lists.specs.Words.{over, part, column}
use Rattle.lists.specs.ListLaws.{map_same, at_map}
use Rattle.lists.proofs.PartLaws.{part_length, part_above, part_at, get_above, holds_at}
use Rattle.cells_grid.proofs.Offsets.{MarkedRunsAt}
use Rattle.clustering.specs.Runs.{runs_of}
use Rattle.clustering.specs.RunsLaws.{runs_same}

-- the marks of the k sorted cells, in their order
abbrev pub sorted_marks : List ℕ → (n k : ℕ) → List ℕ
sorted_marks w n k = map (λ c. get_or w (9 * n + c) 0) (part w (14 * n) k)

-- the words from 8n on are their runs
abbrev pub RunsIn : List ℕ → (n k : ℕ) → Type 0
RunsIn w n k = part w (8 * n) k ≡ runs_of (sorted_marks w n k)

module _ (w : List ℕ) (n k : ℕ) where
  -- marks that stand in a column
  pub marks_are : (mark : ℕ → ℕ) → Below k (part w (14 * n) k) → part w (9 * n) k ≡ column mark k → sorted_marks w n k ≡ map mark (part w (14 * n) k)
  marks_are mark below e = map_same (λ c. get_or w (9 * n + c) 0) mark (part w (14 * n) k) (λ c i. holds_at w (9 * n) k mark c e (below c i))

  -- words laid before the runs keep them
  pub runs_over : (b : ℕ) (ws : List ℕ) → b ≤ length w → b + length ws ≤ 8 * n → RunsIn w n k → RunsIn (over w b ws) n k
  runs_over b ws h l e =
      part_above w (8 * n) k b ws l h
      ∙ e
      ∙ ap runs_of (sym (ap (map (λ c. get_or (over w b ws) (9 * n + c) 0)) (part_above w (14 * n) k b ws (omega arith) h)
      ∙ map_same (λ c. get_or (over w b ws) (9 * n + c) 0) (λ c. get_or w (9 * n + c) 0) (part w (14 * n) k) (λ c i. get_above w b (9 * n + c) ws (omega arith) h)))

  module _ (room : 14 * n + k ≤ length w) where
    pub mark_at : (p : ℕ) → p < k → get_or (sorted_marks w n k) p 0 ≡ get_or w (9 * n + get_or w (14 * n + p) 0) 0
    mark_at p h =
        at_map (λ c. get_or w (9 * n + c) 0) 0 0 (part w (14 * n) k) p (omega (arith, part_length w (14 * n) k room))
        ∙ ap (λ (c : ℕ). get_or w (9 * n + c) 0) (part_at w (14 * n) k p h)

    -- a cell with the mark is followed by as many with it as its run says
    pub marked_runs : RunsIn w n k → (mark : ℕ) → MarkedRunsAt w n k (9 * n) mark
    marked_runs e mark p j h m l =
        let low : p < k = omega arith in
        let run : get_or w (8 * n + p) 0 ≡ get_or (runs_of (sorted_marks w n k)) p 0 = sym (part_at w (8 * n) k p low) ∙ ap (λ (z : List ℕ). get_or z p 0) e in
        sym (mark_at (p + j) h) ∙ runs_same (sorted_marks w n k) p j (omega arith) ∙ mark_at p low ∙ m
