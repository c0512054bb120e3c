-- Laws of the run: the lines of its outcome are the answer to what was parsed.
use mathlib.Core.Path.{◌≡◌, sym, ap, ap₂, ◌∙◌}
use mathlib.Core.Bool.{true}
use mathlib.Core.List.{List}
use Prim.Native.Nat.{ℕ, ◌*◌, ◌/◌, ◌≤◌}
use native.Mathlib.Omega.{arith}
use native.Mathlib.Nat.{mul-le-mul, mul-div_cancel}
use lib.IntN.{ℤ}
use lib.ListN.{length, replicate, take, length-replicate}
use lib.Seq.{length-take-le}
use Rattle.lists.specs.Words.{column}
use Rattle.lists.specs.ListLaws.{length_numbers}
use Rattle.hyperparams.specs.declared.Params.{Params}
use Rattle.hyperparams.specs.Params.{Verdict, checked_of}
use Rattle.appx_dbscan.specs.Transform.{Outcome, outcome_of, labels_left, kinds_left, checked_call}
use Rattle.desk.specs.Desk.{channels_of, frame_count, most_frames, most_words, well_formed, count_at, parsed, settings_of, verdict, lines_of, answer_to, desk_of}
use Rattle.desk.specs.Lengths.{whole, desk_whole}

-- n frames of d channels, as a well-formed input has them
pub record Frames (n d : ℕ) : Type 0 where
  pub some : 1 ≤ d
  pub frames : n ≤ 256
  pub counts : n * d ≤ 1024

module _ (bs : List ℕ) (w : well_formed bs ≡ true) {n d : ℕ} (en : n ≡ frame_count bs) (ed : d ≡ channels_of bs) where
  pub sizes : Frames n d
  sizes =
      let a = whole bs w in
      record { some = omega arith; frames = omega arith; counts = mul-le-mul {m₁ = d} {n₂ = 256} {m₂ = 4} (omega arith) (omega arith) }

  -- the first words of a room that is as large as any points
  pub room_fits : (xs : List ℤ) → 1024 ≤ length xs → length (take (n * d) xs) ≡ n * d
  room_fits xs h = length-take-le (n * d) xs (omega (arith, sizes.counts))

  pub can_read : (xs : List ℤ) → 1024 ≤ length xs → (1 ≤ d) × (length (take (n * d) xs) ≤ 1024)
  can_read xs h = (sizes.some, omega (arith, sizes.counts, room_fits xs h))

  -- what was read of the points
  points_are : {ps : List ℤ} → ps ≡ column (count_at bs d) (n * d) → ps ≡ (parsed bs).points
  unfolding parsed
  points_are e = e ∙ ap₂ (λ (k m : ℕ). column (count_at bs k) (m * k)) ed en

  frames_are : length (parsed bs).points / (parsed bs).channels ≡ n
  unfolding parsed
  frames_are =
      ap₂ (λ (k m : ℕ). length (column (count_at bs k) (m * k)) / k) (sym ed) (sym en)
      ∙ ap (λ (m : ℕ). m / d) (length_numbers (count_at bs d) (n * d))
      ∙ mul-div_cancel n sizes.some

  -- the program's memory is what the definition's is
  verdict_is : {p : Params} {ps : List ℤ} → p ≡ settings_of (parsed bs) → ps ≡ (parsed bs).points
      → checked_call p ps (replicate most_frames 0) (replicate most_frames 0) (replicate most_words 0) ≡ verdict (parsed bs)
  verdict_is {p} {ps} e f =
      ap₂ (λ (a b : ℕ). checked_of p (length ps) a a b) (length-replicate {A = ℕ} most_frames 0) (length-replicate {A = ℕ} most_words 0)
      ∙ ap₂ (λ (q : Params) (l : List ℤ). checked_of q (length l) most_frames most_frames most_words) e f

  -- the lines of what the run leaves
  pub answered : (xs : List ℤ) → 1024 ≤ length xs → {p : Params} {ps : List ℤ} {o : Outcome} {labels kinds : List ℕ} → p ≡ settings_of (parsed bs) → ps ≡ column (count_at bs d) (length (take (n * d) xs))
      → let empty : List ℕ = replicate most_frames 0 in
      let c = checked_call p ps empty empty (replicate most_words 0) in
      o ≡ outcome_of c ps → labels ≡ labels_left c ps empty → kinds ≡ kinds_left c ps empty
      → lines_of o kinds labels n ≡ desk_of bs
  unfolding answer_to
  answered xs h {p} {ps} {o} {labels} {kinds} ep eps eo el ek =
      let read = points_are (eps ∙ ap (column (count_at bs d)) (room_fits xs h)) in
      let empty : List ℕ = replicate most_frames 0 in
      let c = checked_call p ps empty empty (replicate most_words 0) in
      let lines : Verdict → List ℤ → ℕ → List ℕ = λ v l m. lines_of (outcome_of v l) (kinds_left v l empty) (labels_left v l empty) m in
      ap (λ (r : Outcome). lines_of r kinds labels n) eo
      ∙ ap₂ (λ (k l : List ℕ). lines_of (outcome_of c ps) k l n) ek el
      ∙ ap₂ (λ (v : Verdict) (l : List ℤ). lines v l n) (verdict_is ep read) read
      ∙ ap (lines (verdict (parsed bs)) (parsed bs).points) (sym frames_are)
      ∙ sym (desk_whole bs w)
