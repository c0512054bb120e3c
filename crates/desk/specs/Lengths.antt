-- What a well-formed input has. A longer input than any such one is malformed, and its first bytes say so.
use Rattle.std.specs.Prelude.{◌≡◌, refl, Bool, true, false, ◌&&◌, List, ℕ, zero, suc, ◌+◌, ◌*◌, ◌≤◌, ◌<◌, leb, length, take}
use Rattle.std.proofs.Common.{sym, ◌∙◌, arith, mul-le-mul, suc-mul, leb-true, eqb-true, length-take-le}
use Rattle.std.proofs.Math.Bool.{and-eq-true_iff}
use Rattle.desk.specs.Desk.{is_line, are_lines, line_one, channels_of, frame_count, most_frames, well_formed, parsed, refusal_line, answer_to, desk_of}

-- where n lines of k digits end
pub lines_end : (bs : List ℕ) (k n at : ℕ) → are_lines bs k n at ≡ true → length bs ≡ at + n * (k + 1)
lines_end bs k zero at e = let h = eqb-true at (length bs) e in omega (arith, suc-mul 0 (k + 1))
lines_end bs k (suc n) at e = omega (arith, lines_end bs k n (at + k + 1) ((and-eq-true_iff (is_line bs at k) (are_lines bs k n (at + k + 1))).0 e).1, suc-mul n (k + 1))

pub record Whole (bs : List ℕ) : Type 0 where
  pub some : 1 ≤ channels_of bs
  pub few : channels_of bs ≤ 4
  pub frames : frame_count bs ≤ most_frames
  pub size : length bs ≡ line_one + 1 + frame_count bs * (4 * channels_of bs + 1)

pub whole : (bs : List ℕ) → well_formed bs ≡ true → Whole bs
unfolding well_formed
whole bs e =
    let d = channels_of bs in
    let n = leb (frame_count bs) most_frames in
    let line = is_line bs 0 line_one in
    let range = leb 1 d && leb d 4 in
    let a = (and-eq-true_iff (line && range && n) (are_lines bs (4 * d) (frame_count bs) (line_one + 1))).0 e in
    let b = (and-eq-true_iff (line && range) n).0 a.0 in
    let r = (and-eq-true_iff (leb 1 d) (leb d 4)).0 ((and-eq-true_iff line range).0 b.0).1 in
    record {
      some = leb-true 1 d r.0;
      few = leb-true d 4 r.1;
      frames = leb-true (frame_count bs) most_frames b.1;
      size = lines_end bs (4 * d) (frame_count bs) (line_one + 1) a.1;
    }

pub desk_malformed : (bs : List ℕ) → well_formed bs ≡ false → desk_of bs ≡ refusal_line 10
unfolding desk_of
desk_malformed bs e = rw e

pub desk_whole : (bs : List ℕ) → well_formed bs ≡ true → desk_of bs ≡ answer_to (parsed bs)
unfolding desk_of
desk_whole bs e = rw e

-- line one, and 256 frames of four channels
abbrev pub most_input : ℕ
most_input = line_one + 1 + most_frames * 17

pub longest : (bs : List ℕ) → well_formed bs ≡ true → length bs ≤ most_input
longest bs e =
    let w = whole bs e in
    omega (arith, w.size, mul-le-mul {n₁ = frame_count bs} {m₁ = 4 * channels_of bs + 1} {n₂ = 256} {m₂ = 17} w.frames (omega (arith, w.few)))

pub too_long : (bs : List ℕ) → most_input < length bs → desk_of bs ≡ refusal_line 10
too_long bs h = by (well_formed bs) refl
  where
    by : (b : Bool) → well_formed bs ≡ b → desk_of bs ≡ refusal_line 10
    by true e = absurd (omega (arith, longest bs e))
    by false e = desk_malformed bs e

-- a longer input has the answer of its first bytes
pub cut : (bs : List ℕ) → most_input < length bs → desk_of (take (most_input + 1) bs) ≡ desk_of bs
cut bs h = too_long (take (most_input + 1) bs) (omega (arith, length-take-le (most_input + 1) bs (omega arith))) ∙ sym (too_long bs h)
