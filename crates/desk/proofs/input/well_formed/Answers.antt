-- The four tests, one after the other.
use Rattle.std.proofs.Common.{◌∙◌, sym, ap, refl, ℕ}
use lib.Dec.{leb}
use Rattle.desk.proofs.Lines.{well_is, too_short, one_to_four, both, neither}
use Rattle.desk.proofs.input.well_formed.Goals as goal
use Rattle.desk.proofs.input.well_formed.Goals.{then-is_line, else-is_line, then-contains, else-contains}

pub returns-in_default : goal.returns-in_default
returns-in_default c = sym (too_short c.args.input.now c.in_default.ensures.cases)

pub returns-then-frame_count-le-MAX_FRAMES : goal.returns-then-frame_count-le-MAX_FRAMES
returns-then-frame_count-le-MAX_FRAMES c =
    both c.if-frame_count-le-MAX_FRAMES.true refl
    ∙ well_is c.args.input.now c.in-Some.ensures.cases c.channels-d.result c.channels-d.ensures.value c.is_line.ensures
    (elim c.if-is_line.branch [ then-is_line w ↦ both w.if-is_line.true (w.value-is ∙ w.contains.ensures.value ∙ one_to_four _ w.new.ensures.start w.new.ensures.end w.new.ensures.exhausted) | else-is_line w ↦ neither _ w.if-is_line.false w.value-is ])
    (elim c.if-contains.branch [ then-contains w ↦ both w.if-contains.true (w.value-is ∙ ap (λ (n : ℕ). leb n 256) w.frame_count.ensures) | else-contains w ↦ neither _ w.if-contains.false w.value-is ])
    c.are_lines.ensures

pub returns-else-frame_count-le-MAX_FRAMES : goal.returns-else-frame_count-le-MAX_FRAMES
returns-else-frame_count-le-MAX_FRAMES c =
    neither _ c.if-frame_count-le-MAX_FRAMES.false refl
    ∙ well_is c.args.input.now c.in-Some.ensures.cases c.channels-d.result c.channels-d.ensures.value c.is_line.ensures
    (elim c.if-is_line.branch [ then-is_line w ↦ both w.if-is_line.true (w.value-is ∙ w.contains.ensures.value ∙ one_to_four _ w.new.ensures.start w.new.ensures.end w.new.ensures.exhausted) | else-is_line w ↦ neither _ w.if-is_line.false w.value-is ])
    (elim c.if-contains.branch [ then-contains w ↦ both w.if-contains.true (w.value-is ∙ ap (λ (n : ℕ). leb n 256) w.frame_count.ensures) | else-contains w ↦ neither _ w.if-contains.false w.value-is ])
    refl
