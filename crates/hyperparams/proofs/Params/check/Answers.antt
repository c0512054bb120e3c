-- Each answer is the table's row that its tests name.
use Rattle.std.proofs.Common.{rules}
use lib.Ieee.{of_bits, of_int}
use Rattle.hyperparams.proofs.Rows.{row1, row2, row3, row4, row5, row6, row7, row8, row9, no_row, source_by, settled_by, framed_by}
use Rattle.hyperparams.proofs.Params.check.Goals as goal

pub returns-then-self-le1 : goal.returns-then-self-le1
unfolding of_bits of_int
returns-then-self-le1 c = search (rules, row1)

pub returns-then-self : goal.returns-then-self
unfolding of_bits of_int
returns-then-self c = search (rules, row2)

pub returns-then-self-2 : goal.returns-then-self-2
unfolding of_bits of_int
returns-then-self-2 c = search (rules, row3)

pub returns-in_err-t : goal.returns-in_err-t
unfolding of_bits of_int
returns-in_err-t c = search (rules, row4, source_by)

pub returns-in_err-s : goal.returns-in_err-s
unfolding of_bits of_int
returns-in_err-s c = search (rules, row5, source_by)

pub returns-then-channels-lt1 : goal.returns-then-channels-lt1
unfolding of_bits of_int
returns-then-channels-lt1 c = search (rules, row6, settled_by, source_by)

pub returns-then-points-channels-ne0 : goal.returns-then-points-channels-ne0
unfolding of_bits of_int
returns-then-points-channels-ne0 c = row7 c.args.self _ _ _ _ {t = c.in_ok-t.t} {s = c.in_ok-s.s} (search (rules, settled_by, source_by)) (search rules) (search rules) (search rules)

pub returns-then-labels-frames : goal.returns-then-labels-frames
unfolding of_bits of_int
returns-then-labels-frames c = row8 c.args.self _ _ _ _ {t = c.in_ok-t.t} {s = c.in_ok-s.s} (search (rules, framed_by, settled_by, source_by)) (search rules)

pub returns-then-work-work_words : goal.returns-then-work-work_words
unfolding of_bits of_int
returns-then-work-work_words c = row9 c.args.self _ _ _ _ {t = c.in_ok-t.t} {s = c.in_ok-s.s} {words = c.work_words.result} (search (rules, framed_by, settled_by, source_by)) (search rules) (search rules) (search rules) (search rules)

pub returns : goal.returns
unfolding of_bits of_int
returns c = no_row c.args.self _ _ _ _ {t = c.in_ok-t.t} {s = c.in_ok-s.s} {words = c.work_words.result} {x = c.appx_tolerance.result} (search (rules, framed_by, settled_by, source_by)) (search rules) (search rules) (search rules) (search rules) (search rules)
