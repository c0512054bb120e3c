-- The parts of the text are lines, and no byte is left.
use Rattle.std.proofs.Common.{rules, refl, ◌∙◌}
use Rattle.std.proofs.lemmas.Iterator.Search.{all_from_yields_List}
use Rattle.desk.proofs.Lines.{is_whole, lines_by, both, neither}
use Rattle.desk.proofs.Parts.{parts_of_text}
use Rattle.desk.proofs.input.are_lines.Goals as goal

pub returns-then-all : goal.returns-then-all
returns-then-all c = both c.if-all.true refl ∙ lines_by c.args.text.now c.args.size c.requires (all_from_yields_List is_whole _ _ _ c.all.ensures.ran (parts_of_text c.args.text.now c.requires c.chunks_exact.ensures.rest c.chunks_exact.ensures.size) (λ x b q k. search rules))

pub returns-else-all : goal.returns-else-all
returns-else-all c = neither _ c.if-all.false refl ∙ lines_by c.args.text.now c.args.size c.requires (all_from_yields_List is_whole _ _ _ c.all.ensures.ran (parts_of_text c.args.text.now c.requires c.chunks_exact.ensures.rest c.chunks_exact.ensures.size) (λ x b q k. search rules))
