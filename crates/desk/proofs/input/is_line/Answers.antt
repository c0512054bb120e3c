-- All but the last byte are digits, and the last is a line feed.
use Rattle.std.proofs.Common.{rules, refl, ◌∙◌}
use Rattle.std.proofs.lemmas.Iterator.{YieldsList-from_slice}
use Rattle.std.proofs.lemmas.Iterator.Search.{all_from_yields_List}
use Rattle.hexadecimal.specs.Hexadecimal.{is_digit}
use Rattle.desk.proofs.Lines.{line_by, both, neither}
use Rattle.desk.proofs.input.is_line.Goals as goal

pub returns-then-all : goal.returns-then-all
returns-then-all c = both c.if-all.true refl ∙ line_by _ _ _ c.in-Some.ensures.cases (all_from_yields_List is_digit _ _ _ c.all.ensures.ran (YieldsList-from_slice c.in-Some.digits.now cc) (λ x b q k. search rules))

pub returns-else-all : goal.returns-else-all
returns-else-all c = neither _ c.if-all.false refl ∙ line_by _ _ _ c.in-Some.ensures.cases (all_from_yields_List is_digit _ _ _ c.all.ensures.ran (YieldsList-from_slice c.in-Some.digits.now cc) (λ x b q k. search rules))
