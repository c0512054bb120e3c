-- A significand with no leading digit, and one with it.
use Rattle.std.proofs.Common.{◌+◌, ◌-◌, ◌/◌, ◌%◌, ◌^◌, sym, ap, ◌∙◌, arith}
use lib.Ieee.{binary64, of_bits}
use Rattle.ieee754.specs.Root.{root}
use Rattle.ieee754.proofs.Fields.{low_field, high_field, own_bits, no_nan_bits}
use Rattle.ieee754.proofs.positive_root.Goals as goal

pub float_from_bits-result : goal.float_from_bits-result
float_from_bits-result c = no_nan_bits c.root_bits.result (omega arith)

pub float_from_bits-result-else-field-eq0 : goal.float_from_bits-result-else-field-eq0
float_from_bits-result-else-field-eq0 c = no_nan_bits c.root_bits-else-field-eq0.result (omega arith)

pub returns-then-field-eq0 : goal.returns-then-field-eq0
returns-then-field-eq0 c =
    let b = c.args.bits in
    ap (of_bits binary64) c.root_bits.ensures.value ∙ own_bits (b % 2 ^ 52) 0 (omega arith) ∙ ap root (sym (low_field b c.requires.1 c.if-field-eq0.true))

pub returns-else-field-eq0 : goal.returns-else-field-eq0
returns-else-field-eq0 c =
    let b = c.args.bits in
    ap (of_bits binary64) c.root_bits-else-field-eq0.ensures.value ∙ own_bits (2 ^ 52 + b % 2 ^ 52) (b / 2 ^ 52 - 1) (omega arith) ∙ ap root (sym (high_field b c.requires.1 c.if-field-eq0.false))
