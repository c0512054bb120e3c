-- The cut, or one more where it lies below.
use Rattle.ieee754.proofs.Ceil.{low_63, high_63, cut_float, more_fits, is_more, is_same}
use Rattle.ieee754.proofs.ceiling.Goals as goal

pub truncating_f64_to_i64-cut-requires : goal.truncating_f64_to_i64-cut-requires
truncating_f64_to_i64-cut-requires c = record { lower_bound = low_63 c.args.x c.requires; upper_bound = high_63 c.args.x c.requires }

pub int_to_float-back : goal.int_to_float-back
int_to_float-back c = cut_float c.args.x _ c.requires c.truncating_f64_to_i64-cut.ensures

pub overflow_add-result : goal.overflow_add-result
overflow_add-result c = more_fits c.args.x _ c.requires c.truncating_f64_to_i64-cut.ensures

pub returns-then-back-x : goal.returns-then-back-x
returns-then-back-x c = is_more c.args.x _ c.requires c.truncating_f64_to_i64-cut.ensures c.if-back-x.true

pub returns-else-back-x : goal.returns-else-back-x
returns-else-back-x c = is_same c.args.x _ c.requires c.truncating_f64_to_i64-cut.ensures c.if-back-x.false
