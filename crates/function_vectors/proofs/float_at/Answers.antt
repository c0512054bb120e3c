-- Bits of no NaN make a float.
use Rattle.ieee754.proofs.Fields.{no_nan_bits}
use Rattle.function_vectors.proofs.float_at.Goals as goal

pub float_from_bits-result : goal.float_from_bits-result
float_from_bits-result c = no_nan_bits c.number-bits.result c.if-bits-gt-INFINITY.false
