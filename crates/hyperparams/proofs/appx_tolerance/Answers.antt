-- The code is the definition.
use Rattle.std.proofs.Common.{refl}
use lib.Ieee.{of_bits}
use Rattle.hyperparams.specs.Params.{appx_tolerance_of}
use Rattle.hyperparams.proofs.appx_tolerance.Goals as goal

pub returns : goal.returns
unfolding appx_tolerance_of of_bits
returns c = refl
