-- What was read so far is a number of that many digits.
use Rattle.std.proofs.Common.{◌≡◌, ◌^◌, ◌<◌}
use Rattle.hexadecimal.specs.Hexadecimal.{number}
use Rattle.hexadecimal.proofs.number.Given as goal

abbrev pub invariant-loop-i : goal.invariant-loop-i
invariant-loop-i l = record { value : l.n ≡ number l.text l.at l.i; bound : l.n < 16 ^ l.i }
