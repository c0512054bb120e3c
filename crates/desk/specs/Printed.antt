-- The bytes of an output in an array, and zeros after them.
use Rattle.std.specs.Prelude.{◌≡◌, List, ℕ, ◌≤◌, length, take, replicate}
use Rattle.std.proofs.Common.{sym, ap₂, length-take-le}
use Rattle.lists.specs.Words.{over}
use Rattle.desk.specs.Desk.{most_bytes}
use Rattle.desk.specs.declared.Printed.TheInside.{Inside}

abbrev pub bytes_of : Inside → List ℕ
bytes_of p = take p.len p.bytes

abbrev pub printed_of : List ℕ → Inside
printed_of bs = record { bytes = over (replicate most_bytes 0) 0 bs; len = length bs }

abbrev pub IsPadded : Inside → Type 0
IsPadded p = (p.len ≤ length p.bytes) × (p.bytes ≡ over (replicate most_bytes 0) 0 (bytes_of p))

pub printed_back : (p : Inside) → IsPadded p → printed_of (bytes_of p) ≡ p
printed_back p (fits, padded) = ap₂ (λ (b : List ℕ) (n : ℕ). record { bytes = b; len = n }) (sym padded) (length-take-le p.len p.bytes fits)
