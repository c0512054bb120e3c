-- The rows before m have their hashes.
use lib.ListN.{drop, length, take}
use Rattle.std.proofs.Common.{◌≡◌}
use Rattle.lists.specs.Words.{column}
use Rattle.blocks.specs.Blocks.{row_hash, shifted}
use Rattle.blocks.proofs.row_hashes.Given as goal

abbrev pub invariant-loop-m : goal.invariant-loop-m
invariant-loop-m l = (length l.hashes ≡ 8) × (take l.m l.hashes ≡ column (λ m. row_hash (shifted l.width (drop 1 l.fn.first) m)) l.m)
