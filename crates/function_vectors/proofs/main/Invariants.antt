-- No kind has more lines than were read.
use Rattle.std.proofs.Common.{◌≤◌}
use Rattle.function_vectors.proofs.main.Given as goal

abbrev pub invariant-loop : goal.invariant-loop
invariant-loop l = (l.roots.all ≤ l.counter) × (l.indexes.all ≤ l.counter) × (l.boxes.all ≤ l.counter)
