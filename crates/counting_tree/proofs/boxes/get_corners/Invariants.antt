-- The rows are filled corner by corner.
use mathlib.Core.Path.{◌≡◌}
use Prim.Native.Nat.{◌-◌, ◌^◌, ◌≤◌}
use lib.ListN.{replicate}
use Rattle.lists.proofs.LoopLaws.{Fill}
use Rattle.hyperparams.specs.Params.{float}
use Rattle.counting_tree.specs.Grid.{half}
use Rattle.counting_tree.specs.Arrays.{row_of}
use Rattle.counting_tree.proofs.boxes.get_corners.Given as goal

abbrev pub invariant-loop-k : goal.invariant-loop-k
invariant-loop-k l = (l.channels ≤ 4) × (l.n ≡ 2 ^ l.channels) × (l.n ≤ 16) × (l.e ≡ half l.side) × (l.initial.all ≡ replicate 16 (replicate 4 (float 0))) × Fill (row_of l.channels l.centre l.e) l.initial.all 0 l.n l.all l.k

abbrev pub decreases-loop-k : goal.decreases-loop-k
decreases-loop-k l = l.n - l.k
