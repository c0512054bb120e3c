-- `partition`: the invariant of its loop is `Spread`.
use Rattle.counting_tree.specs.Given.{geometry}
use Rattle.tree_structure.proofs.Parting.{Spread}
use Rattle.tree_structure.proofs.partition.Given as goal

abbrev pub invariant-loop-i : goal.invariant-loop-i
invariant-loop-i l = Spread ((geometry l.level.frames.now).same l.level.level l.pivot) l.initial.members l.initial.scratch l.members l.scratch l.kept l.lost l.i
