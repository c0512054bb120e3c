-- `label_frames` meets its contract: the words of the frames before i hold their labels and kinds.
use Rattle.counting_tree.specs.Given.{geometry}
use Rattle.lists.proofs.LoopLaws.{Fill}
use Rattle.clustering.specs.Clusters.{place, clusters, label_by, kind_of}
use Rattle.clustering.specs.Regions.{ClearAgain}
use Rattle.clustering.proofs.labels.label_frames.Given as goal

abbrev pub invariant-loop-i : goal.invariant-loop-i
invariant-loop-i l =
    let f = l.cells.core.grid.frames in
    let g = geometry f in
    Fill (label_by g (λ c. place c (clusters g))) l.initial.labels 0 f.n l.labels l.i × Fill (kind_of g) l.initial.kinds 0 f.n l.kinds l.i × ClearAgain l.initial.list l.list
