-- `label_frame` meets its contract, by the words of the clusters and the lowest cell that the frame borders on.
use Rattle.std.proofs.Common.{arith, ◌∙◌, sym, ap, length}
use Rattle.lists.specs.ListLaws.{length_numbers}
use Rattle.counting_tree.specs.Given.{geometry}
use Rattle.cells_grid.proofs.Held as Grid
use Rattle.clustering.specs.Numbering.{cluster_word}
use Rattle.clustering.proofs.Labelled.{label_core, label_none, border_low, label_border, label_noise}
use Rattle.clustering.proofs.Clearing.{again_same}
use Rattle.clustering.proofs.labels.label_frame.Goals as goal

pub returns-then-is_core : goal.returns-then-is_core
returns-then-is_core c =
    let s = c.args.cells.now.core.grid in
    let z = label_core s.frames.ready s.arranged.count c.requires.frame.0 c.requires.clusters.1 (sym c.is_core.ensures ∙ c.if-is_core.true) c.cell_of.ensures.value c.cell_of.ensures.bound in
    record { label = z.0; kind = z.1; list = again_same _ }

pub returns-then-m-eq0 : goal.returns-then-m-eq0
returns-then-m-eq0 c =
    let s = c.args.cells.now.core.grid in
    let z = label_none s.frames.ready s.arranged.count c.requires.frame.0 c.requires.clusters.1 (sym c.is_core.ensures ∙ c.if-is_core.false) c.requires.clusters.0 c.if-m-eq0.true in
    record { label = z.0; kind = z.1; list = again_same _ }

pub offset_bounds-cluster_of-c : goal.offset_bounds-cluster_of-c
offset_bounds-cluster_of-c c =
    let s = c.args.cells.now.core.grid in
    omega (arith, border_low s.frames.ready s.arranged.count c.requires.frame.0 c.requires.clusters.1 (sym c.is_core.ensures ∙ c.if-is_core.false) c.border_cell.ensures.cell c.in-Some.is, Grid.few s, s.frames.ready.few)

pub bounds-cluster_of-c : goal.bounds-cluster_of-c
bounds-cluster_of-c c =
    let s = c.args.cells.now.core.grid in
    omega (arith, border_low s.frames.ready s.arranged.count c.requires.frame.0 c.requires.clusters.1 (sym c.is_core.ensures ∙ c.if-is_core.false) c.border_cell.ensures.cell c.in-Some.is, ap length c.requires.clusters.1, length_numbers (cluster_word (geometry s.frames)) s.k)

pub returns-in-None : goal.returns-in-None
returns-in-None c =
    let s = c.args.cells.now.core.grid in
    let z = label_noise s.frames.ready s.arranged.count c.requires.frame.0 c.requires.clusters.1 (sym c.is_core.ensures ∙ c.if-is_core.false) c.border_cell.ensures.cell c.in-None.is in
    record { label = z.0; kind = z.1; list = c.border_cell.ensures.list }

pub returns-in-Some : goal.returns-in-Some
returns-in-Some c =
    let s = c.args.cells.now.core.grid in
    let z = label_border s.frames.ready s.arranged.count c.requires.frame.0 c.requires.clusters.1 (sym c.is_core.ensures ∙ c.if-is_core.false) c.border_cell.ensures.cell c.in-Some.is in
    record { label = z.0; kind = z.1; list = c.border_cell.ensures.list }
