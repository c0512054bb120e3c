-- `transform` meets its contract.
use Rattle.std.proofs.Common.{sym, ◌∙◌}
use Rattle.counting_tree.specs.Ready.{ready_of}
use Rattle.appx_dbscan.proofs.Call.{fits, labelled}
use Rattle.appx_dbscan.proofs.transform.Goals as goal

pub new-frames-requires : goal.new-frames-requires
new-frames-requires c = ready_of c.args.p c.args.points.now _ _ _ (sym c.check.ensures ∙ c.in_ok-v.was)

pub run-requires : goal.run-requires
run-requires c =
    let f = c.new-frames.ensures in
    fits _ _ _ _ _ (sym c.check.ensures ∙ c.in_ok-v.was) c.new-frames.result f.points f.settings f.count

pub returns : goal.returns
returns c =
    let f = c.new-frames.ensures in
    let r = c.run.ensures in
    let z = labelled _ _ _ _ _ (sym c.check.ensures ∙ c.in_ok-v.was) c.new-frames.result f.points f.settings f.count r.clusters r.cores r.labels r.kinds r.work in
    record { outcome = z.outcome; labels = z.labels_told; kinds = z.kinds_told; work = z.work_told; promise = z.promise }
