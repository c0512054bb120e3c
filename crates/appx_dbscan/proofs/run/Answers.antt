-- `run` meets its contract.
use mathlib.Core.Path.{ap, ◌∙◌}
use Rattle.lists.specs.Words.{over}
use Rattle.counting_tree.specs.Ready.{geometry_at}
use Rattle.appx_dbscan.proofs.Answer.{clear₁, low₂, labels₂, kinds₂, cores₂, cleared₂, clusters_are}
use borrow.Author.Rules.{rules}
use Rattle.appx_dbscan.proofs.run.Goals as goal

pub fill_work-clusters-requires : goal.fill_work-clusters-requires
fill_work-clusters-requires c = (search rules, clear₁ c.args.frames.now.ready c.args.work.now c.requires.2 c.clear_words.ensures)

pub copy_kinds-requires : goal.copy_kinds-requires
copy_kinds-requires c = (search rules, search rules, low₂ c.args.frames.now.ready c.args.work.now c.requires.2 c.clear_words.ensures c.fill_work-clusters.ensures.work_after)

pub returns : goal.returns
returns c = record { clusters = c.fill_work-clusters.ensures.value ∙ clusters_are (geometry_at c.args.frames.now.v c.args.frames.now.n c.args.frames.now.points.now); cores = c.count_cores-core_frames.ensures ∙ cores₂ c.args.frames.now.ready c.args.work.now c.requires.2 c.clear_words.ensures c.fill_work-clusters.ensures.work_after; labels = c.copy_labels.ensures ∙ ap (over c.args.labels.now 0) (labels₂ c.args.frames.now.ready c.args.work.now c.requires.2 c.clear_words.ensures c.fill_work-clusters.ensures.work_after); kinds = c.copy_kinds.ensures ∙ ap (over c.args.kinds.now 0) (kinds₂ c.args.frames.now.ready c.args.work.now c.requires.2 c.clear_words.ensures c.fill_work-clusters.ensures.work_after); work = c.clear_words-2.ensures ∙ cleared₂ c.args.frames.now.ready c.args.work.now c.requires.2 c.clear_words.ensures c.fill_work-clusters.ensures.work_after c.work_words-words.ensures.words }
