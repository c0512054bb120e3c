-- Accepted settings are ready for a run, and the work words have room.
use Rattle.std.proofs.Common.{length, sym, arith}
use Rattle.counting_tree.specs.Ready.{ready_of}
use Rattle.detail.proofs.Preparing.{checked_room}
use Rattle.detail.proofs.show_run.Goals as goal

pub new-frames-requires : goal.new-frames-requires
new-frames-requires g c = ready_of c.args.p c.args.points.now _ _ _ (sym c.in-Ok.ensures)

pub prepare-k-requires : goal.prepare-k-requires
prepare-k-requires g c = checked_room c.args.p c.args.points.now (length c.args.work.now) c.in-Ok.ensures c.new-frames.result c.new-frames.ensures.settings c.new-frames.ensures.count

pub show_words-requires : goal.show_words-requires
show_words-requires g c = (
  c.prepare-k.ensures,
  omega (arith, checked_room c.args.p c.args.points.now (length c.args.work.now) c.in-Ok.ensures c.new-frames.result c.new-frames.ensures.settings c.new-frames.ensures.count, c.prepare-k.auto.work),
)
