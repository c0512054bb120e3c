use Rattle.std.proofs.Common.{rules, sym, subst}
use Rattle.std.specs.Io.KnownBytes.{Consumes}
use Rattle.std.proofs.KnownBytes.{Consumes-trans}
use Rattle.streams.proofs.Reading.{take_put_mid_more}
use Rattle.streams.proofs.read_full.Goals as goal

pub loop-n-preserved : goal.loop-n-preserved
loop-n-preserved g c =
    let read = c.in_ok-more.ensures in (
      search rules,
      search rules,
      subst (Consumes _ _) (sym (take_put_mid_more c.loop-n.n _ c.in_ok-more.more c.loop-n.buffer c.read.new.buf c.loop-n.invariant.1 read.bound.0))
          (Consumes-trans _ _ _ _ _ c.loop-n.invariant.2 read.bytes.0),
    )
