use mathlib.Core.Logic.{inl, inr}
use native.Mathlib.Omega.{arith}
use Rattle.clustering.proofs.ByLists.{listed_low}
use Rattle.clustering.proofs.Marking.{run_of, writing_on, writing_end, own_mark}
use Rattle.clustering.proofs.marks.write_runs.Goals.{then-eq, else-eq}
use Rattle.clustering.proofs.marks.write_runs.Goals as goal

pub bounds-marks-cells : goal.bounds-marks-cells
bounds-marks-cells c = listed_low c.args.cells.now c.requires.0 (omega (arith, c.loop-p-test.true, c.loop-p.auto.p))

pub loop-p-preserved : goal.loop-p-preserved
loop-p-preserved c =
    writing_on _ c.args.runs.now c.loop-p.p c.loop-p.invariant c.loop-p-test.true (own_mark c.args.marks.now c.args.cells.now (omega (arith, c.loop-p-test.true, c.loop-p.auto.p)))
    (run_of c.loop-p.mark c.loop-p.run _ c.eq.ensures (elim c.if-eq.branch [ then-eq w ↦ inl (w.if-eq.true, w.run-is) | else-eq w ↦ inr (w.if-eq.false, w.run-is) ]))

pub returns : goal.returns
returns c = writing_end _ c.args.runs.now c.loop-p.p c.loop-p.invariant c.loop-p-test.false
