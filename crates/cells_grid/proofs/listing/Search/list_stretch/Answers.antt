use native.Mathlib.Omega.{arith}
use Rattle.cells_grid.proofs.CellSearch.{most, place_low}
use Rattle.cells_grid.proofs.Searching.{walking_start, walking_run, walking_miss, walking_room, walking_hit, walking_end, searched}
use Rattle.cells_grid.proofs.listing.Search.list_stretch.Goals as goal
use Rattle.cells_grid.proofs.listing.Search.list_stretch.Goals.{then-finds, else-finds}

pub loop-p-init : goal.loop-p-init
loop-p-init c = walking_start (searched c.args.self.now.runs c.requires.0 c.requires.1)

pub overflow_add-p : goal.overflow_add-p
overflow_add-p c = omega (arith, most c.args.self.now, c.loop-p-test.true, c.requires.0, c.passed_at-run.ensures.upper_bound)

pub loop-p-preserved-then-run-gt0 : goal.loop-p-preserved-then-run-gt0
loop-p-preserved-then-run-gt0 c = walking_run (searched c.args.self.now.runs c.requires.0 c.requires.1) c.loop-p.invariant c.loop-p-test.true c.passed_at-run.ensures.value

pub finds-requires : goal.finds-requires
finds-requires c = place_low c.args.self.now c.loop-p.p (omega (arith, c.loop-p-test.true, c.requires.0))

pub bounds-list-to : goal.bounds-list-to
bounds-list-to c = walking_room (searched c.args.self.now.runs c.requires.0 c.requires.1) c.loop-p.invariant c.loop-p-test.true c.passed_at-run.ensures.value (omega (arith, c.if-run-gt0.false)) c.finds.ensures c.if-finds.true

pub loop-p-preserved : goal.loop-p-preserved
loop-p-preserved c = elim c.if-finds.branch [
  | then-finds w ↦ rw (w.list-is, w.to-is) (walking_hit (searched c.args.self.now.runs c.requires.0 c.requires.1) c.loop-p.invariant c.loop-p-test.true c.passed_at-run.ensures.value (omega (arith, c.if-run-gt0.false)) c.finds.ensures w.if-finds.true)
  | else-finds w ↦ rw (w.list-is, w.to-is) (walking_miss (searched c.args.self.now.runs c.requires.0 c.requires.1) c.loop-p.invariant c.loop-p-test.true c.passed_at-run.ensures.value (omega (arith, c.if-run-gt0.false)) c.finds.ensures w.if-finds.false)
]

pub returns : goal.returns
returns c =
    let z = walking_end (searched c.args.self.now.runs c.requires.0 c.requires.1) c.loop-p.invariant (omega (arith, c.loop-p-test.false)) in
    record { value = z.0; list = z.1 }
