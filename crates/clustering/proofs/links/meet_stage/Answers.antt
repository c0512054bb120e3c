use mathlib.Core.Path.{sym, ◌∙◌, subst}
use Prim.Native.Nat.{ℕ, ◌<◌}
use native.Mathlib.Omega.{arith}
use Rattle.lists.specs.Lists.{In}
use Rattle.clustering.specs.Leading.{Leading}
use Rattle.clustering.proofs.ByLists.{marked_low, runs_there, found_below, rows_skip, rows_on, rows_end, list_is}
use Rattle.clustering.proofs.Clearing.{again_on, cleared}
use Rattle.clustering.proofs.links.meet_stage.Goals as goal

pub bounds-marks-c : goal.bounds-marks-c
bounds-marks-c g c =
    let s = c.in-Some.ensures.steps in
    marked_low c.args.cells.now.core.grid c.args.cells.now.placed c.requires.leaders.1 (omega (arith, s, c.loop-c.invariant.end, c.requires.cells.1))

pub list_later-m-requires-clause-marked_runs : goal.list_later-m-requires-clause-marked_runs
list_later-m-requires-clause-marked_runs g c = runs_there c.sorted-sorted.ensures.1 c.requires.leaders.1 _

pub meet_list-requires : goal.meet_list-requires
meet_list-requires g c =
    let s = c.in-Some.ensures.steps in
    let low : c.in-Some.c < c.args.cells.now.core.grid.k = omega (arith, s, c.loop-c.invariant.end, c.requires.cells.1) in
    let e = sym c.requires.cells.0 in (
      subst (λ (k : ℕ). Leading k c.loop-c.leaders) e c.loop-c.invariant.rows.met.leading,
      omega (arith, low, e),
      λ d j. omega (
        arith,
        e,
        found_below c.args.cells.now.core.grid c.args.marks.now low d
            (subst (In d) (list_is c.sorted-sorted.ensures.0 c.args.marks.now c.loop-c.list c.in-Some.c c.list_later-m.ensures.value c.list_later-m.ensures.list) j),
      ),
    )

pub loop-c-preserved-then-has_core : goal.loop-c-preserved-then-has_core
loop-c-preserved-then-has_core g c =
    let s = c.in-Some.ensures.steps in record {
      rows = rows_on c.loop-c.invariant.rows c.requires.cells.1 (omega (arith, s, c.loop-c.invariant.end)) s.1.1 s.1.2 c.has_core.ensures c.if-has_core.true
          (list_is c.sorted-sorted.ensures.0 c.args.marks.now c.loop-c.list c.in-Some.c c.list_later-m.ensures.value c.list_later-m.ensures.list) c.meet_list.ensures;
      end = s.0 ∙ c.loop-c.invariant.end;
      list = again_on c.loop-c.invariant.list (cleared _ c.list_later-m.ensures.value c.list_later-m.ensures.list c.list_later-m.auto.list (c.fill.ensures.after (λ y h. h)));
    }

pub loop-c-preserved : goal.loop-c-preserved
loop-c-preserved g c =
    let s = c.in-Some.ensures.steps in record {
      rows = rows_skip c.loop-c.invariant.rows c.requires.cells.1 (omega (arith, s, c.loop-c.invariant.end)) s.1.1 s.1.2 c.has_core.ensures c.if-has_core.false;
      end = s.0 ∙ c.loop-c.invariant.end;
      list = c.loop-c.invariant.list;
    }

pub returns : goal.returns
returns g c = let s = c.in-None.ensures.steps in record { leaders = rows_end c.loop-c.invariant.rows (omega (arith, s, c.loop-c.invariant.end)); list = c.loop-c.invariant.list }
