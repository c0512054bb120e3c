-- `try_pair` meets its contract: the leaders are asked, and then united.
use Rattle.std.proofs.Common.{arith, ◌≡◌, ◌∙◌, sym, ap, subst}
use Rattle.std.specs.Prelude.{length}
use Rattle.counting_tree.specs.Given.{geometry}
use Rattle.partitions.specs.Leaders.{Falling}
use Rattle.partitions.specs.LeaderLaws.{both_stand}
use Rattle.clustering.proofs.Trying.{no_pair, in_one, out_of_trials, apart, joined}
use Rattle.clustering.proofs.Pairs.{leading_stands}
use Rattle.clustering.proofs.uniting.try_pair.Goals as goal
use Rattle.clustering.proofs.uniting.try_pair.Goals.{then-not-is_pair-via-then-not-is_pair, then-not-is_pair-via-else-not-is_pair+then-same_set, then-touches_cell, else-touches_cell}

pub returns-then-not-is_pair : goal.returns-then-not-is_pair
returns-then-not-is_pair c = elim c.then-not-is_pair.branch [
  | then-not-is_pair-via-then-not-is_pair w ↦
      let z = no_pair (geometry c.args.cells.now.grid.frames) c.args.trials c.args.used _ _ _ (sym c.is_pair.ensures ∙ w.if-not-is_pair.true) in
      record { value = z.0; leaders = w.leaders-is ∙ z.1 }
  | then-not-is_pair-via-else-not-is_pair+then-same_set w ↦
      let z = in_one (geometry c.args.cells.now.grid.frames) c.args.trials c.args.used _ _ _ (sym c.is_pair.ensures ∙ w.if-not-is_pair.false) w.same_set.ensures.leaders (sym w.same_set.ensures.answer ∙ w.if-same_set.true) in
      record { value = z.0; leaders = w.leaders-is ∙ z.1 }
]

pub returns-then-used-trials : goal.returns-then-used-trials
returns-then-used-trials c =
    let z = out_of_trials (geometry c.args.cells.now.grid.frames) c.args.trials c.args.used _ _ _ (sym c.is_pair.ensures ∙ c.if-not-is_pair.false) c.same_set.ensures.leaders (sym c.same_set.ensures.answer ∙ c.if-same_set.false) c.if-used-trials.true in
    record { value = z.0; leaders = z.1 }

pub union-requires : goal.union-requires
union-requires c =
    let s = both_stand (leading_stands c.requires.0) c.args.c c.args.d c.requires.1 c.requires.2 in
    let l : length c.same_set.new.leaders ≡ c.args.cells.now.grid.k = ap length c.same_set.ensures.leaders ∙ s.size in
    (subst Falling (sym c.same_set.ensures.leaders) s.falling, omega (arith, c.requires.1), omega (arith, c.requires.2), omega (arith, c.requires.0.few))

pub returns : goal.returns
returns c = elim c.if-touches_cell.branch [
  | then-touches_cell w ↦
      let z = joined (geometry c.args.cells.now.grid.frames) c.args.trials c.args.used _ _ _ (sym c.is_pair.ensures ∙ c.if-not-is_pair.false) c.same_set.ensures.leaders (sym c.same_set.ensures.answer ∙ c.if-same_set.false)
      c.if-used-trials.false c.touches_cell.ensures w.if-touches_cell.true w.union.ensures in
      record { value = z.0; leaders = w.leaders-is ∙ z.1 }
  | else-touches_cell w ↦
      let z = apart (geometry c.args.cells.now.grid.frames) c.args.trials c.args.used _ _ _ (sym c.is_pair.ensures ∙ c.if-not-is_pair.false) c.same_set.ensures.leaders (sym c.same_set.ensures.answer ∙ c.if-same_set.false)
      c.if-used-trials.false c.touches_cell.ensures w.if-touches_cell.false in
      record { value = z.0; leaders = w.leaders-is ∙ z.1 }
]
