use Rattle.std.proofs.Common.{arith, refl, ap}
use Rattle.lists.specs.Lists.{nonzero}
use Rattle.lists.specs.ListLaws.{nonzero_true}
use Rattle.clustering.proofs.Numbered.{number_low, number_none, number_own, number_other, numbered_end}
use Rattle.clustering.proofs.labels.number_clusters.Goals as goal
use Rattle.clustering.proofs.labels.number_clusters.Goals.{then-trees-c-eq0, else-trees-c-eq0+then-lowest-c, else-trees-c-eq0+else-lowest-c}

pub overflow_cast-cluster_of : goal.overflow_cast-cluster_of
overflow_cast-cluster_of c = omega (arith, number_low c.loop-c.invariant, c.loop-c-test.true, c.requires.sizes.0)

pub overflow_add-m : goal.overflow_add-m
overflow_add-m c = omega (arith, number_low c.loop-c.invariant, c.loop-c-test.true, c.requires.sizes.0)

pub loop-c-preserved : goal.loop-c-preserved
loop-c-preserved c = elim c.if-trees-c-eq0.branch [
  | then-trees-c-eq0 w ↦ rw (w.cluster_of-is, w.m-is) (number_none c.loop-c.invariant c.loop-c-test.true refl (ap nonzero w.if-trees-c-eq0.true))
  | else-trees-c-eq0+then-lowest-c w ↦ rw (w.cluster_of-is, w.m-is) (number_own c.loop-c.invariant c.loop-c-test.true refl (nonzero_true _ w.if-trees-c-eq0.false) refl w.if-lowest-c.true)
  | else-trees-c-eq0+else-lowest-c w ↦ rw (w.cluster_of-is, w.m-is) (number_other c.loop-c.invariant c.loop-c-test.true refl (nonzero_true _ w.if-trees-c-eq0.false) refl w.if-lowest-c.false)
]

pub returns-clause-count : goal.returns-clause-count
returns-clause-count c = (numbered_end c.loop-c.invariant c.loop-c-test.false).0

pub returns-clause-clusters : goal.returns-clause-clusters
returns-clause-clusters c = (numbered_end c.loop-c.invariant c.loop-c-test.false).1
