use mathlib.Core.Path.{refl}
use Rattle.clustering.proofs.ByLists.{list_on, list_end, listed_low}
use Rattle.clustering.proofs.links.meet_list.Goals as goal

pub meet-requires : goal.meet-requires
meet-requires g c = (c.loop-d.invariant.leading, c.requires.1, listed_low c.args.list.now c.requires.2 c.loop-d-test.true)

pub loop-d-preserved : goal.loop-d-preserved
loop-d-preserved g c = list_on c.args.c c.args.list.now c.loop-d.d-index c.loop-d.invariant c.requires.1 c.requires.2 c.loop-d-test.true _ refl c.meet.ensures

pub returns : goal.returns
returns g c = list_end c.args.c c.args.list.now c.loop-d.d-index c.loop-d.invariant c.loop-d-test.false
