-- The test meets its contract, by what spans and the first frames tell.
use Rattle.clustering.proofs.Asking.{linked_none, linked_first, linked_second}
use Rattle.clustering.proofs.trees.SoonLinkedLinks.linked.Goals as goal

pub returns-then-is_soon_near : goal.returns-then-is_soon_near
returns-then-is_soon_near c =
    let f = c.args.self.now.0.now.grid.frames in linked_first f.v f.n f.points.now c.args.c c.args.d c.apart.ensures.value c.if-not-apart.true c.is_soon_near.ensures c.if-is_soon_near.true

pub returns-else-is_soon_near : goal.returns-else-is_soon_near
returns-else-is_soon_near c =
    let f = c.args.self.now.0.now.grid.frames in
    linked_second f.v f.n f.points.now c.args.c c.args.d c.apart.ensures.value c.if-not-apart.true c.is_soon_near.ensures c.if-is_soon_near.false c.is_soon_near-else-is_soon_near.ensures

pub returns-else-not-apart : goal.returns-else-not-apart
returns-else-not-apart c = let f = c.args.self.now.0.now.grid.frames in linked_none f.v f.n f.points.now c.args.c c.args.d c.apart.ensures.value c.if-not-apart.false
