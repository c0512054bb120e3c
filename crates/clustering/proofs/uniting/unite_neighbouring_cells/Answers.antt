-- `unite_neighbouring_cells` meets its contract, by what the leaders are after each of its calls.
use Rattle.std.proofs.Common.{arith}
use Rattle.counting_tree.specs.Given.{geometry}
use Rattle.cells_grid.proofs.Held as Grid
use Rattle.clustering.proofs.ByTrials.{alone_leading, all_tried, tried_so_far, can_flatten, lowest_leaders}
use Rattle.clustering.proofs.uniting.unite_neighbouring_cells.Goals as goal

pub reset-requires : goal.reset-requires
reset-requires c = let s = c.args.cells.now.grid in omega (arith, Grid.few s, s.frames.ready.few)

pub unite_pairs-end-requires : goal.unite_pairs-end-requires
unite_pairs-end-requires c =
    let s = c.args.cells.now.grid in
    alone_leading (geometry s.frames) s.arranged.count (omega (arith, Grid.few s, s.frames.ready.few)) c.requires c.reset.ensures

pub flatten-requires : goal.flatten-requires
flatten-requires c =
    let s = c.args.cells.now.grid in
    can_flatten (geometry s.frames) s.arranged.count (omega (arith, Grid.few s, s.frames.ready.few)) c.requires c.reset.ensures c.args.trials c.unite_pairs-end.ensures.leaders

pub returns-in-Ok : goal.returns-in-Ok
returns-in-Ok c =
    let s = c.args.cells.now.grid in
    record {
      progress = all_tried (geometry s.frames) s.arranged.count (omega (arith, Grid.few s, s.frames.ready.few)) c.requires c.reset.ensures c.args.trials c.unite_pairs-end.ensures.value c.in-Ok.is;
      leaders = lowest_leaders (geometry s.frames) s.arranged.count (omega (arith, Grid.few s, s.frames.ready.few)) c.requires c.reset.ensures c.args.trials c.unite_pairs-end.ensures.leaders c.flatten.ensures;
    }

pub returns-in-Err : goal.returns-in-Err
returns-in-Err c =
    let s = c.args.cells.now.grid in
    record {
      progress = tried_so_far (geometry s.frames) s.arranged.count (omega (arith, Grid.few s, s.frames.ready.few)) c.requires c.reset.ensures c.args.trials c.unite_pairs-end.ensures.value c.in-Err.is;
      leaders = lowest_leaders (geometry s.frames) s.arranged.count (omega (arith, Grid.few s, s.frames.ready.few)) c.requires c.reset.ensures c.args.trials c.unite_pairs-end.ensures.leaders c.flatten.ensures;
    }
