-- The frames of the cells are those of the rows, and the reach is the tolerance.
use mathlib.Core.Path.{◌≡◌}
use Prim.Native.Nat.{◌<◌}
use Rattle.lists.specs.Lists.{Below}
use Rattle.lists.specs.Words.{over}
use lib.ListN.{replicate}
use Rattle.counting_tree.specs.Ready.{geometry_at}
use Rattle.blocks.specs.Blocks.{width, edges_of, frame_at}
use Rattle.cells_grid.specs.Cells.{first}
use Rattle.cells_grid.specs.Crowding.{neighbour_in}
use Rattle.cells_grid.proofs.NeighbourSearch.{moved, back, begin_is}
use Rattle.cells_grid.proofs.crowding.Search.is_neighbour.Goals as goal

pub is_neighbour-requires-clause-ready : goal.is_neighbour-requires-clause-ready
is_neighbour-requires-clause-ready c = let s = c.args.self.now in back s (λ v n ps. (s.around.i < n) × (s.own ≡ first (geometry_at v n ps) s.around.i)) (s.around.inside, s.own_is)

pub is_neighbour-requires-clause-first_value : goal.is_neighbour-requires-clause-first_value
is_neighbour-requires-clause-first_value c =
    let s = c.args.self.now in
    back s (λ v n ps. (s.around.first ≡ over (replicate 4 0) 0 (edges_of (width v.t) v.t (frame_at v.t v n ps s.around.i))) × Below 65536 s.around.first) (begin_is s, s.around.small)

pub is_neighbour-requires-clause-j_lt_n : goal.is_neighbour-requires-clause-j_lt_n
is_neighbour-requires-clause-j_lt_n c = let s = c.args.self.now in back s (λ v n ps. c.args.j < n) c.requires

pub returns : goal.returns
returns c = let s = c.args.self.now in moved s (λ v n ps. c.is_neighbour.result ≡ neighbour_in v n ps s.around.i c.args.m c.args.j) c.is_neighbour.ensures
