use mathlib.Core.Path.{◌≡◌}
use Prim.Native.Nat.{ℕ}
use native.Mathlib.Omega.{arith}
use Rattle.counting_tree.specs.declared.run.Frames.{Frames}
use Rattle.cells_grid.specs.Pairs.{raised, Room, risen}
use Rattle.cells_grid.proofs.NeighbourSearch.{into_search, of_search}
use Rattle.cells_grid.proofs.PairLoops.{frames_start, frames_room, frames_next, frames_end}
use Rattle.cells_grid.proofs.pairs.count_pairs.Goals as goal

pub loop-i-init : goal.loop-i-init
loop-i-init c = let f = c.args.sorted.now.grid.frames in frames_start f.ready f.counts c.requires

pub count_frame-requires : goal.count_frame-requires
count_frame-requires c =
    let f = c.args.sorted.now.grid.frames in let w = c.loop-i.counts in
    into_search (λ (f : Frames) (i : ℕ). Room f.n w (risen f.v f.n f.points.now i)) c.new-search.result c.new-search.ensures (frames_room f.ready f.counts c.requires c.loop-i.invariant c.loop-i-test.true)

pub loop-i-preserved : goal.loop-i-preserved
loop-i-preserved c =
    let f = c.args.sorted.now.grid.frames in let w = c.loop-i.counts in let u = c.count_frame.new.counts in
    frames_next f.ready f.counts c.requires c.loop-i.invariant c.loop-i-test.true
    (of_search (λ (f : Frames) (i : ℕ). u ≡ raised f.n w (risen f.v f.n f.points.now i)) c.new-search.result c.new-search.ensures c.count_frame.ensures)

pub returns : goal.returns
returns c = let f = c.args.sorted.now.grid.frames in frames_end f.ready f.counts c.requires c.loop-i.invariant (omega (arith, c.loop-i-test.false))
