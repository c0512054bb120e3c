-- The two comparisons, and that their whole numbers fit.
use mathlib.Core.Path.{refl}
use mathlib.Core.Bool.{true, false}
use Prim.Native.Nat.{◌+◌, ◌*◌, ◌%◌, ◌^◌}
use lib.Dec.{le→leb}
use lib.ListN.{take}
use lib.Ieee.{of_bits, of_int, in_float}
use Rattle.counting_tree.specs.BySum.{reach_fits}
use Rattle.counting_tree.proofs.Settled.{two_is, two_le, by_tests}
use Rattle.counting_tree.proofs.run.Frames.settled.Goals as goal

pub returns-then-sum-far : goal.returns-then-sum-far
unfolding of_bits of_int
returns-then-sum-far c = by_tests c.args.self.now.ready c.args.q c.requires c.frame_at-a.result c.frame_at-a.ensures c.floats.result (take c.args.self.now.v.channels c.args.place.centre) c.floats.ensures c.square_sum-sum.result c.square_sum-sum.ensures (2 ^ c.args.self.now.v.s) refl true _ c.if-sum-far.true refl

pub int_to_float-reach : goal.int_to_float-reach
unfolding in_float
int_to_float-reach c =
    let t = c.args.self.now.v.t in
    let two = 1 * 2 ^ c.args.self.now.v.s % 2 ^ 64 in
    le→leb (t * (two + 2) * (t * (two + 2))) (2 ^ 53) (reach_fits t two c.args.self.now.ready.settings.scale.high (two_le c.args.self.now.ready))

pub returns-then-sum-two : goal.returns-then-sum-two
unfolding of_bits of_int
returns-then-sum-two c = by_tests c.args.self.now.ready c.args.q c.requires c.frame_at-a.result c.frame_at-a.ensures c.floats.result (take c.args.self.now.v.channels c.args.place.centre) c.floats.ensures c.square_sum-sum.result c.square_sum-sum.ensures (1 * 2 ^ c.args.self.now.v.s % 2 ^ 64) (two_is c.args.self.now.ready) false true c.if-sum-far.false c.if-sum-two.true

pub returns : goal.returns
unfolding of_bits of_int
returns c = by_tests c.args.self.now.ready c.args.q c.requires c.frame_at-a.result c.frame_at-a.ensures c.floats.result (take c.args.self.now.v.channels c.args.place.centre) c.floats.ensures c.square_sum-sum.result c.square_sum-sum.ensures (1 * 2 ^ c.args.self.now.v.s % 2 ^ 64) (two_is c.args.self.now.ready) false false c.if-sum-far.false c.if-sum-two.false
