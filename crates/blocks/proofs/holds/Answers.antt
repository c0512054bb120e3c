-- A count lies in the block of its edge alone.
use mathlib.Core.Path.{◌∙◌}
use Prim.Native.Nat.{◌+◌, ◌*◌}
use native.Mathlib.Nat.{add-mul-mod_self_left}
use Rattle.blocks.proofs.Edges.{raised_is, holds_above}
use Rattle.blocks.proofs.holds.Goals as goal

pub returns-then-from-x : goal.returns-then-from-x
returns-then-from-x c =
    let x = raised_is c.args.c c.raised-x.result c.ranges.c c.raised-x.ensures.value in
    holds_above c.args.width c.requires.0 c.args.c x (c.args.low + c.args.width * c.args.bit) (add-mul-mod_self_left c.args.low c.args.width c.args.bit ∙ c.requires.3) c.if-from-x.true
