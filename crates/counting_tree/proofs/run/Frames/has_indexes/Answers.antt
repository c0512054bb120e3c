-- Channel by channel, until one differs or none is left.
use mathlib.Core.Path.{ap, ◌∙◌}
use mathlib.Core.List.{List}
use native.Mathlib.Omega.{arith}
use lib.IntN.{ℤ, pos}
use lib.ListN.{get_or, take}
use lib.Signed.{mag}
use Prim.Native.Nat.{◌<◌, ◌^◌}
use Rattle.std.proofs.lemmas.Grind.{common_steps}
use Rattle.counting_tree.specs.Domain.{Count}
use Rattle.counting_tree.specs.Grid.{indexes}
use Rattle.counting_tree.specs.Geometry.{same_ints}
use Rattle.counting_tree.proofs.Same.{agrees, agrees_past, differs, all_agree}
use Rattle.counting_tree.proofs.run.Frames.has_indexes.Goals as goal
use Rattle.counting_tree.proofs.run.Frames.has_indexes.Goals.{else-k-self-via-then-k-self+else-cell_index-at, else-k-self-via-else-k-self}

pub returns-then-cell_index-at : goal.returns-then-cell_index-at
returns-then-cell_index-at c =
    let h : Count (get_or c.frame-frame.result.now c.loop-k.k (pos 0)) = omega arith in
    let a : mag (get_or c.args.at c.loop-k.k (pos 0)) < 2 ^ 63 = omega arith in
    differs c.args.self.now.v.channels c.args.side c.args.at c.frame-frame.result.now c.args.self.now.ready.settings.scale.most c.well_formed.1.1.0.1.0.1 c.frame-frame.ensures.long c.loop-k.k c.if-k-self.true h
    c.cell_index.result c.cell_index.ensures c.cell_index.type_inv a c.if-cell_index-at.true (grind arith) (grind (arith, common_steps))
    ∙ c.loop-k.invariant ∙ ap (λ (xs : List ℤ). same_ints (take c.args.self.now.v.channels c.args.at) (indexes c.args.side xs)) c.frame-frame.ensures.value

pub loop-k-preserved : goal.loop-k-preserved
loop-k-preserved c = elim c.else-k-self.branch [
  | else-k-self-via-then-k-self+else-cell_index-at w ↦
      let h : Count (get_or c.frame-frame.result.now c.loop-k.k (pos 0)) = omega arith in
      let a : mag (get_or c.args.at c.loop-k.k (pos 0)) < 2 ^ 63 = omega arith in
      agrees c.args.self.now.v.channels c.args.side c.args.at c.frame-frame.result.now c.args.self.now.ready.settings.scale.most c.well_formed.1.1.0.1.0.1 c.frame-frame.ensures.long c.loop-k.k w.if-k-self.true h
      w.cell_index.result w.cell_index.ensures w.cell_index.type_inv a w.if-cell_index-at.false (grind arith)
      ∙ c.loop-k.invariant
  | else-k-self-via-else-k-self w ↦
      agrees_past c.args.self.now.v.channels c.args.side c.args.at c.frame-frame.result.now c.args.self.now.ready.settings.scale.most c.well_formed.1.1.0.1.0.1 c.frame-frame.ensures.long c.loop-k.k w.if-k-self.false ∙ c.loop-k.invariant
]

pub returns : goal.returns
returns c =
    all_agree c.args.self.now.v.channels c.args.side c.args.at c.frame-frame.result.now c.args.self.now.ready.settings.scale.most c.well_formed.1.1.0.1.0.1 c.frame-frame.ensures.long c.loop-k.k (let m = c.args.self.now.ready.settings.scale.most in omega arith) (let m = c.args.self.now.ready.settings.scale.most in grind (arith, common_steps))
    ∙ c.loop-k.invariant ∙ ap (λ (xs : List ℤ). same_ints (take c.args.self.now.v.channels c.args.at) (indexes c.args.side xs)) c.frame-frame.ensures.value
