-- A side that passed the tests is one for which the index is defined.
use Rattle.std.proofs.Common.{sym, ◌∙◌, true≢false}
use lib.Ieee.{of_bits}
use Rattle.function_vectors.proofs.Between.{side_between}
use Rattle.function_vectors.proofs.index_agrees.Goals as goal
use Rattle.function_vectors.proofs.index_agrees.Goals.{then-side, else-side}

pub cell_index-requires : goal.cell_index-requires
unfolding of_bits
cell_index-requires c =
    elim c.if-side.branch [
      | then-side w ↦ side_between c.float_at-side.result c.float_at-side.type_inv w.if-side.true (sym w.value-is ∙ c.if-side-2.true)
      | else-side w ↦ absurd (true≢false (sym c.if-side-2.true ∙ w.value-is ∙ w.if-side.false))
    ]
