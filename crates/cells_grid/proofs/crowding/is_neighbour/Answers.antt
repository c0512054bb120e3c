-- The tests in turn: the tolerance, the row, the list of the frame's cell.
use mathlib.Core.Path.{refl, sym, subst, ◌∙◌}
use native.Mathlib.Omega.{arith}
use lib.Dec.{T}
use Rattle.blocks.specs.AroundLaws.{rows_of}
use Rattle.cells_grid.proofs.Neighbours.{own_below, tests_row, tests_within, tests_list}
use Rattle.cells_grid.proofs.RowsAround.{edges_multiple, edges_row}
use Rattle.cells_grid.proofs.crowding.is_neighbour.Goals as goal
use Rattle.cells_grid.proofs.crowding.is_neighbour.Goals.{then-within, else-within}

pub in_row-requires : goal.in_row-requires
in_row-requires c =
    let f = c.args.grid.now.frames in
    (c.requires.j_lt_n, omega (arith, c.width-width.ensures), omega (arith, c.width-width.ensures, f.ready.settings.scale.high), c.requires.first_value.1, λ q h. edges_multiple (rows_of {reach = f.v.t} f.ready c.requires.ready.0 refl refl c.requires.first_value) c.width-width.ensures q)

pub near_cells-requires : goal.near_cells-requires
near_cells-requires c = (own_below c.args.grid.now.frames.ready c.requires.ready.0 c.requires.ready.1, c.own_first.ensures.bound)

pub returns-then-in_row : goal.returns-then-in_row
returns-then-in_row c =
    let f = c.args.grid.now.frames in
    let i = c.args.i in let m = c.args.m in let j = c.args.j in
    elim c.if-within.branch [
      | then-within w ↦
          tests_list f.v f.n f.points.now i m j (edges_row (rows_of {reach = f.v.t} f.ready c.requires.ready.0 refl refl c.requires.first_value) c.width-width.ensures m j w.in_row.ensures) (sym w.value-is ∙ c.if-in_row.true) c.within.ensures w.if-within.true c.requires.ready.1 c.own_first.ensures.value
          c.near_cells.ensures
      | else-within w ↦ absurd (subst T (sym c.if-in_row.true ∙ w.value-is ∙ w.if-within.false) tt)
    ]

pub returns-else-in_row : goal.returns-else-in_row
returns-else-in_row c =
    let f = c.args.grid.now.frames in
    let i = c.args.i in let m = c.args.m in let j = c.args.j in
    c.if-in_row.false ∙ elim c.if-within.branch [
      | then-within w ↦ tests_row f.v f.n f.points.now i m j (edges_row (rows_of {reach = f.v.t} f.ready c.requires.ready.0 refl refl c.requires.first_value) c.width-width.ensures m j w.in_row.ensures) (sym w.value-is ∙ c.if-in_row.false)
      | else-within w ↦ tests_within f.v f.n f.points.now i m j c.within.ensures w.if-within.false
    ]
