-- The cells in the rows around a frame are listed row by row.
use mathlib.Core.Path.{◌≡◌, refl, sym, ap, ◌∙◌}
use mathlib.Core.List.{List, [], ◌++◌, append_assoc, append-nil}
use Prim.Native.Nat.{ℕ, suc, ◌+◌, ◌-◌, ◌^◌, ◌<◌, ◌≤◌}
use native.Mathlib.Numerals.{add-one}
use native.Mathlib.Omega.{arith}
use lib.IntN.{ℤ}
use lib.ListN.{length, length-append}
use Rattle.std.specs.Prelude.{Option}
use Rattle.lists.specs.Words.{over}
use Rattle.lists.proofs.WordLaws.{over_nil}
use Rattle.hyperparams.specs.declared.ValidParams.{ValidParams}
use Rattle.cells_grid.specs.declared.listing.Passed.{Passed}
use Rattle.counting_tree.specs.Ready.{geometry_at, Ready}
use Rattle.blocks.specs.Blocks.{own_row}
use Rattle.cells_grid.specs.Cells.{cells}
use Rattle.cells_grid.specs.Arrangement.{cell_at}
use Rattle.cells_grid.specs.Listing.{reach_of, list_in, list_from, list_of, later_of}
use Rattle.cells_grid.proofs.ListingLaws.{list_length, list_rows, later_length}
use Rattle.cells_grid.specs.Passing.{left_of}
use Rattle.cells_grid.proofs.PassingLaws.{left_none, left_append, left_le}
use Rattle.cells_grid.proofs.Searching.{InTwo, first_length, second_room, both_listed}

-- ---- the rows around frame i from row `start` on, of which in row `start` only the cells with numbers from `after` on
module _ (v : ValidParams) (n : ℕ) (ps : List ℤ) (i : ℕ) where
  abbrev pub rows_from : (after start : ℕ) → List ℕ
  rows_from after start = list_from v n ps i after start (2 ^ (v.channels - 1) - start)

  rows_step : (a r : ℕ) → r < 2 ^ (v.channels - 1) → rows_from a r ≡ list_in v n ps i a r ++ rows_from 0 (r + 1)
  rows_step a r h =
      let R = 2 ^ (v.channels - 1) in
      let e : R - r ≡ suc (R - (r + 1)) = omega arith in
      ap (list_from v n ps i a r) e ∙ ap (λ (x : ℕ). list_in v n ps i a r ++ list_from v n ps i 0 x (R - (r + 1))) (sym (add-one r))

  -- what is left of them has room in w₀
  pub record Asked (after start : ℕ) (w₀ : List ℕ) : Type 0 where
    pub low : start < 2 ^ (v.channels - 1)
    pub room : length (rows_from after start) ≤ length w₀

  -- of the rows before r the cells `done` are found, and of these those that are left listed; then come the rows from r on, of which in row r only the cells with numbers from `least` on
  pub record Gathering (o : Option Passed) (after start : ℕ) (w₀ w : List ℕ) (m r least : ℕ) : Type 0 where
    pub high : r ≤ 2 ^ (v.channels - 1)
    pub done : List ℕ
    pub count : m ≡ 0 + length (left_of o done)
    pub laid : w ≡ over w₀ 0 (left_of o done)
    pub left : done ++ rows_from least r ≡ rows_from after start

pub asked : {v : ValidParams} {n : ℕ} {ps : List ℤ} (i after start : ℕ) {w₀ : List ℕ} → start < 2 ^ (v.channels - 1) → length (rows_from v n ps i after start) ≤ length w₀ → Asked v n ps i after start w₀
asked i after start l r = record { low = l; room = r }

module _ {v : ValidParams} {n : ℕ} {ps : List ℤ} {i after start : ℕ} {w₀ : List ℕ} (A : Asked v n ps i after start w₀) (o : Option Passed) where
  pub gathering_start : Gathering v n ps i o after start w₀ w₀ 0 start after
  gathering_start = record { high = omega (arith, A.low); done = []; count = omega (arith, ap length (left_none o)); laid = sym (ap (over w₀ 0) (left_none o) ∙ over_nil w₀ 0); left = refl }

  module _ {w : List ℕ} {m r least : ℕ} (G : Gathering v n ps i o after start w₀ w m r least) where
    most : 0 + length (left_of o (rows_from v n ps i after start)) ≤ length w₀
    most = omega (arith, left_le o (rows_from v n ps i after start), A.room)

    whole : InTwo o G.done (rows_from v n ps i least r) (rows_from v n ps i after start) 0 w₀
    whole = record { whole = G.left; room = most }

    pub gathering_length : length w ≡ length w₀
    gathering_length = first_length whole G.count G.laid

    module _ (more : r < 2 ^ (v.channels - 1)) where
      abbrev row : List ℕ
      row = list_in v n ps i least r

      left_then : G.done ++ (row ++ rows_from v n ps i 0 (r + 1)) ≡ rows_from v n ps i after start
      left_then = ap (λ (l : List ℕ). G.done ++ l) (sym (rows_step v n ps i least r more)) ∙ G.left

      so_far : InTwo o G.done row (G.done ++ row) 0 w₀
      so_far = record { whole = refl; room = omega (arith, most, ap length (left_append o (G.done ++ row) (rows_from v n ps i 0 (r + 1))), length-append (left_of o (G.done ++ row)) (left_of o (rows_from v n ps i 0 (r + 1))), ap (λ (l : List ℕ). length (left_of o l)) (append_assoc G.done row (rows_from v n ps i 0 (r + 1)) ∙ left_then)) }

      pub gathering_room : m + length (left_of o (list_in v n ps i least r)) ≤ length w
      gathering_room = second_room so_far G.count G.laid

      pub gathering_next : {u : List ℕ} {x : ℕ} → x ≡ m + length (left_of o (list_in v n ps i least r)) → u ≡ over w m (left_of o (list_in v n ps i least r)) → Gathering v n ps i o after start w₀ u x (r + 1) 0
      gathering_next {u} {x} p q =
          let z = both_listed so_far G.count G.laid p q in
          record {
            high = omega arith;
            done = G.done ++ row;
            count = z.0;
            laid = z.1;
            left = append_assoc G.done row (rows_from v n ps i 0 (r + 1)) ∙ left_then;
          }

    pub gathering_end : 2 ^ (v.channels - 1) ≤ r → (m ≡ length (left_of o (rows_from v n ps i after start))) × (w ≡ over w₀ 0 (left_of o (rows_from v n ps i after start)))
    gathering_end l =
        let e : 2 ^ (v.channels - 1) - r ≡ 0 = omega arith in
        let q : G.done ≡ rows_from v n ps i after start = sym (append-nil G.done) ∙ ap (λ (x : ℕ). G.done ++ list_from v n ps i least r x) (sym e) ∙ G.left in
        (omega (arith, G.count, ap (λ (x : List ℕ). length (left_of o x)) q), G.laid ∙ ap (λ (x : List ℕ). over w₀ 0 (left_of o x)) q)

-- ---- the rows around the first frame i of cell c
module _ {ps : List ℤ} {v : ValidParams} {n c i : ℕ} (r : Ready ps v n) (h : c < length (cells (geometry_at v n ps))) (e : i ≡ cell_at (geometry_at v n ps) c) where
  -- all of them hold what the cell lists
  pub all_rows : rows_from v n ps i 0 0 ≡ list_of v n ps c
  all_rows =
      let z : 2 ^ (v.channels - 1) - 0 ≡ 2 ^ (v.channels - 1) = omega arith in
      ap (list_from v n ps i 0 0) z ∙ ap (λ (x : ℕ). list_from v n ps x 0 0 (2 ^ (v.channels - 1))) e ∙ sym (list_rows r c h)

  pub all_few : length (rows_from v n ps i 0 0) ≤ length (cells (geometry_at v n ps))
  all_few = omega (arith, ap length all_rows, list_length r c h)

  -- and those from its own on what it finds later
  module _ {s : ℕ} (o : s ≡ own_row (reach_of v) v n ps i) where
    pub later_rows : rows_from v n ps i (c + 1) s ≡ later_of v n ps c
    unfolding later_of
    later_rows = ap (rows_from v n ps i (c + 1)) o ∙ ap (λ (x : ℕ). rows_from v n ps x (c + 1) (own_row (reach_of v) v n ps x)) e

    pub later_few : length (rows_from v n ps i (c + 1) s) ≤ length (cells (geometry_at v n ps))
    later_few = omega (arith, ap length later_rows, later_length r c h)
