-- Laws of the rows around a frame in arrays of four edges, for any reach: what a search asks of them and reads from them.
use Rattle.std.specs.Prelude.{◌≡◌, List, ℕ, ◌-◌, ◌/◌, ◌%◌, ◌^◌, ◌<◌, ◌≤◌, ℤ, pos, length, get_or, take, drop, replicate}
use Rattle.std.proofs.Common.{sym, ap, ap₂, subst, ◌∙◌, div-le_self, arith, pow_mono}
use Rattle.std.proofs.lemmas.List.{length-map}
use Rattle.lists.specs.Lists.{Below}
use Rattle.lists.specs.Words.{over, column}
use Rattle.lists.specs.ListLaws.{at_numbers}
use Rattle.lists.specs.OrderLaws.{below_at}
use Rattle.lists.proofs.WordLaws.{over_length}
use Rattle.hyperparams.specs.declared.ValidParams.{ValidParams}
use Rattle.counting_tree.specs.Frames.{Frame}
use Rattle.counting_tree.specs.FramesIn.{frame_length}
use Rattle.counting_tree.specs.Ready.{Ready}
use Rattle.blocks.specs.Blocks.{raise, width, edge, edges_of, shifted, row_hash, frame_at, row_around}
use Rattle.blocks.specs.BlockLaws.{array_row, array_multiple, array_along, array_hash}

-- the rows around frame i, as the program has them: where the first begins
pub record Rows (reach : ℕ) (v : ValidParams) (n : ℕ) (ps : List ℤ) (i : ℕ) (first : List ℕ) : Type 0 where
  pub ready : Ready ps v n
  pub below : i < n
  pub begin : first ≡ over (replicate 4 0) 0 (edges_of (width reach) reach (frame_at reach v n ps i))
  pub small : Below 65536 first

-- what `edges_at` gives
pub rows_of : {reach : ℕ} {v : ValidParams} {n : ℕ} {ps : List ℤ} {i a x : ℕ} {first : List ℕ} → Ready ps v n → i < n → a ≡ width reach → x ≡ reach
    → (first ≡ over (replicate 4 0) 0 (edges_of a x (frame_at reach v n ps i))) × Below 65536 first → Rows reach v n ps i first
rows_of {reach} {v} {n} {ps} {i} r h p q s = record { ready = r; below = h; begin = s.0 ∙ ap₂ (λ (y z : ℕ). over (replicate 4 0) 0 (edges_of y z (frame_at reach v n ps i))) p q; small = s.1 }

pub few_rows : {ps : List ℤ} {v : ValidParams} {n : ℕ} → Ready ps v n → 2 ^ (v.channels - 1) ≤ 8
few_rows {v = v} r = pow_mono {i = v.channels - 1} {j = 3} (omega (arith, r.settings.scale.most))

module _ {reach : ℕ} {v : ValidParams} {n : ℕ} {ps : List ℤ} {i : ℕ} {first : List ℕ} (R : Rows reach v n ps i first) where
  abbrev F : Frame
  F = frame_at reach v n ps i

  frame_long : length F ≡ v.channels
  frame_long = frame_length n v.channels ps i R.ready.room R.below

  pub rows_multiple : (q : ℕ) → get_or first q 0 % width reach ≡ 0
  rows_multiple q = ap (λ (l : List ℕ). get_or l q 0 % width reach) R.begin ∙ array_multiple (width reach) reach (omega arith) F (omega (arith, frame_long, R.ready.settings.scale.most)) q

  pub rows_row : (r : ℕ) → shifted (width reach) (take (v.channels - 1) (drop 1 first)) r ≡ row_around reach v n ps i r
  rows_row r = ap (λ (l : List ℕ). shifted (width reach) l r) (ap (λ (l : List ℕ). take (v.channels - 1) (drop 1 l)) R.begin ∙ array_row (width reach) reach F frame_long R.ready.settings.scale.most)

  pub rows_long : length first ≡ 4
  rows_long = ap length R.begin ∙ over_length (replicate {A = ℕ} 4 0) 0 (edges_of (width reach) reach F) (omega (arith, length-map F (λ c. edge (width reach) (raise c - reach)), frame_long, R.ready.settings.scale.most))

  pub rows_low : {a : ℕ} → a ≡ get_or first 0 0 / width reach → a < 65536
  rows_low e = omega (arith, e, div-le_self (get_or first 0 0) (width reach), below_at 65536 first 0 R.small (omega (arith, rows_long)))

  pub rows_along : get_or first 0 0 / width reach ≡ (raise (get_or (frame_at reach v n ps i) 0 (pos 0)) - reach) / width reach
  rows_along = ap (λ (l : List ℕ). get_or l 0 0 / width reach) R.begin ∙ array_along (width reach) reach (omega arith) F (omega (arith, frame_long, R.ready.settings.scale.most)) (omega (arith, frame_long, R.ready.settings.scale.some))

  pub rows_hash : {hs : List ℕ} {a : ℕ} → a ≡ width reach → hs ≡ column (λ m. row_hash (shifted a (drop 1 first) m)) 8 → (r : ℕ) → r < 2 ^ (v.channels - 1) → get_or hs r 0 ≡ row_hash (row_around reach v n ps i r)
  rows_hash {hs} {a} e f r h =
      ap (λ (l : List ℕ). get_or l r 0) f
      ∙ at_numbers (λ m. row_hash (shifted a (drop 1 first) m)) 0 8 r (omega (arith, few_rows R.ready))
      ∙ ap₂ (λ (z : ℕ) (l : List ℕ). row_hash (shifted z (drop 1 l) r)) e R.begin
      ∙ array_hash (width reach) reach F r (omega (arith, frame_long, R.ready.settings.scale.most)) (subst (λ (d : ℕ). r < 2 ^ (d - 1)) (sym frame_long) h)
