-- Laws of the row in which a frame lies itself. Of two frames within the reach, the one finds the other in a row after its own exactly if the other finds it in a row before its own: so each pair is found once by a search from the own row on.
use Rattle.std.specs.Prelude.{◌≡◌, refl, ◌⊎◌, cond, List, [], ◌∷◌, ◌++◌, ℕ, ◌+◌, ◌-◌, ◌*◌, ◌^◌, ◌<◌, ◌≤◌, ℤ, eqb, length, drop, replicate}
use Rattle.std.proofs.Common.{sym, ap, ap₂, ◌∙◌, inl, inr, append-nil, add-mul, arith, eq-eqb, ne_eqb, le-leb}
use Rattle.std.proofs.Math.Nat.{eq_of_mul-eq-mul_right}
use Rattle.std.proofs.lemmas.Bool.{lt-leb}
use Rattle.lists.specs.Words.{over}
use Rattle.hyperparams.specs.declared.ValidParams.{ValidParams}
use Rattle.counting_tree.specs.Frames.{Frame, squared}
use Rattle.blocks.specs.Blocks.{raise, width, edge, edges_of, second, own_block, frame_at, own_row}
use Rattle.blocks.specs.BlockLaws.{Within, which, two_edges, edge_le, edge_above}
use Rattle.blocks.specs.AroundLaws.{Rows}
use Rattle.blocks.specs.RowLaws.{long, row_low, apart_first, near_within}

module _ (reach : ℕ) where
  abbrev w : ℕ
  w = width reach

  -- a bit, by the edge that it stands for
  bit_edge : (e a v : ℕ) → 0 < v → (e ≡ a) ⊎ (e ≡ a + v) → e ≡ a + cond (eqb e a) 0 1 * v
  bit_edge e a v p (inl h) = rw (eq-eqb e a h) (omega arith)
  bit_edge e a v p (inr h) = rw (ne_eqb e a (λ z. omega arith)) (omega arith)

  -- one channel: two counts and where the blocks begin that hold them less the reach
  bits_turn : (a b e f v i j k l : ℕ) → 0 < v → b ≡ e + i * v → a ≡ f + j * v → a ≡ e + k * v → b ≡ f + l * v → i + j ≡ k + l
  bits_turn a b e f v i j k l p h q r s = eq_of_mul-eq-mul_right v p (i + j) (k + l) (omega (arith, add-mul i j v, add-mul k l v))

  same : (x : ℕ) → (x - x) + (x - x) ≤ reach
  same x = omega arith

  turned : (x y : ℕ) → (x - y) + (y - x) ≤ reach → (y - x) + (x - y) ≤ reach
  turned x y h = omega arith

  -- what the one is farther on than the other, the other is farther back
  pub which_turn : (f g : Frame) → Within reach f g → which reach f g + which reach g f ≡ which reach f f + which reach g g
  which_turn [] [] t = refl
  which_turn [] (b ∷ g) t = absurd t
  which_turn (a ∷ f) [] t = absurd t
  which_turn (a ∷ f) (b ∷ g) t =
      let x = raise a in
      let y = raise b in
      let p : 0 < 2 * reach + 1 = omega arith in
      let c = bits_turn (edge w x) (edge w y) (edge w (x - reach)) (edge w (y - reach)) w
      (cond (eqb (edge w y) (edge w (x - reach))) 0 1) (cond (eqb (edge w x) (edge w (y - reach))) 0 1)
      (cond (eqb (edge w x) (edge w (x - reach))) 0 1) (cond (eqb (edge w y) (edge w (y - reach))) 0 1) p
      (bit_edge (edge w y) (edge w (x - reach)) w p (two_edges reach x y t.0))
      (bit_edge (edge w x) (edge w (y - reach)) w p (two_edges reach y x (turned x y t.0)))
      (bit_edge (edge w x) (edge w (x - reach)) w p (two_edges reach x x (same x)))
      (bit_edge (edge w y) (edge w (y - reach)) w p (two_edges reach y y (same y))) in
      omega (arith, c, which_turn f g t.1)

  -- the program's own row is that row
  second_is : (x : ℤ) → second w (edge w (raise x - reach)) x ≡ cond (eqb (edge w (raise x)) (edge w (raise x - reach))) 0 1
  second_is x = elim (two_edges reach (raise x) (raise x) (same (raise x))) [
    | inl e ↦ rw (eq-eqb (edge w (raise x)) (edge w (raise x - reach)) e, lt-leb (edge w (raise x - reach) + w) (raise x) (omega (arith, e, edge_above w (omega arith) (raise x))))
    | inr e ↦ rw (ne_eqb (edge w (raise x)) (edge w (raise x - reach)) (λ z. omega (arith, e, z)), le-leb (edge w (raise x - reach) + w) (raise x) (omega (arith, e, edge_le w (omega arith) (raise x))))
  ]

  none : (es : List ℕ) → own_block w es [] ≡ 0
  none [] = refl
  none (e ∷ es) = refl

  own_is : (f : Frame) (es : List ℕ) → own_block w (edges_of w reach f ++ es) f ≡ which reach f f
  own_is [] es = none es
  own_is (a ∷ f) es = ap₂ (λ (x y : ℕ). x + 2 * y) (second_is a) (own_is f es)

  own_rest : (f : Frame) → own_block w (drop 1 (over (replicate 4 0) 0 (edges_of w reach f))) (drop 1 f) ≡ which reach (drop 1 f) (drop 1 f)
  own_rest [] = none (drop 1 (over (replicate 4 0) 0 (edges_of w reach [])))
  own_rest (a ∷ f) = own_is f (drop (0 + length (edges_of w reach (a ∷ f))) (replicate 4 0))

-- ---- the rows around a frame of the points
pub own_which : (reach : ℕ) (v : ValidParams) (n : ℕ) (ps : List ℤ) (i : ℕ) → own_row reach v n ps i ≡ which reach (drop 1 (frame_at reach v n ps i)) (drop 1 (frame_at reach v n ps i))
unfolding own_row
own_which reach v n ps i =
    let f = drop 1 (frame_at reach v n ps i) in
    ap (λ (l : List ℕ). own_block (width reach) l f) (sym (append-nil (edges_of (width reach) reach f))) ∙ own_is reach f []

-- the row of frame i itself, by the array of edges
pub rows_own : {reach : ℕ} {v : ValidParams} {n : ℕ} {ps : List ℤ} {i : ℕ} {first : List ℕ} → Rows reach v n ps i first
    → own_block (width reach) (drop 1 first) (drop 1 (frame_at reach v n ps i)) ≡ own_row reach v n ps i
rows_own {reach} {v} {n} {ps} {i} R = ap (λ (l : List ℕ). own_block (width reach) (drop 1 l) (drop 1 (frame_at reach v n ps i))) R.begin ∙ own_rest reach (frame_at reach v n ps i) ∙ sym (own_which reach v n ps i)

module _ (reach : ℕ) (v : ValidParams) (n : ℕ) (ps : List ℤ) (room : n * v.channels ≤ length ps) (some : 1 ≤ v.channels) where
  pub own_row_low : (i : ℕ) → i < n → own_row reach v n ps i < 2 ^ (v.channels - 1)
  own_row_low i h = omega (arith, own_which reach v n ps i, row_low reach v n ps room some i h i)

  -- of two frames within the reach, what the one finds the other after its own row, the other finds it before
  pub rows_turn : (i j : ℕ) → i < n → j < n → squared (frame_at reach v n ps i) (frame_at reach v n ps j) ≤ reach * reach
      → which reach (drop 1 (frame_at reach v n ps i)) (drop 1 (frame_at reach v n ps j)) + which reach (drop 1 (frame_at reach v n ps j)) (drop 1 (frame_at reach v n ps i)) ≡ own_row reach v n ps i + own_row reach v n ps j
  rows_turn i j h k q =
      let F = frame_at reach v n ps in
      which_turn reach (drop 1 (F i)) (drop 1 (F j)) (apart_first reach v n ps room some (F i) (F j) (omega (arith, long reach v n ps room some i h)) (near_within reach v n ps room some i j h k q)).1
      ∙ sym (ap₂ ◌+◌ (own_which reach v n ps i) (own_which reach v n ps j))
