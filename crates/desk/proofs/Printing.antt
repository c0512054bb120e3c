-- Laws of the output: one frame line more, and how long the output is.
use Rattle.std.specs.Prelude.{Ok}
use mathlib.Core.Path.{◌≡◌, refl, sym, ap, ◌∙◌}
use mathlib.Core.List.{List, [], ◌∷◌, ◌++◌, append-nil}
use Prim.Native.Nat.{ℕ, zero, suc, ◌+◌, ◌*◌, ◌≤◌, ◌<◌}
use native.Mathlib.Omega.{arith}
use native.Mathlib.Numerals.{add-one}
use lib.ListN.{length, get_or, length-append}
use Rattle.lists.specs.Lists.{concat}
use Rattle.lists.specs.Words.{over, column}
use Rattle.lists.specs.CountLaws.{concat_append}
use Rattle.lists.proofs.PartLaws.{column_snoc}
use Rattle.lists.proofs.WordLaws.{over_nil, over_length, over_next}
use Rattle.appx_dbscan.specs.declared.Counts.{Counts}
use Rattle.desk.specs.Desk.{hex2, hex4, frame_line, frame_lines, count_line, lines_of}

-- one frame line more
pub frame_lines_more : (ks ls : List ℕ) (n : ℕ) → frame_lines ks ls (n + 1) ≡ frame_lines ks ls n ++ frame_line (get_or ks n 0) (get_or ls n 0)
frame_lines_more ks ls n =
    let h : ℕ → List ℕ = λ f. frame_line (get_or ks f 0) (get_or ls f 0) in
    ap concat (column_snoc h n) ∙ concat_append (column h n) (h n ∷ []) ∙ ap (λ (z : List ℕ). concat (column h n) ++ z) (append-nil (h n))

pub frame_lines_length : (ks ls : List ℕ) (n : ℕ) → length (frame_lines ks ls n) ≡ 7 * n
unfolding frame_line hex4 hex2
frame_lines_length ks ls zero = refl
frame_lines_length ks ls (suc n) =
    ap (λ (m : ℕ). length (frame_lines ks ls m)) (sym (add-one n))
    ∙ ap length (frame_lines_more ks ls n)
    ∙ length-append (frame_lines ks ls n) (frame_line (get_or ks n 0) (get_or ls n 0))
    ∙ omega (arith, frame_lines_length ks ls n)

-- the lines of the first i of n frames are laid
pub record Laid (ks ls xs : List ℕ) (n : ℕ) (out : List ℕ) (i : ℕ) : Type 0 where
  pub fit : 7 * n ≤ length xs
  pub high : i ≤ n
  pub work : out ≡ over xs 0 (frame_lines ks ls i)

pub laid_start : (ks ls xs : List ℕ) {n : ℕ} → 7 * n ≤ length xs → Laid ks ls xs n xs 0
laid_start ks ls xs h = record { fit = h; high = omega arith; work = sym (over_nil xs 0) }

module _ {ks ls xs : List ℕ} {n : ℕ} {out : List ℕ} {i : ℕ} (c : Laid ks ls xs n out i) where
  pub laid_length : length out ≡ length xs
  laid_length = ap length c.work ∙ over_length xs 0 (frame_lines ks ls i) (omega (arith, frame_lines_length ks ls i, c.high, c.fit))

  pub laid_step : {next : List ℕ} → i < n → next ≡ over out (7 * i) (frame_line (get_or ks i 0) (get_or ls i 0)) → Laid ks ls xs n next (i + 1)
  unfolding frame_line hex4 hex2
  laid_step h e = record {
    fit = c.fit;
    high = omega arith;
    work = e
        ∙ ap (λ (z : List ℕ). over z (7 * i) (frame_line (get_or ks i 0) (get_or ls i 0))) c.work
        ∙ over_next xs 0 (7 * i) (frame_lines ks ls i) (frame_line (get_or ks i 0) (get_or ls i 0)) (omega (arith, frame_lines_length ks ls i)) (omega (arith, c.fit))
        ∙ ap (over xs 0) (sym (frame_lines_more ks ls i));
  }

  pub laid_end : n ≤ i → out ≡ over xs 0 (frame_lines ks ls n)
  laid_end h = let e : i ≡ n = omega (arith, c.high) in c.work ∙ ap (λ (j : ℕ). over xs 0 (frame_lines ks ls j)) e

-- ---- the lines of an outcome
pub labelled_length : (ks ls : List ℕ) (n : ℕ) (k : Counts) → length (lines_of (Ok k) ks ls n) ≡ 7 * n + 9
unfolding count_line hex4 hex2
labelled_length ks ls n k = length-append (frame_lines ks ls n) (count_line k.clusters k.core_frames) ∙ omega (arith, frame_lines_length ks ls n)

pub labelled_laid : (ks ls xs : List ℕ) (n : ℕ) (k : Counts) → 7 * n + 9 ≤ length xs → over (over xs 0 (frame_lines ks ls n)) (7 * n) (count_line k.clusters k.core_frames) ≡ over xs 0 (lines_of (Ok k) ks ls n)
unfolding count_line hex4 hex2
labelled_laid ks ls xs n k h = over_next xs 0 (7 * n) (frame_lines ks ls n) (count_line k.clusters k.core_frames) (omega (arith, frame_lines_length ks ls n)) h
