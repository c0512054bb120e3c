-- What `chunks_exact` gives: the parts of a text, one after the other.
use mathlib.Core.Path.{◌≡◌, sym, ap, subst, ◌∙◌}
use mathlib.Core.List.{List}
use Prim.Native.Nat.{ℕ, zero, suc, ◌+◌, ◌*◌, ◌/◌, ◌≤◌, ◌<◌}
use native.Mathlib.Omega.{arith}
use lib.ListN.{length, take, drop}
use Rattle.std.specs.Iterator.{AlwaysYields}
use Rattle.std.specs.Slice.Iter.{chunks_exact_rest, chunks_exact_size, chunks_exact_steps}
use Rattle.std.proofs.lemmas.Iterator.{YieldsList}
use Rattle.std.proofs.Math.Nat.{div-mul-le_self, lt-div-mul-add}
use Rattle.std.proofs.lemmas.List.{take_at, drop_at, length-append}
use Rattle.desk.proofs.Lines.{parts}

parts_given : (n size : ℕ) (s : _) → chunks_exact_size s ≡ size → n * size ≤ length (chunks_exact_rest s) → length (chunks_exact_rest s) < n * size + size
    → AlwaysYields chunks_exact_steps (λ y. y.now) s (parts size n (chunks_exact_rest s))
parts_given zero size s e low high = λ x t step. absurd (omega (arith, high, e, length-append x.now (chunks_exact_rest t), ap length step.1.0, step.1.1))
parts_given (suc n) size s e low high = (
  λ t step. absurd (omega (arith, low, e, step.1.0)),
  λ x t step.
      let long : length x.now ≡ size = step.1.1 ∙ e in
      let both : length (chunks_exact_rest s) ≡ size + length (chunks_exact_rest t) = omega (arith, long, length-append x.now (chunks_exact_rest t), ap length step.1.0) in (
        sym (take_at x.now (chunks_exact_rest t) size long) ∙ ap (take size) (sym step.1.0),
        subst (λ (bs : List ℕ). AlwaysYields chunks_exact_steps (λ y. y.now) t (parts size n bs)) (sym (drop_at x.now (chunks_exact_rest t) size long) ∙ ap (drop size) (sym step.1.0))
            (parts_given n size t (step.0 ∙ e) (omega (arith, both, low)) (omega (arith, both, high))),
      ),
)

pub parts_of_text : (bs : List ℕ) {size : ℕ} {s : _} → 0 < size → chunks_exact_rest s ≡ bs → chunks_exact_size s ≡ size → YieldsList chunks_exact_steps (λ y. y.now) s (parts size (length bs / size) bs)
parts_of_text bs {size} {s} some r e =
    let n : ℕ = length bs / size in
    record { runs = subst (λ (l : List ℕ). AlwaysYields chunks_exact_steps (λ y. y.now) s (parts size n l)) r (parts_given n size s e (omega (arith, ap length r, div-mul-le_self (length bs) size)) (omega (arith, ap length r, lt-div-mul-add {a = length bs} {b = size} some))) }
