-- What is settled by the outcomes of the two comparisons, and that their whole numbers fit.
use mathlib.Core.Path.{◌≡◌, ap, ◌∙◌}
use mathlib.Core.Bool.{Bool, true, false, cond}
use Rattle.std.specs.Prelude.{Some, None}
use mathlib.Core.List.{List, map}
use Prim.Native.Nat.{ℕ, ◌+◌, ◌*◌, ◌%◌, ◌^◌, ◌≤◌, ◌<◌}
use native.Mathlib.Nat.{one-mul, le_trans, le_of_eq}
use native.Mathlib.Omega.{arith}
use lib.Dec.{lit<}
use lib.Pow.{pow_mono, shl_exact}
use lib.IntN.{ℤ}
use lib.ListN.{take}
use lib.Ieee.{Float, binary64, add, mul, le, of_int}
use Rattle.lists.specs.Words.{part}
use Rattle.hyperparams.specs.declared.ValidParams.{ValidParams}
use Rattle.hyperparams.specs.Params.{float}
use Rattle.counting_tree.specs.Frames.{frames_in, floats}
use Rattle.counting_tree.specs.Box.{sum_from}
use Rattle.counting_tree.specs.Geometry.{frame}
use Rattle.counting_tree.specs.Arrays.{placed}
use Rattle.counting_tree.specs.Ready.{Ready}
use Rattle.counting_tree.specs.Settled.{settled_by}
use Rattle.counting_tree.proofs.Lent.{floats_are}

module _ {ps : List ℤ} {v : ValidParams} {n : ℕ} (r : Ready ps v n) where
  -- the shift is 2 ^ s
  pub two_is : 1 * 2 ^ v.s % 2 ^ 64 ≡ 2 ^ v.s
  two_is = shl_exact 1 v.s 64 (lit< tt) (omega (arith, r.settings.power)) ∙ one-mul (2 ^ v.s)

  pub two_le : 1 * 2 ^ v.s % 2 ^ 64 ≤ 1024
  two_le = le_trans (le_of_eq two_is) (pow_mono r.settings.power)

  -- a holds frame i, x its counts as floats, and m is the sum of squares to the centre cs
  module _ (i : ℕ) (h : i < n) (a : List ℤ) (ea : a ≡ placed (part ps (i * v.channels) v.channels)) (x cs : List Float) (ex : x ≡ map (of_int binary64) a) (m : Float) (e : m ≡ sum_from (float 0) (take v.channels x) cs) where
    sum_is : m ≡ sum_from (float 0) (floats (frame v (frames_in n v.channels ps) i)) cs
    sum_is = e ∙ ap (λ (y : List Float). sum_from (float 0) y cs) (floats_are r i h a ea x ex)

    pub by_tests : (two : ℕ) → two ≡ 2 ^ v.s → (b c : Bool) → le (float (9 * (v.t * v.t) + 1)) (mul binary64 m (float 4)) ≡ b
        → le (mul binary64 (add binary64 m (float 1)) (float (4 * (two * two)))) (float (v.t * (two + 2) * (v.t * (two + 2)))) ≡ c
        → cond b (Some false) (cond c (Some true) None) ≡ settled_by v (sum_from (float 0) (floats (frame v (frames_in n v.channels ps) i)) cs)
    unfolding settled_by
    by_tests two f b c p q = rw (← p, ← q, f, sum_is)
