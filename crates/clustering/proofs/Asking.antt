-- Whether trees are asked: what the first frames of two cells tell.
use mathlib.Core.Path.{◌≡◌, refl, sym, ap, ◌∙◌}
use mathlib.Core.Bool.{Bool, true, false, not}
use mathlib.Core.List.{List}
use Prim.Native.Nat.{ℕ}
use lib.IntN.{ℤ}
use mathlib.Core.Bool.{beq}
use Rattle.std.specs.Prelude.{Option, None, Some}
use Rattle.std.specs.Option.{option_eq}
use Rattle.hyperparams.specs.declared.ValidParams.{ValidParams}
use Rattle.core_cells.specs.Spans.{apart_by_spans}
use Rattle.clustering.specs.Soon.{is_told, soon_near_at, soon_linked_at}

-- whether it is told that it is so
pub told_eq : (o : Option Bool) → option_eq beq o (Some true) ≡ is_told o
told_eq None = refl
told_eq (Some true) = refl
told_eq (Some false) = refl

-- ---- two cells: a is whether they are apart by their spans, x and y what the first frames of the one and of the other tell
module _ (v : ValidParams) (n : ℕ) (ps : List ℤ) (c d : ℕ) {a : Bool} (ea : a ≡ apart_by_spans v n ps c d) where
  pub linked_none : a ≡ true → not a ≡ soon_linked_at v n ps c d
  unfolding soon_linked_at
  linked_none h = ap not h ∙ sym (rw (← ea, h) refl)

  module _ (h : a ≡ false) {x : Bool} (ex : x ≡ soon_near_at v n ps c d) where
    pub linked_first : x ≡ true → x ≡ soon_linked_at v n ps c d
    unfolding soon_linked_at
    linked_first t = t ∙ sym (rw (← ea, h, ← ex, t) refl)

    pub linked_second : x ≡ false → {y : Bool} → y ≡ soon_near_at v n ps d c → y ≡ soon_linked_at v n ps c d
    unfolding soon_linked_at
    linked_second f ey = ey ∙ sym (rw (← ea, h, ← ex, f) refl)
