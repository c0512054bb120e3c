-- What the sum of squares tells of the box of one frame against the other, from the frames in arrays.
use mathlib.Core.Path.{◌≡◌, sym, ap, ap₂, subst, ◌∙◌}
use mathlib.Core.Bool.{Bool, true, ◌&&◌}
use mathlib.Core.List.{List, map}
use Prim.Native.Nat.{ℕ, ◌*◌, ◌<◌}
use lib.IntN.{ℤ, pos}
use lib.Dec.{T}
use lib.ListN.{get_or, take}
use lib.Seq.{get_or-take}
use lib.Ieee.{Float, binary64, add, sub, mul, lt, of_int}
use Rattle.lists.specs.Words.{part}
use Rattle.ieee754.specs.Root.{root}
use Rattle.hyperparams.specs.declared.ValidParams.{ValidParams}
use Rattle.hyperparams.specs.Params.{float}
use Rattle.counting_tree.specs.declared.Box.{Box}
use Rattle.counting_tree.specs.declared.IntersectionType.TheVariants.{Disjoint, Intersecting}
use Rattle.counting_tree.specs.Frames.{Frame, frames_in, floats}
use Rattle.counting_tree.specs.FramesIn.{frame_length}
use Rattle.counting_tree.specs.Grid.{half, centres}
use Rattle.counting_tree.specs.Box.{sum_from}
use Rattle.counting_tree.specs.Geometry.{frame, box_at}
use Rattle.counting_tree.specs.Arrays.{placed, box_of}
use Rattle.counting_tree.specs.Radius.{radius}
use Rattle.counting_tree.specs.Domain.{Count, Counts}
use Rattle.counting_tree.specs.Ready.{Ready}
use Rattle.counting_tree.specs.Indexes.{LevelSide}
use Rattle.counting_tree.specs.Clear.{clearly_apart, clearly_between, clearly_crossing}
use Rattle.counting_tree.specs.ClearLaws.{box_apart, box_crossing}
use Rattle.counting_tree.proofs.Answer.{radius_is}
use Rattle.counting_tree.proofs.Lent.{frame_is, floats_are, centre_is}

-- by the outcomes of the comparisons
module _ (t sum : Float) where
  pub apart_is : (h : Float) (b : Bool) → lt (add binary64 (mul binary64 (add binary64 t h) (add binary64 t h)) (float 1)) sum ≡ b → b ≡ clearly_apart t h sum
  unfolding clearly_apart
  apart_is h b p = sym p

  pub between_is : (appx a b : Float) (u w : Bool) → lt (add binary64 sum (float 1)) (mul binary64 (add binary64 t a) (add binary64 t a)) ≡ u
      → lt (add binary64 (mul binary64 (sub binary64 appx b) (sub binary64 appx b)) (float 1)) sum ≡ w → (u && w) ≡ clearly_between t appx a b sum
  unfolding clearly_between
  between_is appx a b u w p q = ap₂ ◌&&◌ (sym p) (sym q)

module _ {ps : List ℤ} {v : ValidParams} {n : ℕ} (r : Ready ps v n) where
  abbrev fs : List Frame
  fs = frames_in n v.channels ps

  -- an array of counts holds a frame of counts
  frame_held : (i : ℕ) → i < n → (a : List ℤ) → a ≡ placed (part ps (i * v.channels) v.channels) → ((k : ℕ) → Count (get_or a k (pos 0))) → Counts (frame v (frames_in n v.channels ps) i)
  frame_held i h a e c k l =
      let m : k < v.channels = subst (λ (w : ℕ). k < w) (frame_length n v.channels ps i r.room h) l in
      subst Count (sym (get_or-take v.channels a k (pos 0) m) ∙ ap (λ (f : Frame). get_or f k (pos 0)) (frame_is r i h a e)) (c k)

  -- a and b hold the frames q and x, y the counts of q as floats, and p is the box of x; m is the sum of squares to its centre, and h half its diagonal
  module _ (q x : ℕ) (hq : q < n) (hx : x < n) (a b : List ℤ) (ea : a ≡ placed (part ps (q * v.channels) v.channels)) (eb : b ≡ placed (part ps (x * v.channels) v.channels)) (ca : (k : ℕ) → Count (get_or a k (pos 0))) (cb : (k : ℕ) → Count (get_or b k (pos 0)))
      (side : Float) (L : LevelSide v side) (y : List Float) (p : Box) (ey : y ≡ map (of_int binary64) a) (ep : p ≡ box_of v.channels side b)
      (m : Float) (em : m ≡ sum_from (float 0) (take v.channels y) (take v.channels p.centre))
      (g h : Float) (eg : g ≡ root (float v.channels)) (eh : h ≡ half (mul binary64 side g)) where
    sum_is : m ≡ sum_from (float 0) (floats (frame v fs q)) (centres side (frame v fs x))
    sum_is = em ∙ ap₂ (sum_from (float 0)) (floats_are r q hq a ea y ey) (centre_is r x hx b eb side p ep).1

    h_is : h ≡ radius v.channels side
    h_is = radius_is v.channels side g h eg eh

    pub by_apart : (t : Bool) → t ≡ clearly_apart v.tolerance h m → t ≡ true → Disjoint ≡ box_at v (frames_in n v.channels ps) side q x
    by_apart t e f =
        sym (box_apart r q x hq hx (frame_held q hq a ea ca) (frame_held x hx b eb cb) side L (subst T (sym f ∙ e ∙ ap₂ (clearly_apart v.tolerance) h_is sum_is) tt))

    pub by_crossing : (w : Float) → w ≡ half side → (t : Bool) → t ≡ clearly_crossing v.tolerance v.appx_tolerance h w m → t ≡ true → Intersecting ≡ box_at v (frames_in n v.channels ps) side q x
    by_crossing w ew t e f =
        sym (box_crossing r q x hq hx (frame_held q hq a ea ca) (frame_held x hx b eb cb) side L
        (subst T (sym f ∙ e ∙ ap (clearly_crossing v.tolerance v.appx_tolerance h w) sum_is ∙ ap₂ (λ (i j : Float). clearly_crossing v.tolerance v.appx_tolerance i j (sum_from (float 0) (floats (frame v fs q)) (centres side (frame v fs x)))) h_is ew) tt))
