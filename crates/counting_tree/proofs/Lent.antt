-- From frames in arrays to the geometry of the points.
use mathlib.Core.Path.{◌≡◌, sym, ap, ap₂, ◌∙◌}
use mathlib.Core.Bool.{Bool}
use mathlib.Core.List.{List, map}
use Prim.Native.Nat.{ℕ, ◌+◌, ◌*◌, ◌≤◌, ◌<◌}
use native.Mathlib.Omega.{arith}
use lib.Dec.{leb}
use lib.IntN.{ℤ}
use lib.ListN.{length, take, replicate}
use lib.Ieee.{Float, binary64, of_int}
use Rattle.lists.specs.Words.{part}
use Rattle.lists.proofs.PartLaws.{part_same, part_length}
use Rattle.hyperparams.specs.declared.ValidParams.{ValidParams}
use Rattle.hyperparams.specs.Params.{float}
use Rattle.counting_tree.specs.declared.Box.{Box}
use Rattle.counting_tree.specs.declared.IntersectionType.{IntersectionType}
use Rattle.counting_tree.specs.Frames.{Frame, frames_in, floats}
use Rattle.counting_tree.specs.FramesIn.{frame_at, frame_inside, frame_length}
use Rattle.counting_tree.specs.Grid.{side_at, centre, indexes, centres}
use Rattle.counting_tree.specs.Box.{intersection}
use Rattle.counting_tree.specs.Geometry.{geometry_of, short, frame, N, same_ints, near, within, box_at}
use Rattle.counting_tree.specs.Arrays.{placed, box_of}
use Rattle.counting_tree.specs.WholeDistance.{within_frames}
use Rattle.counting_tree.specs.Domain.{Counts}
use Rattle.counting_tree.specs.Sound.{pair}
use Rattle.counting_tree.specs.Ready.{Ready, geometry_at, square_fits}
use Rattle.counting_tree.specs.Indexes.{placed_first, indexes_length, centres_length, same_indexes}
use Rattle.counting_tree.proofs.Counts.{take_map}

module _ {ps : List ℤ} {v : ValidParams} {n : ℕ} (r : Ready ps v n) where
  abbrev d : ℕ
  d = v.channels

  abbrev fs : List Frame
  fs = frames_in n v.channels ps

  -- what the functions below ask
  pub some_channels : (1 ≤ v.channels) × (v.channels ≤ 4)
  some_channels = (r.settings.scale.some, r.settings.scale.most)

  pub inside : (i : ℕ) → i < n → i * v.channels + v.channels ≤ length ps
  inside i h = frame_inside n d (length ps) i r.room h

  pub product_fits : (v.t * v.t ≤ 4294836225) × (short * (v.t * v.t) ≤ 17179344900)
  product_fits = (square_fits r, omega (arith, square_fits r))

  -- the first channels of an array are the frame
  module _ (i : ℕ) (h : i < n) (a : List ℤ) (e : a ≡ placed (part ps (i * v.channels) v.channels)) where
    pub frame_is : take v.channels a ≡ frame v (frames_in n v.channels ps) i
    frame_is = ap (take d) e ∙ placed_first d (part ps (i * d) d) (part_length ps (i * d) d (inside i h)) ∙ sym (frame_at n d ps i h)

    pub floats_are : (x : List Float) → x ≡ map (of_int binary64) a → take v.channels x ≡ floats (frame v (frames_in n v.channels ps) i)
    floats_are x f = ap (take d) f ∙ take_map (of_int binary64) d a ∙ ap (map (of_int binary64)) frame_is

    pub centre_is : (s : Float) (b : Box) → b ≡ box_of v.channels s a → (b.side ≡ s) × (take v.channels b.centre ≡ centres s (frame v (frames_in n v.channels ps) i))
    unfolding box_of
    centre_is s b f = (
      ap (λ (x : Box). x.side) f,
      ap (λ (x : Box). take d x.centre) f
          ∙ part_same (replicate 4 (float 0)) 0 d (centres s (take d a)) (omega arith) (centres_length s (take d a) ∙ ap length frame_is ∙ frame_length n d ps i r.room h)
          ∙ ap (centres s) frame_is,
    )

    -- it is the centre of the box of the frame's indexes
    pub box_indexes : (s : Float) (b : Box) → b ≡ box_of v.channels s a → (at : List ℤ) → at ≡ placed (indexes s (frame v (frames_in n v.channels ps) i)) → take v.channels b.centre ≡ map (centre b.side) (take v.channels at)
    unfolding centres
    box_indexes s b f at g =
        let c = centre_is s b f in
        let ys = indexes s (frame v fs i) in
        c.1 ∙ ap (map (centre s)) (sym (ap (take d) g ∙ placed_first d ys (indexes_length s (frame v fs i) ∙ frame_length n d ps i r.room h))) ∙ ap (λ (x : Float). map (centre x) (take d at)) (sym c.0)

    -- frame j has these indexes exactly if it shares the frame's box of the level
    pub box_same : (l : ℕ) (s : Float) → s ≡ side_at v.channels v.tolerance l → (b : Box) → b ≡ box_of v.channels s a → (at : List ℤ) → at ≡ placed (indexes s (frame v (frames_in n v.channels ps) i)) → (j : ℕ) (t : Bool)
        → t ≡ same_ints (take v.channels at) (indexes b.side (frame v (frames_in n v.channels ps) j)) → t ≡ (geometry_at v n ps).same l i j
    box_same l s k b f at g j t u = same_indexes r l s k i j h at g t (u ∙ ap (λ (x : Float). same_ints (take d at) (indexes x (frame v fs j))) (centre_is s b f).0)

  -- m is the sum of squared differences of frames i and j
  module _ (i j m : ℕ) (e : m ≡ N v (frames_in n v.channels ps) i j) where
    pub near_is : leb m (short * (v.t * v.t)) ≡ (geometry_at v n ps).near i j
    unfolding geometry_of near
    near_is = ap (λ (k : ℕ). leb k (short * (v.t * v.t))) e

    pub within_is : i < n → j < n → Counts (frame v (frames_in n v.channels ps) i) → Counts (frame v (frames_in n v.channels ps) j) → leb m (v.t * v.t) ≡ (geometry_at v n ps).within i j
    unfolding geometry_of within
    within_is hi hj ci cj =
        let li = frame_length n d ps i r.room hi in
        let lj = frame_length n d ps j r.room hj in
        ap (λ (k : ℕ). leb k (v.t * v.t)) e ∙ sym (within_frames r.settings.scale (pair (frame v fs i) (frame v fs j) (li ∙ sym lj) ci cj) li)

  module _ (i j : ℕ) (hi : i < n) (hj : j < n) (a b : List ℤ) (ea : a ≡ placed (part ps (i * v.channels) v.channels)) (eb : b ≡ placed (part ps (j * v.channels) v.channels)) where
    -- frame i is tested against the box of frame j
    pub box_is : (s : Float) (x : List Float) (p : Box) (t : IntersectionType) → x ≡ map (of_int binary64) a → p ≡ box_of v.channels s b
        → t ≡ intersection v.channels v.tolerance v.appx_tolerance p.side (take v.channels p.centre) (take v.channels x) → t ≡ box_at v (frames_in n v.channels ps) s i j
    box_is s x p t ex ep e =
        let c = centre_is j hj b eb s p ep in
        e ∙ ap₂ (λ (y : Float) (z : List Float). intersection d v.tolerance v.appx_tolerance y z (take d x)) c.0 c.1
        ∙ ap (intersection d v.tolerance v.appx_tolerance s (centres s (frame v fs j))) (floats_are i hi a ea x ex)
