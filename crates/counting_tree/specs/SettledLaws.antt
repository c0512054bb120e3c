-- Where whole numbers settle a root box, the box test says the same.
use Rattle.std.specs.Prelude.{◌≡◌, refl, Bool, true, false, cond, List, ℕ, ◌^◌, ◌<◌, ℤ, T, length, Float, Option, Some, None}
use Rattle.std.proofs.Common.{sym, ap, ◌∙◌, lit≤, pow_pos, pow_mono}
use Rattle.lists.specs.ListLaws.{true_T}
use Rattle.hyperparams.specs.Params.{float}
use Rattle.hyperparams.specs.declared.ValidParams.{ValidParams}
use Rattle.counting_tree.specs.declared.IntersectionType.{IntersectionType}
use Rattle.counting_tree.specs.declared.IntersectionType.TheVariants.{Disjoint, FullyCovered, Intersecting}
use Rattle.counting_tree.specs.Frames.{floats, frames_in}
use Rattle.counting_tree.specs.FramesIn.{frame_length}
use Rattle.counting_tree.specs.Grid.{side_at, centres}
use Rattle.counting_tree.specs.Box.{sum_from}
use Rattle.counting_tree.specs.Geometry.{frame, box, geometry_of}
use Rattle.counting_tree.specs.Geometry as Geometry
use Rattle.counting_tree.specs.Distance.{Near}
use Rattle.counting_tree.specs.Settings.{extended}
use Rattle.counting_tree.specs.Sides.{Scale}
use Rattle.counting_tree.specs.WholeFrames.{near_centre, length_floats}
use Rattle.counting_tree.specs.Answers.{answer, apart_test, inside_test, near_test, corner_test, intersection_is, says_disjoint, says_covered}
use Rattle.counting_tree.specs.BySum.{sum_is, far_sum, near_sum, beyond_bound, inside_bound}
use Rattle.counting_tree.specs.Domain.{Counts}
use Rattle.counting_tree.specs.Sound.{pair}
use Rattle.counting_tree.specs.Ready.{geometry_at, Ready}
use Rattle.counting_tree.specs.Settled.{beyond, inside, settled_by}

-- whether anything is told, and whether that it is so
abbrev pub is_told : Option Bool → Bool
is_told None = false
is_told (Some b) = true

abbrev pub is_yes : Option Bool → Bool
is_yes None = false
is_yes (Some b) = b

-- what is settled was told by one of the two tests
told_far : (a b : Bool) → ◌≡◌ {A = Option Bool} (cond a (Some false) (cond b (Some true) None)) (Some false) → T a
told_far true b e = tt
told_far false true e = absurd (true_T (sym (ap is_yes e)))
told_far false false e = absurd (true_T (ap is_told e))

told_near : (a b : Bool) → ◌≡◌ {A = Option Bool} (cond a (Some false) (cond b (Some true) None)) (Some true) → T b
told_near true b e = absurd (true_T (ap is_yes e))
told_near false true e = tt
told_near false false e = absurd (true_T (ap is_yes e))

-- the answer of a box test that it tells
abbrev pub answer_told : Option Bool → IntersectionType
answer_told None = Intersecting
answer_told (Some false) = Disjoint
answer_told (Some true) = FullyCovered

-- what is settled is the answer of the first two tests
settled_is : (v : ValidParams) (sum : Float) → answer_told (settled_by v sum) ≡ answer (beyond v sum) (inside v sum) true false
unfolding settled_by
settled_is v sum = go (beyond v sum) (inside v sum)
  where
    go : (a b : Bool) → answer_told (cond a (Some false) (cond b (Some true) None)) ≡ answer a b true false
    go true b = refl
    go false true = refl
    go false false = refl

module _ {ps : List ℤ} {v : ValidParams} {n : ℕ} (r : Ready ps v n) (q x : ℕ) (hq : q < n) (hx : x < n)
    (cq : Counts (frame v (frames_in n v.channels ps) q)) (cx : Counts (frame v (frames_in n v.channels ps) x)) where
  abbrev qs : List Float
  qs = floats (frame v (frames_in n v.channels ps) q)

  abbrev side : Float
  side = side_at v.channels v.tolerance 0

  abbrev cs : List Float
  cs = centres side (frame v (frames_in n v.channels ps) x)

  abbrev sum : Float
  sum = sum_from (float 0) qs cs

  S : Scale v.channels v.tolerance v.t
  S = r.settings.scale

  long : length qs ≡ v.channels
  long = length_floats (frame v (frames_in n v.channels ps) q) ∙ frame_length n v.channels ps q r.room hq

  near : Near qs cs
  near =
      let fs = frames_in n v.channels ps in
      let lq = frame_length n v.channels ps q r.room hq in
      let lx = frame_length n v.channels ps x r.room hx in
      near_centre S 0 (lit≤ tt) (frame v fs q) (frame v fs x) (pair (frame v fs q) (frame v fs x) (lq ∙ sym lx) cq cx) lq lx

  abbrev tested : (ℕ → Float → Float → Float → List Float → List Float → Bool) → Bool
  tested f = f v.channels v.tolerance v.appx_tolerance side cs qs

  box_is : (geometry_at v n ps).box q 0 x ≡ answer (tested apart_test) (tested inside_test) (tested near_test) (tested corner_test)
  unfolding geometry_of box Geometry.side
  box_is = intersection_is v.channels v.tolerance v.appx_tolerance side cs qs

  pub settled_disjoint : settled_by v (sum_from (float 0) (floats (frame v (frames_in n v.channels ps) q)) (centres (side_at v.channels v.tolerance 0) (frame v (frames_in n v.channels ps) x))) ≡ Some false
      → (geometry_at v n ps).box q 0 x ≡ Disjoint
  unfolding settled_by
  settled_disjoint e =
      let s = sum_is S qs cs near long in
      let f = told_far (beyond v sum) (inside v sum) e in
      box_is ∙ says_disjoint (tested apart_test) (tested inside_test) (tested near_test) (tested corner_test) (far_sum S qs cs near long (beyond_bound sum s.good s.sign_is s.small v.t S.high f))

  pub settled_covered : settled_by v (sum_from (float 0) (floats (frame v (frames_in n v.channels ps) q)) (centres (side_at v.channels v.tolerance 0) (frame v (frames_in n v.channels ps) x))) ≡ Some true
      → (geometry_at v n ps).box q 0 x ≡ FullyCovered
  unfolding settled_by
  settled_covered e =
      let s = sum_is S qs cs near long in
      let f = told_near (beyond v sum) (inside v sum) e in
      let b = inside_bound sum s.good s.sign_is s.small v.t S.high (2 ^ v.s) (pow_pos v.s) (pow_mono r.settings.power) f in
      let c = near_sum S qs cs near long v.appx_tolerance (extended r.settings) (2 ^ v.s) (pow_pos v.s) r.settings.scaled b in
      box_is ∙ says_covered (tested apart_test) (tested inside_test) (tested near_test) (tested corner_test) c.0 c.1
