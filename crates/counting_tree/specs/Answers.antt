-- What each answer of the box test says of a frame in the box, and that the last level never answers Intersecting.
use Rattle.std.specs.Prelude.{◌≡◌, ◌⊎◌, Bool, not, List, ℕ, ◌+◌, ◌*◌, ◌^◌, ◌≤◌, ◌<◌, T, length, Float}
use Rattle.std.proofs.Math.Path.{refl}
use Rattle.std.proofs.Common.{sym, ◌∙◌, inl, inr, arith}
use Rattle.std.proofs.Math.Bool.{true, false}
use Rattle.std.specs.Float.{binary64}
use Rattle.std.specs.Float.Ieee.{add, sub, lt, le}
use Rattle.ieee754.specs.Value.{unit, mag}
use Rattle.counting_tree.specs.Frames.{Frame, squared, floats}
use Rattle.counting_tree.specs.Grid.{side_at, centres, half}
use Rattle.counting_tree.specs.Box.{distance, corners, farthest, intersection}
use Rattle.counting_tree.specs.Radius.{radius}
use Rattle.counting_tree.specs.Sides.{Scale}
use Rattle.counting_tree.specs.Tests.{Extended}
use Rattle.counting_tree.specs.WholeFrames.{Pair, disjoint_frames, covered_frames, corner_frames, last_frames}
use Rattle.counting_tree.specs.declared.IntersectionType.{IntersectionType}
use Rattle.counting_tree.specs.declared.IntersectionType.TheVariants.{Disjoint, FullyCovered, Intersecting}

-- the answer, from the outcomes of the four tests
abbrev pub answer : Bool → Bool → Bool → Bool → IntersectionType
answer true b c d = Disjoint
answer false true c d = FullyCovered
answer false false true d = Intersecting
answer false false false true = FullyCovered
answer false false false false = Intersecting

-- the tests of a box with the centre cs against the frame qs
module _ (n : ℕ) (t ext side : Float) (cs qs : List Float) where
  abbrev pub apart_test : Bool
  apart_test = lt t (sub binary64 (distance qs cs) (radius n side))

  abbrev pub inside_test : Bool
  inside_test = le (add binary64 (distance qs cs) (radius n side)) ext

  abbrev pub near_test : Bool
  near_test = le (sub binary64 (distance qs cs) (half side)) t

  abbrev pub corner_test : Bool
  corner_test = lt (farthest qs (corners cs (half side))) ext

  pub intersection_is : intersection n t ext side cs qs ≡ answer apart_test inside_test near_test corner_test
  unfolding intersection radius
  intersection_is = go apart_test inside_test near_test corner_test
    where
      go : (a b c d : Bool) → elim a as (λ (x : Bool). IntersectionType) [
        | true ↦ Disjoint
        | false ↦ elim b as (λ (x : Bool). IntersectionType) [
          | true ↦ FullyCovered
          | false ↦ elim c as (λ (x : Bool). IntersectionType) [ true ↦ Intersecting | false ↦ elim d as (λ (x : Bool). IntersectionType) [ true ↦ FullyCovered | false ↦ Intersecting ] ]
        ]
      ] ≡ answer a b c d
      go true b c d = refl
      go false true c d = refl
      go false false true d = refl
      go false false false true = refl
      go false false false false = refl

pub covered_disjoint : FullyCovered ≡ Disjoint → ⊥
covered_disjoint e = let z : ◌≡◌ {A = ℕ} 0 1 = cc in omega arith

pub crossing_disjoint : Intersecting ≡ Disjoint → ⊥
crossing_disjoint e = let z : ◌≡◌ {A = ℕ} 0 1 = cc in omega arith

pub crossing_covered : Intersecting ≡ FullyCovered → ⊥
crossing_covered e = let z : ◌≡◌ {A = ℕ} 0 1 = cc in omega arith

pub said_disjoint : (a b c d : Bool) → answer a b c d ≡ Disjoint → T a
said_disjoint true b c d e = tt
said_disjoint false true c d e = covered_disjoint e
said_disjoint false false true d e = crossing_disjoint e
said_disjoint false false false true e = covered_disjoint e
said_disjoint false false false false e = crossing_disjoint e

pub said_covered : {A : Type 0} (a b c d : Bool) → answer a b c d ≡ FullyCovered → (T b → A) → (T d → A) → A
said_covered true b c d e f g = absurd (covered_disjoint (sym e))
said_covered false true c d e f g = f tt
said_covered false false true d e f g = absurd (crossing_covered e)
said_covered false false false true e f g = g tt
said_covered false false false false e f g = absurd (crossing_covered e)

never_crossing : (a b c d : Bool) → (T (not a) → T b) → answer a b c d ≡ Intersecting → ⊥
never_crossing true b c d f e = crossing_disjoint (sym e)
never_crossing false true c d f e = crossing_covered (sym e)
never_crossing false false c d f e = f tt

pub says_disjoint : (a b c d : Bool) → (T (not a) → ⊥) → answer a b c d ≡ Disjoint
says_disjoint true b c d f = refl
says_disjoint false b c d f = absurd (f tt)

pub says_covered : (a b c d : Bool) → T (not a) → T b → answer a b c d ≡ FullyCovered
says_covered true b c d h k = absurd h
says_covered false true c d h k = refl
says_covered false false c d h k = absurd k

pub says_crossing : (a b c d : Bool) → T (not a) → (T b → ⊥) → T c ⊎ (T d → ⊥) → answer a b c d ≡ Intersecting
says_crossing true b c d h f k = absurd h
says_crossing false true c d h f k = absurd (f tt)
says_crossing false false true d h f k = refl
says_crossing false false false true h f k = elim k [ inl g ↦ absurd g | inr g ↦ absurd (g tt) ]
says_crossing false false false false h f k = refl

-- the box of level l in which the frame ys lies, against the frame qs
module _ {d : ℕ} {t : Float} {τ : ℕ} (S : Scale d t τ) (l : ℕ) (ll : l ≤ 11) (qs ys : Frame) (c : Pair qs ys) (lq : length qs ≡ d) (ly : length ys ≡ d) (ext : Float) (E : Extended ext) where
  abbrev side : Float
  side = side_at d t l

  abbrev tested : (ℕ → Float → Float → Float → List Float → List Float → Bool) → Bool
  tested f = f d t ext side (centres side ys) (floats qs)

  -- Disjoint: the frame is no nearer than t
  pub disjoint_sound : intersection d t ext side (centres side ys) (floats qs) ≡ Disjoint → squared qs ys < τ * τ → ⊥
  disjoint_sound e =
      disjoint_frames S l ll qs ys c lq ly
      (said_disjoint (tested apart_test) (tested inside_test) (tested near_test) (tested corner_test) (sym (intersection_is d t ext side (centres side ys) (floats qs)) ∙ e))

  -- FullyCovered: N < ext × ext + 1
  pub covered_sound : intersection d t ext side (centres side ys) (floats qs) ≡ FullyCovered → squared qs ys * (unit * unit) < mag ext * mag ext + unit * unit
  covered_sound e =
      said_covered (tested apart_test) (tested inside_test) (tested near_test) (tested corner_test) (sym (intersection_is d t ext side (centres side ys) (floats qs)) ∙ e)
      (covered_frames S l ll qs ys c lq ly ext E) (corner_frames S l ll qs ys c lq ly ext E)

  -- the last level, l = 1 + s with the extended tolerance t + 2 t / 2 ^ l
  pub last_sound : 2 ^ l * mag ext ≡ 2 ^ l * mag t + 2 * mag t → intersection d t ext side (centres side ys) (floats qs) ≡ Intersecting → ⊥
  last_sound x e =
      never_crossing (tested apart_test) (tested inside_test) (tested near_test) (tested corner_test) (last_frames S l ll qs ys c lq ly ext E x)
      (sym (intersection_is d t ext side (centres side ys) (floats qs)) ∙ e)
