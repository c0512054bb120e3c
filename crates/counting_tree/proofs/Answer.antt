-- The answer of the box test by the outcomes of its four tests, and the outcome of the last one where the centre is not nearer than the extended tolerance.
use mathlib.Core.Path.{◌≡◌, sym, ap, ap₂, ◌∙◌, subst}
use mathlib.Core.Bool.{Bool, true, false}
use mathlib.Core.List.{List, [], ◌∷◌}
use Prim.Native.Nat.{ℕ, zero, suc}
use lib.Dec.{T}
use lib.ListN.{take}
use lib.Ieee.{Float, binary64, fits, add, sub, mul, div, lt, le}
use lib.Ieee.Fits.{div-fits}
use mir.Val.{Val}
use denote.Array.{each}
use denote.Shadow.{shadow}
use denote.Floats.{FloatOf}
use Rattle.ieee754.specs.Root.{root}
use Rattle.hyperparams.specs.Params.{float}
use Rattle.counting_tree.specs.Grid.{half, root_channels}
use Rattle.counting_tree.specs.Box.{distance, corners, farthest, intersection}
use Rattle.counting_tree.specs.Radius.{radius}
use Rattle.counting_tree.specs.Farthest.{Held, no_value, value, centre_not_nearer}
use Rattle.counting_tree.specs.Answers.{answer, apart_test, inside_test, near_test, intersection_is}

pub radius_is : (n : ℕ) (side g h : Float) → g ≡ root (float n) → h ≡ half (mul binary64 side g) → h ≡ radius n side
unfolding radius half root_channels
radius_is n side g h e f = f ∙ ap (λ (x : Float). div binary64 (mul binary64 side x) (float 2)) e

-- d is the distance, h half the diagonal, e half the side, w the farthest corner's distance
module _ (n : ℕ) (t appx side : Float) (cs qs : List Float) (d h e w : Float) (D : d ≡ distance qs cs) (H : h ≡ radius n side) (E : e ≡ half side) (W : w ≡ farthest qs (corners cs (half side))) where
  pub by_tests : (a b c f : Bool) → lt t (sub binary64 d h) ≡ a → le (add binary64 d h) appx ≡ b → le (sub binary64 d e) t ≡ c → lt w appx ≡ f → answer a b c f ≡ intersection n t appx side cs qs
  by_tests a b c f p q r s =
      ap (λ (x : Bool). answer x b c f) (sym p ∙ ap₂ (λ (x y : Float). lt t (sub binary64 x y)) D H)
      ∙ ap (λ (x : Bool). answer (apart_test n t appx side cs qs) x c f) (sym q ∙ ap₂ (λ (x y : Float). le (add binary64 x y) appx) D H)
      ∙ ap (λ (x : Bool). answer (apart_test n t appx side cs qs) (inside_test n t appx side cs qs) x f) (sym r ∙ ap₂ (λ (x y : Float). le (sub binary64 x y) t) D E)
      ∙ ap (answer (apart_test n t appx side cs qs) (inside_test n t appx side cs qs) (near_test n t appx side cs qs)) (sym s ∙ ap (λ (x : Float). lt x appx) W)
      ∙ sym (intersection_is n t appx side cs qs)

-- the elements of an array are values of the format
each_held : (xs : List Float) (us : List Val) → shadow (each Float (FloatOf binary64).own_val xs us) → Held xs
each_held [] us p = no_value
each_held (x ∷ xs) [] p = absurd p
each_held (x ∷ xs) (u ∷ us) p = value (subst T (sym p.0.1) tt) (each_held xs us p.1)

take_held : (n : ℕ) (xs : List Float) → Held xs → Held (take n xs)
take_held zero xs h = no_value
take_held (suc n) [] h = no_value
take_held (suc n) (x ∷ xs) (value f h) = value f (take_held n xs h)

half_held : (side : Float) → T (fits binary64 (half side))
unfolding half
half_held side = div-fits binary64 side (float 2)

pub centre_outside : (n : ℕ) (appx side d e : Float) (c q : List Float) (us ws : List Val) → shadow (each Float (FloatOf binary64).own_val c us) → shadow (each Float (FloatOf binary64).own_val q ws) → fits binary64 appx ≡ true
    → d ≡ distance (take n q) (take n c) → e ≡ half side → le appx d ≡ true → lt (float 0) e ≡ true → lt (farthest (take n q) (corners (take n c) (half side))) appx ≡ false
centre_outside n appx side d e c q us ws f g h D E l p =
    centre_not_nearer (take n q) (take n c) (half side) appx (take_held n q (each_held q ws g)) (take_held n c (each_held c us f)) (half_held side) (subst T (sym h) tt)
    (ap (lt (float 0)) (sym E) ∙ p) (subst T (sym (ap (le appx) (sym D) ∙ l)) tt)
