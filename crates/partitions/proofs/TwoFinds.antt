-- A find of a, with the answer x and the leaders q, and then one of b, with the answer y and the leaders s.
use mathlib.Core.Path.{◌≡◌, ap, ap₂, ◌∙◌}
use mathlib.Core.List.{List}
use Prim.Native.Nat.{ℕ, ◌<◌, ◌≤◌, min, max}
use native.Mathlib.Omega.{arith}
use lib.Dec.{eqb}
use lib.ListN.{length, set}
use Rattle.partitions.specs.Leaders.{Falling, root, shorten, shorten_both, united}
use Rattle.partitions.specs.LeaderLaws.{own_stands, shorten_stands, both_stand}

module _ {p : List ℕ} (f : Falling p) (a : ℕ) (ha : a < length p) {q : List ℕ} (first : q ≡ shorten p a) where
  pub falls_still : Falling q
  falls_still = rw first (shorten_stands (own_stands f) a ha).falling

  module _ (b : ℕ) (hb : b < length p) {s : List ℕ} {x y : ℕ} (first-root : x ≡ root p a) (second-root : y ≡ root q b) (second : s ≡ shorten q b) where
    pub both_left : s ≡ shorten_both p a b
    unfolding shorten_both
    both_left = second ∙ ap (λ (r : List ℕ). shorten r b) first

    own_root : y ≡ root p b
    own_root = second-root ∙ ap (λ (r : List ℕ). root r b) first ∙ (shorten_stands (own_stands f) a ha).roots b hb

    pub one_set : eqb x y ≡ eqb (root p a) (root p b)
    one_set = ap₂ eqb first-root own_root

    -- the lower answer in the word of the higher
    pub lower_leads : {h l : ℕ} → h ≡ max x y → l ≡ min x y → set s h l ≡ united (shorten_both p a b) a b
    unfolding united
    lower_leads {h} {l} i j =
        let t = both_stand (own_stands f) a b ha hb in
        rw (t.roots a ha, t.roots b hb, ← first-root, ← own_root, ← i, ← j) (ap (λ (z : List ℕ). set z h l) both_left)
