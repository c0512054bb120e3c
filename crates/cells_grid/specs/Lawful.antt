-- What the cells need of a geometry: boxes are classes of frames, lists go either way, and a box lies to a frame as it does whichever of its frames names it.
use Rattle.std.specs.Prelude.{◌≡◌, ℕ, T}
use Rattle.counting_tree.specs.Geometry.{Geometry}

pub record Lawful (g : Geometry) : Type 0 where
  pub same_self : (l i : ℕ) → T (g.same l i i)
  pub same_turn : (l i j : ℕ) → T (g.same l i j) → T (g.same l j i)
  pub same_join : (l i j k : ℕ) → T (g.same l i j) → T (g.same l j k) → T (g.same l i k)
  pub near_turn : (c d : ℕ) → T (g.near c d) → T (g.near d c)
  pub box_same : (q l i j : ℕ) → T (g.same l i j) → g.box q l i ≡ g.box q l j
