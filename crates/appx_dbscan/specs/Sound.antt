-- What demand 3 needs of a geometry: facts on single boxes and on the frames of one cell.
use Rattle.std.specs.Prelude.{◌≡◌, ℕ, ◌≤◌, ◌<◌, T}
use Rattle.counting_tree.specs.Geometry.{Geometry}
use Rattle.counting_tree.specs.declared.IntersectionType.TheVariants.{Disjoint, FullyCovered, Intersecting}
use Rattle.cells_grid.specs.Cells.{same_cell}
use Rattle.cells_grid.specs.Lawful.{Lawful}

pub record Sound (g : Geometry) (Near Far : ℕ → ℕ → Type 0) : Type 0 where
  pub lawful : Lawful g
  -- a Disjoint box has no frame nearer than t under it
  pub disjoint : (q l x : ℕ) → q < g.frames → x < g.frames → l ≤ g.levels → g.box q l x ≡ Disjoint → Near q x → ⊥
  -- a FullyCovered box has only frames within the far reach under it
  pub covered : (q l x : ℕ) → q < g.frames → x < g.frames → l ≤ g.levels → g.box q l x ≡ FullyCovered → Far q x
  -- the last level is never Intersecting
  pub last : (q x : ℕ) → q < g.frames → x < g.frames → g.box q g.levels x ≡ Intersecting → ⊥
  -- the frames of one cell lie within the far reach of each other
  pub cell : (i j : ℕ) → i < g.frames → j < g.frames → T (same_cell g i j) → Far i j
  pub far_turn : (p q : ℕ) → Far p q → Far q p
