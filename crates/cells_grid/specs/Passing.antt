-- The marked cells that a search passes. Definitions only.
use Rattle.std.specs.Prelude.{◌≡◌, cond, List, Option, Some, None, ℕ, ◌+◌, eqb, length, get_or}
use Rattle.std.specs.Coded.{Unit-prop}
use Rattle.std.proofs.Props.{props}
use Rattle.cells_grid.specs.declared.listing.Passed.{Passed}
use Rattle.cells_grid.specs.Listing.{unmarked, MarkedRuns}

-- what is known of them, where zs are the sorted cells
abbrev pub Passes : (zs : List ℕ) → Option Passed → Type 0
Passes zs None = Unit {0}
Passes zs (Some p) = (length p.marks.now ≡ length zs) × (length p.runs.now ≡ length zs) × MarkedRuns zs p.marks.now p.runs.now p.mark

pub Passes_prop : (zs : List ℕ) (o : Option Passed) → IsProp (Passes zs o)
Passes_prop zs None = Unit-prop
Passes_prop zs (Some p) = Prim.hlevel props

-- the cells that are left of ds
abbrev pub left_of : Option Passed → List ℕ → List ℕ
left_of None ds = ds
left_of (Some p) ds = unmarked p.marks.now p.mark ds

-- how many of the sorted cells are passed from place p on, where cell d stands
abbrev pub passed_at : Option Passed → (p d : ℕ) → ℕ
passed_at None p d = 0
passed_at (Some q) p d = cond (eqb (get_or q.marks.now d 0) q.mark) (1 + get_or q.runs.now p 0) 0
