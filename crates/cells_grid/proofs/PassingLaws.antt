-- Laws of the marked cells that a search passes: what is left of some cells, and how far a run leads.
use Rattle.std.specs.Prelude.{◌≡◌, Bool, true, false, not, ◌&&◌, cond, List, [], ◌∷◌, ◌++◌, Option, Some, None, ℕ, ◌+◌, ◌<◌, ◌≤◌, eqb, length, get_or}
use mathlib.Core.Path.{refl, ap}
use mathlib.Core.Logic.{inl, inr}
use native.Mathlib.Omega.{arith}
use Rattle.std.proofs.Common.{eqb→eq, eq-eqb}
use Rattle.lists.specs.ListLaws.{T_or_not, T_true, cond_true, cond_false}
use Rattle.cells_grid.specs.declared.listing.Passed.{Passed}
use Rattle.cells_grid.specs.Passing.{Passes, left_of, passed_at}
use Rattle.cells_grid.proofs.ListingLaws.{unmarked_le, unmarked_append, unmarked_more}
use Rattle.cells_grid.specs.Listing.{unmarked}

-- whether cell d is left
abbrev pub left_at : Option Passed → ℕ → Bool
left_at None d = true
left_at (Some p) d = not (eqb (get_or p.marks.now d 0) p.mark)

pub left_none : (o : Option Passed) → left_of o [] ≡ []
unfolding unmarked
left_none None = refl
left_none (Some p) = refl

pub left_le : (o : Option Passed) (ds : List ℕ) → length (left_of o ds) ≤ length ds
left_le None ds = omega arith
left_le (Some p) ds = unmarked_le p.marks.now p.mark ds

pub left_append : (o : Option Passed) (xs ys : List ℕ) → left_of o (xs ++ ys) ≡ left_of o xs ++ left_of o ys
left_append None xs ys = refl
left_append (Some p) xs ys = unmarked_append p.marks.now p.mark xs ys

-- one cell more, if it is found
pub left_more : (o : Option Passed) (b : Bool) (d : ℕ) (ds : List ℕ) → left_of o (cond b (d ∷ ds) ds) ≡ cond (left_at o d && b) (d ∷ left_of o ds) (left_of o ds)
left_more None b d ds = refl
left_more (Some p) b d ds = unmarked_more p.marks.now p.mark b d ds

-- at a place p where cell d stands
pub none_passed : (o : Option Passed) (p d : ℕ) → passed_at o p d ≡ 0 → left_at o d ≡ true
none_passed None p d e = refl
none_passed (Some q) p d e = elim (T_or_not (eqb (get_or q.marks.now d 0) q.mark)) [
  | inl t ↦ absurd (omega (arith, e, cond_true (eqb (get_or q.marks.now d 0) q.mark) (1 + get_or q.runs.now p 0) 0 t))
  | inr f ↦ T_true (not (eqb (get_or q.marks.now d 0) q.mark)) f
]

-- the cells that are passed there are not left
pub run_passed : (o : Option Passed) (zs : List ℕ) → Passes zs o → (p x : ℕ) → p + x < length zs → x < passed_at o p (get_or zs p 0) → left_at o (get_or zs (p + x) 0) ≡ false
run_passed None zs P p x h l = absurd (omega (arith, l))
run_passed (Some q) zs P p x h l = elim (T_or_not (eqb (get_or q.marks.now (get_or zs p 0) 0) q.mark)) [
  | inl t ↦ ap not (eq-eqb (get_or q.marks.now (get_or zs (p + x) 0) 0) q.mark (P.2 p x h (eqb→eq (get_or q.marks.now (get_or zs p 0) 0) q.mark t) (omega (arith, l, cond_true (eqb (get_or q.marks.now (get_or zs p 0) 0) q.mark) (1 + get_or q.runs.now p 0) 0 t))))
  | inr f ↦ absurd (omega (arith, l, cond_false (eqb (get_or q.marks.now (get_or zs p 0) 0) q.mark) (1 + get_or q.runs.now p 0) 0 f))
]
