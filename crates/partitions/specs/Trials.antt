-- Uniting by trials: ordered pairs of cells are taken in order; a pair already in one set costs nothing, any other costs a trial, which unites the two
-- sets if the pair touches. It stops where the trials are used up and a pair still needs one. Definitions only.
use Rattle.std.specs.Prelude.{Bool, ◌||◌, cond, List, [], ◌∷◌, ℕ, suc, min, eqb, ltb}
use Rattle.partitions.specs.Leaders.{root, shorten_both, united}

-- how sets of cells are held: whether two cells are in one set, what is held after that question, and after the two sets are made one
pub record Holding (S : Type 0) : Type 0 where
  pub same : S → ℕ → ℕ → Bool
  pub asked : S → ℕ → ℕ → S
  pub join : S → ℕ → ℕ → S

-- what is held at the end, the trials used, and the pairs not passed
pub record Outcome (S : Type 0) : Type 0 where
  pub sets : S
  pub used : ℕ
  pub left : List (ℕ × ℕ)

-- the pairs in order, after `used` of the trials
module _ {S : Type 0} (h : Holding S) (touch : ℕ → ℕ → Bool) (trials : ℕ) where
  unfoldable pub run : ℕ → List (ℕ × ℕ) → S → Outcome S
  run used [] s = record { sets = s; used = used; left = [] }
  run used ((a, b) ∷ ps) s =
      let asked = h.asked s a b in
      let passed = run used ps asked in
      let tried = run (suc used) ps (cond (touch a b) (h.join asked a b) asked) in
      let stopped : Outcome S = record { sets = asked; used = used; left = (a, b) ∷ ps } in
      cond (h.same s a b) passed (cond (ltb used trials) tried stopped)

-- each cell's lowest cell of its set, after the sets of a and b are made one
abbrev pub merged : (ℕ → ℕ) → ℕ → ℕ → ℕ → ℕ
merged l a b c = cond (eqb (l c) (l a) || eqb (l c) (l b)) (min (l a) (l b)) (l c)

-- sets held as each cell's lowest cell
abbrev pub by_lowest : Holding (ℕ → ℕ)
by_lowest = record { same = λ l a b. eqb (l a) (l b); asked = λ l a b. l; join = merged }

-- sets held as leaders in memory
abbrev pub by_leaders : Holding (List ℕ)
by_leaders = record { same = λ p a b. eqb (root p a) (root p b); asked = shorten_both; join = λ p a b. united (shorten_both p a b) a b }
