-- Uniting the linked core cells with no count of trials: the pairs in whatever order lists give them. Definitions only.
use Rattle.std.specs.Prelude.{Bool, ◌||◌, cond, ℕ, eqb, get_or}
use mathlib.Core.List.{List, [], ◌∷◌, map}
use Rattle.lists.specs.Lists.{concat}
use Rattle.counting_tree.specs.Geometry.{Geometry}
use Rattle.partitions.specs.Leaders.{root, shorten_both, united}
use Rattle.partitions.specs.Trials.{Holding}
use Rattle.clustering.specs.Uniting.{pairs_with, touch_at}

-- whether core cells c and d are linked: a core frame of one of them has a non-zero count in the tree of the other
unfoldable pub link_at : Geometry → ℕ → ℕ → Bool
unfolding touch_at
link_at g c d = touch_at g c d || touch_at g d c

module _ {S : Type 0} (h : Holding S) (touch : ℕ → ℕ → Bool) where
  -- the pair of a and b is met: in one set it is passed, else the two sets are made one if the pair touches
  unfoldable pub meet : ℕ → ℕ → S → S
  meet a b s = let asked = h.asked s a b in cond (h.same s a b) asked (cond (touch a b) (h.join asked a b) asked)

  -- the pairs, one after the other
  unfoldable pub meet_all : List (ℕ × ℕ) → S → S
  unfolding meet
  meet_all [] s = s
  meet_all ((a, b) ∷ ps) s = meet_all ps (meet a b s)

-- sets held as leaders in memory: two cells that have one leader are in one set, and only else are their roots looked for
abbrev pub by_own_leaders : Holding (List ℕ)
by_own_leaders = record {
  same = λ p a b. eqb (root p a) (root p b);
  asked = λ p a b. cond (eqb (get_or p a 0) (get_or p b 0)) p (shorten_both p a b);
  join = λ p a b. united (shorten_both p a b) a b;
}

-- the pairs of the cells cs, each with all cells of its list
unfoldable pub pairs_by : Geometry → (ℕ → List ℕ) → List ℕ → List (ℕ × ℕ)
unfolding pairs_with
pairs_by g lists cs = concat (map (λ c. pairs_with g c (lists c)) cs)
