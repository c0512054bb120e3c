-- Sets of cells as leaders: each cell has a leader whose number is never larger; following leaders ends at the set's lowest cell. Definitions only.
use Rattle.std.specs.Prelude.{cond, List, ℕ, zero, suc, ◌≤◌, min, max, eqb, get_or, set}

-- no leader is larger than its cell (past the end 0 is read)
pub record Falling (p : List ℕ) : Type 0 where
  pub falls : (c : ℕ) → get_or p c 0 ≤ c

-- where at most n steps along the leaders p lead from c
unfoldable pub follow : ℕ → List ℕ → ℕ → ℕ
follow zero p c = c
follow (suc n) p c = let r = follow n p (get_or p c 0) in cond (eqb (get_or p c 0) c) c r

-- the root of c's set: c steps are enough, since each falls
unfoldable pub root : List ℕ → ℕ → ℕ
root p c = follow c p c

-- p with the leader r for each cell on the way from c, n steps at most
unfoldable pub point : ℕ → ℕ → List ℕ → ℕ → List ℕ
point zero r p c = p
point (suc n) r p c = let q = set (point n r p (get_or p c 0)) c r in cond (eqb (get_or p c 0) c) p q

-- the leaders after a find of c: each cell on the way has the root for its leader
unfoldable pub shorten : List ℕ → ℕ → List ℕ
shorten p c = point c (root p c) p c

-- the leaders after a find of a and then one of b
unfoldable pub shorten_both : List ℕ → ℕ → ℕ → List ℕ
shorten_both p a b = shorten (shorten p a) b

-- the two sets as one: the higher root has the lower one for its leader
unfoldable pub united : List ℕ → ℕ → ℕ → List ℕ
united p a b = set p (max (root p a) (root p b)) (min (root p a) (root p b))
