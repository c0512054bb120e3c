-- The pairs that are left, and the run that goes on with them.
use mathlib.Core.Path.{◌≡◌, refl, sym, ap, ap₂, ◌∙◌, subst}
use mathlib.Core.Bool.{Bool, true, false, cond}
use mathlib.Core.List.{List, [], ◌∷◌, ◌++◌, map}
use Prim.Native.Nat.{ℕ, suc, ◌+◌, ◌<◌, ◌≤◌}
use lib.Dec.{ltb}
use lib.ListN.{length}
use Rattle.std.specs.Prelude.{Result, Ok, Err}
use Rattle.lists.specs.Lists.{numbers, concat}
use Rattle.lists.specs.Words.{rest}
use Rattle.lists.specs.ListLaws.{in_numbers}
use Rattle.lists.proofs.LoopLaws.{rest_start, rest_step, rest_end}
use Rattle.counting_tree.specs.Geometry.{Geometry}
use Rattle.cells_grid.specs.Cells.{cells}
use Rattle.partitions.specs.Leaders.{root}
use Rattle.partitions.specs.LeaderLaws.{Stands, own_stands}
use Rattle.partitions.specs.Trials.{Holding, Outcome, run, by_leaders, by_lowest}
use Rattle.partitions.specs.TrialLaws.{Alike, Within, alike}
use Rattle.clustering.specs.declared.uniting.Progress.{Progress}
use Rattle.clustering.specs.Leading.{Leading}
use Rattle.clustering.specs.Uniting.{one_pair, pairs_with, pairs_of, touch_at, told, told_of}
use Rattle.clustering.proofs.UnitingLaws.{with_more, with_within}

-- ---- the pairs of the cells from c on, and of c with the cells from d on
module _ (g : Geometry) (k : ℕ) where
  unfoldable pub rows : List ℕ → List (ℕ × ℕ)
  unfolding pairs_with
  rows cs = concat (map (λ c. pairs_with g c (numbers k)) cs)

  pub all_rows : k ≡ length (cells g) → rows (rest k 0) ≡ pairs_of g
  unfolding rows pairs_of
  all_rows e = ap rows (rest_start k) ∙ ap (λ (m : ℕ). concat (map (λ c. pairs_with g c (numbers m)) (numbers m))) e

  pub next_row : (c : ℕ) → c < k → rows (rest k c) ≡ pairs_with g c (numbers k) ++ rows (rest k (c + 1))
  unfolding rows
  next_row c h = ap rows (rest_step k c h)

  pub no_row : (c : ℕ) → k ≤ c → rows (rest k c) ≡ []
  unfolding rows
  no_row c h = ap rows (rest_end k c h)

  pub row_within : (c : ℕ) → c < k → Within k (pairs_with g c (numbers k))
  row_within c h = with_within g c (numbers k) h (λ d i. in_numbers k d i)

  module _ (c : ℕ) where
    pub whole_row : pairs_with g c (rest k 0) ≡ pairs_with g c (numbers k)
    whole_row = ap (pairs_with g c) (rest_start k)

    pub next_pair : (d : ℕ) → d < k → pairs_with g c (rest k d) ≡ one_pair g c d ++ pairs_with g c (rest k (d + 1))
    next_pair d h = ap (pairs_with g c) (rest_step k d h) ∙ with_more g c d (rest k (d + 1))

    pub no_pair : (d : ℕ) → k ≤ d → pairs_with g c (rest k d) ≡ []
    unfolding pairs_with
    no_pair d h = ap (pairs_with g c) (rest_end k d h)

-- ---- a run over pairs, and then over others
module _ {S : Type 0} (h : Holding S) (touch : ℕ → ℕ → Bool) (trials : ℕ) (qs : List (ℕ × ℕ)) where
  go_on : ℕ → S → List (ℕ × ℕ) → Outcome S
  go_on used s [] = run h touch trials used qs s
  go_on used s (x ∷ xs) = record { sets = s; used = used; left = x ∷ xs ++ qs }

  -- what the first run left is gone on with
  then : Outcome S → Outcome S
  then o = go_on o.used o.sets o.left

  run_append : (used : ℕ) (ps : List (ℕ × ℕ)) (s : S) → run h touch trials used (ps ++ qs) s ≡ then (run h touch trials used ps s)
  unfolding run go_on then
  run_append used [] s = refl
  run_append used ((a, b) ∷ ps) s =
      let asked = h.asked s a b in
      let tried = cond (touch a b) (h.join asked a b) asked in
      go (h.same s a b) (ltb used trials) (run h touch trials used ps asked) (run h touch trials (suc used) ps tried) (run_append used ps asked) (run_append (suc used) ps tried)
    where
      go : (x y : Bool) (A B : Outcome S) {C D : Outcome S} → C ≡ then A → D ≡ then B
          → cond x C (cond y D (record { sets = h.asked s a b; used = used; left = (a, b) ∷ ps ++ qs }))
          ≡ then (cond x A (cond y B (record { sets = h.asked s a b; used = used; left = (a, b) ∷ ps })))
      go true y A B e f = e
      go false true A B e f = f
      go false false A B e f = refl

  pub run_on : (used : ℕ) (ps : List (ℕ × ℕ)) (s : S) → (run h touch trials used ps s).left ≡ []
      → run h touch trials used (ps ++ qs) s ≡ run h touch trials (run h touch trials used ps s).used qs (run h touch trials used ps s).sets
  unfolding go_on then
  run_on used ps s e = run_append used ps s ∙ ap (go_on (run h touch trials used ps s).used (run h touch trials used ps s).sets) e

  pub run_off : (used : ℕ) (ps : List (ℕ × ℕ)) (s : S) (x : ℕ × ℕ) (xs : List (ℕ × ℕ)) → (run h touch trials used ps s).left ≡ x ∷ xs
      → run h touch trials used (ps ++ qs) s ≡ record { sets = (run h touch trials used ps s).sets; used = (run h touch trials used ps s).used; left = x ∷ xs ++ qs }
  unfolding go_on then
  run_off used ps s x xs e = run_append used ps s ∙ ap (go_on (run h touch trials used ps s).used (run h touch trials used ps s).sets) e

-- trials tell how many they used where no pair is left, else where they ended
none_left : (used : ℕ) (ps : List (ℕ × ℕ)) {u : ℕ} → told used ps ≡ Ok u → (ps ≡ []) × (used ≡ u)
none_left used [] e = (refl, cc)
none_left used (x ∷ ps) e = absurd cc

some_left : (used : ℕ) (ps : List (ℕ × ℕ)) {p : Progress} → told used ps ≡ Err p → (x : ℕ × ℕ) × (xs : List (ℕ × ℕ)) × (ps ≡ x ∷ xs)
some_left used [] e = absurd cc
some_left used (x ∷ ps) e = (x, ps, refl)

-- ---- the loops: ls are the leaders at first and ms those now, and of the pairs `all` those of `left` are left
pub record Going (g : Geometry) (trials k : ℕ) (ls ms : List ℕ) (used₀ used : ℕ) (all left : List (ℕ × ℕ)) : Type 0 where
  pub leading : Leading k ms
  pub runs : run by_leaders (touch_at g) trials used₀ all ls ≡ run by_leaders (touch_at g) trials used left ms

pub going_start : (g : Geometry) (trials used : ℕ) {k : ℕ} {ls : List ℕ} → Leading k ls → {all left : List (ℕ × ℕ)} → left ≡ all → Going g trials k ls ls used used all left
going_start g trials used {k} {ls} l e = record { leading = l; runs = ap (λ (qs : List (ℕ × ℕ)). run by_leaders (touch_at g) trials used qs ls) (sym e) }

-- the leaders of a run stand for the sets of the same run by lowest cells
pub leading_stands : {k : ℕ} {ls : List ℕ} → Leading k ls → Stands k (root ls) ls
leading_stands {k} {ls} l = subst (λ (m : ℕ). Stands m (root ls) ls) l.size (own_stands l.falling)

pub stands_leading : {k : ℕ} {low : ℕ → ℕ} {ls : List ℕ} → k ≤ 65536 → Stands k low ls → Leading k ls
stands_leading h s = record { size = s.size; few = h; falling = s.falling }

module _ {g : Geometry} {trials k : ℕ} {ls ms : List ℕ} {used₀ used : ℕ} {all left : List (ℕ × ℕ)} (i : Going g trials k ls ms used₀ used all left) where
  abbrev whole : Outcome (List ℕ)
  whole = run by_leaders (touch_at g) trials used₀ all ls

  -- what is answered, and the leaders then, are those of the whole run
  abbrev Ends : Result ℕ Progress → List ℕ → Type 0
  Ends r qs = (r ≡ told_of whole) × (qs ≡ whole.sets)

  pub going_end : left ≡ [] → Ends (Ok used) ms
  unfolding run
  going_end h =
      let e : whole ≡ record { sets = ms; used = used; left = [] } = i.runs ∙ ap (λ (ps : List (ℕ × ℕ)). run by_leaders (touch_at g) trials used ps ms) h in
      rw e (refl, refl)

  -- the pairs xs are taken next, and then those of qs
  module _ (xs qs : List (ℕ × ℕ)) (inside : Within k xs) (first : left ≡ xs ++ qs) where
    abbrev o : Outcome (List ℕ)
    o = run by_leaders (touch_at g) trials used xs ms

    stands : Alike k o (run by_lowest (touch_at g) trials used xs (root ms))
    stands = alike (touch_at g) trials k xs inside used (leading_stands i.leading)

    goes : whole ≡ run by_leaders (touch_at g) trials used (xs ++ qs) ms
    goes = i.runs ∙ ap (λ (ps : List (ℕ × ℕ)). run by_leaders (touch_at g) trials used ps ms) first

    module _ {r : Result ℕ Progress} (er : r ≡ told_of o) {ns : List ℕ} (en : ns ≡ o.sets) where
      pub going_off : {p : Progress} → r ≡ Err p → Ends r ns
      going_off h =
          let z = some_left o.used o.left (sym er ∙ h) in
          let f : whole ≡ record { sets = o.sets; used = o.used; left = z.0 ∷ z.1 ++ qs } = goes ∙ run_off by_leaders (touch_at g) trials qs used xs ms z.0 z.1 z.2 in
          rw f (er ∙ ap (told o.used) z.2, en)

      pub going_on : {u : ℕ} → r ≡ Ok u → Going g trials k ls ns used₀ u all qs
      going_on h =
          let z = none_left o.used o.left (sym er ∙ h) in
          record {
            leading = subst (Leading k) (sym en) (stands_leading i.leading.few stands.sets);
            runs = goes
                ∙ run_on by_leaders (touch_at g) trials qs used xs ms z.0
                ∙ ap₂ (λ (m : ℕ) (s : List ℕ). run by_leaders (touch_at g) trials m qs s) z.1 (sym en);
          }
