-- Each cell by itself, then all pairs by trials, then each cell its lowest: the leaders after each.
use mathlib.Core.Path.{◌≡◌, sym, ap, ap₂, ◌∙◌, subst}
use mathlib.Core.List.{List, [], ◌∷◌}
use Prim.Native.Nat.{ℕ, ◌≤◌}
use native.Mathlib.Omega.{arith}
use lib.ListN.{length}
use Rattle.std.specs.Prelude.{Result, None, Ok, Err, slice_get}
use Rattle.lists.specs.Lists.{numbers}
use Rattle.lists.specs.Words.{column}
use Rattle.lists.specs.ListLaws.{map_same, in_numbers}
use Rattle.counting_tree.specs.Geometry.{Geometry}
use Rattle.cells_grid.specs.Cells.{cells}
use Rattle.partitions.specs.Leaders.{Falling, root}
use Rattle.partitions.specs.LeaderLaws.{Stands, alone_stands}
use Rattle.partitions.specs.Trials.{Outcome, run, by_leaders}
use Rattle.partitions.specs.TrialLaws.{Within, Alike, alike}
use Rattle.clustering.specs.declared.uniting.Progress.{Progress}
use Rattle.clustering.specs.Leading.{Leading}
use Rattle.clustering.specs.Uniting.{pairs_of, touch_at, progress_of, told, told_of, uniting, lowest_at}
use Rattle.clustering.proofs.UnitingLaws.{in_pairs}
use Rattle.clustering.proofs.Pairs.{stands_leading}

-- trials that tell that none is left, and trials that tell where they ended
told_all : (used : ℕ) (ps : List (ℕ × ℕ)) {u : ℕ} → Ok u ≡ told used ps → ◌≡◌ {A = Progress} (record { used = u; next = None }) (record { used = used; next = slice_get ps 0 })
told_all used [] e = cc
told_all used (x ∷ ps) e = absurd cc

told_end : (used : ℕ) (ps : List (ℕ × ℕ)) {p : Progress} → Err p ≡ told used ps → p ≡ record { used = used; next = slice_get ps 0 }
told_end used [] e = absurd cc
told_end used (x ∷ ps) e = cc

module _ (g : Geometry) {k : ℕ} (count : k ≡ length (cells g)) (few : k ≤ 65536) {m : ℕ} (size : m ≡ k) {ms : List ℕ} (first : ms ≡ column (λ c. c) m) where
  alone : ms ≡ column (λ c. c) k
  alone = first ∙ ap (column (λ c. c)) size

  stands : Stands k (λ c. c) ms
  stands = subst (Stands k (λ c. c)) (sym alone) (alone_stands k)

  pub alone_leading : Leading k ms
  alone_leading = stands_leading few stands

  module _ (trials : ℕ) where
    abbrev o : Outcome (List ℕ)
    o = run by_leaders (touch_at g) trials 0 (pairs_of g) ms

    within : Within k (pairs_of g)
    within a b i = let z = in_pairs g a b i in (omega (arith, z.0), omega (arith, z.1))

    as_lowest : Alike k o (uniting g trials)
    unfolding uniting
    as_lowest = alike (touch_at g) trials k (pairs_of g) within 0 stands

    same : {r : Result ℕ Progress} → r ≡ told_of o → r ≡ told_of (uniting g trials)
    same e = e ∙ ap₂ told as_lowest.used as_lowest.left

    pub all_tried : {r : Result ℕ Progress} → r ≡ told_of o → {u : ℕ} → r ≡ Ok u → record { used = u; next = None } ≡ progress_of (uniting g trials)
    all_tried e h = told_all (uniting g trials).used (uniting g trials).left (sym h ∙ same e)

    pub tried_so_far : {r : Result ℕ Progress} → r ≡ told_of o → {p : Progress} → r ≡ Err p → p ≡ progress_of (uniting g trials)
    tried_so_far e h = told_end (uniting g trials).used (uniting g trials).left (sym h ∙ same e)

    module _ {ns : List ℕ} (en : ns ≡ o.sets) where
      tried : Stands k (lowest_at g trials) ns
      unfolding lowest_at
      tried = subst (Stands k (uniting g trials).sets) (sym en) as_lowest.sets

      pub can_flatten : Falling ns
      can_flatten = tried.falling

      pub lowest_leaders : {qs : List ℕ} → qs ≡ column (root ns) (length ns) → qs ≡ column (lowest_at g trials) k
      lowest_leaders e =
          e ∙ ap (column (root ns)) tried.size ∙ map_same (root ns) (lowest_at g trials) (numbers k) (λ c j. tried.roots c (in_numbers k c j))
