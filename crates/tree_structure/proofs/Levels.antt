-- The nodes and the words of a node of the last level, and of one above it.
use mathlib.Core.Path.{◌≡◌, refl}
use mathlib.Core.List.{List, [], ◌∷◌, map}
use Prim.Native.Nat.{ℕ, zero, suc, ◌+◌, ◌-◌, ◌<◌, ◌≤◌}
use native.Mathlib.Omega.{arith}
use native.Mathlib.Numerals.{add-one}
use lib.IntN.{ℤ}
use lib.ListN.{length}
use Rattle.lists.specs.Lists.{head_or, concat, groups, total}
use Rattle.hyperparams.specs.declared.ValidParams.{ValidParams}
use Rattle.hyperparams.specs.Params.{levels}
use Rattle.counting_tree.specs.Ready.{Ready}
use Rattle.tree_structure.specs.Encode.{Same, size, encode}
use Rattle.tree_structure.specs.Work.{max_levels}

-- the levels of settings that passed the table
pub few_levels : {ps : List ℤ} {v : ValidParams} {n : ℕ} → Ready ps v n → levels v.s ≤ max_levels
few_levels r = omega (arith, r.settings.power)

-- of the groups of xs that share a box of level l: their nodes, their words
abbrev pub group_nodes : Same → ℕ → ℕ → List ℕ → ℕ
group_nodes same k l xs = total (size same k l) (groups (same l) xs)

abbrev pub group_words : Same → ℕ → ℕ → List ℕ → List ℕ
group_words same k l xs = concat (map (encode same k l) (groups (same l) xs))

pub record Last (s : Same) (k l : ℕ) (xs : List ℕ) : Type 0 where
  pub nodes : size s k l xs ≡ 1
  pub words : encode s k l xs ≡ length xs ∷ 1 ∷ head_or 0 xs ∷ 0 ∷ []

pub record Inner (s : Same) (k l : ℕ) (xs : List ℕ) : Type 0 where
  pub nodes : size s k l xs ≡ 1 + group_nodes s (k - 1) (l + 1) xs
  pub words : encode s k l xs ≡ length xs ∷ size s k l xs ∷ head_or 0 xs ∷ 0 ∷ group_words s (k - 1) (l + 1) xs

module _ (s : Same) where
  pub last : (k l : ℕ) (xs : List ℕ) → k ≡ 0 → Last s k l xs
  unfolding size encode
  last zero l xs e = record { nodes = refl; words = refl }
  last (suc k) l xs e = absurd (omega arith)

  pub inner : (k l : ℕ) (xs : List ℕ) → (k ≡ 0 → ⊥) → Inner s k l xs
  unfolding size encode
  inner zero l xs h = absurd (h refl)
  inner (suc k) l xs h =
      let e : suc k - 1 ≡ k = omega arith in
      record { nodes = rw (e, add-one l); words = rw (e, add-one l) }

  pub size_pos : (k l : ℕ) (xs : List ℕ) → 0 < size s k l xs
  unfolding size
  size_pos zero l xs = omega arith
  size_pos (suc k) l xs = omega arith
