-- Words that hold trees tell the limit up to which a cell has none: the least that they allow. So that they hold trees is one fact.
use Rattle.std.specs.Prelude.{◌≡◌, List, ℕ, zero, suc, ◌+◌, ◌-◌, ◌*◌, ◌<◌, ◌≤◌, ◌⊎◌, Bool, true, false, ltb, length, take, drop, bytes_eq}
use Rattle.std.proofs.Common.{refl, sym, ap, ◌∙◌, subst, inl, inr, arith, ltb-true, ltb-false, drop-drop}
use Rattle.std.proofs.Props.{props}
use Rattle.std.proofs.Math.Nat.{eq-or-lt_of_le}
use Rattle.std.proofs.lemmas.Bool.{false≢true}
use Rattle.std.proofs.lemmas.Slice.Eq.{bytes_eq-Decides}
use mathlib.Core.HLevel.{Σ_prop_path}
use Rattle.std.proofs.lemmas.List.{take_rest}
use Rattle.lists.specs.Words.{part, column}
use Rattle.counting_tree.specs.Geometry.{Geometry}
use Rattle.lists.proofs.PartLaws.{part_part}
use Rattle.cells_grid.specs.Arrangement.{core_bit, Arranged}
use Rattle.cells_grid.proofs.ArrangementLaws.{cells_le}
use Rattle.core_cells.specs.Forest.{forest_to, tree_word, Grown}

-- ---- the least number with a fact that can be decided
abbrev pub Decided : Type 0 → Type 0
Decided P = P ⊎ (P → ⊥)

abbrev pub IsLeast : (ℕ → Type 0) → ℕ → Type 0
IsLeast P n = P n × ((m : ℕ) → m < n → P m → ⊥)

least : (P : ℕ → Type 0) → ((m : ℕ) → Decided (P m)) → (n : ℕ) → P n → (m : ℕ) × IsLeast P m
least P d n p = go 0 n (omega arith) (λ m h q. absurd (omega arith))
  where
    go : (k left : ℕ) → k + left ≡ n → ((m : ℕ) → m < k → P m → ⊥) → (m : ℕ) × IsLeast P m
    go k zero e h = let k_is : n ≡ k = omega (arith, e) in (k, (subst P k_is p, h))
    go k (suc left) e h = elim (d k) [
      | inl q ↦ (k, (q, h))
      | inr q ↦ go (suc k) left (omega (arith, e)) (λ m l r. elim (eq-or-lt_of_le {n = m} {m = k} (omega (arith, l))) [ inl s ↦ q (subst P s r) | inr s ↦ h m s r ])
    ]

one_least : (P : ℕ → Type 0) (m n : ℕ) → IsLeast P m → IsLeast P n → m ≡ n
one_least P m n a b = go (ltb m n) (ltb n m) refl refl
  where
    go : (u v : Bool) → ltb m n ≡ u → ltb n m ≡ v → m ≡ n
    go true v e f = absurd (b.1 m (ltb-true m n e) a.0)
    go false true e f = absurd (a.1 n (ltb-true n m f) b.0)
    go false false e f = omega (arith, ltb-false m n e, ltb-false n m f)

-- whether two lists of numbers are the same
two_lists : (xs ys : List ℕ) → Decided (xs ≡ ys)
two_lists xs ys = go (bytes_eq xs ys) refl
  where
    go : (b : Bool) → bytes_eq xs ys ≡ b → Decided (xs ≡ ys)
    go true e = inl ((bytes_eq-Decides xs ys).0 e)
    go false e = inr (λ q. false≢true (sym e ∙ (bytes_eq-Decides xs ys).1 q))

module _ (g : Geometry) (k : ℕ) (w u : List ℕ) where
  -- beside k cells the words w hold which frames are core and where each tree begins, and u the nodes, of the cells with more than `few` core frames
  pub record Holds (few : ℕ) : Type 0 where
    pub cores : part w (4 * g.frames) g.frames ≡ column (core_bit g) g.frames
    pub trees : part w (5 * g.frames) k ≡ column (tree_word g few) k
    pub forest : part u 0 (length (forest_to g few k)) ≡ forest_to g few k

  -- for the least such limit
  abbrev pub HasTrees : Type 0
  HasTrees = (few : ℕ) × IsLeast Holds few

  holds_prop : (few : ℕ) → IsProp (IsLeast Holds few)
  holds_prop few = Prim.hlevel props

  pub HasTrees_prop : IsProp HasTrees
  HasTrees_prop x y = Σ_prop_path (holds_prop) (one_least Holds x.0 y.0 x.1 y.1)

  pub has_trees : {few : ℕ} → Holds few → HasTrees
  has_trees {few} H = least Holds holds few H
    where
      holds : (m : ℕ) → Decided (Holds m)
      holds m = elim (two_lists (part w (5 * g.frames) k) (column (tree_word g m) k)) [
        | inr h ↦ inr (λ H. h H.trees)
        | inl t ↦ elim (two_lists (part u 0 (length (forest_to g m k))) (forest_to g m k)) [
          | inr h ↦ inr (λ H. h H.forest)
          | inl f ↦ inl (record { cores = H.cores; trees = t; forest = f })
        ]
      ]

-- ---- words that hold all in one list, and their parts: the first six words for each frame, and the nodes
module _ {g : Geometry} {k : ℕ} {w : List ℕ} (G : Grown g k w) where
  pub whole : Holds g k w (drop (16 * g.frames) w) G.few
  whole = record { cores = G.cored.cores; trees = G.trees; forest = G.forest }

  module _ {n : ℕ} (e : g.frames ≡ n) where
    few : k ≤ g.frames
    few = omega (arith, G.cored.cells.count, cells_le g)

    front : (a m : ℕ) → a + m ≤ 6 * n → part (take (6 * n) w) a m ≡ part w a m
    front a m h =
        let z : 0 + a ≡ a = omega arith in
        part_part w 0 (6 * n) a m h ∙ ap (λ (x : ℕ). part w x m) z

    cells_first : Arranged g k (take (6 * n) w)
    cells_first =
        let A = G.cored.cells in
        record {
          count = A.count;
          numbers = front 0 g.frames (omega (arith, e)) ∙ A.numbers;
          firsts = front g.frames k (omega (arith, e, few)) ∙ A.firsts;
          starts = front (2 * g.frames) k (omega (arith, e, few)) ∙ A.starts;
          places = front (3 * g.frames) g.frames (omega (arith, e)) ∙ A.places;
        }

    trees_first : HasTrees g k (take (6 * n) w) (drop (16 * n) w)
    trees_first = has_trees g k (take (6 * n) w) (drop (16 * n) w) {few = G.few} (record {
      cores = front (4 * g.frames) g.frames (omega (arith, e)) ∙ G.cored.cores;
      trees = front (5 * g.frames) k (omega (arith, e, few)) ∙ G.trees;
      forest = ap (λ (x : ℕ). part w (16 * x) (length (forest_to g G.few k))) (sym e) ∙ G.forest;
    })

    pub grid_part : {cells : List ℕ} → cells ≡ take (6 * n) w → Arranged g k cells
    grid_part ec = subst (Arranged g k) (sym ec) cells_first

    pub trees_part : {cells nodes : List ℕ} → cells ≡ take (6 * n) w → nodes ≡ drop (16 * n) w → HasTrees g k cells nodes
    trees_part {cells} ec en = subst (HasTrees g k cells) (sym en) (subst (λ (v : List ℕ). HasTrees g k v (drop (16 * n) w)) (sym ec) trees_first)

-- the nodes as a slice of the words, and as what is left of them after the cells and ten words for each frame
pub nodes_from : (w : List ℕ) (n : ℕ) → part w (16 * n) (length w - 16 * n) ≡ drop (16 * n) w
nodes_from w n = take_rest w (16 * n)

pub nodes_left : (w : List ℕ) (n : ℕ) {rest nodes : List ℕ} → rest ≡ drop (6 * n) w → nodes ≡ drop (10 * n) rest → nodes ≡ drop (16 * n) w
nodes_left w n er en =
    let z : 6 * n + 10 * n ≡ 16 * n = omega arith in
    en ∙ ap (drop (10 * n)) er ∙ drop-drop (10 * n) (6 * n) w ∙ ap (λ (a : ℕ). drop a w) z
