-- What counting reads of the words of a tree, and the cases of its answer.
use mathlib.Core.Path.{◌≡◌, refl, sym, ap, ap₂, ◌∙◌}
use mathlib.Core.Logic.{inl, inr}
use mathlib.Core.List.{List, [], ◌∷◌, ◌++◌, map}
use Prim.Native.Nat.{ℕ, zero, suc, ◌+◌, ◌-◌, ◌*◌, ◌<◌, ◌≤◌}
use native.Mathlib.Omega.{arith}
use native.Mathlib.Numerals.{add-one}
use lib.ListN.{length, take, drop, get_or, length-append, take-append-drop}
use Rattle.std.proofs.Common.{append_assoc}
use Rattle.std.proofs.lemmas.Bool.{true≢false}
use Rattle.std.proofs.lemmas.List.{take_at, drop_at}
use Rattle.std.specs.Prelude.{Option, None, Some, true, false, is_some}
use Rattle.lists.specs.Lists.{head_or, concat, groups}
use Rattle.lists.specs.Words.{part}
use Rattle.lists.specs.ListLaws.{head_in, at_in}
use Rattle.lists.proofs.GroupLaws.{group_some, group_below}
use Rattle.counting_tree.specs.Tree.{or_else, first_of, counted}
use Rattle.counting_tree.specs.declared.IntersectionType.{IntersectionType}
use Rattle.counting_tree.specs.declared.IntersectionType.TheVariants.{Disjoint, FullyCovered, Intersecting}
use Rattle.counting_tree.specs.Geometry.{Geometry, box_at}
use Rattle.counting_tree.specs.Given.{geometry, frame_list}
use Rattle.counting_tree.specs.Indexes.{box_level}
use Rattle.tree_structure.specs.declared.level.Level.{Level}
use Rattle.tree_structure.specs.declared.Counted.{Counted}
use Rattle.tree_structure.specs.Encode.{Same, size, encode, TreeAt, TreesAt, told_of, encode_length}
use Rattle.tree_structure.proofs.Levels.{group_words, inner, size_pos}

four_words : (s : Same) (k l : ℕ) (xs : List ℕ) → encode s k l xs ≡ (length xs ∷ size s k l xs ∷ head_or 0 xs ∷ 0 ∷ []) ++ drop 4 (encode s k l xs)
unfolding encode size
four_words s zero l xs = refl
four_words s (suc k) l xs = refl

-- ---- a tree whose words come first
module _ {s : Same} {n : ℕ} {ws : List ℕ} {k l : ℕ} {xs : List ℕ} (t : TreeAt s n ws 0 k l xs) where
  abbrev E : List ℕ
  E = encode s k l xs

  abbrev H : List ℕ
  H = length xs ∷ size s k l xs ∷ head_or 0 xs ∷ 0 ∷ []

  abbrev R : List ℕ
  R = drop (length E) ws

  begins : ws ≡ E ++ R
  begins = sym (take-append-drop (length E) ws) ∙ ap (λ (z : List ℕ). z ++ R) t.words

  pub tree_fit : 4 * size s k l xs ≤ length ws
  tree_fit = omega (arith, encode_length s k l xs, ap length begins, length-append E R)

  pub tree_some : 0 < size s k l xs
  tree_some = size_pos s k l xs

  pub tree_room : 4 ≤ length ws
  tree_room = omega (arith, tree_fit, tree_some)

  head : ws ≡ H ++ (drop 4 E ++ R)
  head = begins ∙ ap (λ (z : List ℕ). z ++ R) (four_words s k l xs) ∙ append_assoc H (drop 4 E) R

  pub tree_count : get_or ws 0 0 ≡ length xs
  tree_count = ap (λ (z : List ℕ). get_or z 0 0) head

  pub tree_size : get_or ws 1 0 ≡ size s k l xs
  tree_size = ap (λ (z : List ℕ). get_or z 1 0) head

  pub tree_first : get_or ws 2 0 ≡ head_or 0 xs
  tree_first = ap (λ (z : List ℕ). get_or z 2 0) head

  pub tree_below : get_or ws 2 0 < n
  tree_below = rw tree_first (t.node.below (head_or 0 xs) (head_in 0 (get_or xs 0 0) xs (at_in 0 xs 0 t.node.some)))

-- how the node's box lies, as read
module _ (l : Level) (q : ℕ) where
  abbrev g : Geometry
  g = geometry l.frames.now

  pub box_read : {ws xs : List ℕ} → TreeAt g.same l.frames.now.n ws 0 l.left l.level xs → {x : ℕ} {u : IntersectionType} → x ≡ get_or ws 2 0 → u ≡ box_at l.frames.now.v (frame_list l.frames.now) l.side q x → g.box q l.level (head_or 0 xs) ≡ u
  box_read t {x} a b = ap (g.box q l.level) (sym (a ∙ tree_first t)) ∙ sym (b ∙ box_level l.frames.now.ready l.level l.side l.side_is q x)

-- ---- the trees of the children of the node xs
pub children_at : {s : Same} {n : ℕ} {ws : List ℕ} {k l : ℕ} {xs : List ℕ} → TreeAt s n ws 0 k l xs → (k ≡ 0 → ⊥) → {z : ℕ} → z ≡ get_or ws 1 0
    → TreesAt s n (part ws 4 (4 * z - 4)) (k - 1) (l + 1) (groups (s (l + 1)) xs)
children_at {s} {n} {ws} {k} {l} {xs} t h {z} e =
    let i = inner s k l xs h in
    let G : List ℕ = group_words s (k - 1) (l + 1) xs in
    record {
      nodes = λ g i. record { some = group_some (s (l + 1)) g xs i; below = group_below n (s (l + 1)) g xs i t.node.below };
      words = ap (λ (y : List ℕ). part y 4 (4 * z - 4)) (begins t ∙ ap (λ (y : List ℕ). y ++ R t) i.words)
          ∙ take_at G (R t) (4 * z - 4) (omega (arith, e, tree_size t, encode_length s k l xs, ap length i.words));
    }

-- of the level below
pub children_of : (l b : Level) → b.frames.now ≡ l.frames.now → b.level ≡ l.level + 1 → b.left ≡ l.left - 1 → {ws xs : List ℕ} → TreeAt (geometry l.frames.now).same l.frames.now.n ws 0 l.left l.level xs
    → (l.left ≡ 0 → ⊥) → {z : ℕ} → z ≡ get_or ws 1 0 → TreesAt (geometry b.frames.now).same b.frames.now.n (part ws 4 (4 * z - 4)) b.left b.level (groups ((geometry l.frames.now).same (l.level + 1)) xs)
children_of l b e0 e1 e2 t h ez = rw (e0, e1, e2) (children_at t h ez)

-- the first of some trees, and the others
pub record Split (s : Same) (n k l : ℕ) (gs : List (List ℕ)) (ws : List ℕ) : Type 0 where
  pub first : List ℕ
  pub others : List (List ℕ)
  pub is : gs ≡ first ∷ others
  pub tree : TreeAt s n ws 0 k l first
  pub trees : TreesAt s n (drop (4 * get_or ws 1 0) ws) k l others

pub split : {s : Same} {n : ℕ} {ws : List ℕ} {k l : ℕ} {gs : List (List ℕ)} → TreesAt s n ws k l gs → (length ws ≡ 0 → ⊥) → Split s n k l gs ws
split {s} {n} {ws} {k} {l} {gs = []} t h = absurd (h (ap length t.words))
split {s} {n} {ws} {k} {l} {gs = g ∷ gs} t h =
    let W = encode s k l g in
    let V = concat (map (encode s k l) gs) in
    let tree : TreeAt s n ws 0 k l g = record { node = t.nodes g (inl refl); words = ap (take (length W)) t.words ∙ take_at W V (length W) refl } in
    record {
      first = g;
      others = gs;
      is = refl;
      tree = tree;
      trees = record { nodes = λ f i. t.nodes f (inr i); words = ap (drop (4 * get_or ws 1 0)) t.words ∙ drop_at W V (4 * get_or ws 1 0) (omega (arith, tree_size tree, encode_length s k l g)) };
    }

-- where no word is left no tree is
pub none_left : {s : Same} {n : ℕ} {ws : List ℕ} {k l : ℕ} {gs : List (List ℕ)} (F : List ℕ → List ℕ) → TreesAt s n ws k l gs → length ws ≡ 0 → None ≡ told_of (first_of F gs)
none_left {gs = []} F t e = refl
none_left {s} {n} {ws} {k} {l} {gs = g ∷ gs} F t e = absurd (omega (arith, e, ap length t.words, length-append (encode s k l g) (concat (map (encode s k l) gs)), encode_length s k l g, size_pos s k l g))

-- what is told of the first node, or else of the others
module _ (F : List ℕ → List ℕ) {gs : List (List ℕ)} {g : List ℕ} {hs : List (List ℕ)} (e : gs ≡ g ∷ hs) {r : Option Counted} (told : r ≡ told_of (F g)) where
  pub first_told : is_some r ≡ true → r ≡ told_of (first_of F gs)
  first_told t = rw e (go (F g) told)
    where
      go : (ys : List ℕ) → r ≡ told_of ys → r ≡ told_of (or_else ys (first_of F hs))
      go [] q = absurd (true≢false (sym t ∙ ap is_some q))
      go (y ∷ ys) q = q

  pub others_told : is_some r ≡ false → {u : Option Counted} → u ≡ told_of (first_of F hs) → u ≡ told_of (first_of F gs)
  others_told t {u} w = rw e (go (F g) told)
    where
      go : (ys : List ℕ) → r ≡ told_of ys → u ≡ told_of (or_else ys (first_of F hs))
      go [] q = w
      go (y ∷ ys) q = absurd (true≢false (sym (ap is_some q) ∙ t))

-- a node that is counted has a frame
pub told_node : (xs : List ℕ) → 0 < length xs → {c f : ℕ} → c ≡ length xs → f ≡ head_or 0 xs → Some record { count = c; first = f } ≡ told_of xs
told_node [] h a b = absurd (omega (arith, h))
told_node (x ∷ xs) h a b = ap₂ (λ (c f : ℕ). Some (made c f)) a b
  where
    made : ℕ → ℕ → Counted
    made c f = record { count = c; first = f }

-- by how the node's box lies
module _ (s : Same) (box : ℕ → ℕ → IntersectionType) where
  pub on_disjoint : (k l : ℕ) (xs : List ℕ) → box l (head_or 0 xs) ≡ Disjoint → [] ≡ counted s box k l xs
  unfolding counted
  on_disjoint zero l xs e = rw e
  on_disjoint (suc k) l xs e = rw e

  pub on_covered : (k l : ℕ) (xs : List ℕ) → box l (head_or 0 xs) ≡ FullyCovered → xs ≡ counted s box k l xs
  unfolding counted
  on_covered zero l xs e = rw e
  on_covered (suc k) l xs e = rw e

  pub on_last : (k l : ℕ) (xs : List ℕ) → k ≡ 0 → box l (head_or 0 xs) ≡ Intersecting → xs ≡ counted s box k l xs
  unfolding counted
  on_last zero l xs z e = rw e
  on_last (suc k) l xs z e = absurd (omega arith)

  pub on_inner : (k l : ℕ) (xs : List ℕ) {q : Option Counted} → (k ≡ 0 → ⊥) → box l (head_or 0 xs) ≡ Intersecting → q ≡ told_of (first_of (counted s box (k - 1) (l + 1)) (groups (s (l + 1)) xs)) → q ≡ told_of (counted s box k l xs)
  unfolding counted
  on_inner zero l xs z e t = absurd (z refl)
  on_inner (suc k) l xs z e t =
      let d : suc k - 1 ≡ k = omega arith in
      rw e (rw (add-one l, d) at t)
