-- Building a node: its children are built one after the other, behind its own four words.
use mathlib.Core.Path.{◌≡◌, refl, sym, ap, ◌∙◌}
use mathlib.Core.Logic.{inl, inr}
use mathlib.Core.List.{List, [], ◌∷◌, ◌++◌}
use Prim.Native.Nat.{ℕ, ◌+◌, ◌-◌, ◌*◌, ◌<◌, ◌≤◌}
use native.Mathlib.Nat.{mul-le-mul}
use native.Mathlib.Omega.{arith}
use borrow.Rule.Slice.PartMut.{put_mid}
use lib.ListN.{length, take, drop, get_or, length-append, length-take}
use Rattle.std.proofs.Common.{drop-drop, le_trans}
use Rattle.std.proofs.lemmas.List.{take_rest}
use Rattle.lists.specs.Lists.{head_or, keep, lose, Below, groups}
use Rattle.lists.specs.Words.{over, part}
use Rattle.lists.specs.ListLaws.{head_at, at_in}
use Rattle.lists.specs.CountLaws.{parts_length}
use Rattle.lists.specs.OrderLaws.{lose_below}
use Rattle.lists.proofs.GroupLaws.{groups_nil, groups_cons, group_below}
use Rattle.lists.proofs.WordLaws.{over_length, over_nil, over_self, over_front, over_next, over_before, over_cons, put_over}
use Rattle.lists.proofs.PartLaws.{part_length, part_first, part_above, part_front, part_back}
use Rattle.hyperparams.specs.Params.{max_frames}
use Rattle.tree_structure.specs.Encode.{Same, size, encode, encode_length, trees_length, size_le}
use Rattle.tree_structure.specs.Work.{max_levels, max_nodes, CanBuild, Room}
use Rattle.tree_structure.proofs.Levels.{group_nodes, group_words, last, inner, size_pos}

-- the words from a on
abbrev pub tail : List ℕ → ℕ → List ℕ
tail xs a = part xs a (length xs - a)

-- words laid over the front of what is lent from a on
laid_after : (ws : List ℕ) (a : ℕ) (us zs : List ℕ) → zs ≡ over (tail ws a) 0 us → a + length us ≤ length ws → put_mid a (length ws - a) ws zs ≡ over ws a us
laid_after ws a us zs e h =
    let n : ℕ = length ws - a in
    let m : ℕ = length us in
    let b : ℕ = a + m in
    let D : List ℕ = drop (0 + m) (tail ws a) in
    let l : length (tail ws a) ≡ n = part_length ws a n (omega arith) in
    let z : 0 + m ≡ m = omega arith in
    let d : D ≡ tail ws b = rw z (ap (drop m) (take_rest ws a) ∙ drop-drop m a ws ∙ sym (take_rest ws b)) in
    let dl : length D ≡ length ws - b = ap length d ∙ part_length ws b (length ws - b) (omega arith) in
    ap (put_mid a n ws) e
    ∙ put_over ws a n (us ++ D) (length-append us D ∙ omega (arith, dl))
    ∙ sym (over_next ws a b us D refl (omega (arith, dl)))
    ∙ over_self (over ws a us) b (length ws - b) D (part_above ws b (length ws - b) a us (omega arith) (omega arith) ∙ sym d) (omega (arith, over_length ws a us h))

-- the loop over the children of a node, which are of level l, k levels above the last: with the trees of the members from `from` on, `done` nodes and their words make the whole
pub record Building (s : Same) (n k l : ℕ) (xs₀ ws₀ xs scratch ws : List ℕ) (from done : ℕ) : Type 0 where
  pub long : length xs ≡ length xs₀
  pub few : length xs₀ ≤ max_frames
  pub sorting : length xs₀ ≤ length scratch
  pub most : 1 + group_nodes s k l xs₀ ≤ max_nodes
  pub room : 4 * (1 + group_nodes s k l xs₀) ≤ length ws
  pub below : Below n (tail xs from)
  pub nodes : done + group_nodes s k l (tail xs from) ≡ 1 + group_nodes s k l xs₀
  pub words : over ws (4 * done) (group_words s k l (tail xs from)) ≡ over ws₀ 4 (group_words s k l xs₀)

pub building_start : {s : Same} {n k l : ℕ} {xs scratch ws : List ℕ} → Room s n k l xs scratch ws → (k ≡ 0 → ⊥) → Building s n (k - 1) (l + 1) xs ws xs scratch ws 0 1
building_start {s} {n} {k} {l} {xs} {scratch} {ws} r h =
    let e = (inner s k l xs h).nodes in
    let a : tail xs 0 ≡ xs = take_rest xs 0 in
    record {
      long = refl;
      few = r.few;
      sorting = r.sorting;
      most = rw e at r.most;
      room = rw e at r.room;
      below = rw a r.below;
      nodes = rw a refl;
      words = rw a refl;
    }

module _ {s : Same} {n k l : ℕ} {xs₀ ws₀ xs scratch ws : List ℕ} {from done : ℕ} (c : Building s n k l xs₀ ws₀ xs scratch ws from done) where
  -- all of them are built
  module _ (all : length xs₀ ≤ from) where
    nothing : tail xs from ≡ []
    nothing = let e : length xs - from ≡ 0 = omega (arith, c.long) in ap (part xs from) e

    none : groups (s l) (tail xs from) ≡ []
    none = ap (groups (s l)) nothing ∙ groups_nil (s l)

    built_nodes : done ≡ 1 + group_nodes s k l xs₀
    built_nodes = omega (arith, rw none at c.nodes)

    built_words : ws ≡ over ws₀ 4 (group_words s k l xs₀)
    built_words = sym (over_nil ws (4 * done)) ∙ rw none at c.words

  -- the next child
  module _ (within : from < length xs₀) where
    more : from < length xs
    more = omega (arith, c.long)

    abbrev others : List ℕ
    others = tail xs (from + 1)

    cut : tail xs from ≡ get_or xs from 0 ∷ others
    cut = let e : length xs - from ≡ length xs - (from + 1) + 1 = omega (arith, more) in ap (part xs from) e ∙ part_first xs from (length xs - (from + 1)) more

    pub first_below : get_or xs from 0 < n
    first_below = c.below (get_or xs from 0) (rw cut (inl refl))

    pub others_below : Below n others
    others_below x i = c.below x (rw cut (inr i))

    -- after the partition
    module _ {x kept : ℕ} {p : List ℕ} (ex : x ≡ get_or xs from 0) (ek : kept ≡ length (keep (s l x) others)) (ep : p ≡ keep (s l x) others ++ lose (s l x) others) where
      abbrev K : List ℕ
      K = x ∷ keep (s l x) others

      abbrev L : List ℕ
      L = lose (s l x) others

      abbrev to : ℕ
      to = from + 1 + kept

      abbrev xs₁ : List ℕ
      xs₁ = put_mid (from + 1) (length xs - (from + 1)) xs p

      abbrev child : List ℕ
      child = part xs₁ from (to - from)

      others_length : length others ≡ length xs - (from + 1)
      others_length = part_length xs (from + 1) (length xs - (from + 1)) (omega (arith, more))

      rest_is : 1 + kept + length L ≡ length xs - from
      rest_is = omega (arith, more, parts_length (s l x) others, others_length)

      gs : groups (s l) (tail xs from) ≡ K ∷ groups (s l) L
      gs = ap (groups (s l)) (cut ∙ ap (λ (y : ℕ). y ∷ others) (sym ex)) ∙ groups_cons (s l) x others

      xs₁_is : xs₁ ≡ over xs from (K ++ L)
      xs₁_is =
          ap (put_mid (from + 1) (length xs - (from + 1)) xs) ep
          ∙ put_over xs (from + 1) (length xs - (from + 1)) (keep (s l x) others ++ L) (length-append (keep (s l x) others) L ∙ parts_length (s l x) others ∙ others_length)
          ∙ over_cons xs from (keep (s l x) others ++ L) more
          ∙ ap (λ (y : ℕ). over xs from (y ∷ (keep (s l x) others ++ L))) (sym ex)

      child_is : child ≡ K
      child_is = ap (λ (z : List ℕ). part z from (to - from)) xs₁_is ∙ part_front xs from (to - from) K L (omega (arith, more)) (omega arith)

      nodes_are : group_nodes s k l (tail xs from) ≡ size s k l K + group_nodes s k l L
      nodes_are = rw gs

      words_are : group_words s k l (tail xs from) ≡ encode s k l K ++ group_words s k l L
      words_are = rw gs

      pub child_can : {scratch' : List ℕ} → length scratch' ≡ length scratch → Room s n k l child scratch' (tail ws (4 * done))
      child_can e = rw child_is record {
        some = omega arith;
        few = omega (arith, rest_is, c.few, c.long);
        below = group_below n (s l) K (tail xs from) (rw gs (inl refl)) c.below;
        sorting = omega (arith, rest_is, c.sorting, c.long, e);
        most = omega (arith, nodes_are, c.nodes, c.most);
        room = omega (arith, nodes_are, c.nodes, c.room, part_length ws (4 * done) (length ws - 4 * done) (omega (arith, c.nodes, c.room)));
      }

      -- after its tree
      module _ (ys zs : List ℕ) {r : ℕ} (ly : length ys ≡ length child) (er : r ≡ size s k l child) (ez : zs ≡ over (tail ws (4 * done)) 0 (encode s k l child)) where
        abbrev E : List ℕ
        E = encode s k l K

        abbrev xs₂ : List ℕ
        xs₂ = put_mid from (to - from) xs₁ ys

        abbrev ws₂ : List ℕ
        ws₂ = put_mid (4 * done) (length ws - 4 * done) ws zs

        size_is : r ≡ size s k l K
        size_is = er ∙ ap (size s k l) child_is

        ys_length : length ys ≡ 1 + kept
        ys_length = ly ∙ ap length child_is ∙ omega arith

        xs₂_is : xs₂ ≡ over xs from (ys ++ L)
        xs₂_is =
            put_over xs₁ from (to - from) ys (omega (arith, ys_length))
            ∙ ap (λ (z : List ℕ). over z from ys) xs₁_is
            ∙ over_front xs from K L ys (omega (arith, more)) (omega (arith, ys_length))

        xs₂_length : length xs₂ ≡ length xs
        xs₂_length = ap length xs₂_is ∙ over_length xs from (ys ++ L) (omega (arith, length-append ys L, ys_length, rest_is))

        rest : tail xs₂ to ≡ L
        rest =
            ap (λ (m : ℕ). part xs₂ to (m - to)) xs₂_length
            ∙ ap (λ (z : List ℕ). part z to (length xs - to)) xs₂_is
            ∙ part_back xs from to (length xs - to) ys L (omega (arith, more)) (omega (arith, ys_length)) (omega (arith, rest_is))

        ws₂_is : ws₂ ≡ over ws (4 * done) E
        ws₂_is = laid_after ws (4 * done) E zs (ez ∙ ap (λ (z : List ℕ). over (tail ws (4 * done)) 0 (encode s k l z)) child_is) (omega (arith, encode_length s k l K, nodes_are, c.nodes, c.room))

        ws₂_length : length ws₂ ≡ length ws
        ws₂_length = ap length ws₂_is ∙ over_length ws (4 * done) E (omega (arith, encode_length s k l K, nodes_are, c.nodes, c.room))

        pub sum_fits : done + r ≤ max_nodes
        sum_fits = omega (arith, size_is, nodes_are, c.nodes, c.most)

        pub building_step : {scratch' : List ℕ} → length scratch' ≡ length scratch → Building s n k l xs₀ ws₀ xs₂ scratch' ws₂ to (done + r)
        building_step e = record {
          long = xs₂_length ∙ c.long;
          few = c.few;
          sorting = omega (arith, c.sorting, e);
          most = c.most;
          room = omega (arith, ws₂_length, c.room);
          below = rw rest (lose_below n (s l x) others others_below);
          nodes = rw rest (omega (arith, nodes_are, size_is, c.nodes));
          words = rw rest (
              ap (λ (z : List ℕ). over z (4 * (done + r)) (group_words s k l L)) ws₂_is
              ∙ over_next ws (4 * done) (4 * (done + r)) E (group_words s k l L) (omega (arith, encode_length s k l K, size_is)) (omega (arith, trees_length s k l (groups (s l) L), size_is, nodes_are, c.nodes, c.room))
              ∙ ap (over ws (4 * done)) (sym words_are)
              ∙ c.words
              );
        }

-- the node's own words before those of its children
module _ {s : Same} {n k l : ℕ} {xs scratch ws : List ℕ} (r : Room s n k l xs scratch ws) {x : ℕ} (ex : x ≡ get_or xs 0 0) where
  first_is : x ≡ head_or 0 xs
  first_is = ex ∙ head_at 0 xs

  pub first_low : x < n
  first_low = rw ex (r.below (get_or xs 0 0) (at_in 0 xs 0 r.some))

  pub own_room : 4 ≤ length ws
  own_room = omega (arith, r.room, size_pos s k l xs)

  pub leaf_size : k ≡ 0 → 1 ≡ size s k l xs
  leaf_size e = sym (last s k l xs e).nodes

  pub leaf_words : k ≡ 0 → over ws 0 (length xs ∷ 1 ∷ x ∷ 0 ∷ []) ≡ over ws 0 (encode s k l xs)
  leaf_words e = rw first_is (ap (over ws 0) (sym (last s k l xs e).words))

  module _ (inside : k ≡ 0 → ⊥) {xs' scratch' ws' : List ℕ} {from done : ℕ} (b : Building s n (k - 1) (l + 1) xs ws xs' scratch' ws' from done) (all : length xs ≤ from) where
    pub node_size : done ≡ size s k l xs
    node_size = built_nodes b all ∙ sym (inner s k l xs inside).nodes

    pub node_words : over ws' 0 (length xs ∷ done ∷ x ∷ 0 ∷ []) ≡ over ws 0 (encode s k l xs)
    node_words =
        let z = inner s k l xs inside in
        let G : List ℕ = group_words s (k - 1) (l + 1) xs in
        let H : List ℕ = length xs ∷ done ∷ x ∷ 0 ∷ [] in
        let u : H ++ G ≡ encode s k l xs = sym (z.words ∙ simp (first_is, node_size)) in
        ap (λ (z : List ℕ). over z 0 H) (built_words b all)
        ∙ over_before ws 0 4 H G refl (omega (arith, trees_length s (k - 1) (l + 1) (groups (s (l + 1)) xs), z.nodes, r.room))
        ∙ ap (over ws 0) u

-- the root has room: there is at most a node for each frame and level
pub root_room : {s : Same} {n k : ℕ} {xs ys ws : List ℕ} → k ≤ max_levels → CanBuild s n k xs ys ws → Room s n k 0 xs ys ws
root_room {s} {n} {k} {xs} h r = record {
  some = r.some;
  few = r.few;
  below = r.below;
  sorting = r.sorting;
  most = le_trans (size_le s k 0 xs r.some) (mul-le-mul {n₂ = max_frames} {m₂ = max_levels + 1} r.few (omega (arith, h)));
  room = r.room;
}

-- of what is lent to sort in no more is needed
pub room_cut : {s : Same} {n k l : ℕ} {xs ys ws : List ℕ} → Room s n k l xs ys ws → Room s n k l xs (take (length xs) ys) ws
room_cut {xs = xs} {ys} r = record { some = r.some; few = r.few; below = r.below; sorting = omega (arith, r.sorting, length-take (length xs) ys); most = r.most; room = r.room }
