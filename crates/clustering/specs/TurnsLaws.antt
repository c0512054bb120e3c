-- Laws of asking by turns: turns up to the size of the larger cell tell whether two cells are linked, in whatever stretches they are taken.
use Rattle.std.specs.Prelude.{◌≡◌, refl, Bool, true, false, ◌&&◌, ◌||◌, List, [], ◌∷◌, ℕ, zero, suc, ◌-◌, ◌<◌, ◌≤◌, Some, ltb, length}
use Rattle.std.proofs.Common.{sym, subst, arith, lt→ltb}
use Rattle.std.proofs.Math.Logic.{inl, inr}
use Rattle.std.proofs.lemmas.Option.{slice_get-get_or, slice_get_past}
use borrow.Author.Tests.{lt-ltb, le-ltb}
use Rattle.std.proofs.Math.Decide.{dec_lt}
use Rattle.std.proofs.Math.Dec.{T, ltb→lt}
use Rattle.std.proofs.Math.ListN.{get_or}
use Rattle.lists.specs.Lists.{numbers, any, In, nonzero}
use Rattle.lists.specs.Words.{rest}
use Rattle.lists.specs.ListLaws.{both_ways, and_left, and_right, and_both, or_cases, or_one, or_two, any_in, in_any, keep_in, in_keep, at_in, from_in, in_from, numbers_in, in_numbers}
use Rattle.counting_tree.specs.Geometry.{Geometry}
use Rattle.cells_grid.specs.Cells.{members, core, core_members, count}
use Rattle.cells_grid.specs.Arrangement.{cell_at}
use Rattle.clustering.specs.Clusters.{touches}
use Rattle.clustering.specs.Uniting.{touch_at}
use Rattle.clustering.specs.UniteAll.{link_at}
use Rattle.clustering.specs.Turns.{size_at, core_of, core_frame_at, hit_by, asked_at, turn_at}

-- an element of a list stands at a place
in_place : (x : ℕ) (xs : List ℕ) → In x xs → (j : ℕ) × (j < length xs) × (get_or xs j 0 ≡ x)
in_place x [] i = absurd i
in_place x (y ∷ ys) (inl e) = (zero, omega arith, sym e)
in_place x (y ∷ ys) (inr i) = let z = in_place x ys i in (suc z.0, omega (arith, z.1), z.2)

-- the numbers below m are those below a and those from a on
pub any_stretches : (f : ℕ → Bool) (a m : ℕ) → a ≤ m → any f (rest a 0) || any f (rest m a) ≡ any f (numbers m)
any_stretches f a m h = both_ways (any f (rest a 0) || any f (rest m a)) (any f (numbers m)) to back
  where
    to : T (any f (rest a 0) || any f (rest m a)) → T (any f (numbers m))
    to t = elim (or_cases (any f (rest a 0)) (any f (rest m a)) t) [
      | inl u ↦ let z = in_any f (rest a 0) u in let k = in_from 0 (a - 0) z.0 z.1 in any_in f z.0 (numbers m) (numbers_in m z.0 (omega (arith, k.1))) z.2
      | inr u ↦ let z = in_any f (rest m a) u in let k = in_from a (m - a) z.0 z.1 in any_in f z.0 (numbers m) (numbers_in m z.0 (omega (arith, k.1))) z.2
    ]

    back : T (any f (numbers m)) → T (any f (rest a 0) || any f (rest m a))
    back t =
        let z = in_any f (numbers m) t in
        let l = in_numbers m z.0 z.1 in
        elim (dec_lt z.0 a) [
          | yes k ↦ or_one (any f (rest a 0)) (any f (rest m a)) (any_in f z.0 (rest a 0) (from_in 0 (a - 0) z.0 (omega arith) (omega arith)) z.2)
          | no k ↦ or_two (any f (rest a 0)) (any f (rest m a)) (any_in f z.0 (rest m a) (from_in a (m - a) z.0 (omega arith) (omega arith)) z.2)
        ]

module _ (g : Geometry) where
  -- ---- one way
  module _ (c d : ℕ) where
    abbrev own : List ℕ
    own = members g (cell_at g c)

    abbrev hits : ℕ → Bool
    hits i = nonzero (count g i (cell_at g d))

    -- frame j of c is asked if it is there and a core frame
    asked_is : (j : ℕ) → asked_at g c d j ≡ ltb j (length own) && (core g (get_or own j 0) && hits (get_or own j 0))
    unfolding asked_at core_frame_at
    asked_is j = elim (dec_lt j (length own)) [
      | yes l ↦ rw (slice_get-get_or own j 0 l, lt-ltb j (length own) l) (told (core g (get_or own j 0)) refl)
      | no l ↦ rw (slice_get_past own j (omega arith), le-ltb j (length own) (omega arith)) refl
    ]
      where
        told : (b : Bool) → core g (get_or own j 0) ≡ b → hit_by g d (core_of g (Some (get_or own j 0))) ≡ core g (get_or own j 0) && hits (get_or own j 0)
        told true e = rw e refl
        told false e = rw e refl

    asked_touches : (j : ℕ) → T (asked_at g c d j) → T (touch_at g c d)
    unfolding touch_at touches core_members
    asked_touches j h =
        let t = subst T (asked_is j) h in
        let i = get_or own j 0 in
        let l = ltb→lt j (length own) (and_left (ltb j (length own)) (core g i && hits i) t) in
        let s = and_right (ltb j (length own)) (core g i && hits i) t in
        any_in hits i (core_members g (cell_at g c)) (keep_in (core g) i own (at_in 0 own j l) (and_left (core g i) (hits i) s)) (and_right (core g i) (hits i) s)

    touches_asked : T (touch_at g c d) → (j : ℕ) × (j < size_at g c) × T (asked_at g c d j)
    unfolding touch_at touches core_members
    touches_asked t =
        let z = in_any hits (core_members g (cell_at g c)) t in
        let k = in_keep (core g) z.0 own z.1 in
        let p = in_place z.0 own k.0 in
        let j = p.0 in
        let s = and_both (core g z.0) (hits z.0) k.1 z.2 in
        let a = and_both (ltb j (length own)) (core g (get_or own j 0) && hits (get_or own j 0)) (lt→ltb j (length own) p.1) (subst (λ (i : ℕ). T (core g i && hits i)) (sym p.2) s) in
        (j, p.1, subst T (sym (asked_is j)) a)

  -- ---- both ways
  pub turns_link : (c d m : ℕ) → size_at g c ≤ m → size_at g d ≤ m → any (turn_at g c d) (numbers m) ≡ link_at g c d
  unfolding turn_at link_at
  turns_link c d m hc hd = both_ways (any (turn_at g c d) (numbers m)) (link_at g c d) to back
    where
      to : T (any (turn_at g c d) (numbers m)) → T (link_at g c d)
      to t =
          let z = in_any (turn_at g c d) (numbers m) t in
          let j = z.0 in
          elim (or_cases (asked_at g c d j) (asked_at g d c j) z.2) [
            | inl u ↦ or_one (touch_at g c d) (touch_at g d c) (asked_touches c d j u)
            | inr u ↦ or_two (touch_at g c d) (touch_at g d c) (asked_touches d c j u)
          ]

      back : T (link_at g c d) → T (any (turn_at g c d) (numbers m))
      back t = elim (or_cases (touch_at g c d) (touch_at g d c) t) [
        | inl u ↦ let z = touches_asked c d u in any_in (turn_at g c d) z.0 (numbers m) (numbers_in m z.0 (omega (arith, z.1))) (or_one (asked_at g c d z.0) (asked_at g d c z.0) z.2)
        | inr u ↦ let z = touches_asked d c u in any_in (turn_at g c d) z.0 (numbers m) (numbers_in m z.0 (omega (arith, z.1))) (or_two (asked_at g c d z.0) (asked_at g d c z.0) z.2)
      ]
