-- The farthest corner is no nearer than the centre: of any floats of the format, for a half side above 0. Its distance is the root of the largest sum of squares: of any floats. Both hold whatever is rounded, overflows or is infinite.
use Rattle.std.specs.Prelude.{◌≡◌, refl, ◌⊎◌, Bool, true, false, not, cond, List, [], ◌∷◌, ℕ, ◌+◌, ◌≤◌, ◌<◌, pos, T, Float}
use Rattle.std.proofs.Common.{sym, ap, ap₂, ◌∙◌, subst, inl, inr, true≢false, le_trans, le_of_eq, le_of_lt, le_antisymm, not-le_of_lt, arith, ltb→lt, nltb→le, lit≤}
use Rattle.std.specs.Float.{nan, inf, fin, binary64}
use Rattle.std.specs.Float.Ieee.{fits, is_nan, neg, add, sub, mul, lt, le, eq, of_int}
use Rattle.std.specs.Float.Ieee.Fits.{add-fits, sub-fits, of_int-fits}
use Rattle.ring.specs.Nat.{lt_or_ge}
use Rattle.ieee754.specs.Value.{mag, sign, Good}
use Rattle.ieee754.specs.Ops.{plus, minus, minus_pos, plus_neg, mag_parts, add_of, sub_of}
use Rattle.ieee754.specs.Exact.{Rep, of_int_pos}
use Rattle.ieee754.specs.Root.{root}
use Rattle.ieee754.specs.Rank.{top, rank, Number, Size, Kind, endless, ended, kind, size_kind, rank_top, lt_rank, le_rank, Under, lowest, under, Over, highest, over, sum_number, sum_up, sum_down, sum_under, sum_over, top_size, top_left, add_size, add_rank, square_size, square_rank, good_known, root_held, root_size, root_rank}
use Rattle.ieee754.specs.Unique.{rank_unique}
use Rattle.hyperparams.specs.Params.{float}
use Rattle.counting_tree.specs.Box.{sum_from, distance, corners, farthest_from, farthest}
use Rattle.counting_tree.specs.Corners.{Member, here, there, in_low, in_high}

-- each is a value of the format
pub data Held : List Float → Type 0 where
  no_value : Held []
  value : {x : Float} {xs : List Float} → T (fits binary64 x) → Held xs → Held (x ∷ xs)

-- ---- one channel
less_top : (c : Float) (s : Bool) → Good c → sub binary64 c (inf s) ≡ inf (not s)
unfolding Good sub neg add
less_top nan s g = absurd g
less_top (inf t) s g = absurd g
less_top (fin t m e) s g = refl

top_less : (c : Float) (s : Bool) → Good c → sub binary64 (inf s) c ≡ inf s
unfolding Good sub neg add
top_less nan s g = absurd g
top_less (inf t) s g = absurd g
top_less (fin t m e) s g = refl

more_top : (c : Float) → Good c → add binary64 c (inf false) ≡ inf false
unfolding Good add
more_top nan g = absurd g
more_top (inf s) g = absurd g
more_top (fin s m e) g = refl

-- c is finite
module _ (c : Float) (g : Good c) (rep : Rep (mag c)) (small : mag c < top) where
  one_part : (plus c ≡ 0) ⊎ (minus c ≡ 0)
  one_part = go (sign c) refl
    where
      go : (s : Bool) → sign c ≡ s → (plus c ≡ 0) ⊎ (minus c ≡ 0)
      go true e = inl (plus_neg c e)
      go false e = inr (minus_pos c e)

  low_end : (e : Float) → Size e → Under (sub binary64 c e) (plus c) (minus c)
  low_end e s = go (size_kind e s)
    where
      go : Kind e false → Under (sub binary64 c e) (plus c) (minus c)
      go (endless i _) = lowest (ap (sub binary64 c) i ∙ less_top c false g)
      go (ended k p _ _ _) =
          let m = minus_pos e p in
          sum_under (sub binary64 c e) (plus c + minus e) (minus c + plus e) (plus c) (minus c) one_part (subst Rep (mag_parts c) rep) (subst (λ (n : ℕ). n < top) (mag_parts c) small) (sub_of c e g k) (omega arith)

  high_end : (e : Float) → Size e → Over (add binary64 c e) (plus c) (minus c)
  high_end e s = go (size_kind e s)
    where
      go : Kind e false → Over (add binary64 c e) (plus c) (minus c)
      go (endless i _) = highest (ap (add binary64 c) i ∙ more_top c g)
      go (ended k p _ _ _) =
          let m = minus_pos e p in
          sum_over (add binary64 c e) (plus c + plus e) (minus c + minus e) (plus c) (minus c) one_part (subst Rep (mag_parts c) rep) (subst (λ (n : ℕ). n < top) (mag_parts c) small) (add_of c e g k) (omega arith)

-- q lies as far from l as from c
record Farther (q c l : Float) : Type 0 where
  known : Number (sub binary64 q l)
  farther : rank (sub binary64 q c) ≤ rank (sub binary64 q l)

difference : (q l : Float) → Good q → Good l → Number (sub binary64 q l)
difference q l g k = sum_number (sub binary64 q l) (plus q + minus l) (minus q + plus l) (sub_of q l g k)

-- it does from an infinite difference
infinite : (q c l : Float) (s : Bool) → Number (sub binary64 q c) → sub binary64 q l ≡ inf s → Farther q c l
unfolding rank is_nan fits
infinite q c l s n e = record {
  known = subst Number (sym e) (record { held = tt; known = tt });
  farther = le_trans (rank_top (sub binary64 q c) n) (le_of_eq (sym (ap rank e)));
}

same_end : (q c l : Float) → Number (sub binary64 q c) → l ≡ c → Farther q c l
same_end q c l n e = subst (Farther q c) (sym e) (record { known = n; farther = le_of_eq refl })

-- q is finite, c at most q and l at most c; and the other way round
module _ (q c l : Float) (Q : Good q) (C : Good c) (n : Number (sub binary64 q c)) where
  below_it : plus c + minus q ≤ plus q + minus c → Under l (plus c) (minus c) → Farther q c l
  below_it h (lowest e) = infinite q c l false n (ap (sub binary64 q) e ∙ less_top q true Q)
  below_it h (under g k) = record {
    known = difference q l Q g;
    farther = sum_up (sub binary64 q c) (sub binary64 q l) (plus q + minus c) (minus q + plus c) (plus q + minus l) (minus q + plus l) (sub_of q c Q C) (sub_of q l Q g) (omega arith) (omega arith);
  }

  above_it : plus q + minus c ≤ plus c + minus q → Over l (plus c) (minus c) → Farther q c l
  above_it h (highest e) = infinite q c l true n (ap (sub binary64 q) e ∙ less_top q false Q)
  above_it h (over g k) = record {
    known = difference q l Q g;
    farther = sum_down (sub binary64 q c) (sub binary64 q l) (plus q + minus c) (minus q + plus c) (plus q + minus l) (minus q + plus l) (sub_of q c Q C) (sub_of q l Q g) (omega arith) (omega arith);
  }

opposite : (s : Bool) → sub binary64 (inf s) (inf (not s)) ≡ inf s
unfolding sub neg add
opposite true = refl
opposite false = refl

low_top : (e : Float) → Size e → sub binary64 (inf true) e ≡ inf true
low_top e s = go (size_kind e s)
  where
    go : Kind e false → sub binary64 (inf true) e ≡ inf true
    go (endless i _) = ap (sub binary64 (inf true)) i ∙ opposite true
    go (ended g _ _ _ _) = top_less e true g

-- one of the two ends of a channel lies as far from q as the centre
abbrev Ends : Float → Float → Float → Type 0
Ends q c e = Farther q c (sub binary64 c e) ⊎ Farther q c (add binary64 c e)

ends_of : (q c e : Float) → Number q → Number c → Size e → Number (sub binary64 q c) → Ends q c e
ends_of q c e Q C s n = go (sign q) (sign c) (kind q Q) (kind c C)
  where
    go : (t u : Bool) → Kind q t → Kind c u → Ends q c e
    go t true _ (endless i _) = inl (same_end q c (sub binary64 c e) n (ap (λ (x : Float). sub binary64 x e) i ∙ low_top e s ∙ sym i))
    go t false _ (endless i _) = inr (same_end q c (add binary64 c e) n (ap (λ (x : Float). add binary64 x e) i ∙ top_left e s ∙ sym i))
    go false u (endless i _) (ended g _ r _ l) = inl (from_top (low_end c g r l e s))
      where
        from_top : Under (sub binary64 c e) (plus c) (minus c) → Farther q c (sub binary64 c e)
        from_top (lowest j) = infinite q c (sub binary64 c e) false n (ap₂ (sub binary64) i j ∙ opposite false)
        from_top (under k _) = infinite q c (sub binary64 c e) false n (ap (λ (x : Float). sub binary64 x (sub binary64 c e)) i ∙ top_less (sub binary64 c e) false k)
    go true u (endless i _) (ended g _ r _ l) = inr (from_top (high_end c g r l e s))
      where
        from_top : Over (add binary64 c e) (plus c) (minus c) → Farther q c (add binary64 c e)
        from_top (highest j) = infinite q c (add binary64 c e) true n (ap₂ (sub binary64) i j ∙ opposite true)
        from_top (over k _) = infinite q c (add binary64 c e) true n (ap (λ (x : Float). sub binary64 x (add binary64 c e)) i ∙ top_less (add binary64 c e) true k)
    go t u (ended k _ _ _ _) (ended g _ r _ l) = elim (lt_or_ge (plus q + minus c) (plus c + minus q)) [
      | inl h ↦ inr (above_it q c (add binary64 c e) k g n (le_of_lt h) (high_end c g r l e s))
      | inr h ↦ inl (below_it q c (sub binary64 c e) k g n h (low_end c g r l e s))
    ]

-- ---- the sums: a NaN anywhere would stay one
add_known : (x y : Float) → T (not (is_nan (add binary64 x y))) → T (not (is_nan x)) × T (not (is_nan y))
unfolding add is_nan
add_known nan y h = absurd h
add_known (inf s) nan h = absurd h
add_known (fin s m e) nan h = absurd h
add_known (inf s) (inf t) h = (tt, tt)
add_known (inf s) (fin t n d) h = (tt, tt)
add_known (fin s m e) (inf t) h = (tt, tt)
add_known (fin s m e) (fin t n d) h = (tt, tt)

square_known : (x : Float) → T (not (is_nan (mul binary64 x x))) → T (not (is_nan x))
unfolding mul is_nan
square_known nan h = absurd h
square_known (inf s) h = tt
square_known (fin s m e) h = tt

sum_known : (a : Float) (qs ps : List Float) → T (not (is_nan (sum_from a qs ps))) → T (not (is_nan a))
unfolding sum_from
sum_known a [] ps h = h
sum_known a (q ∷ qs) [] h = h
sum_known a (q ∷ qs) (p ∷ ps) h = let d = sub binary64 q p in (add_known a (mul binary64 d d) (sum_known (add binary64 a (mul binary64 d d)) qs ps h)).0

sub_known : (x y : Float) → T (not (is_nan (sub binary64 x y))) → T (not (is_nan x)) × T (not (is_nan y))
unfolding sub neg add is_nan
sub_known nan y h = absurd h
sub_known (inf s) nan h = absurd h
sub_known (fin s m e) nan h = absurd h
sub_known (inf s) (inf t) h = (tt, tt)
sub_known (inf s) (fin t n d) h = (tt, tt)
sub_known (fin s m e) (inf t) h = (tt, tt)
sub_known (fin s m e) (fin t n d) h = (tt, tt)

-- the corner whose sum of squares from b is no less than the centre's from a
record Corner (e : Float) (qs cs : List Float) (a b : Float) : Type 0 where
  corner : List Float
  member : Member corner (corners cs e)
  centre : Size (sum_from a qs cs)
  size : Size (sum_from b qs corner)
  farther : rank (sum_from a qs cs) ≤ rank (sum_from b qs corner)

first_corner : (cs : List Float) (e : Float) → (k : List Float) × Member k (corners cs e)
unfolding corners
first_corner [] e = ([], here)
first_corner (c ∷ cs) e = let r = first_corner cs e in (sub binary64 c e ∷ r.0, in_low (sub binary64 c e) (add binary64 c e) r.0 (corners cs e) r.1)

abbrev FarCorner : Float → List Float → List Float → Type 0
FarCorner e qs cs = (a b : Float) → Size a → Size b → rank a ≤ rank b → T (not (is_nan (sum_from a qs cs))) → Corner e qs cs a b

far_corner : (e : Float) → Size e → (qs cs : List Float) → Held qs → Held cs → FarCorner e qs cs
unfolding sum_from corners
far_corner e s [] cs Q C a b i j h n = record { corner = (first_corner cs e).0; member = (first_corner cs e).1; centre = i; size = j; farther = h }
far_corner e s (q ∷ qs) [] Q C a b i j h n = record { corner = []; member = here; centre = i; size = j; farther = h }
far_corner e s (q ∷ qs) (c ∷ cs) (value f Q) (value g C) a b i j h n = pick (far_corner e s qs cs Q C) (ends_of q c e (record { held = f; known = p.0 }) (record { held = g; known = p.1 }) s D)
  where
    d : Float
    d = sub binary64 q c

    k : T (not (is_nan d))
    k = square_known d (add_known a (mul binary64 d d) (sum_known (add binary64 a (mul binary64 d d)) qs cs n)).1

    p : T (not (is_nan q)) × T (not (is_nan c))
    p = sub_known q c k

    D : Number d
    D = record { held = sub-fits binary64 q c; known = k }

    rest : FarCorner e qs cs → (l : Float) → Farther q c l → Corner e qs cs (add binary64 a (mul binary64 d d)) (add binary64 b (mul binary64 (sub binary64 q l) (sub binary64 q l)))
    rest next l r =
        let w = sub binary64 q l in
        let x = square_size d D in
        let y = square_size w r.known in
        next (add binary64 a (mul binary64 d d)) (add binary64 b (mul binary64 w w)) (add_size a (mul binary64 d d) i x) (add_size b (mul binary64 w w) j y)
        (add_rank a (mul binary64 d d) b (mul binary64 w w) i x j y h (square_rank d w D r.known r.farther)) n

    pick : FarCorner e qs cs → Ends q c e → Corner e (q ∷ qs) (c ∷ cs) a b
    pick next (inl r) = let t = rest next (sub binary64 c e) r in record {
      corner = sub binary64 c e ∷ t.corner;
      member = in_low (sub binary64 c e) (add binary64 c e) t.corner (corners cs e) t.member;
      centre = t.centre;
      size = t.size;
      farther = t.farther;
    }
    pick next (inr r) = let t = rest next (add binary64 c e) r in record {
      corner = add binary64 c e ∷ t.corner;
      member = in_high (sub binary64 c e) (add binary64 c e) t.corner (corners cs e) t.member;
      centre = t.centre;
      size = t.size;
      farther = t.farther;
    }

-- ---- the distances, and the largest of them
root_known : (x : Float) → T (not (is_nan (root x))) → T (not (is_nan x))
unfolding root is_nan
root_known nan h = absurd h
root_known (inf s) h = tt
root_known (fin s m e) h = tt

sum_held : (a : Float) (qs ps : List Float) → T (fits binary64 a) → T (fits binary64 (sum_from a qs ps))
unfolding sum_from
sum_held a [] ps h = h
sum_held a (q ∷ qs) [] h = h
sum_held a (q ∷ qs) (p ∷ ps) h = let d = sub binary64 q p in sum_held (add binary64 a (mul binary64 d d)) qs ps (add-fits binary64 a (mul binary64 d d))

zero_size : Size (float 0)
zero_size = let i = of_int_pos 0 (lit≤ tt) in record { held = of_int-fits binary64 (pos 0); known = good_known (float 0) i.good; sign_is = i.sign_is }

distance_held : (qs ps : List Float) → T (fits binary64 (distance qs ps))
unfolding distance
distance_held qs ps = root_held (sum_from (float 0) qs ps) (sum_held (float 0) qs ps zero_size.held)

-- what is more than a value that is not negative
more_size : (x y : Float) → Size x → T (fits binary64 y) → lt x y ≡ true → Size y
unfolding lt sign is_nan
more_size nan y s f h = absurd s.known
more_size (inf true) y s f h = absurd (true≢false s.sign_is)
more_size (inf false) nan s f h = absurd (true≢false (sym h))
more_size (inf false) (inf t) s f h = absurd (true≢false (sym h))
more_size (inf false) (fin t n d) s f h = absurd (true≢false (sym h))
more_size (fin true m e) y s f h = absurd (true≢false s.sign_is)
more_size (fin false m e) nan s f h = absurd (true≢false (sym h))
more_size (fin false m e) (inf true) s f h = absurd (true≢false (sym h))
more_size (fin false m e) (inf false) s f h = top_size
more_size (fin false m e) (fin true n d) s f h = absurd (true≢false (sym h))
more_size (fin false m e) (fin false n d) s f h = record { held = f; known = tt; sign_is = refl }

true_is : {b : Bool} → b ≡ true → T b
true_is e = subst T (sym e) tt

less_rank : (x y : Float) → Size x → Size y → lt x y ≡ true → rank x < rank y
less_rank x y s t h = ltb→lt (rank x) (rank y) (true_is (sym (lt_rank x y s t) ∙ h))

no_less_rank : (x y : Float) → Size x → Size y → lt x y ≡ false → rank y ≤ rank x
no_less_rank x y s t h = nltb→le (rank x) (rank y) (true_is (ap not (sym (lt_rank x y s t) ∙ h)))

record Most (far : Float) (qs : List Float) (ls : List (List Float)) (z : Float) : Type 0 where
  size : Size z
  start : rank far ≤ rank z
  each : (k : List Float) → Member k ls → Size (distance qs k) → rank (distance qs k) ≤ rank z

most : (far : Float) (qs : List Float) (ls : List (List Float)) → Size far → Most far qs ls (farthest_from far qs ls)
unfolding farthest_from
most far qs [] s = record { size = s; start = le_of_eq refl; each = λ k m. none k m }
  where
    none : (k : List Float) → Member k [] → Size (distance qs k) → rank (distance qs k) ≤ rank far
    none k m = elim m [ ]
most far qs (l ∷ ls) s = go (lt far (distance qs l)) refl (λ x t. most x qs ls t)
  where
    d : Float
    d = distance qs l

    go : (b : Bool) → lt far d ≡ b → ((x : Float) → Size x → Most x qs ls (farthest_from x qs ls)) → Most far qs (l ∷ ls) (farthest_from (cond b d far) qs ls)
    go true e f =
        let t = more_size far d s (distance_held qs l) e in
        let r = f d t in
        record { size = r.size; start = le_trans (le_of_lt (less_rank far d s t e)) r.start; each = λ k m. each r k m }
      where
        each : Most d qs ls (farthest_from d qs ls) → (k : List Float) → Member k (l ∷ ls) → Size (distance qs k) → rank (distance qs k) ≤ rank (farthest_from d qs ls)
        each r _ here t = r.start
        each r k (there m) t = r.each k m t
    go false e f =
        let r = f far s in
        record { size = r.size; start = r.start; each = λ k m. each r k m }
      where
        each : Most far qs ls (farthest_from far qs ls) → (k : List Float) → Member k (l ∷ ls) → Size (distance qs k) → rank (distance qs k) ≤ rank (farthest_from far qs ls)
        each r _ here t = le_trans (no_less_rank far d s t e) r.start
        each r k (there m) t = r.each k m t

not_nearer : (far d ext : Float) → Size far → Size d → T (fits binary64 ext) → rank d ≤ rank far → T (le ext d) → lt far ext ≡ false
not_nearer far d ext s t f h l = go (lt far ext) refl
  where
    go : (b : Bool) → lt far ext ≡ b → lt far ext ≡ false
    go false e = e
    go true e =
        let x = more_size far ext s f e in
        absurd (not-le_of_lt (less_rank far ext s x e) (le_trans (le_rank ext d x t l) h))

le_known : (x y : Float) → T (le x y) → T (not (is_nan y))
unfolding le lt eq is_nan
le_known nan y h = absurd h
le_known (inf s) nan h = absurd h
le_known (fin s m e) nan h = absurd h
le_known (inf s) (inf t) h = tt
le_known (inf s) (fin t n d) h = tt
le_known (fin s m e) (inf t) h = tt
le_known (fin s m e) (fin t n d) h = tt

-- where the centre is not nearer than ext, no corner's distance makes the farthest one so
pub centre_not_nearer : (qs cs : List Float) (e ext : Float) → Held qs → Held cs → T (fits binary64 e) → T (fits binary64 ext) → lt (float 0) e ≡ true → T (le ext (distance qs cs)) → lt (farthest qs (corners cs e)) ext ≡ false
unfolding farthest distance
centre_not_nearer qs cs e ext Q C E X p l =
    let a = float 0 in
    let z = zero_size in
    let s = more_size a e z E p in
    let k = root_known (sum_from a qs cs) (le_known ext (distance qs cs) l) in
    let r = far_corner e s qs cs Q C a a z z (le_of_eq refl) k in
    let c = r.centre in
    let m = most a qs (corners cs e) z in
    not_nearer (farthest qs (corners cs e)) (distance qs cs) ext m.size (root_size (sum_from a qs cs) c) X
    (le_trans (root_rank (sum_from a qs cs) (sum_from a qs r.corner) c r.size r.farther) (m.each r.corner r.member (root_size (sum_from a qs r.corner) r.size))) l

-- ---- the root of the largest sum
-- the largest sum of squares, from `far` up
unfoldable pub largest_from : Float → List Float → List (List Float) → Float
unfolding sum_from lt of_int
largest_from far qs [] = far
largest_from far qs (l ∷ ls) = let s = sum_from (float 0) qs l in largest_from (cond (lt far s) s far) qs ls

sum_size : (a : Float) (qs ps : List Float) → Size a → T (not (is_nan (sum_from a qs ps))) → Size (sum_from a qs ps)
unfolding sum_from
sum_size a [] ps s n = s
sum_size a (q ∷ qs) [] s n = s
sum_size a (q ∷ qs) (p ∷ ps) s n =
    let d = sub binary64 q p in
    let w = mul binary64 d d in
    let k = square_known d (add_known a w (sum_known (add binary64 a w) qs ps n)).1 in
    sum_size (add binary64 a w) qs ps (add_size a w s (square_size d (record { held = sub-fits binary64 q p; known = k }))) n

none_below : (x : Float) → lt x nan ≡ false
unfolding lt
none_below nan = refl
none_below (inf s) = refl
none_below (fin s m e) = refl

root_nan : root nan ≡ nan
unfolding root
root_nan = refl

is_nan_lem : (x : Float) → is_nan x ≡ true → x ≡ nan
unfolding is_nan
is_nan_lem nan e = refl
is_nan_lem (inf s) e = absurd (true≢false (sym e))
is_nan_lem (fin s m e) h = absurd (true≢false (sym h))

-- the larger of two roots is the root of the larger: where rounding makes the roots equal they are the same value
root_larger : (far s : Float) → Size far → (T (not (is_nan s)) → Size s) → cond (lt (root far) (root s)) (root s) (root far) ≡ root (cond (lt far s) s far)
root_larger far s F S = go (is_nan s) refl
  where
    by : Size s → (a b : Bool) → lt far s ≡ a → lt (root far) (root s) ≡ b → cond b (root s) (root far) ≡ root (cond a s far)
    by S true true p q = refl
    by S false false p q = refl
    by S true false p q = rank_unique (root far) (root s) (root_size far F) (root_size s S)
        (le_antisymm (root_rank far s F S (le_of_lt (less_rank far s F S p))) (no_less_rank (root far) (root s) (root_size far F) (root_size s S) q))
    by S false true p q = absurd (not-le_of_lt (less_rank (root far) (root s) (root_size far F) (root_size s S) q) (root_rank s far S F (no_less_rank far s F S p)))

    go : (n : Bool) → is_nan s ≡ n → cond (lt (root far) (root s)) (root s) (root far) ≡ root (cond (lt far s) s far)
    go false e = by (S (true_is (ap not e))) (lt far s) (lt (root far) (root s)) refl refl
    go true e =
        let i = is_nan_lem s e in
        ap (λ (t : Bool). cond t (root s) (root far)) (ap (λ (x : Float). lt (root far) (root x)) i ∙ ap (lt (root far)) root_nan ∙ none_below (root far))
        ∙ sym (ap (λ (t : Bool). root (cond t s far)) (ap (lt far) i ∙ none_below far))

larger_size : (far s : Float) (t : Bool) → Size far → T (fits binary64 s) → lt far s ≡ t → Size (cond t s far)
larger_size far s true F f e = more_size far s F f e
larger_size far s false F f e = F

from_root : (far : Float) (qs : List Float) (ls : List (List Float)) → Size far → farthest_from (root far) qs ls ≡ root (largest_from far qs ls)
unfolding farthest_from largest_from distance
from_root far qs [] F = refl
from_root far qs (l ∷ ls) F =
    let s = sum_from (float 0) qs l in
    ap (λ (x : Float). farthest_from x qs ls) (root_larger far s F (sum_size (float 0) qs l zero_size))
    ∙ from_root (cond (lt far s) s far) qs ls (larger_size far s (lt far s) F (sum_held (float 0) qs l zero_size.held) refl)

-- the farthest distance is the root of the largest sum of squares: rounding keeps the order of roots
pub farthest_root : (qs : List Float) (ls : List (List Float)) → root (largest_from (float 0) qs ls) ≡ farthest qs ls
unfolding farthest root of_int
farthest_root qs ls = sym (from_root (float 0) qs ls zero_size)
