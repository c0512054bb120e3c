-- Laws of the search: numbers sorted by the blocks of their frames, of which those that pass a test are found row by row, each once.
use Rattle.std.specs.Prelude.{◌≡◌, refl, ◌⊎◌, Bool, not, ◌&&◌, ℕ, ◌+◌, ◌-◌, ◌*◌, ◌/◌, ◌%◌, ◌^◌, ◌<◌, ◌≤◌, ℤ, pos, length, get_or, drop}
use Rattle.std.proofs.Math.Path.{sym, ap, subst}
use Rattle.std.proofs.Common.{ap₂, ◌∙◌, mod-lt, mod-eq_of_lt, div-add-mod', mul-le-mul, add-mul, arith, length-drop, eq-eqb, ne_eqb}
use Rattle.std.proofs.Math.Logic.{inl, inr}
use Rattle.std.proofs.Math.Bool.{true, false, cond, and-true, and-false}
use mathlib.Core.List.{List, [], ◌∷◌, ◌++◌, Permᴰ}
use Rattle.std.proofs.Math.Nat.{mod_self, mod-add-mod}
use Rattle.std.proofs.Math.Decide.{dec_lt}
use Rattle.std.proofs.Math.Dec.{T, eqb, eqb→eq}
use Rattle.lists.specs.Lists.{numbers, keep, In}
use Rattle.lists.specs.Buckets.{bucket}
use Rattle.lists.specs.Sorting.{numbered}
use Rattle.lists.specs.ListLaws.{T_true, true_T, and_left, and_right, and_both, in_keep, keep_in, in_append, keep_same, in_numbers, numbers_in}
use Rattle.lists.specs.CountLaws.{keep_append, keep_keep}
use Rattle.lists.specs.OrderLaws.{numbers_ascending}
use Rattle.lists.specs.PermLaws.{perm_same}
use Rattle.hyperparams.specs.declared.ValidParams.{ValidParams}
use Rattle.counting_tree.specs.Frames.{Frame, squared}
use Rattle.counting_tree.specs.FramesIn.{frame_length}
use Rattle.blocks.specs.Blocks.{raise, width, same_nats, row_hash, bucket_at, bucket_of, frame_at, row_of, row_around, key_for, bucket_around, pair_at, found_in, found}
use Rattle.blocks.specs.BlockLaws.{Within, within_of, parted, by_values, concat_perm, same_nats_lem, which, which_below, which_is}

-- ---- numbers of two keys
-- what passes a test among them is all that passes it, where only numbers of these keys do
pub two_keys : (key : ℕ → ℕ) (m b c : ℕ) (f : ℕ → Bool) → (b ≡ c → ⊥) → ((x : ℕ) → x < m → T (f x) → (key x ≡ b) ⊎ (key x ≡ c))
    → Permᴰ (keep f (numbered key m b ++ numbered key m c)) (keep f (numbers m))
unfolding numbered
two_keys key m b c f o h =
    subst (λ (l : List ℕ). Permᴰ l (keep f (numbers m))) (sym (
    keep_append f (keep (λ x. eqb (key x) b) (numbers m)) (keep (λ x. eqb (key x) c) (numbers m))
    ∙ ap₂ ◌++◌ (keep_keep f (λ x. eqb (key x) b) (numbers m) ∙ keep_same _ _ (numbers m) (λ x i. turn (eqb (key x) b) (f x)))
    (keep_keep f (λ x. eqb (key x) c) (numbers m) ∙ keep_same _ _ (numbers m) (λ x i. other x (f x) (λ t. h x (in_numbers m x i) t)))))
    (parted f (λ x. eqb (key x) b) (numbers m))
  where
    turn : (s t : Bool) → s && t ≡ t && s
    turn true t = sym (and-true t)
    turn false t = sym (and-false t)

    other : (x : ℕ) (t : Bool) → (T t → (key x ≡ b) ⊎ (key x ≡ c)) → eqb (key x) c && t ≡ t && not (eqb (key x) b)
    other x false q = and-false (eqb (key x) c)
    other x true q = and-true (eqb (key x) c) ∙ elim (q tt) [
      | inl e ↦ ne_eqb (key x) c (λ z. o (sym e ∙ z)) ∙ sym (ap not (eq-eqb (key x) b e))
      | inr e ↦ eq-eqb (key x) c e ∙ sym (ap not (ne_eqb (key x) b (λ z. o (sym z ∙ e))))
    ]

-- ---- two blocks of a row
-- the numbers of the two blocks that a count within the reach of x can have
two_along : (reach x y : ℕ) → (x - y) + (y - x) ≤ reach → (y / width reach ≡ (x - reach) / width reach) ⊎ (y / width reach ≡ (x - reach) / width reach + 1)
two_along reach x y h = go (y / w) ((x - reach) / w) (y % w) ((x - reach) % w) (div-add-mod' y w) (div-add-mod' (x - reach) w) (mod-lt y p) (mod-lt (x - reach) p)
  where
    w : ℕ
    w = width reach

    p : 0 < 2 * reach + 1
    p = omega arith

    go : (a q r s : ℕ) → a * w + r ≡ y → q * w + s ≡ x - reach → r < w → s < w → (a ≡ q) ⊎ (a ≡ q + 1)
    go a q r s e f k l = elim (dec_lt a q) [
      | yes m ↦ let z : (a + 1) * w ≤ q * w = mul-le-mul (omega arith) (omega arith) in absurd (omega (arith, z, add-mul a 1 w))
      | no m ↦ elim (dec_lt (q + 1) a) [
        | yes o ↦ let z : (q + 2) * w ≤ a * w = mul-le-mul (omega arith) (omega arith) in absurd (omega (arith, z, add-mul q 2 w))
        | no o ↦ elim (dec_lt q a) [ yes t ↦ inr (omega arith) | no t ↦ inl (omega arith) ]
      ]
    ]

-- the next block of a row has the next bucket
pub bucket_next : (size h a : ℕ) → bucket_at size h (a + 1) ≡ (bucket_at size h a + 1) % size
unfolding bucket_at
bucket_next size h a =
    let b = bucket size (h % 4294967296) in
    let e : b + (a + 1) ≡ b + a + 1 = omega arith in
    ap (λ (z : ℕ). z % size) e ∙ sym (mod-add-mod (b + a) size 1)

pub bucket_low : (size h a : ℕ) → 0 < size → bucket_at size h a < size
unfolding bucket_at
bucket_low size h a p = mod-lt (bucket size (h % 4294967296) + a) p

next_other : (b size : ℕ) → b < size → 1 < size → b ≡ (b + 1) % size → ⊥
next_other b size h k e = elim (dec_lt (b + 1) size) [
  | yes l ↦ omega (arith, e, mod-eq_of_lt l)
  | no l ↦
      let q : b + 1 ≡ size = omega arith in
      omega (arith, e, ap (λ (z : ℕ). z % size) q, mod_self size)
]

-- ---- the buckets of numbers
module _ (reach : ℕ) (v : ValidParams) (n : ℕ) (ps : List ℤ) (size : ℕ) (least : 0 < size) where
  pub around_low : (i r : ℕ) → bucket_around reach v n ps size i r < size
  unfolding bucket_around
  around_low i r = bucket_low size (row_hash (row_around reach v n ps i r)) ((raise (get_or (frame_at reach v n ps i) 0 (pos 0)) - reach) / width reach) least

  module _ (at : ℕ → ℕ) (p : ℕ → Bool) (x : ℕ) where
    abbrev own : ℕ
    own = bucket_of (width reach) size (frame_at reach v n ps (at x))

    key_passed : T (p x) → key_for reach v n ps size at p x ≡ bucket_of (width reach) size (frame_at reach v n ps (at x))
    unfolding key_for
    key_passed t = ap (λ (b : Bool). cond b own size) (T_true (p x) t)

    key_failed : p x ≡ false → key_for reach v n ps size at p x ≡ size
    unfolding key_for
    key_failed e = ap (λ (b : Bool). cond b own size) e

    own_low : own < size
    unfolding bucket_of
    own_low = bucket_low size (row_hash (row_of reach v n ps (at x))) (raise (get_or (frame_at reach v n ps (at x)) 0 (pos 0)) / width reach) least

    -- there is one key more than there are buckets
    pub key_below : key_for reach v n ps size at p x < size + 1
    key_below = go (p x) refl
      where
        go : (b : Bool) → p x ≡ b → key_for reach v n ps size at p x < size + 1
        go true e = omega (arith, key_passed (true_T e), own_low)
        go false e = omega (arith, key_failed e)

    -- a number with a bucket passes
    key_passes : key_for reach v n ps size at p x < size → T (p x)
    key_passes l = go (p x) refl
      where
        go : (b : Bool) → p x ≡ b → T (p x)
        go true e = true_T e
        go false e = absurd (omega (arith, key_failed e))

-- ---- the numbers around a frame
module _ (reach : ℕ) (v : ValidParams) (n : ℕ) (ps : List ℤ) (room : n * v.channels ≤ length ps) (some : 1 ≤ v.channels) where
  abbrev F : ℕ → Frame
  F = frame_at reach v n ps

  abbrev R : ℕ
  R = 2 ^ (v.channels - 1)

  pub long : (i : ℕ) → i < n → length (F i) ≡ v.channels
  long i h = frame_length n v.channels ps i room h

  pub rest_long : (i : ℕ) → i < n → length (drop 1 (frame_at reach v n ps i)) ≡ v.channels - 1
  rest_long i h = length-drop 1 (F i) ∙ ap (λ (z : ℕ). z - 1) (long i h)

  pub row_low : (i : ℕ) → i < n → (j : ℕ) → which reach (drop 1 (frame_at reach v n ps i)) (drop 1 (frame_at reach v n ps j)) < 2 ^ (v.channels - 1)
  row_low i h j = subst (λ (d : ℕ). which reach (drop 1 (F i)) (drop 1 (F j)) < 2 ^ d) (rest_long i h) (which_below reach (drop 1 (F i)) (drop 1 (F j)))

  -- of frames within the reach, the counts of channel 0 and of the others are
  pub apart_first : (f g : Frame) → 1 ≤ length f → Within reach f g → ((raise (get_or f 0 (pos 0)) - raise (get_or g 0 (pos 0))) + (raise (get_or g 0 (pos 0)) - raise (get_or f 0 (pos 0))) ≤ reach) × Within reach (drop 1 f) (drop 1 g)
  apart_first [] g l t = absurd (omega arith)
  apart_first (a ∷ f) [] l t = absurd t
  apart_first (a ∷ f) (b ∷ g) l t = t

  pub near_within : (i j : ℕ) → i < n → j < n → squared (frame_at reach v n ps i) (frame_at reach v n ps j) ≤ reach * reach → Within reach (frame_at reach v n ps i) (frame_at reach v n ps j)
  near_within i j h k q = within_of reach (F i) (F j) (long i h ∙ sym (long j k)) q

  module _ (size : ℕ) (at : ℕ → ℕ) (p : ℕ → Bool) (m : ℕ) (several : 1 < size) (inside : (x : ℕ) → x < m → at x < n) where
    least : 0 < size
    least = omega arith

    module _ (i : ℕ) (h : i < n) where
      abbrev B : ℕ → ℕ
      B r = bucket_around reach v n ps size i r

      -- a number within the reach and in row r has the bucket of the row, or the next
      key_near : (r x : ℕ) → x < m → T (p x) → squared (F i) (F (at x)) ≤ reach * reach → row_of reach v n ps (at x) ≡ row_around reach v n ps i r
          → (key_for reach v n ps size at p x ≡ B r) ⊎ (key_for reach v n ps size at p x ≡ (B r + 1) % size)
      unfolding bucket_of bucket_around
      key_near r x l t q e =
          let w = width reach in
          let z = (apart_first (F i) (F (at x)) (omega (arith, long i h)) (near_within i (at x) h (inside x l) q)).0 in
          let a = (raise (get_or (F i) 0 (pos 0)) - reach) / w in
          let k : key_for reach v n ps size at p x ≡ bucket_at size (row_hash (row_around reach v n ps i r)) (raise (get_or (F (at x)) 0 (pos 0)) / w) =
          key_passed reach v n ps size least at p x t ∙ ap (λ (y : List ℕ). bucket_at size (row_hash y) (raise (get_or (F (at x)) 0 (pos 0)) / w)) e in
          elim (two_along reach (raise (get_or (F i) 0 (pos 0))) (raise (get_or (F (at x)) 0 (pos 0))) z) [
            | inl d ↦ inl (k ∙ ap (bucket_at size (row_hash (row_around reach v n ps i r))) d)
            | inr d ↦ inr (k ∙ ap (bucket_at size (row_hash (row_around reach v n ps i r))) d ∙ bucket_next size (row_hash (row_around reach v n ps i r)) a)
          ]

      module _ (f : ℕ → Bool) (near : (x : ℕ) → x < m → T (p x) → T (f x) → squared (F i) (F (at x)) ≤ reach * reach) where
        abbrev P : ℕ → Bool
        P x = p x && f x

        abbrev key : ℕ → ℕ
        key = key_for reach v n ps size at p

        abbrev K : ℕ → ℕ → Bool
        K r x = same_nats (row_of reach v n ps (at x)) (row_around reach v n ps i r)

        has : (x b : ℕ) → In x (numbered key m b) → b < size → key x < size
        unfolding numbered
        has x b j l = omega (arith, eqb→eq (key x) b (in_keep (λ y. eqb (key y) b) x (numbers m) j).1)

        -- those found in a row are all in it
        pub row_all : (r : ℕ) → Permᴰ (found_in reach v n ps size at p m i f r) (keep (λ x. same_nats (row_of reach v n ps (at x)) (row_around reach v n ps i r) && (p x && f x)) (numbers m))
        unfolding found_in pair_at
        row_all r =
            subst (λ (l : List ℕ). Permᴰ l (keep (λ x. K r x && P x) (numbers m)))
            (sym (keep_same (λ x. K r x && f x) (λ x. K r x && P x) (numbered key m (B r) ++ numbered key m ((B r + 1) % size)) (λ x j. ap (λ (b : Bool). K r x && b) (passed x (key_passes reach v n ps size least at p x (bucketed x j))))))
            (two_keys key m (B r) ((B r + 1) % size) (λ x. K r x && P x) (next_other (B r) size (around_low reach v n ps size least i r) several) one)
          where
            passed : (x : ℕ) → T (p x) → f x ≡ p x && f x
            passed x t = sym (ap (λ (b : Bool). b && f x) (T_true (p x) t))

            bucketed : (x : ℕ) → In x (numbered key m (B r) ++ numbered key m ((B r + 1) % size)) → key x < size
            bucketed x j = elim (in_append x (numbered key m (B r)) (numbered key m ((B r + 1) % size)) j) [
              | inl a ↦ has x (B r) a (around_low reach v n ps size least i r)
              | inr a ↦ has x ((B r + 1) % size) a (mod-lt (B r + 1) least)
            ]

            one : (x : ℕ) → x < m → T (K r x && P x) → (key x ≡ B r) ⊎ (key x ≡ (B r + 1) % size)
            one x l t =
                let s = and_right (K r x) (P x) t in
                key_near r x l (and_left (p x) (f x) s) (near x l (and_left (p x) (f x) s) (and_right (p x) (f x) s)) (same_nats_lem (row_of reach v n ps (at x)) (row_around reach v n ps i r) (and_left (K r x) (P x) t))

        -- a number within the reach lies in one row alone
        pub in_one : (x r : ℕ) → x < m → T (p x && f x) → r < 2 ^ (v.channels - 1) → same_nats (row_of reach v n ps (at x)) (row_around reach v n ps i r) ≡ eqb (which reach (drop 1 (frame_at reach v n ps i)) (drop 1 (frame_at reach v n ps (at x)))) r
        in_one x r l t k =
            let s = near_within i (at x) h (inside x l) (near x l (and_left (p x) (f x) t) (and_right (p x) (f x) t)) in
            which_is reach (drop 1 (F i)) (drop 1 (F (at x))) r (apart_first (F i) (F (at x)) (omega (arith, long i h)) s).1 (subst (λ (d : ℕ). r < 2 ^ d) (sym (rest_long i h)) k)

        -- what is found in a row passes
        pub in_found : (r x : ℕ) → In x (found_in reach v n ps size at p m i f r) → (x < m) × T (p x) × T (f x)
        in_found r x j =
            let z = in_keep (λ y. K r y && P y) x (numbers m) ((perm_same (row_all r) x).0 j) in
            let t = and_right (K r x) (P x) z.1 in
            (in_numbers m x z.0, and_left (p x) (f x) t, and_right (p x) (f x) t)

        -- and each that passes is found in its row
        pub found_in_lem : (x : ℕ) → x < m → T (p x) → T (f x) → In x (found_in reach v n ps size at p m i f (which reach (drop 1 (frame_at reach v n ps i)) (drop 1 (frame_at reach v n ps (at x)))))
        found_in_lem x l s t =
            let r = which reach (drop 1 (F i)) (drop 1 (F (at x))) in
            let b = and_both (p x) (f x) s t in
            (perm_same (row_all r) x).1 (keep_in (λ y. K r y && P y) x (numbers m) (numbers_in m x l) (and_both (K r x) (P x) (true_T (in_one x r l b (row_low i h (at x)) ∙ eq-eqb r r refl)) b))

        -- all that pass, each once
        pub found_order : Permᴰ (found reach v n ps size at p m i f) (keep (λ x. p x && f x) (numbers m))
        unfolding found
        found_order =
            Permᴰ.trans
            (concat_perm (found_in reach v n ps size at p m i f) (λ r. keep (λ x. P x && eqb (which reach (drop 1 (F i)) (drop 1 (F (at x)))) r) (numbers m)) (numbers R)
            (λ r k. subst (Permᴰ (found_in reach v n ps size at p m i f r))
            (keep_same (λ x. K r x && P x) (λ x. P x && eqb (which reach (drop 1 (F i)) (drop 1 (F (at x)))) r) (numbers m) (λ x j. turn (K r x) (eqb (which reach (drop 1 (F i)) (drop 1 (F (at x)))) r) (P x) (λ t. in_one x r (in_numbers m x j) t (in_numbers R r k))))
            (row_all r)))
            (by_values (λ x. which reach (drop 1 (F i)) (drop 1 (F (at x)))) P (numbers R) (numbers m) (numbers_ascending R)
            (λ x j t. numbers_in R (which reach (drop 1 (F i)) (drop 1 (F (at x)))) (row_low i h (at x))))
          where
            turn : (s e t : Bool) → (T t → s ≡ e) → s && t ≡ t && e
            turn s e true q = and-true s ∙ q tt
            turn s e false q = and-false s
