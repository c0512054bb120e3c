-- Laws of the numbers below n, of lists that stay below n, and of ascending lists.
use Rattle.std.specs.Prelude.{◌≡◌, refl, Bool, true, false, ◌&&◌, cond, List, [], ◌∷◌, ◌++◌, ℕ, zero, suc, ◌+◌, ◌-◌, ◌%◌, ◌≤◌, ◌<◌, T, eqb, ltb, length, get_or}
use Rattle.std.proofs.Common.{sym, ap, ap₂, ◌∙◌, inl, inr, append-nil, le_of_eq, le_of_suc-le-suc, not-suc-le-zero, le_of_lt, add-zero, zero-add, mod-eq_of_lt, add-one, arith, ltb→lt, lt→ltb, eqb→eq, length-append}
use Rattle.std.proofs.Math.Bool.{and-true, and-false}
use Rattle.std.proofs.Math.Nat.{add-mod_right}
use Rattle.std.proofs.Math.Dec.{eqb_refl}
use Rattle.lists.specs.Lists.{from, numbers, keep, lose, how_many, total, head_or, In, Below, Ascending}
use Rattle.lists.specs.ListLaws.{T_true, T_false, in_keep, in_lose, at_in, keep_same, in_from, in_numbers, length_from}
use Rattle.lists.specs.CountLaws.{keep_append, keep_le, keep_none, total_append}

-- ---- numbers after numbers
pub from_add : (a m n : ℕ) → from a (m + n) ≡ from a m ++ from (a + m) n
from_add a zero n = let e : a ≡ a + 0 = omega arith in ap₂ from e (zero-add n)
from_add a (suc m) n =
    let e : suc m + n ≡ suc (m + n) = omega arith in
    let f : suc a + m ≡ a + suc m = omega arith in
    ap (from a) e ∙ ap (λ (l : List ℕ). a ∷ l) (from_add (suc a) m n ∙ ap (λ (b : ℕ). from (suc a) m ++ from b n) f)

-- ---- one number more
pub from_snoc : (a n : ℕ) → from a (suc n) ≡ from a n ++ ((a + n) ∷ [])
from_snoc a n = ap (from a) (sym (add-one n)) ∙ from_add a n 1

pub numbers_snoc : (n : ℕ) → numbers (n + 1) ≡ numbers n ++ (n ∷ [])
numbers_snoc n = ap numbers (add-one n) ∙ from_snoc 0 n ∙ ap (λ (z : ℕ). numbers n ++ (z ∷ [])) (zero-add n)

module _ (f : ℕ → Bool) where
  pub kept_snoc : (n : ℕ) → keep f (numbers (n + 1)) ≡ keep f (numbers n) ++ cond (f n) (n ∷ []) []
  kept_snoc n = ap (keep f) (numbers_snoc n) ∙ keep_append f (numbers n) (n ∷ [])

  pub many_snoc : (n : ℕ) → how_many f (numbers (n + 1)) ≡ how_many f (numbers n) + cond (f n) 1 0
  many_snoc n = ap length (kept_snoc n) ∙ length-append (keep f (numbers n)) (cond (f n) (n ∷ []) []) ∙ ap (λ (k : ℕ). how_many f (numbers n) + k) (go (f n))
    where
      go : (b : Bool) → length (cond b (n ∷ []) []) ≡ cond b 1 0
      go true = refl
      go false = refl

  pub kept_le : (n : ℕ) → length (keep f (numbers n)) ≤ n
  kept_le n = omega (arith, keep_le f (numbers n), length_from 0 n)

  -- of the numbers below r + k, those below r
  pub keep_low : (r k : ℕ) → keep (λ x. f x && ltb x r) (numbers (r + k)) ≡ keep f (numbers r)
  keep_low r zero =
      ap (λ (z : ℕ). keep (λ x. f x && ltb x r) (numbers z)) (add-zero r)
      ∙ keep_same (λ x. f x && ltb x r) f (numbers r) (λ x i. rw (T_true (ltb x r) (lt→ltb x r (in_numbers r x i))) (and-true (f x)))
  keep_low r (suc k) =
      let e : r + suc k ≡ suc (r + k) = omega arith in
      let q : ltb (r + k) r ≡ false = T_false (ltb (r + k) r) (λ t. omega (arith, ltb→lt (r + k) r t)) in
      ap (λ (z : ℕ). keep (λ x. f x && ltb x r) (numbers z)) e
      ∙ ap (keep (λ x. f x && ltb x r)) (from_snoc 0 (r + k) ∙ ap (λ (z : ℕ). numbers (r + k) ++ (z ∷ [])) (zero-add (r + k)))
      ∙ keep_append (λ x. f x && ltb x r) (numbers (r + k)) ((r + k) ∷ [])
      ∙ ap₂ (λ (l : List ℕ) (b : Bool). l ++ cond (f (r + k) && b) ((r + k) ∷ []) []) (keep_low r k) q
      ∙ rw (and-false (f (r + k))) (append-nil (keep f (numbers r)))

-- ---- the numbers below i, then the others
pub numbers_split : (i n : ℕ) → i ≤ n → numbers n ≡ numbers i ++ from i (n - i)
numbers_split i n h =
    let e : n ≡ i + (n - i) = omega arith in
    ap numbers e ∙ from_add 0 i (n - i) ∙ ap (λ (a : ℕ). numbers i ++ from a (n - i)) (zero-add i)

pub kept_split : (f : ℕ → Bool) (i n : ℕ) → i ≤ n → keep f (numbers n) ≡ keep f (numbers i) ++ keep f (from i (n - i))
kept_split f i n h = ap (keep f) (numbers_split i n h) ∙ keep_append f (numbers i) (from i (n - i))

total_split : (f : ℕ → ℕ) (i n : ℕ) → i ≤ n → total f (numbers n) ≡ total f (numbers i) + total f (from i (n - i))
total_split f i n h = ap (total f) (numbers_split i n h) ∙ total_append f (numbers i) (from i (n - i))

-- a sum over the numbers below n is the same from a on, and round
pub total_round : (f : ℕ → ℕ) (a n : ℕ) → a < n → total (λ j. f ((a + j) % n)) (numbers n) ≡ total f (numbers n)
total_round f a n h = omega (arith, total_split g (n - a) n (omega arith), total_split f a n (omega arith), high, low)
  where
    g : ℕ → ℕ
    g j = f ((a + j) % n)

    total_from : (b c k : ℕ) → ((j : ℕ) → j < k → g (b + j) ≡ f (c + j)) → total g (from b k) ≡ total f (from c k)
    total_from b c zero e = refl
    total_from b c (suc k) e = ap₂ ◌+◌ (ap g (sym (add-zero b)) ∙ e 0 (omega arith) ∙ ap f (add-zero c)) (total_from (suc b) (suc c) k (λ j l. ap g (next b j) ∙ e (suc j) (omega arith) ∙ ap f (sym (next c j))))
      where
        next : (x j : ℕ) → suc x + j ≡ x + suc j
        next x j = omega arith

    high : total g (numbers (n - a)) ≡ total f (from a (n - a))
    high = total_from 0 a (n - a) (λ j l. ap f (ap (λ (z : ℕ). (a + z) % n) (zero-add j) ∙ mod-eq_of_lt (omega arith)))

    low : total g (from (n - a) (n - (n - a))) ≡ total f (numbers a)
    low =
        let q : n - (n - a) ≡ a = omega arith in
        ap (λ (k : ℕ). total g (from (n - a) k)) q ∙ total_from (n - a) 0 a (λ j l. ap f (let e : a + (n - a + j) ≡ j + n = omega arith in ap (λ (z : ℕ). z % n) e ∙ add-mod_right j n ∙ mod-eq_of_lt (omega arith) ∙ sym (zero-add j)))

-- a number that passes, below i: fewer pass below it
pub many_less : (f : ℕ → Bool) (j i : ℕ) → j < i → T (f j) → how_many f (numbers j) < how_many f (numbers i)
many_less f j i h t =
    omega (
      arith,
      ap length (kept_split f (j + 1) i (omega arith)),
      length-append (keep f (numbers (j + 1))) (keep f (from (j + 1) (i - (j + 1)))),
      many_snoc f j,
      ap (λ (b : Bool). cond {A = ℕ} b 1 0) (T_true (f j) t),
    )

-- ---- below n
pub below_at : (n : ℕ) (xs : List ℕ) (i : ℕ) → Below n xs → i < length xs → get_or xs i 0 < n
below_at n xs i h k = h (get_or xs i 0) (at_in 0 xs i k)

pub lose_below : (n : ℕ) (f : ℕ → Bool) (xs : List ℕ) → Below n xs → Below n (lose f xs)
lose_below n f xs h x i = h x (in_lose f x xs i).0

-- ---- ascending
pub from_ascending : (a n : ℕ) → Ascending (from a n)
from_ascending a zero = tt
from_ascending a (suc n) = (λ y i. (in_from (suc a) n y i).0, from_ascending (suc a) n)

pub numbers_ascending : (n : ℕ) → Ascending (numbers n)
numbers_ascending n = from_ascending 0 n

pub keep_ascending : (f : ℕ → Bool) (xs : List ℕ) → Ascending xs → Ascending (keep f xs)
keep_ascending f [] h = tt
keep_ascending f (x ∷ xs) h = go (f x) (keep_ascending f xs h.1)
  where
    go : (b : Bool) → Ascending (keep f xs) → Ascending (cond b (x ∷ keep f xs) (keep f xs))
    go true r = (λ y i. h.0 y (in_keep f y xs i).0, r)
    go false r = r

-- the first element is the lowest
pub head_lowest : (d : ℕ) (xs : List ℕ) → Ascending xs → (x : ℕ) → In x xs → head_or d xs ≤ x
head_lowest d [] a x i = absurd i
head_lowest d (y ∷ ys) a x (inl e) = le_of_eq (sym e)
head_lowest d (y ∷ ys) a x (inr i) = le_of_lt (a.0 x i)

-- ascending lists with the same elements are equal
pub ascending_same : (xs ys : List ℕ) → Ascending xs → Ascending ys → ((x : ℕ) → In x xs → In x ys) → ((x : ℕ) → In x ys → In x xs) → xs ≡ ys
ascending_same [] [] a b f g = refl
ascending_same [] (y ∷ ys) a b f g = absurd (g y (inl refl))
ascending_same (x ∷ xs) [] a b f g = absurd (f x (inl refl))
ascending_same (x ∷ xs) (y ∷ ys) a b f g =
    let e : x ≡ y = heads (f x (inl refl)) (g y (inl refl)) in
    ap₂ ◌∷◌ e (ascending_same xs ys a.1 b.1 (λ z i. tail x y ys z e (a.0 z i) (f z (inr i))) (λ z i. tail y x xs z (sym e) (b.0 z i) (g z (inr i))))
  where
    heads : In x (y ∷ ys) → In y (x ∷ xs) → x ≡ y
    heads (inl e) j = e
    heads (inr i) (inl e) = sym e
    heads (inr i) (inr j) = absurd (omega (arith, b.0 x i, a.0 y j))

    tail : (x y : ℕ) (ys : List ℕ) (z : ℕ) → x ≡ y → x < z → In z (y ∷ ys) → In z ys
    tail x y ys z e h (inl q) = absurd (omega arith)
    tail x y ys z e h (inr i) = i

module _ {x : ℕ} where
  -- an element of an ascending list is in it once
  pub once : (xs : List ℕ) → Ascending xs → In x xs → keep (λ c. eqb c x) xs ≡ x ∷ []
  once [] a i = absurd i
  once (y ∷ ys) a (inl e) = rw (← e, T_true (eqb x x) (eqb_refl x)) (ap (λ (r : List ℕ). x ∷ r) (keep_none (λ c. eqb c x) ys (λ z i t. omega (arith, a.0 z i, eqb→eq z x t))))
  once (y ∷ ys) a (inr i) = rw (T_false (eqb y x) (λ t. omega (arith, a.0 x i, eqb→eq y x t))) (once ys a.1 i)

  -- it has as many lower elements before it: that number is its place
  pub rank_at : (d : ℕ) (xs : List ℕ) → Ascending xs → In x xs → get_or xs (how_many (λ c. ltb c x) xs) d ≡ x
  rank_at d [] a i = absurd i
  rank_at d (y ∷ ys) a (inl e) = ap (λ (l : List ℕ). get_or (y ∷ ys) (length l) d) (keep_none (λ c. ltb c x) (y ∷ ys) (λ z i t. omega (arith, head_lowest d (y ∷ ys) a z i, ltb→lt z x t))) ∙ sym e
  rank_at d (y ∷ ys) a (inr i) = rw (T_true (ltb y x) (lt→ltb y x (a.0 x i))) (rank_at d ys a.1 i)

-- an element of an ascending list has as many lower ones as stand before it
pub at_rank : (d : ℕ) (xs : List ℕ) (i : ℕ) → Ascending xs → i < length xs → how_many (λ c. ltb c (get_or xs i d)) xs ≡ i
at_rank d [] i a h = absurd (not-suc-le-zero h)
at_rank d (x ∷ xs) zero a h = ap length (keep_none (λ c. ltb c x) (x ∷ xs) (λ z i t. omega (arith, head_lowest d (x ∷ xs) a z i, ltb→lt z x t)))
at_rank d (x ∷ xs) (suc i) a h =
    let y = get_or xs i d in
    let l : i < length xs = le_of_suc-le-suc h in
    rw (T_true (ltb x y) (lt→ltb x y (a.0 y (at_in d xs i l)))) (ap suc (at_rank d xs i a.1 l))
