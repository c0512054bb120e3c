-- Loops: the lowest that passes a test, the words of a part that pass a test counted, a sum over numbers that may stop early, a column that is filled.
use Rattle.std.specs.Prelude.{◌≡◌, refl, ◌⊎◌, Bool, true, false, ◌&&◌, cond, List, [], ◌∷◌, ℕ, suc, ◌+◌, ◌-◌, ◌<◌, ◌≤◌, T, leb, length, drop, get_or, set}
use Rattle.std.proofs.Common.{sym, ap, ap₂, ◌∙◌, subst, inl, inr, arith, le_of_lt, add-one, leb→le, le→leb, drop-cons}
use Rattle.std.proofs.Math.Seq.{drop-length}
use Rattle.lists.specs.Lists.{from, numbers, keep, how_many, total, head_or, In}
use Rattle.lists.specs.Words.{over, part, column, rest}
use Rattle.lists.specs.ListLaws.{true_T, T_true, T_false, and_left, and_right, and_both, keep_in, in_keep, at_in, head_in, numbers_in, in_numbers, length_numbers}
use Rattle.lists.specs.CountLaws.{keep_none, how_many_cons}
use Rattle.lists.specs.OrderLaws.{numbers_ascending, keep_ascending, head_lowest}
use Rattle.lists.proofs.WordLaws.{over_length, over_nil, over_snoc}
use Rattle.lists.proofs.PartLaws.{part_under, part_step, column_snoc, column_part}

-- ---- what is left of the numbers
pub rest_start : (n : ℕ) → rest n 0 ≡ numbers n
rest_start n = let e : n - 0 ≡ n = omega arith in ap numbers e

pub rest_step : (n j : ℕ) → j < n → rest n j ≡ j ∷ rest n (j + 1)
rest_step n j h =
    let e : n - j ≡ suc (n - (j + 1)) = omega arith in
    ap (from j) e ∙ ap (λ (z : ℕ). j ∷ from z (n - (j + 1))) (sym (add-one j))

pub rest_end : (n j : ℕ) → n ≤ j → rest n j ≡ []
rest_end n j h = let e : n - j ≡ 0 = omega arith in ap (from j) e

-- ---- the lowest of xs that passes f: b is that of the first j, d if there is none
pub record Lowest (f : ℕ → Bool) (d : ℕ) (xs : List ℕ) (b j : ℕ) : Type 0 where
  pub high : j ≤ length xs
  pub found : (b ≡ d) ⊎ (In b xs × T (f b))
  pub least : (x : ℕ) → In x xs → T (f x) → (b ≤ x) ⊎ In x (drop j xs)

pub lowest_start : (f : ℕ → Bool) (d : ℕ) (xs : List ℕ) → Lowest f d xs d 0
lowest_start f d xs = record { high = omega arith; found = inl refl; least = λ x i t. inr i }

module _ {f : ℕ → Bool} {d : ℕ} {xs : List ℕ} {b j : ℕ} (s : Lowest f d xs b j) where
  module _ (h : j < length xs) {x : ℕ} (e : x ≡ get_or xs j 0) where
    least_next : (a : ℕ) → a ≤ b → (T (f x) → a ≤ x) → (y : ℕ) → In y xs → T (f y) → (a ≤ y) ⊎ In y (drop (j + 1) xs)
    least_next a l m y i t = elim (s.least y i t) [ inl q ↦ inl (omega arith) | inr k ↦ next (subst (In y) (drop-cons xs j 0 h) k) ]
      where
        next : In y (get_or xs j 0 ∷ drop (suc j) xs) → (a ≤ y) ⊎ In y (drop (j + 1) xs)
        next (inl q) = inl (omega (arith, m (subst (λ (z : ℕ). T (f z)) (q ∙ sym e) t)))
        next (inr k) = inr (subst (λ (z : ℕ). In y (drop z xs)) (sym (add-one j)) k)

    pub lowest_same : (T (f x) → b ≤ x) → Lowest f d xs b (j + 1)
    lowest_same m = record { high = omega arith; found = s.found; least = least_next b (omega arith) m }

    pub lowest_less : x < b → f x ≡ true → Lowest f d xs x (j + 1)
    lowest_less l t = record {
      high = omega arith;
      found = inr (subst (λ (z : ℕ). In z xs) (sym e) (at_in 0 xs j h), true_T t);
      least = least_next x (omega arith) (λ u. omega arith);
    }

  -- where xs has numbers below d that pass g, in any order, and all of them that pass f too
  module _ (l : length xs ≤ j) (g : ℕ → Bool) (sound : (x : ℕ) → In x xs → (x < d) × T (g x)) (complete : (x : ℕ) → x < d → T (g x) → T (f x) → In x xs) where
    abbrev both : ℕ → Bool
    both x = g x && f x

    all : drop j xs ≡ []
    all = let e : j ≡ length xs = omega (arith, s.high) in ap (λ (z : ℕ). drop z xs) e ∙ drop-length xs

    lower : (x : ℕ) → In x (numbers d) → T (both x) → b ≤ x
    lower x i t =
        let u = and_right (g x) (f x) t in
        elim (s.least x (complete x (in_numbers d x i) (and_left (g x) (f x) t) u) u) [ inl q ↦ q | inr k ↦ absurd (subst (In x) all k) ]

    pub lowest_end : (b ≡ head_or d (keep both (numbers d))) × (b ≤ d)
    lowest_end = elim s.found [ inl e ↦ (none e, omega arith) | inr p ↦ let q = sound b p.0 in (some q p.1, le_of_lt q.0) ]
      where
        none : b ≡ d → b ≡ head_or d (keep both (numbers d))
        none e = e ∙ ap (head_or d) (sym (keep_none both (numbers d) (λ x i t. omega (arith, lower x i t, in_numbers d x i))))

        some : (b < d) × T (g b) → T (f b) → b ≡ head_or d (keep both (numbers d))
        some q t =
            let ys = keep both (numbers d) in
            let i = keep_in both b (numbers d) (numbers_in d b q.0) (and_both (g b) (f b) q.1 t) in
            let z = in_keep both (head_or d ys) (numbers d) (head_in d b ys i) in
            omega (arith, lower (head_or d ys) z.0 z.1, head_lowest d ys (keep_ascending both (numbers d) (numbers_ascending d)) b i)

-- ---- the words from place p to the end: `all` of those from the start on pass f, and m of those before p
pub record Scan (f : ℕ → Bool) (w : List ℕ) (base end all m p : ℕ) : Type 0 where
  pub fit : base + end ≤ length w
  pub high : p ≤ end
  pub low : m ≤ p
  pub sum : m + how_many f (part w (base + p) (end - p)) ≡ all

pub scan_start : {f : ℕ → Bool} {w : List ℕ} {base end p : ℕ} {xs : List ℕ} → base + end ≤ length w → p ≤ end → part w (base + p) (end - p) ≡ xs → Scan f w base end (how_many f xs) 0 p
scan_start {f} {w} {base} {end} {p} h l e = record { fit = h; high = l; low = omega arith; sum = omega (arith, ap (how_many f) e) }

module _ {f : ℕ → Bool} {w : List ℕ} {base end all m p : ℕ} (s : Scan f w base end all m p) where
  module _ (l : p < end) where
    first : part w (base + p) (end - p) ≡ get_or w (base + p) 0 ∷ part w (base + (p + 1)) (end - (p + 1))
    first = part_step w base end p s.fit l

    left : (b : Bool) → f (get_or w (base + p) 0) ≡ b → how_many f (part w (base + p) (end - p)) ≡ cond b 1 0 + how_many f (part w (base + (p + 1)) (end - (p + 1)))
    left b t = ap (how_many f) first ∙ how_many_cons f (get_or w (base + p) 0) (part w (base + (p + 1)) (end - (p + 1))) ∙ ap (λ (a : Bool). cond a 1 0 + how_many f (part w (base + (p + 1)) (end - (p + 1)))) t

    module _ {x : ℕ} (q : x ≡ get_or w (base + p) 0) where
      pub scan_hit : f x ≡ true → Scan f w base end all (m + 1) (p + 1)
      scan_hit t = record { fit = s.fit; high = omega arith; low = omega (arith, s.low); sum = omega (arith, s.sum, left true (ap f (sym q) ∙ t)) }

      pub scan_miss : f x ≡ false → Scan f w base end all m (p + 1)
      scan_miss t = record { fit = s.fit; high = omega arith; low = omega (arith, s.low); sum = omega (arith, s.sum, left false (ap f (sym q) ∙ t)) }

  pub scan_end : end ≤ p → m ≡ all
  scan_end l =
      let e : end - p ≡ 0 = omega arith in
      omega (arith, s.sum, ap (λ (k : ℕ). how_many f (part w (base + p) k)) e)

-- ---- whether a sum of f over the numbers below n is at least `least`: m is the sum of those before j
pub record Sum (f : ℕ → ℕ) (n least m j : ℕ) : Type 0 where
  pub high : j ≤ n
  pub sum : m + total f (rest n j) ≡ total f (numbers n)
  pub low : m < least

pub sum_start : {f : ℕ → ℕ} {n least : ℕ} → 0 < least → Sum f n least 0 0
sum_start {f} {n} h = record { high = omega arith; sum = omega (arith, ap (total f) (rest_start n)); low = h }

module _ {f : ℕ → ℕ} {n least m j : ℕ} (s : Sum f n least m j) where
  module _ (h : j < n) {x : ℕ} (e : x ≡ f j) where
    pub sum_le : m + x ≤ total f (numbers n)
    sum_le = omega (arith, e, s.sum, ap (total f) (rest_step n j h))

    pub sum_stop : least ≤ m + x → leb least (total f (numbers n)) ≡ true
    sum_stop k = T_true (leb least (total f (numbers n))) (le→leb least (total f (numbers n)) (omega (arith, sum_le)))

    pub sum_more : m + x < least → Sum f n least (m + x) (j + 1)
    sum_more k = record { high = omega arith; sum = omega (arith, e, s.sum, ap (total f) (rest_step n j h)); low = k }

  pub sum_end : n ≤ j → leb least (total f (numbers n)) ≡ false
  sum_end h = T_false (leb least (total f (numbers n))) (λ t. omega (arith, leb→le least (total f (numbers n)) t, s.low, s.sum, ap (total f) (rest_end n j h)))

-- ---- a column is filled
pub record Fill {A : Type 0} (h : ℕ → A) (w₀ : List A) (a n : ℕ) (v : List A) (i : ℕ) : Type 0 where
  pub fit : a + n ≤ length w₀
  pub high : i ≤ n
  pub work : v ≡ over w₀ a (column h i)

pub fill_start : {A : Type 0} {h : ℕ → A} {w₀ : List A} {a n : ℕ} → a + n ≤ length w₀ → Fill h w₀ a n w₀ 0
fill_start {A} {h} {w₀} {a} k = record { fit = k; high = omega arith; work = sym (over_nil w₀ a) }

module _ {A : Type 0} {h : ℕ → A} {w₀ : List A} {a n : ℕ} {v : List A} {i : ℕ} (c : Fill h w₀ a n v i) where
  pub fill_length : length v ≡ length w₀
  fill_length = ap length c.work ∙ over_length w₀ a (column h i) (omega (arith, length_numbers h i, c.high, c.fit))

  pub fill_step : i < n → (x : A) (k : ℕ) → k ≡ a + i → x ≡ h i → Fill h w₀ a n (set v k x) (i + 1)
  fill_step m x k e f = record {
    fit = c.fit;
    high = omega arith;
    work = ap₂ (λ (z : List A) (u : A). set z k u) c.work f
        ∙ over_snoc w₀ a k (column h i) (h i) (omega (arith, length_numbers h i)) (omega (arith, c.fit))
        ∙ ap (over w₀ a) (sym (column_snoc h i));
  }

  pub fill_under : (b m : ℕ) → b + m ≤ a → part v b m ≡ part w₀ b m
  fill_under b m k = ap (λ (z : List A). part z b m) c.work ∙ part_under w₀ b m a (column h i) k (omega (arith, c.fit))

  pub fill_end : n ≤ i → v ≡ over w₀ a (column h n)
  fill_end k = let e : i ≡ n = omega (arith, c.high) in c.work ∙ ap (λ (z : ℕ). over w₀ a (column h z)) e

-- the column is of words of another slice
pub fill_part : (xs : List ℕ) (b : ℕ) {w₀ v : List ℕ} {a n i : ℕ} → b + n ≤ length xs → Fill (λ j. get_or xs (b + j) 0) w₀ a n v i → n ≤ i → v ≡ over w₀ a (part xs b n)
fill_part xs b {w₀} {v} {a} {n} h c l = fill_end c l ∙ ap (over w₀ a) (column_part xs b n h)
