-- Laws of hash buckets: hashes and buckets are in range, chains go on with one number more and under writing elsewhere, and a chain is walked from its latest number down.
use Rattle.std.specs.Prelude.{◌≡◌, refl, ◌⊎◌, Bool, true, false, cond, List, [], ◌∷◌, ℕ, zero, suc, ◌+◌, ◌*◌, ◌/◌, ◌^◌, ◌<◌, ◌≤◌, T, eqb, length, drop, get_or}
use Rattle.std.proofs.Common.{sym, ap, ap₂, subst, ◌∙◌, inl, inr, eq-or-lt_of_le, le_of_suc-le-suc, mod-lt, div-lt_iff_lt-mul, mul-lt-mul_of_pos_right, mul-le-mul, lt_of_le_of_lt, mul_comm, add-zero, add-one, arith, eqb→eq, drop-cons}
use Rattle.std.proofs.Math.Decide.{ℕ_discrete, dec_lt}
use Rattle.std.proofs.Math.Dec.{eqb_refl}
use Rattle.lists.specs.Words.{over, Clear}
use Rattle.lists.specs.ListLaws.{true_T, T_true, T_false}
use Rattle.lists.proofs.WordLaws.{over_length}
use Rattle.lists.proofs.PartLaws.{get_under, get_laid, get_above}
use Rattle.lists.specs.Buckets.{last_with, hashes, mix, hash_from, hash_of, bucket, in_bucket, Bucketed}

-- ---- hashes and buckets are in range
pub mix_below : (h e : ℕ) → mix h e < hashes
unfolding mix
mix_below h e = mod-lt ((h + e) * 1640531527 / 64) (omega arith)

pub hash_below : (h : ℕ) (es : List ℕ) → h < hashes → hash_from h es < hashes
hash_below h [] l = l
hash_below h (e ∷ es) l = hash_below (mix h e) es (mix_below h e)

-- the hash from number i on
pub hash_step : (es : List ℕ) (h i : ℕ) → i < length es → hash_from h (drop i es) ≡ hash_from (mix h (get_or es i 0)) (drop (i + 1) es)
hash_step es h i l = rw (add-one, drop-cons es i 0)

pub four_hash : (l : List ℕ) → length l ≡ 4 → {a b c d : ℕ} → a ≡ mix 0 (get_or l 0 0) → b ≡ mix a (get_or l 1 0) → c ≡ mix b (get_or l 2 0) → d ≡ mix c (get_or l 3 0) → d ≡ hash_of l
four_hash [] e p q r s = absurd (omega arith)
four_hash (x ∷ []) e p q r s = absurd (omega arith)
four_hash (x ∷ y ∷ []) e p q r s = absurd (omega arith)
four_hash (x ∷ y ∷ z ∷ []) e p q r s = absurd (omega arith)
four_hash (x ∷ y ∷ z ∷ u ∷ []) e p q r s = s ∙ ap (λ (h : ℕ). mix h u) (r ∙ ap (λ (h : ℕ). mix h z) (q ∙ ap (λ (h : ℕ). mix h y) p))
four_hash (x ∷ y ∷ z ∷ u ∷ v ∷ l) e p q r s = absurd (omega arith)

pub bucket_below : (n h : ℕ) → h < hashes → 0 < n → bucket n h < n
unfolding bucket
bucket_below n h l p = (div-lt_iff_lt-mul {k = hashes} (omega arith)).1 (subst (λ (x : ℕ). h * n < x) (mul_comm hashes n) (mul-lt-mul_of_pos_right l p))

pub product_fits : (h n : ℕ) → h < hashes → n < hashes → h * n < 2 ^ 64
product_fits h n a b = lt_of_le_of_lt (mul-le-mul {n₂ = 4294967295} {m₂ = 4294967295} (omega arith) (omega arith)) (omega arith)

-- ---- the greatest number that passes
module _ (f : ℕ → Bool) where
  pub last_le : (m : ℕ) → last_with f m ≤ m
  last_le zero = omega arith
  last_le (suc m) = go (f m) (last_le m)
    where
      go : (b : Bool) → last_with f m ≤ m → cond b (suc m) (last_with f m) ≤ suc m
      go true h = omega arith
      go false h = omega arith

  pub last_more : (m : ℕ) → last_with f (m + 1) ≡ cond (f m) (m + 1) (last_with f m)
  last_more m = rw add-one

  pub last_at : (c : ℕ) → T (f c) → last_with f (suc c) ≡ suc c
  last_at c t = rw (T_true (f c) t)

  -- the greatest passes
  pub last_hit : (m c : ℕ) → last_with f m ≡ suc c → T (f c)
  last_hit zero c e = absurd (omega arith)
  last_hit (suc m) c e = go (f m) refl (last_hit m c) e
    where
      go : (b : Bool) → f m ≡ b → (last_with f m ≡ suc c → T (f c)) → cond b (suc m) (last_with f m) ≡ suc c → T (f c)
      go true q r p = let s : m ≡ c = omega arith in subst (λ (x : ℕ). T (f x)) s (true_T q)
      go false q r p = r p

  -- and none above it does
  pub last_gap : (m d : ℕ) → last_with f m ≤ d → d < m → T (f d) → ⊥
  last_gap zero d l h t = omega arith
  last_gap (suc m) d l h t = go (f m) refl (last_gap m d) l
    where
      go : (b : Bool) → f m ≡ b → (last_with f m ≤ d → d < m → T (f d) → ⊥) → cond b (suc m) (last_with f m) ≤ d → ⊥
      go true q r p = omega arith
      go false q r p = elim (eq-or-lt_of_le (le_of_suc-le-suc h)) [
        | inl e ↦ subst T (ap f e ∙ q) t
        | inr k ↦ r p k t
      ]

  pub last_last : (m : ℕ) → last_with f (last_with f m) ≡ last_with f m
  last_last zero = refl
  last_last (suc m) = go (f m) refl (last_last m)
    where
      go : (b : Bool) → f m ≡ b → last_with f (last_with f m) ≡ last_with f m → last_with f (cond b (suc m) (last_with f m)) ≡ cond b (suc m) (last_with f m)
      go true q r = last_at m (true_T q)
      go false q r = r

-- what passes f passes b too: so the greatest that passes f is among those up to the greatest that passes b
pub last_within : (f b : ℕ → Bool) → ((c : ℕ) → T (f c) → T (b c)) → (m : ℕ) → last_with f (last_with b m) ≡ last_with f m
last_within f b e zero = refl
last_within f b e (suc m) = go (b m) refl (last_within f b e m)
  where
    go : (t : Bool) → b m ≡ t → last_with f (last_with b m) ≡ last_with f m → last_with f (cond t (suc m) (last_with b m)) ≡ cond (f m) (suc m) (last_with f m)
    go true q r = refl
    go false q r = r ∙ sym (ap (λ (t : Bool). cond t (suc m) (last_with f m)) (T_false (f m) (λ t. subst T q (e m t))))

pub last_same : (f h : ℕ → Bool) (m : ℕ) → ((c : ℕ) → c < m → f c ≡ h c) → last_with f m ≡ last_with h m
last_same f h zero e = refl
last_same f h (suc m) e = ap₂ (λ (t : Bool) (x : ℕ). cond t (suc m) x) (e m (omega arith)) (last_same f h m (λ c l. e c (omega arith)))

-- ---- a walk: e is 0, or one more than a number below m that passes
pub record Walk (f : ℕ → Bool) (m e : ℕ) : Type 0 where
  pub low : e ≤ m
  pub at : last_with f e ≡ e

module _ {f : ℕ → Bool} {m : ℕ} where
  pub walk_start : {e : ℕ} → e ≡ last_with f m → Walk f m e
  walk_start {e} q = record { low = omega (arith, q, last_le f m); at = ap (last_with f) q ∙ last_last f m ∙ sym q }

  module _ {e : ℕ} (W : Walk f m e) (c : ℕ) (q : e ≡ c + 1) where
    walk_hit : T (f c)
    walk_hit = last_hit f e c (W.at ∙ q ∙ add-one c)

    pub walk_next : {x : ℕ} → x ≡ last_with f c → Walk f m x × (x ≤ c)
    walk_next {x} p = (record { low = omega (arith, p, last_le f c, W.low); at = ap (last_with f) p ∙ last_last f c ∙ sym p }, omega (arith, p, last_le f c))

-- ---- the words
-- a word that is not written over
get_apart : (w : List ℕ) (b i : ℕ) (ws : List ℕ) → b ≤ length w → (b + length ws ≤ i) ⊎ (i < b) → get_or (over w b ws) i 0 ≡ get_or w i 0
get_apart w b i ws h (inl p) = get_above w b i ws p h
get_apart w b i ws h (inr p) = get_under w b i ws p h

get_one : (w : List ℕ) (a x : ℕ) → a ≤ length w → get_or (over w a (x ∷ [])) a 0 ≡ x
get_one w a x h = ap (λ (j : ℕ). get_or (over w a (x ∷ [])) j 0) (sym (add-zero a)) ∙ get_laid w a 0 (x ∷ []) (omega arith) h

-- no numbers
pub bucketed_none : {bucket_of : ℕ → ℕ} {n heads nexts : ℕ} {w : List ℕ} → Clear w heads n → Bucketed bucket_of n 0 heads nexts w
bucketed_none z = record { head = z; next = λ c h k. absurd (omega arith) }

module _ {bucket_of : ℕ → ℕ} {n m heads nexts : ℕ} {w : List ℕ} (B : Bucketed bucket_of n m heads nexts w) where
  -- words laid elsewhere
  pub bucketed_over : (b : ℕ) (ws : List ℕ) → b ≤ length w → (b + length ws ≤ heads) ⊎ (heads + n ≤ b) → (b + length ws ≤ nexts) ⊎ (nexts + m ≤ b) → Bucketed bucket_of n m heads nexts (over w b ws)
  bucketed_over b ws l p q = record {
    head = λ h k. get_apart w b (heads + h) ws l (elim p [ inl z ↦ inl (omega arith) | inr z ↦ inr (omega arith) ]) ∙ B.head h k;
    next = λ c k u. get_apart w b (nexts + c) ws l (elim q [ inl z ↦ inl (omega arith) | inr z ↦ inr (omega arith) ]) ∙ B.next c k u;
  }

  -- other names for the same buckets
  pub bucketed_same : (h : ℕ → ℕ) → ((c : ℕ) → c < m → bucket_of c ≡ h c) → Bucketed h n m heads nexts w
  bucketed_same h e = record {
    head = λ j k. B.head j k ∙ last_same (in_bucket bucket_of j) (in_bucket h j) m (λ c l. ap (λ (x : ℕ). eqb x j) (e c l));
    next = λ c l u.
        B.next c l (omega (arith, e c l))
        ∙ ap (λ (x : ℕ). last_with (in_bucket bucket_of x) c) (e c l)
        ∙ last_same (in_bucket bucket_of (h c)) (in_bucket h (h c)) c (λ d q. ap (λ (x : ℕ). eqb x (h c)) (e d (omega arith)));
  }

  -- the number m is put in its bucket, as `push` does
  module _ (inside : bucket_of m < n) (apart : heads + n ≤ nexts) (fit : nexts + m < length w) where
    abbrev b : ℕ
    b = bucket_of m

    abbrev x : ℕ
    x = get_or w (heads + b) 0

    abbrev w₁ : List ℕ
    w₁ = over w (nexts + m) (x ∷ [])

    abbrev w₂ : List ℕ
    w₂ = over w₁ (heads + b) ((m + 1) ∷ [])

    l₁ : length w₁ ≡ length w
    l₁ = over_length w (nexts + m) (x ∷ []) (omega arith)

    new_head : (h : ℕ) → h < n → get_or w₂ (heads + h) 0 ≡ last_with (in_bucket bucket_of h) (m + 1)
    new_head h k = elim (ℕ_discrete b h) [
      | yes e ↦
          ap (λ (j : ℕ). get_or w₂ (heads + j) 0) (sym e)
          ∙ get_one w₁ (heads + b) (m + 1) (omega (arith, l₁))
          ∙ sym (last_more (in_bucket bucket_of h) m ∙ ap (λ (t : Bool). cond t (m + 1) (last_with (in_bucket bucket_of h) m)) (T_true (eqb b h) (subst (λ (y : ℕ). T (eqb b y)) e (eqb_refl b))))
      | no e ↦
          get_apart w₁ (heads + b) (heads + h) ((m + 1) ∷ []) (omega (arith, l₁)) (side e)
          ∙ get_apart w (nexts + m) (heads + h) (x ∷ []) (omega arith) (inr (omega arith))
          ∙ B.head h k
          ∙ sym (last_more (in_bucket bucket_of h) m ∙ ap (λ (t : Bool). cond t (m + 1) (last_with (in_bucket bucket_of h) m)) (T_false (eqb b h) (λ t. e (eqb→eq b h t))))
    ]
      where
        side : (b ≡ h → ⊥) → (heads + b + 1 ≤ heads + h) ⊎ (heads + h < heads + b)
        side e = elim (dec_lt h b) [ yes l ↦ inr (omega arith) | no l ↦ inl (omega arith) ]

    new_next : (c : ℕ) → c < m + 1 → bucket_of c < n → get_or w₂ (nexts + c) 0 ≡ last_with (in_bucket bucket_of (bucket_of c)) c
    new_next c k u =
        get_apart w₁ (heads + b) (nexts + c) ((m + 1) ∷ []) (omega (arith, l₁)) (inl (omega arith))
        ∙ elim (eq-or-lt_of_le {n = c} {m = m} (omega arith)) [
          | inl e ↦ subst (λ (y : ℕ). get_or w₁ (nexts + y) 0 ≡ last_with (in_bucket bucket_of (bucket_of y)) y) (sym e) (get_one w (nexts + m) x (omega arith) ∙ B.head b inside)
          | inr l ↦ get_apart w (nexts + m) (nexts + c) (x ∷ []) (omega arith) (inr (omega arith)) ∙ B.next c l u
        ]

    pub bucketed_push : {v : List ℕ} → v ≡ w₂ → Bucketed bucket_of n (m + 1) heads nexts v
    bucketed_push e = subst (Bucketed bucket_of n (m + 1) heads nexts) (sym e) (record { head = new_head; next = new_next })

  -- a bucket is walked: on from c
  pub bucket_next : (h : ℕ) → h < n → {e : ℕ} (c : ℕ) → Walk (in_bucket bucket_of h) m e → e ≡ c + 1 → {x : ℕ} → x ≡ get_or w (nexts + c) 0 → x ≡ last_with (in_bucket bucket_of h) c
  bucket_next h l c W q p =
      let e : bucket_of c ≡ h = eqb→eq (bucket_of c) h (walk_hit W c q) in
      p ∙ B.next c (omega (arith, W.low)) (omega arith) ∙ ap (λ (y : ℕ). last_with (in_bucket bucket_of y) c) e
