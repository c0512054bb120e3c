-- Each operation on polynomials is right.
use Rattle.std.specs.Prelude.{◌≡◌, refl, List, [], ◌∷◌, Bool, true, false, T, eqb, ℤ, pos, negsuc, ◌+ℤ◌, ◌*ℤ◌}
use Rattle.std.proofs.Common.{sym, ap, ap₂, ◌∙◌, eqb→eq}
use Prim.Native.Nat.{ℕ, zero, suc, compare, Ordering}
use Rattle.std.proofs.Math.Dec.{compare_is_eq}
use Rattle.std.proofs.Math.IntN.{pow, one, +ℤ_idl, +ℤ_assoc, zero-*ℤ, *ℤ-zero}
use Rattle.ring.specs.Int.{+ℤ_left_comm, +ℤ_swap, add_*ℤ, *ℤ_add, *ℤ_assoc, *ℤ_left_comm, *ℤ_swap, one_*ℤ}
use Rattle.ring.specs.Poly.{nth, mono, by_order, insert, join, order, Poly, total, weave, plus, scale, times, power, is_zero, keep, tidy, none, more}

by_order_ind : {A : Type 0} (P : A → Type 0) (o : Ordering) {a b c : A} → P a → (T (compare_is_eq o) → P b) → P c → P (by_order o a b c)
by_order_ind P Ordering.lt a b c = a
by_order_ind P Ordering.eq a b c = b tt
by_order_ind P Ordering.gt a b c = c

insert_is : (ρ : List ℤ) (i : ℕ) (m : List ℕ) → mono ρ (insert i m) ≡ nth ρ i *ℤ mono ρ m
insert_is ρ i [] = refl
insert_is ρ i (j ∷ m) =
    by_order_ind (λ x. mono ρ x ≡ nth ρ i *ℤ (nth ρ j *ℤ mono ρ m)) (compare i j) refl (λ t. refl)
    (ap (λ x. nth ρ j *ℤ x) (insert_is ρ i m) ∙ *ℤ_left_comm (nth ρ j) (nth ρ i) (mono ρ m))

join_is : (ρ : List ℤ) (m n : List ℕ) → mono ρ (join m n) ≡ mono ρ m *ℤ mono ρ n
join_is ρ [] n = sym (one_*ℤ (mono ρ n))
join_is ρ (i ∷ m) n = insert_is ρ i (join m n) ∙ ap (λ x. nth ρ i *ℤ x) (join_is ρ m n) ∙ sym (*ℤ_assoc (nth ρ i) (mono ρ m) (mono ρ n))

order_is : (m n : List ℕ) → T (compare_is_eq (order m n)) → m ≡ n
order_is [] [] t = refl
order_is [] (j ∷ n) t = absurd t
order_is (i ∷ m) [] t = absurd t
order_is (i ∷ m) (j ∷ n) t = go (compare i j) (λ x. x) (order_is m n) t
  where
    go : (o : Ordering) → (T (compare_is_eq o) → T (eqb i j)) → (T (compare_is_eq (order m n)) → m ≡ n) → T (compare_is_eq (by_order o Ordering.lt (order m n) Ordering.gt)) → (i ∷ m) ≡ (j ∷ n)
    go Ordering.lt f h u = absurd u
    go Ordering.eq f h u = ap₂ ◌∷◌ (eqb→eq i j (f tt)) (h u)
    go Ordering.gt f h u = absurd u

weave_is : (ρ : List ℤ) (k : ℤ) (m : List ℕ) (rest : Poly → Poly) (s : ℤ) → ((q : Poly) → total ρ (rest q) ≡ s +ℤ total ρ q)
    → (q : Poly) → total ρ (weave k m rest q) ≡ (k *ℤ mono ρ m +ℤ s) +ℤ total ρ q
weave_is ρ k m rest s h none = ap (λ x. k *ℤ mono ρ m +ℤ x) (h none) ∙ sym (+ℤ_assoc (k *ℤ mono ρ m) s (pos 0))
weave_is ρ k m rest s h (more j n q) =
    by_order_ind (λ x. total ρ x ≡ (k *ℤ mono ρ m +ℤ s) +ℤ (j *ℤ mono ρ n +ℤ total ρ q)) (order m n)
    (ap (λ x. k *ℤ mono ρ m +ℤ x) (h (more j n q)) ∙ sym (+ℤ_assoc (k *ℤ mono ρ m) s (j *ℤ mono ρ n +ℤ total ρ q)))
    (λ t. ap₂ ◌+ℤ◌ (add_*ℤ k j (mono ρ n) ∙ ap (λ x. k *ℤ mono ρ x +ℤ j *ℤ mono ρ n) (sym (order_is m n t))) (h q) ∙ +ℤ_swap (k *ℤ mono ρ m) (j *ℤ mono ρ n) s (total ρ q))
    (ap (λ x. j *ℤ mono ρ n +ℤ x) (weave_is ρ k m rest s h q) ∙ +ℤ_left_comm (j *ℤ mono ρ n) (k *ℤ mono ρ m +ℤ s) (total ρ q))

pub plus_is : (ρ : List ℤ) (p q : Poly) → total ρ (plus p q) ≡ total ρ p +ℤ total ρ q
plus_is ρ none q = sym (+ℤ_idl (total ρ q))
plus_is ρ (more k m p) q = weave_is ρ k m (plus p) (total ρ p) (plus_is ρ p) q

pub scale_is : (ρ : List ℤ) (k : ℤ) (m : List ℕ) (p : Poly) → total ρ (scale k m p) ≡ (k *ℤ mono ρ m) *ℤ total ρ p
scale_is ρ k m none = sym (*ℤ-zero (k *ℤ mono ρ m))
scale_is ρ k m (more j n p) =
    ap₂ ◌+ℤ◌ (ap (λ x. (k *ℤ j) *ℤ x) (join_is ρ m n) ∙ *ℤ_swap k j (mono ρ m) (mono ρ n)) (scale_is ρ k m p)
    ∙ sym (*ℤ_add (k *ℤ mono ρ m) (j *ℤ mono ρ n) (total ρ p))

pub times_is : (ρ : List ℤ) (p q : Poly) → total ρ (times p q) ≡ total ρ p *ℤ total ρ q
times_is ρ none q = sym (zero-*ℤ (total ρ q))
times_is ρ (more k m p) q =
    plus_is ρ (scale k m q) (times p q) ∙ ap₂ ◌+ℤ◌ (scale_is ρ k m q) (times_is ρ p q) ∙ sym (add_*ℤ (k *ℤ mono ρ m) (total ρ p) (total ρ q))

pub power_is : (ρ : List ℤ) (p : Poly) (n : ℕ) → total ρ (power p n) ≡ pow (total ρ p) n
unfolding pow one
power_is ρ p zero = refl
power_is ρ p (suc n) = times_is ρ (power p n) p ∙ ap (λ x. x *ℤ total ρ p) (power_is ρ p n)

zero_is : (k : ℤ) → T (is_zero k) → k ≡ pos 0
zero_is (pos n) t = ap pos (eqb→eq n 0 t)
zero_is (negsuc n) t = absurd t

pub tidy_is : (ρ : List ℤ) (p : Poly) → total ρ (tidy p) ≡ total ρ p
tidy_is ρ none = refl
tidy_is ρ (more k m p) = go (is_zero k) (zero_is k) ∙ ap (λ x. k *ℤ mono ρ m +ℤ x) (tidy_is ρ p)
  where
    go : (b : Bool) → (T b → k ≡ pos 0) → total ρ (keep b k m (tidy p)) ≡ k *ℤ mono ρ m +ℤ total ρ (tidy p)
    go true f = sym (ap (λ x. x +ℤ total ρ (tidy p)) (ap (λ x. x *ℤ mono ρ m) (f tt) ∙ zero-*ℤ (mono ρ m)) ∙ +ℤ_idl (total ρ (tidy p)))
    go false f = refl
