-- The ring laws of ℤ that `lib.IntN` lacks: the product distributes over the sum and is associative.
-- They serve to prove the solver; elsewhere `ring` proves such equations.
use Rattle.std.specs.Prelude.{◌≡◌, ℤ, pos, negsuc, neg_ℤ, ◌+ℤ◌, ◌-ℤ◌, ◌*ℤ◌}
use Rattle.std.proofs.Common.{sym, ap, ap₂, ◌∙◌, subst}
use Rattle.std.proofs.Math.IntN.{suc_ℤ, pred_ℤ, ℤ_ind, +ℤ_one, -ℤ_one, +ℤ_idl, +ℤ_idr, +ℤ_assoc, +ℤ_comm, +ℤ_invl, +ℤ-suc_ℤ, +ℤ-pred_ℤ, zero-*ℤ, *ℤ-one, *ℤ_comm, suc_ℤ-*ℤ, pred_ℤ-*ℤ, neg_ℤ-neg_ℤ, one}

-- induction, one step up or down at a time
ind : (P : ℤ → Type 0) → P (pos 0) → ((z : ℤ) → P z → P (suc_ℤ z)) → ((z : ℤ) → P z → P (pred_ℤ z)) → (k : ℤ) → P k
ind P z s p k = ℤ_ind P z (λ n h. subst P (sym (+ℤ_one (pos n))) (s (pos n) h)) (λ n h. subst P (sym (-ℤ_one (neg_ℤ (pos n)))) (p (neg_ℤ (pos n)) h)) k

pub +ℤ_left_comm : (a b c : ℤ) → a +ℤ (b +ℤ c) ≡ b +ℤ (a +ℤ c)
+ℤ_left_comm a b c = sym (+ℤ_assoc a b c) ∙ ap (λ x. x +ℤ c) (+ℤ_comm a b) ∙ +ℤ_assoc b a c

pub +ℤ_swap : (a b c d : ℤ) → (a +ℤ b) +ℤ (c +ℤ d) ≡ (a +ℤ c) +ℤ (b +ℤ d)
+ℤ_swap a b c d = +ℤ_assoc a b (c +ℤ d) ∙ ap (λ x. a +ℤ x) (+ℤ_left_comm b c d) ∙ sym (+ℤ_assoc a c (b +ℤ d))

pub add_*ℤ : (m n k : ℤ) → (m +ℤ n) *ℤ k ≡ m *ℤ k +ℤ n *ℤ k
add_*ℤ m n k = ind (λ z. (m +ℤ z) *ℤ k ≡ m *ℤ k +ℤ z *ℤ k)
    (ap (λ x. x *ℤ k) (+ℤ_idr m) ∙ sym (ap (λ x. m *ℤ k +ℤ x) (zero-*ℤ k) ∙ +ℤ_idr (m *ℤ k)))
    (λ z h. ap (λ x. x *ℤ k) (+ℤ-suc_ℤ m z) ∙ suc_ℤ-*ℤ (m +ℤ z) k ∙ ap (λ x. x +ℤ k) h ∙ +ℤ_assoc (m *ℤ k) (z *ℤ k) k ∙ ap (λ x. m *ℤ k +ℤ x) (sym (suc_ℤ-*ℤ z k)))
    (λ z h. ap (λ x. x *ℤ k) (+ℤ-pred_ℤ m z) ∙ pred_ℤ-*ℤ (m +ℤ z) k ∙ ap (λ x. x -ℤ k) h ∙ +ℤ_assoc (m *ℤ k) (z *ℤ k) (neg_ℤ k) ∙ ap (λ x. m *ℤ k +ℤ x) (sym (pred_ℤ-*ℤ z k)))
    n

pub *ℤ_add : (k m n : ℤ) → k *ℤ (m +ℤ n) ≡ k *ℤ m +ℤ k *ℤ n
*ℤ_add k m n = *ℤ_comm k (m +ℤ n) ∙ add_*ℤ m n k ∙ ap₂ ◌+ℤ◌ (*ℤ_comm m k) (*ℤ_comm n k)

-- a difference of zero
pub eq_of_sub : (x y : ℤ) → x +ℤ neg_ℤ y ≡ pos 0 → x ≡ y
eq_of_sub x y h = sym (+ℤ_idr x) ∙ ap (λ z. x +ℤ z) (sym (+ℤ_invl y)) ∙ sym (+ℤ_assoc x (neg_ℤ y) y) ∙ ap (λ z. z +ℤ y) h ∙ +ℤ_idl y

eq_neg : (x y : ℤ) → x +ℤ y ≡ pos 0 → x ≡ neg_ℤ y
eq_neg x y h = eq_of_sub x (neg_ℤ y) (ap (λ z. x +ℤ z) (neg_ℤ-neg_ℤ y) ∙ h)

neg_*ℤ : (m k : ℤ) → neg_ℤ m *ℤ k ≡ neg_ℤ (m *ℤ k)
neg_*ℤ m k = eq_neg (neg_ℤ m *ℤ k) (m *ℤ k) (sym (add_*ℤ (neg_ℤ m) m k) ∙ ap (λ x. x *ℤ k) (+ℤ_invl m) ∙ zero-*ℤ k)

pub *ℤ_assoc : (m n k : ℤ) → m *ℤ n *ℤ k ≡ m *ℤ (n *ℤ k)
*ℤ_assoc m n k = ind (λ z. z *ℤ n *ℤ k ≡ z *ℤ (n *ℤ k))
    (ap (λ x. x *ℤ k) (zero-*ℤ n) ∙ zero-*ℤ k ∙ sym (zero-*ℤ (n *ℤ k)))
    (λ z h. ap (λ x. x *ℤ k) (suc_ℤ-*ℤ z n) ∙ add_*ℤ (z *ℤ n) n k ∙ ap (λ x. x +ℤ n *ℤ k) h ∙ sym (suc_ℤ-*ℤ z (n *ℤ k)))
    (λ z h. ap (λ x. x *ℤ k) (pred_ℤ-*ℤ z n) ∙ add_*ℤ (z *ℤ n) (neg_ℤ n) k ∙ ap₂ ◌+ℤ◌ h (neg_*ℤ n k) ∙ sym (pred_ℤ-*ℤ z (n *ℤ k)))
    m

pub *ℤ_left_comm : (a b c : ℤ) → a *ℤ (b *ℤ c) ≡ b *ℤ (a *ℤ c)
*ℤ_left_comm a b c = sym (*ℤ_assoc a b c) ∙ ap (λ x. x *ℤ c) (*ℤ_comm a b) ∙ *ℤ_assoc b a c

pub *ℤ_swap : (a b c d : ℤ) → (a *ℤ b) *ℤ (c *ℤ d) ≡ (a *ℤ c) *ℤ (b *ℤ d)
*ℤ_swap a b c d = *ℤ_assoc a b (c *ℤ d) ∙ ap (λ x. a *ℤ x) (*ℤ_left_comm b c d) ∙ sym (*ℤ_assoc a c (b *ℤ d))

-- the products with 1 and -1, as numerals
pub *ℤ_pos_one : (k : ℤ) → k *ℤ pos 1 ≡ k
unfolding one
*ℤ_pos_one k = *ℤ-one k

pub one_*ℤ : (k : ℤ) → pos 1 *ℤ k ≡ k
one_*ℤ k = *ℤ_comm (pos 1) k ∙ *ℤ_pos_one k

pub minus_one_*ℤ : (k : ℤ) → negsuc 0 *ℤ k ≡ neg_ℤ k
minus_one_*ℤ k = neg_*ℤ (pos 1) k ∙ ap neg_ℤ (one_*ℤ k)
