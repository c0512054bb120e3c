-- Laws of a list in another order.
use Rattle.std.specs.Prelude.{◌≡◌, refl, ◌↔◌, ℕ, suc, ◌+◌, length}
use Rattle.std.proofs.Common.{ap, ap₂, ◌∙◌, inl, inr, arith}
use mathlib.Core.List.Permᴰ
use mathlib.Core.List.{List, Permᴰ}
use Rattle.lists.specs.Lists.{total, In}

module _ {A : Type 0} where
  perm_in : {xs ys : List A} (x : A) → Permᴰ xs ys → In x xs → In x ys
  perm_in x Permᴰ.nil i = i
  perm_in x (Permᴰ.cons e p) (inl q) = inl (q ∙ e)
  perm_in x (Permᴰ.cons e p) (inr i) = inr (perm_in x p i)
  perm_in x (Permᴰ.swap d e) (inl q) = inr (inl (q ∙ d))
  perm_in x (Permᴰ.swap d e) (inr (inl q)) = inl (q ∙ e)
  perm_in x (Permᴰ.swap d e) (inr (inr i)) = inr (inr i)
  perm_in x (Permᴰ.trans p q) i = perm_in x q (perm_in x p i)

  -- the same elements
  pub perm_same : {xs ys : List A} → Permᴰ xs ys → (x : A) → In x xs ↔ In x ys
  perm_same p x = (perm_in x p, perm_in x (Permᴰ.symm p))

  -- the same sum
  pub perm_total : {xs ys : List A} (f : A → ℕ) → Permᴰ xs ys → total f xs ≡ total f ys
  perm_total f Permᴰ.nil = refl
  perm_total f (Permᴰ.cons e p) = ap₂ ◌+◌ (ap f e) (perm_total f p)
  perm_total f (Permᴰ.swap d e) = omega (arith, ap f d, ap f e)
  perm_total f (Permᴰ.trans p q) = perm_total f p ∙ perm_total f q

  -- the same length
  pub perm_length : {xs ys : List A} → Permᴰ xs ys → length xs ≡ length ys
  perm_length Permᴰ.nil = refl
  perm_length (Permᴰ.cons e p) = ap suc (perm_length p)
  perm_length (Permᴰ.swap d e) = refl
  perm_length (Permᴰ.trans p q) = perm_length p ∙ perm_length q
