-- The order of ℤ by certificates: a ≼ b is proved by writing b - a as a sum of products of what is not negative.
--   `below (a ∷ b ∷ []) (sq (a ⊖ b)) (search poly depth 30) done` proves `pos 2 *ℤ a *ℤ b ≼ a *ℤ a +ℤ b *ℤ b`.
-- A certificate is built of `sq z`, `num n`, `slack h` for h : a ≼ b, `slackℕ h` for h : m ≤ n, `nil (diff e)` for an equation e,
-- and of sums `⊞` and products `⊠` of these. If it is wrong, the message shows the polynomial that is left.
use Rattle.std.specs.Prelude.{◌≡◌, List, [], ◌∷◌, Bool, true, false, cond, ℕ, zero, suc, ◌+◌, ◌*◌, ◌-◌, ◌≤◌, T, ltb, ℤ, pos, negsuc, ◌+ℤ◌, ◌*ℤ◌, nat_abs, ◌≤ℤ◌, ◌<ℤ◌}
use Rattle.std.proofs.Common.{sym, ap, ap₂, ◌∙◌, subst, subst₂, le-add_right, add-sub_of_le, arith, leb→le, le→leb}
use Rattle.std.proofs.Math.Dec.{leb-zero, leb-suc-zero, leb-suc-suc}
use Rattle.std.proofs.Math.IntN.{suc_ℤ, +ℤ_idl, +ℤ_idr, +ℤ_one, +ℤ_invr, *ℤ-zero}
use Rattle.std.specs.Int.Signed.{le_z, lt_z, le_z_yes, lt_z_yes, ≤ℤ_refl}
use Rattle.ring.proofs.Ring.{Sides, rest, Left, done, ring, ints, poly, ◌⊖◌}

-- the order of `lib.Signed`, which binds tighter than a sum, under names that bind looser
infix 4 ◌≼◌ ◌≺◌
abbrev pub ◌≼◌ : ℤ → ℤ → Type 0
a ≼ b = a ≤ℤ b

abbrev pub ◌≺◌ : ℤ → ℤ → Type 0
a ≺ b = a <ℤ b

-- ---- an order is a difference that is a natural number
gap' : (a b : ℤ) → T (le_z a b) → (n : ℕ) × (b ≡ a +ℤ pos n)
gap' (pos a) (pos b) t = (b - a, ap pos (sym (add-sub_of_le (leb→le a b t))))
gap' (pos a) (negsuc b) t = absurd t
gap' (negsuc a) (pos b) t = (b + suc a, ring (pos b ∷ pos (suc a) ∷ []) (search poly depth 30) done)
gap' (negsuc a) (negsuc b) t =
    (a - b, e b (a - b) ∙ ap (λ (x : ℕ). negsuc x +ℤ pos (a - b)) (add-sub_of_le (leb→le b a t)))
  where
    e : (b d : ℕ) → negsuc b ≡ negsuc (b + d) +ℤ pos d
    e b d = ring (pos b ∷ pos d ∷ []) (search poly depth 30) done

pub gap : {a b : ℤ} → a ≼ b → (n : ℕ) × (b ≡ a +ℤ pos n)
gap {a} {b} h = gap' a b h.le

further : (a : ℤ) (n : ℕ) → T (le_z a (a +ℤ pos n))
further (pos a) n = le→leb a (a + n) (le-add_right a n)
further (negsuc a) n = go (ltb n (suc a))
  where
    go : (c : Bool) → T (le_z (negsuc a) (cond c (negsuc (suc a - suc n)) (pos (n - suc a))))
    go true = le→leb (suc a - suc n) a (omega arith)
    go false = tt

pub le_of_gap : {a b : ℤ} (n : ℕ) → b ≡ a +ℤ pos n → a ≼ b
le_of_gap {a} n e = subst (λ z. a ≼ z) (sym e) (le_z_yes (further a n))

-- ---- what is not negative: natural numbers, squares, sums, products, the slack of an order
pub num : (n : ℕ) → pos 0 ≼ pos n
num n = le_of_gap n (sym (+ℤ_idl (pos n)))

pub value : {z : ℤ} → pos 0 ≼ z → (n : ℕ) × (z ≡ pos n)
value h = ((gap h).0, (gap h).1 ∙ +ℤ_idl (pos (gap h).0))

pub sq : (z : ℤ) → pos 0 ≼ z *ℤ z
sq (pos n) = num (n * n)
sq (negsuc n) = num (suc n * suc n)

infixl 6 ◌⊞◌
pub ◌⊞◌ : {x y : ℤ} → pos 0 ≼ x → pos 0 ≼ y → pos 0 ≼ x +ℤ y
h ⊞ k = subst₂ (λ x y. pos 0 ≼ x +ℤ y) (sym (value h).1) (sym (value k).1) (num ((value h).0 + (value k).0))

infixl 7 ◌⊠◌
pub ◌⊠◌ : {x y : ℤ} → pos 0 ≼ x → pos 0 ≼ y → pos 0 ≼ x *ℤ y
h ⊠ k = subst₂ (λ x y. pos 0 ≼ x *ℤ y) (sym (value h).1) (sym (value k).1) (num ((value h).0 * (value k).0))

pub slack : {a b : ℤ} → a ≼ b → pos 0 ≼ b ⊖ a
slack {a} {b} h = le_of_gap (gap h).0 (ap (λ z. z ⊖ a) (gap h).1 ∙ ring (a ∷ pos (gap h).0 ∷ []) (search poly depth 30) done)

-- ---- the certificate: b is a and something that is not negative
pub below : (ρ : List ℤ) {a b d : ℤ} → pos 0 ≼ d → (s : Sides ρ b (a +ℤ d)) → Left (rest s) → a ≼ b
below ρ {a} h s t = le_of_gap (value h).0 (ring ρ s t ∙ ap (λ z. a +ℤ z) (value h).1)

-- ---- the same for a strict order, for natural numbers, and for a contradiction
-- a ≺ b is a + 1 ≼ b
pub lt_of_add_one_le : {a b : ℤ} → a +ℤ pos 1 ≼ b → a ≺ b
lt_of_add_one_le {a} {b} h = lt_z_yes (go a b (subst (λ z. z ≼ b) (+ℤ_one a) h).le)
  where
    go : (a b : ℤ) → T (le_z (suc_ℤ a) b) → T (lt_z a b)
    go (pos a) (pos b) t = t
    go (pos a) (negsuc b) t = t
    go (negsuc zero) (pos b) t = tt
    go (negsuc zero) (negsuc b) t = absurd t
    go (negsuc (suc a)) (pos b) t = tt
    go (negsuc (suc a)) (negsuc b) t = subst T (sym (leb-suc-suc b a)) t

pub add_one_le_of_lt : {a b : ℤ} → a ≺ b → a +ℤ pos 1 ≼ b
add_one_le_of_lt {a} {b} h = subst (λ z. z ≼ b) (sym (+ℤ_one a)) (le_z_yes (go a b h.lt))
  where
    go : (a b : ℤ) → T (lt_z a b) → T (le_z (suc_ℤ a) b)
    go (pos a) (pos b) t = t
    go (pos a) (negsuc b) t = t
    go (negsuc zero) (pos b) t = subst T (sym (leb-zero b)) tt
    go (negsuc zero) (negsuc b) t = subst T (leb-suc-zero b) t
    go (negsuc (suc a)) (pos b) t = tt
    go (negsuc (suc a)) (negsuc b) t = subst T (leb-suc-suc b a) t

pub strictly : (ρ : List ℤ) {a b d : ℤ} → pos 0 ≼ d → (s : Sides ρ b (a +ℤ pos 1 +ℤ d)) → Left (rest s) → a ≺ b
strictly ρ h s t = lt_of_add_one_le (below ρ h s t)

pub le_of_pos_le : {m n : ℕ} → pos m ≼ pos n → m ≤ n
le_of_pos_le {m} {n} h = leb→le m n h.le

pub pos_le : {m n : ℕ} → m ≤ n → pos m ≼ pos n
pos_le {m} {n} h = le_z_yes (le→leb m n h)

pub slackℕ : {m n : ℕ} → m ≤ n → pos 0 ≼ pos n ⊖ pos m
slackℕ h = slack (pos_le h)

pub belowℕ : (ρ : List ℕ) {m n : ℕ} {d : ℤ} → pos 0 ≼ d → (s : Sides (ints ρ) (pos n) (pos m +ℤ d)) → Left (rest s) → m ≤ n
belowℕ ρ h s t = le_of_pos_le (below (ints ρ) h s t)

pub refute : (ρ : List ℤ) {d : ℤ} → pos 0 ≼ d → (s : Sides ρ (pos 0) (pos 1 +ℤ d)) → Left (rest s) → ⊥
refute ρ h s t = (below ρ {a = pos 1} {b = pos 0} h s t).le

-- ---- an equation from equations: the two sides differ by a combination of what is zero
pub diff : {l r : ℤ} → l ≡ r → l ⊖ r ≡ pos 0
unfolding ◌⊖◌
diff {l} {r} e = ap (λ z. z ⊖ r) e ∙ +ℤ_invr r

infixl 6 ◌⊕◌
pub ◌⊕◌ : {x y : ℤ} → x ≡ pos 0 → y ≡ pos 0 → x +ℤ y ≡ pos 0
e ⊕ f = ap₂ ◌+ℤ◌ e f

infixr 7 ◌⊙◌
pub ◌⊙◌ : (c : ℤ) {x : ℤ} → x ≡ pos 0 → c *ℤ x ≡ pos 0
c ⊙ e = ap (λ z. c *ℤ z) e ∙ *ℤ-zero c

pub equal : (ρ : List ℤ) {x y d : ℤ} → d ≡ pos 0 → (s : Sides ρ x (y +ℤ d)) → Left (rest s) → x ≡ y
equal ρ {y = y} e s t = ring ρ s t ∙ ap (λ z. y +ℤ z) e ∙ +ℤ_idr y

pub diffℕ : {m n : ℕ} → m ≡ n → pos m ⊖ pos n ≡ pos 0
diffℕ e = diff (ap pos e)

pub equalℕ : (ρ : List ℕ) {m n : ℕ} {d : ℤ} → d ≡ pos 0 → (s : Sides (ints ρ) (pos m) (pos n +ℤ d)) → Left (rest s) → m ≡ n
equalℕ ρ {m} {n} e s t = ap nat_abs {x = pos m} {y = pos n} (equal (ints ρ) e s t)

-- an equation in a certificate
pub nil : {d : ℤ} → d ≡ pos 0 → pos 0 ≼ d
nil e = le_of_gap 0 e

-- ---- the order's laws
pub ≼_of_eq : {a b : ℤ} → a ≡ b → a ≼ b
≼_of_eq {a} e = subst (λ z. a ≼ z) e (≤ℤ_refl a)

pub ≼_antisym : {a b : ℤ} → a ≼ b → b ≼ a → a ≡ b
≼_antisym {a} {b} h k = go (gap h).0 (gap h).1
  where
    go : (n : ℕ) → b ≡ a +ℤ pos n → a ≡ b
    go zero e = sym (e ∙ +ℤ_idr a)
    go (suc n) e = absurd (refute (a ∷ b ∷ pos n ∷ []) (slack k ⊞ num n ⊞ nil (diff e)) (search poly depth 9) done)

-- what `search nonneg` proves is not negative: sums and products of squares, natural numbers and hypotheses
pub ruleset nonneg = (sq, num, ◌⊞◌, ◌⊠◌)
