-- Signed 16-bit counts: as natural numbers, and what is read back from their bits.
use mathlib.Core.Path.{◌≡◌, refl, sym, ap, ap₂, subst, ◌∙◌}
use mathlib.Core.Bool.{Bool, true, false, cond}
use mathlib.Core.List.{List, [], ◌∷◌, map}
use Prim.Native.Nat.{ℕ, zero, suc, ◌+◌, ◌-◌, ◌*◌, ◌^◌, ◌≤◌, ◌<◌}
use native.Mathlib.Nat.{mul-le-mul, lt_of_le_of_lt}
use native.Mathlib.Omega.{arith}
use borrow.Author.Tests.{ltb-true, ltb-false}
use lib.Dec.{T, ltb, lit<}
use lib.IntN.{ℤ, pos, negsuc, nat_abs, sub_ℕ, ◌-ℤ◌, ◌*ℤ◌}
use lib.Signed.{mag, non_neg}
use lib.ListN.{get_or, take, drop}
use lib.Seq.{get_or-take, get_or-drop}
use mir.Syntax.{w16, w64}
use mir.Val.{Val, SFits, to_z, of_z}
use mir.Facts.{to_z-of_z, sfits_widen}
use denote.Array.{each}
use denote.Shadow.{shadow}
use borrow.Kind.Array.{e_s_int}
use Rattle.lists.specs.Words.{part}
use Rattle.counting_tree.specs.Frames.{apart}
use Rattle.counting_tree.specs.Domain.{Count}

-- a count, read back
pub read : (c : ℤ) → mag c < 2 ^ 15 → to_z w16 (of_z w16 c) ≡ c
read c h = to_z-of_z {w = w16} (record { sfits = h })

-- a count in 64 bits
pub widened : (c : ℤ) → SFits w16 c → to_z w64 (of_z w64 (to_z w16 (of_z w16 c))) ≡ c
widened c f = ap (λ (z : ℤ). to_z w64 (of_z w64 z)) (to_z-of_z {w = w16} f) ∙ to_z-of_z {w = w64} (sfits_widen tt f)

-- ---- |a - b|, squared
difference : (a b : ℕ) → nat_abs (sub_ℕ a b) ≡ (a - b) + (b - a)
difference a b = by (ltb a b) refl
  where
    by : (t : Bool) → ltb a b ≡ t → nat_abs (cond t (negsuc (b - suc a)) (pos (a - b))) ≡ (a - b) + (b - a)
    by true e = let h = ltb-true a b e in omega arith
    by false e = let h = ltb-false a b e in omega arith

apart_is : (x y : ℤ) → nat_abs (x -ℤ y) ≡ apart x y
apart_is (pos a) (pos zero) = omega arith
apart_is (pos a) (pos (suc b)) = difference a (suc b)
apart_is (pos a) (negsuc b) = refl
apart_is (negsuc a) (pos zero) = difference 0 (suc a) ∙ omega arith
apart_is (negsuc a) (pos (suc b)) = omega arith
apart_is (negsuc a) (negsuc b) = difference (suc b) (suc a) ∙ omega arith

apart_small : (x y : ℤ) → SFits w16 x → SFits w16 y → apart x y < 65536
apart_small (pos a) (pos b) f g = omega (arith, f.sfits, g.sfits)
apart_small (pos a) (negsuc b) f g = omega (arith, f.sfits, g.sfits)
apart_small (negsuc a) (pos b) f g = omega (arith, f.sfits, g.sfits)
apart_small (negsuc a) (negsuc b) f g = omega (arith, f.sfits, g.sfits)

mag_le : (z : ℤ) → mag z ≤ nat_abs z
mag_le (pos n) = omega arith
mag_le (negsuc n) = omega arith

square_is : (z : ℤ) → z *ℤ z ≡ pos (nat_abs z * nat_abs z)
square_is (pos n) = refl
square_is (negsuc n) = refl

-- as the program subtracts and multiplies
abbrev far : ℤ → ℤ → ℤ
far a b = to_z w64 (of_z w64 (to_z w64 (of_z w64 (to_z w16 (of_z w16 a))) -ℤ to_z w64 (of_z w64 (to_z w16 (of_z w16 b)))))

pub record Squared (a b : ℤ) : Type 0 where
  pub difference : SFits w64 (to_z w64 (of_z w64 (to_z w16 (of_z w16 a))) -ℤ to_z w64 (of_z w64 (to_z w16 (of_z w16 b))))
  pub product : SFits w64 (far a b *ℤ far a b)
  pub natural : T (non_neg (to_z w64 (of_z w64 (far a b *ℤ far a b))))
  pub value : nat_abs (to_z w64 (of_z w64 (far a b *ℤ far a b))) ≡ apart a b * apart a b
  pub small : nat_abs (to_z w64 (of_z w64 (far a b *ℤ far a b))) ≤ 2 ^ 32

pub squared_of : (a b : ℤ) → SFits w16 a → SFits w16 b → Squared a b
squared_of a b f g =
    let m : ℕ = apart a b in
    let s : m < 65536 = apart_small a b f g in
    let q : m * m ≤ 2 ^ 32 = mul-le-mul {n₂ = 65536} {m₂ = 65536} (omega arith) (omega arith) in
    let e : to_z w64 (of_z w64 (to_z w16 (of_z w16 a))) -ℤ to_z w64 (of_z w64 (to_z w16 (of_z w16 b))) ≡ a -ℤ b = ap₂ ◌-ℤ◌ (widened a f) (widened b g) in
    let d : SFits w64 (a -ℤ b) = record { sfits = omega (arith, mag_le (a -ℤ b), apart_is a b) } in
    let h : far a b ≡ a -ℤ b = ap (λ (z : ℤ). to_z w64 (of_z w64 z)) e ∙ to_z-of_z d in
    let p : far a b *ℤ far a b ≡ pos (m * m) = ap (λ (z : ℤ). z *ℤ z) h ∙ square_is (a -ℤ b) ∙ ap (λ (k : ℕ). pos (k * k)) (apart_is a b) in
    let w : SFits w64 (pos (m * m)) = record { sfits = lt_of_le_of_lt q (lit< tt) } in
    let x : to_z w64 (of_z w64 (far a b *ℤ far a b)) ≡ pos (m * m) = ap (λ (z : ℤ). to_z w64 (of_z w64 z)) p ∙ to_z-of_z w in
    record {
      difference = subst (SFits w64) (sym e) d;
      product = subst (SFits w64) (sym p) w;
      natural = subst (λ (z : ℤ). T (non_neg z)) (sym x) tt;
      value = ap nat_abs x;
      small = subst (λ (z : ℤ). nat_abs z ≤ 2 ^ 32) (sym x) q;
    }

-- ---- the counts of a frame, from their start in the points
pub count_here : (ps : List ℤ) (start d k p : ℕ) → k < d → p ≡ start + k → get_or ps p (pos 0) ≡ get_or (part ps start d) k (pos 0)
count_here ps start d k p h e = ap (λ (q : ℕ). get_or ps q (pos 0)) e ∙ sym (get_or-take d (drop start ps) k (pos 0) h ∙ get_or-drop start ps k (pos 0))

pub take_map : {A B : Type 0} (f : A → B) (n : ℕ) (l : List A) → take n (map f l) ≡ map f (take n l)
take_map f zero l = refl
take_map f (suc n) [] = refl
take_map f (suc n) (x ∷ l) = ap (λ (r : List _). f x ∷ r) (take_map f n l)

-- ---- the elements of an array are counts, and past its end stands 0
pub held_count : (xs : List ℤ) (us : List Val) → shadow (each ℤ (e_s_int w16).ty.own_val xs us) → (k : ℕ) → Count (get_or xs k (pos 0))
held_count [] us p k = lit< tt
held_count (x ∷ xs) [] p k = absurd p
held_count (x ∷ xs) (u ∷ us) p zero = p.0.1
held_count (x ∷ xs) (u ∷ us) p (suc k) = held_count xs us p.1 k
