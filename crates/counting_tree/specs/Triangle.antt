-- N from a frame to itself is 0, and the triangle inequality between frames with as many channels, by squares.
use Rattle.std.specs.Prelude.{◌≡◌, refl, List, [], ◌∷◌, ℕ, ◌+◌, ◌*◌, ◌≤◌, ℤ, pos, negsuc, length}
use Rattle.std.proofs.Common.{ap, ap₂, arith}
use Rattle.std.proofs.Math.Nat.{suc_inj}
use Rattle.ring.specs.InnerProduct.{squares, Tri, none, more}
use Rattle.ring.proofs.InnerProductLaws.{triangle}
use Rattle.counting_tree.specs.Frames.{Frame, apart, squared}

apart_self : (x : ℤ) → apart x x ≡ 0
apart_self (pos a) = omega arith
apart_self (negsuc a) = omega arith

pub squared_self : (xs : Frame) → squared xs xs ≡ 0
squared_self [] = refl
squared_self (x ∷ xs) = ap₂ (λ (a b : ℕ). a * a + b) (apart_self x) (squared_self xs)

apart_triangle : (x y z : ℤ) → apart x z ≤ apart x y + apart y z
apart_triangle (pos a) (pos b) (pos c) = omega arith
apart_triangle (pos a) (pos b) (negsuc c) = omega arith
apart_triangle (pos a) (negsuc b) (pos c) = omega arith
apart_triangle (pos a) (negsuc b) (negsuc c) = omega arith
apart_triangle (negsuc a) (pos b) (pos c) = omega arith
apart_triangle (negsuc a) (pos b) (negsuc c) = omega arith
apart_triangle (negsuc a) (negsuc b) (pos c) = omega arith
apart_triangle (negsuc a) (negsuc b) (negsuc c) = omega arith

-- channel by channel
abbrev aparts : Frame → Frame → List ℕ
aparts [] ys = []
aparts (x ∷ xs) [] = []
aparts (x ∷ xs) (y ∷ ys) = apart x y ∷ aparts xs ys

squares_aparts : (xs ys : Frame) → squares (aparts xs ys) ≡ squared xs ys
squares_aparts [] ys = refl
squares_aparts (x ∷ xs) [] = refl
squares_aparts (x ∷ xs) (y ∷ ys) = ap (λ (n : ℕ). apart x y * apart x y + n) (squares_aparts xs ys)

tri_aparts : (xs ys zs : Frame) → length xs ≡ length ys → length ys ≡ length zs → Tri (aparts xs zs) (aparts xs ys) (aparts ys zs)
tri_aparts [] [] [] d e = none
tri_aparts [] [] (z ∷ zs) d e = absurd (omega arith)
tri_aparts [] (y ∷ ys) zs d e = absurd (omega arith)
tri_aparts (x ∷ xs) [] zs d e = absurd (omega arith)
tri_aparts (x ∷ xs) (y ∷ ys) [] d e = absurd (omega arith)
tri_aparts (x ∷ xs) (y ∷ ys) (z ∷ zs) d e = more (apart_triangle x y z) (tri_aparts xs ys zs (suc_inj d) (suc_inj e))

pub squared_triangle : (A B : ℕ) (xs ys zs : Frame) → length xs ≡ length ys → length ys ≡ length zs → squared xs ys ≤ A * A → squared ys zs ≤ B * B → squared xs zs ≤ (A + B) * (A + B)
squared_triangle A B xs ys zs d e h k =
    rw (← squares_aparts xs zs) (triangle A B (tri_aparts xs ys zs d e) (rw (← squares_aparts xs ys) at h) (rw (← squares_aparts ys zs) at k))
