-- The frames in the points: how many there are, and where each stands.
use Rattle.std.specs.Prelude.{◌≡◌, refl, List, [], ◌∷◌, ℕ, zero, suc, ◌+◌, ◌*◌, ◌≤◌, ◌<◌, ℤ, pos, negsuc, length, get_or, take, drop}
use Rattle.std.proofs.Common.{sym, ap, ap₂, ◌∙◌, not-suc-le-zero, le_of_suc-le-suc, zero-mul, suc-mul, add_comm, mul-le-mul_right, le_trans, le_of_eq, arith, length-drop, length-take-le, drop-drop}
use Rattle.counting_tree.specs.Frames.{Frame, frames_in, apart, squared}

pub frames_length : (n d : ℕ) (ps : List ℤ) → length (frames_in n d ps) ≡ n
frames_length zero d ps = refl
frames_length (suc n) d ps = ap suc (frames_length n d (drop d ps))

-- frame i is the d counts from i × d on
pub frame_at : (n d : ℕ) (ps : List ℤ) (i : ℕ) → i < n → get_or (frames_in n d ps) i [] ≡ take d (drop (i * d) ps)
frame_at zero d ps i h = absurd (not-suc-le-zero h)
frame_at (suc n) d ps zero h = ap (λ (k : ℕ). take d (drop k ps)) (sym (zero-mul d))
frame_at (suc n) d ps (suc i) h =
    frame_at n d (drop d ps) i (le_of_suc-le-suc h) ∙ ap (take d) (drop-drop (i * d) d ps ∙ ap (λ (k : ℕ). drop k ps) (add_comm d (i * d) ∙ sym (suc-mul i d)))

-- where n frames fit, frame i ends inside the points
pub frame_inside : (n d len i : ℕ) → n * d ≤ len → i < n → i * d + d ≤ len
frame_inside n d len i h k = le_trans (le_of_eq (sym (suc-mul i d))) (le_trans (mul-le-mul_right d k) h)

pub frame_length : (n d : ℕ) (ps : List ℤ) (i : ℕ) → n * d ≤ length ps → i < n → length (get_or (frames_in n d ps) i []) ≡ d
frame_length n d ps i h k = ap length (frame_at n d ps i k) ∙ length-take-le d (drop (i * d) ps) (omega (arith, length-drop (i * d) ps, frame_inside n d (length ps) i h k))

-- ---- N is symmetric
apart_swap : (x y : ℤ) → apart x y ≡ apart y x
apart_swap (pos a) (pos b) = omega arith
apart_swap (pos a) (negsuc b) = omega arith
apart_swap (negsuc a) (pos b) = omega arith
apart_swap (negsuc a) (negsuc b) = omega arith

pub squared_swap : (xs ys : Frame) → squared xs ys ≡ squared ys xs
squared_swap [] [] = refl
squared_swap [] (y ∷ ys) = refl
squared_swap (x ∷ xs) [] = refl
squared_swap (x ∷ xs) (y ∷ ys) = ap₂ (λ (a b : ℕ). a * a + b) (apart_swap x y) (squared_swap xs ys)
