-- Laws of blocks: a raised count lies in the block of its edge alone, and a frame within the reach in one of the blocks around a frame; what passes a test, in parts.
use Rattle.std.specs.Prelude.{◌≡◌, refl, ◌⊎◌, Bool, true, false, not, ◌&&◌, cond, ℕ, zero, suc, ◌+◌, ◌-◌, ◌*◌, ◌/◌, ◌%◌, ◌^◌, ◌<◌, ◌≤◌, ℤ, pos, negsuc, ◌+ℤ◌, T, leb, eqb, length, take, drop, get_or, replicate}
use Rattle.std.proofs.Common.{sym, ap, ap₂, subst, ◌∙◌, inl, inr, div-one, mul_comm, mod-lt, mod-eq_of_lt, zero-add, div-add-mod', pow-suc, arith, T_not, leb→le, eqb→eq, pow_pos, le-ltb, eq-eqb, ne_eqb}
use mathlib.Core.List.Permᴰ
use mathlib.Core.List.{List, [], ◌∷◌, ◌++◌, map, Permᴰ}
use Rattle.std.proofs.Math.Nat.{div-div-eq-div-mul, mod-le, add-mod, add-mod_right, mul-div_left, mul-mod_left, zero-mod}
use Rattle.std.specs.Int.Signed.{mag}
use Rattle.std.proofs.Math.Dec.{nleb→lt, eqb_refl}
use Rattle.std.proofs.lemmas.List.{length-map}
use Rattle.ring.specs.Nat.{sq_le_back}
use Rattle.lists.specs.Lists.{keep, concat, In, Ascending}
use Rattle.lists.specs.Words.{over}
use Rattle.lists.specs.ListLaws.{true_T, T_or_not, both_ways, and_left, and_right, and_both, keep_same, map_same, at_map}
use Rattle.lists.specs.CountLaws.{keep_none}
use Rattle.counting_tree.specs.Frames.{Frame, apart, squared}
use Rattle.blocks.specs.Blocks.{raise, width, edge, edges_of, key_of, shifted, own_block, same_nats, spread, row_hash}

-- ---- raised counts
-- raising makes no two counts farther apart
pub raise_near : (a b : ℤ) → (raise a - raise b) + (raise b - raise a) ≤ apart a b
raise_near (pos a) (pos b) = omega arith
raise_near (pos a) (negsuc b) = omega arith
raise_near (negsuc a) (pos b) = omega arith
raise_near (negsuc a) (negsuc b) = omega arith

-- as the program raises it
pub raise_is : (c : ℤ) (x : ℕ) → mag c < 32768 → pos x ≡ c +ℤ pos 32768 → x ≡ raise c
raise_is c x h e = same (e ∙ go c h)
  where
    same : {m n : ℕ} → pos m ≡ pos n → m ≡ n
    same p = cc

    go : (c : ℤ) → mag c < 32768 → c +ℤ pos 32768 ≡ pos (raise c)
    go (pos n) f = refl
    go (negsuc n) f = rw (le-ltb 32768 (suc n) f)

-- ---- edges
module _ (w : ℕ) (p : 0 < w) where
  pub edge_le : (x : ℕ) → edge w x ≤ x
  edge_le x = omega arith

  pub edge_above : (x : ℕ) → x < edge w x + w
  edge_above x = omega (arith, mod-lt x p, mod-le x w)

  pub edge_multiple : (x : ℕ) → edge w x % w ≡ 0
  edge_multiple x =
      let e : edge w x ≡ x / w * w = omega (arith, div-add-mod' x w) in
      ap (λ (z : ℕ). z % w) e ∙ mul-mod_left (x / w) w

  -- a multiple of w and less than w more
  rest_mod : (e j : ℕ) → e % w ≡ 0 → j < w → (e + j) % w ≡ j
  rest_mod e j q h = add-mod e j w ∙ ap₂ (λ (a b : ℕ). (a + b) % w) q (mod-eq_of_lt h) ∙ ap (λ (z : ℕ). z % w) (zero-add j) ∙ mod-eq_of_lt h

  pub edge_is : (e x : ℕ) → e % w ≡ 0 → e ≤ x → x < e + w → edge w x ≡ e
  edge_is e x q h k =
      let a : x ≡ e + (x - e) = omega arith in
      let b : x % w ≡ x - e = ap (λ (z : ℕ). z % w) a ∙ rest_mod e (x - e) q (omega arith) in
      omega (arith, b)

  pub edge_div : (x : ℕ) → edge w x / w ≡ x / w
  edge_div x =
      let z : edge w x ≡ x / w * w = omega (arith, div-add-mod' x w) in
      ap (λ (y : ℕ). y / w) z ∙ mul-div_left (x / w) p

-- ---- what passes a test, in parts
-- in two parts, those that pass g first
pub parted : (f g : ℕ → Bool) (xs : List ℕ) → Permᴰ (keep (λ x. f x && g x) xs ++ keep (λ x. f x && not (g x)) xs) (keep f xs)
parted f g [] = Permᴰ.nil
parted f g (x ∷ xs) = go (f x) (g x) (keep (λ y. f y && g y) xs) (keep (λ y. f y && not (g y)) xs) (keep f xs) (parted f g xs)
  where
    go : (a b : Bool) (A B K : List ℕ) → Permᴰ (A ++ B) K → Permᴰ (cond (a && b) (x ∷ A) A ++ cond (a && not b) (x ∷ B) B) (cond a (x ∷ K) K)
    go true true A B K p = Permᴰ.cons refl p
    go true false A B K p = Permᴰ.trans (Permᴰ.middle x A B) (Permᴰ.cons refl p)
    go false b A B K p = p

-- by the value of h, where each that passes f has one of the values ks, in one part for each of these
pub by_values : (h : ℕ → ℕ) (f : ℕ → Bool) (ks xs : List ℕ) → Ascending ks → ((x : ℕ) → In x xs → T (f x) → In (h x) ks) → Permᴰ (concat (map (λ k. keep (λ x. f x && eqb (h x) k) xs) ks)) (keep f xs)
by_values h f [] xs a e = subst (Permᴰ []) (sym (keep_none f xs (λ x i t. e x i t))) Permᴰ.nil
by_values h f (k ∷ ks) xs a e =
    Permᴰ.trans
    (Permᴰ.append_left (keep (λ x. f x && eqb (h x) k) xs) (Permᴰ.trans (subst (λ (l : List (List ℕ)). Permᴰ (concat l) (concat (map (λ j. keep (λ x. (f x && not (eqb (h x) k)) && eqb (h x) j) xs) ks))) same (Permᴰ.refl _)) (by_values h (λ x. f x && not (eqb (h x) k)) ks xs a.1 left)))
    (parted f (λ x. eqb (h x) k) xs)
  where
    left : (x : ℕ) → In x xs → T (f x && not (eqb (h x) k)) → In (h x) ks
    left x i t = elim (e x i (and_left (f x) (not (eqb (h x) k)) t)) [
      | inl q ↦ absurd (T_not (eqb (h x) k) (and_right (f x) (not (eqb (h x) k)) t) (subst (λ (z : ℕ). T (eqb (h x) z)) q (eqb_refl (h x))))
      | inr j ↦ j
    ]

    same : map (λ j. keep (λ x. (f x && not (eqb (h x) k)) && eqb (h x) j) xs) ks ≡ map (λ j. keep (λ x. f x && eqb (h x) j) xs) ks
    same = map_same _ _ ks (λ j i. keep_same _ _ xs (λ x l. one (f x) (eqb (h x) k) (eqb (h x) j) (λ s t. omega (arith, a.0 j i, eqb→eq (h x) k s, eqb→eq (h x) j t))))
      where
        one : (b s t : Bool) → (T s → T t → ⊥) → (b && not s) && t ≡ b && t
        one true true true n = absurd (n tt tt)
        one true true false n = refl
        one true false t n = refl
        one false s t n = refl

pub concat_perm : (f g : ℕ → List ℕ) (xs : List ℕ) → ((x : ℕ) → In x xs → Permᴰ (f x) (g x)) → Permᴰ (concat (map f xs)) (concat (map g xs))
concat_perm f g [] e = Permᴰ.nil
concat_perm f g (x ∷ xs) e = Permᴰ.trans (Permᴰ.append_right (concat (map f xs)) (e x (inl refl))) (Permᴰ.append_left (g x) (concat_perm f g xs (λ y i. e y (inr i))))

-- ---- blocks
same_eqb : (a b c d : ℕ) → (a ≡ b → c ≡ d) → (c ≡ d → a ≡ b) → eqb a b ≡ eqb c d
same_eqb a b c d f g = both_ways (eqb a b) (eqb c d) (λ t. true_T (eq-eqb c d (f (eqb→eq a b t)))) (λ t. true_T (eq-eqb a b (g (eqb→eq c d t))))

pub nats_same : (xs : List ℕ) → T (same_nats xs xs)
nats_same [] = tt
nats_same (x ∷ xs) = and_both (eqb x x) (same_nats xs xs) (eqb_refl x) (nats_same xs)

pub same_nats_lem : (xs ys : List ℕ) → T (same_nats xs ys) → xs ≡ ys
same_nats_lem [] [] t = refl
same_nats_lem [] (y ∷ ys) t = absurd t
same_nats_lem (x ∷ xs) [] t = absurd t
same_nats_lem (x ∷ xs) (y ∷ ys) t = ap₂ ◌∷◌ (eqb→eq x y (and_left (eqb x y) (same_nats xs ys) t)) (same_nats_lem xs ys (and_right (eqb x y) (same_nats xs ys) t))

-- in each channel the raised counts of two frames differ by at most the reach
abbrev pub Within : ℕ → Frame → Frame → Type 0
Within reach [] [] = Unit {0}
Within reach [] (b ∷ g) = ⊥
Within reach (a ∷ f) [] = ⊥
Within reach (a ∷ f) (b ∷ g) = ((raise a - raise b) + (raise b - raise a) ≤ reach) × Within reach f g

pub within_of : (reach : ℕ) (f g : Frame) → length f ≡ length g → squared f g ≤ reach * reach → Within reach f g
within_of reach [] [] e h = tt
within_of reach [] (b ∷ g) e h = absurd (omega arith)
within_of reach (a ∷ f) [] e h = absurd (omega arith)
within_of reach (a ∷ f) (b ∷ g) e h = (omega (arith, raise_near a b, sq_le_back (apart a b) reach (omega arith)), within_of reach f g (omega arith) (omega arith))

module _ (reach : ℕ) where
  abbrev w : ℕ
  w = width reach

  -- the two edges that a count within the reach of x can have
  pub two_edges : (x y : ℕ) → (x - y) + (y - x) ≤ reach → (edge w y ≡ edge w (x - reach)) ⊎ (edge w y ≡ edge w (x - reach) + w)
  two_edges x y h = elim (T_or_not (leb (edge w (x - reach) + w) y)) [
    | inl t ↦ inr (edge_is w p (edge w (x - reach) + w) y (add-mod_right (edge w (x - reach)) w ∙ edge_multiple w p (x - reach)) (leb→le (edge w (x - reach) + w) y t) (high x y (edge w (x - reach)) h (edge_above w p (x - reach))))
    | inr f ↦ inl (edge_is w p (edge w (x - reach)) y (edge_multiple w p (x - reach)) (low x y (edge w (x - reach)) h (edge_le w p (x - reach))) (nleb→lt (edge w (x - reach) + w) y f))
  ]
    where
      p : 0 < 2 * reach + 1
      p = omega arith

      low : (x y a : ℕ) → (x - y) + (y - x) ≤ reach → a ≤ x - reach → a ≤ y
      low x y a h k = omega arith

      high : (x y a : ℕ) → (x - y) + (y - x) ≤ reach → x - reach < a + (2 * reach + 1) → y < a + (2 * reach + 1) + (2 * reach + 1)
      high x y a h k = omega arith

  -- the number of the block around f in which g lies
  abbrev pub which : Frame → Frame → ℕ
  which [] g = 0
  which (a ∷ f) [] = 0
  which (a ∷ f) (b ∷ g) = cond (eqb (edge w (raise b)) (edge w (raise a - reach))) 0 1 + 2 * which f g

  pub which_below : (f g : Frame) → which f g < 2 ^ length f
  which_below [] g = omega arith
  which_below (a ∷ f) [] = pow_pos (suc (length f))
  which_below (a ∷ f) (b ∷ g) = go (eqb (edge w (raise b)) (edge w (raise a - reach))) (which_below f g)
    where
      go : (t : Bool) → which f g < 2 ^ length f → cond t 0 1 + 2 * which f g < 2 ^ suc (length f)
      go true h = omega (arith, pow-suc 2 (length f))
      go false h = omega (arith, pow-suc 2 (length f))

  -- one channel
  bits : (e a v q r k : ℕ) → 0 < v → r < 2 → (e ≡ a) ⊎ (e ≡ a + v) → eqb e (a + v * r) && eqb k q ≡ eqb (cond (eqb e a) 0 1 + 2 * k) (q * 2 + r)
  bits e a v q zero k p l (inl h) = rw (eq-eqb e (a + v * 0) (omega arith), eq-eqb e a h) (same_eqb k q (0 + 2 * k) (q * 2 + 0) (λ z. omega arith) (λ z. omega arith))
  bits e a v q (suc zero) k p l (inl h) = rw (ne_eqb e (a + v * 1) (λ z. omega arith), eq-eqb e a h) (sym (ne_eqb (0 + 2 * k) (q * 2 + 1) (λ z. omega arith)))
  bits e a v q zero k p l (inr h) = rw (ne_eqb e (a + v * 0) (λ z. omega arith), ne_eqb e a (λ z. omega arith)) (sym (ne_eqb (1 + 2 * k) (q * 2 + 0) (λ z. omega arith)))
  bits e a v q (suc zero) k p l (inr h) = rw (eq-eqb e (a + v * 1) (omega arith), ne_eqb e a (λ z. omega arith)) (same_eqb k q (1 + 2 * k) (q * 2 + 1) (λ z. omega arith) (λ z. omega arith))
  bits e a v q (suc (suc r)) k p l h = absurd (omega arith)

  -- it is that block alone
  pub which_is : (f g : Frame) (m : ℕ) → Within reach f g → m < 2 ^ length f → same_nats (key_of w g) (shifted (width reach) (edges_of (width reach) reach f) m) ≡ eqb (which f g) m
  which_is [] [] m t h = let e : m ≡ 0 = omega arith in sym (eq-eqb 0 m (sym e))
  which_is [] (b ∷ g) m t h = absurd t
  which_is (a ∷ f) [] m t h = absurd t
  which_is (a ∷ f) (b ∷ g) m t h =
      ap (λ (s : Bool). eqb (edge w (raise b)) (edge w (raise a - reach) + w * (m % 2)) && s) (which_is f g (m / 2) t.1 (omega (arith, pow-suc 2 (length f))))
      ∙ bits (edge w (raise b)) (edge w (raise a - reach)) w (m / 2) (m % 2) (which f g) (omega arith) (mod-lt m (omega arith)) (two_edges (raise a) (raise b) t.0)
      ∙ ap (eqb (which (a ∷ f) (b ∷ g))) (div-add-mod' m 2)

-- edges moved by the bits of m, one by one
pub shifted_length : (w : ℕ) (es : List ℕ) (m : ℕ) → length (shifted w es m) ≡ length es
shifted_length w [] m = refl
shifted_length w (e ∷ es) m = ap suc (shifted_length w es (m / 2))

pub shifted_at : (w : ℕ) (es : List ℕ) (m k : ℕ) → k < length es → get_or (shifted w es m) k 0 ≡ get_or es k 0 + w * (m / 2 ^ k % 2)
shifted_at w [] m k h = absurd (omega arith)
shifted_at w (e ∷ es) m zero h = ap (λ (z : ℕ). e + w * (z % 2)) (sym (div-one m))
shifted_at w (e ∷ es) m (suc k) h = shifted_at w es (m / 2) k (omega arith) ∙ ap (λ (z : ℕ). get_or es k 0 + w * (z % 2)) (div-div-eq-div-mul m 2 (2 ^ k) ∙ ap (λ (z : ℕ). m / z) (sym (pow-suc 2 k ∙ mul_comm (2 ^ k) 2)))

-- a frame's own block is one of those around it
pub own_below : (w : ℕ) (es : List ℕ) (f : Frame) → own_block w es f < 2 ^ length f
own_below w [] f = pow_pos (length f)
own_below w (e ∷ es) [] = omega arith
own_below w (e ∷ es) (c ∷ f) = go (leb (e + w) (raise c)) (own_below w es f)
  where
    go : (t : Bool) → own_block w es f < 2 ^ length f → cond t 1 0 + 2 * own_block w es f < 2 ^ suc (length f)
    go true h = omega (arith, pow-suc 2 (length f))
    go false h = omega (arith, pow-suc 2 (length f))

-- ---- edges in an array of four, with zeros in the channels that are not used
pub array_at : (es : List ℕ) (k : ℕ) → length es ≤ 4 → get_or (over (replicate 4 0) 0 es) k 0 ≡ get_or es k 0
array_at [] zero h = refl
array_at [] (suc zero) h = refl
array_at [] (suc (suc zero)) h = refl
array_at [] (suc (suc (suc zero))) h = refl
array_at [] (suc (suc (suc (suc k)))) h = refl
array_at (a ∷ []) zero h = refl
array_at (a ∷ []) (suc zero) h = refl
array_at (a ∷ []) (suc (suc zero)) h = refl
array_at (a ∷ []) (suc (suc (suc zero))) h = refl
array_at (a ∷ []) (suc (suc (suc (suc k)))) h = refl
array_at (a ∷ b ∷ []) zero h = refl
array_at (a ∷ b ∷ []) (suc zero) h = refl
array_at (a ∷ b ∷ []) (suc (suc zero)) h = refl
array_at (a ∷ b ∷ []) (suc (suc (suc zero))) h = refl
array_at (a ∷ b ∷ []) (suc (suc (suc (suc k)))) h = refl
array_at (a ∷ b ∷ c ∷ []) k h = four a b c k
  where
    four : (a b c k : ℕ) → get_or {A = ℕ} (a ∷ b ∷ c ∷ 0 ∷ []) k 0 ≡ get_or (a ∷ b ∷ c ∷ []) k 0
    four a b c zero = refl
    four a b c (suc zero) = refl
    four a b c (suc (suc zero)) = refl
    four a b c (suc (suc (suc zero))) = refl
    four a b c (suc (suc (suc (suc k)))) = refl
array_at (a ∷ b ∷ c ∷ d ∷ []) k h = refl
array_at (a ∷ b ∷ c ∷ d ∷ x ∷ es) k h = absurd (omega arith)

module _ (w down : ℕ) (p : 0 < w) (f : Frame) (l : length f ≤ 4) where
  long : length (edges_of w down f) ≡ length f
  long = length-map f (λ c. edge w (raise c - down))

  -- they are multiples of the width
  pub array_multiple : (q : ℕ) → get_or (over (replicate 4 0) 0 (edges_of w down f)) q 0 % w ≡ 0
  array_multiple q = ap (λ (z : ℕ). z % w) (array_at (edges_of w down f) q (omega (arith, long))) ∙ each f q
    where
      each : (f : Frame) (q : ℕ) → get_or (edges_of w down f) q 0 % w ≡ 0
      each [] q = zero-mod w
      each (c ∷ f) zero = edge_multiple w p (raise c - down)
      each (c ∷ f) (suc q) = each f q

  -- which block of its row the first is
  pub array_along : 1 ≤ length f → get_or (over (replicate 4 0) 0 (edges_of w down f)) 0 0 / w ≡ (raise (get_or f 0 (pos 0)) - down) / w
  array_along h = ap (λ (z : ℕ). z / w) (array_at (edges_of w down f) 0 (omega (arith, long)) ∙ at_map (λ c. edge w (raise c - down)) (pos 0) 0 f 0 h) ∙ edge_div w p (raise (get_or f 0 (pos 0)) - down)

-- the row in the array
pub array_row : (w down : ℕ) (f : Frame) {d : ℕ} → length f ≡ d → d ≤ 4 → take (d - 1) (drop 1 (over (replicate 4 0) 0 (edges_of w down f))) ≡ edges_of w down (drop 1 f)
array_row w down [] e h = ap (λ (d : ℕ). take (d - 1) (drop 1 (over (replicate 4 0) 0 (edges_of w down [])))) (sym e)
array_row w down (a ∷ []) e h = ap (λ (d : ℕ). take (d - 1) (drop 1 (over (replicate 4 0) 0 (edges_of w down (a ∷ []))))) (sym e)
array_row w down (a ∷ b ∷ []) e h = ap (λ (d : ℕ). take (d - 1) (drop 1 (over (replicate 4 0) 0 (edges_of w down (a ∷ b ∷ []))))) (sym e)
array_row w down (a ∷ b ∷ c ∷ []) e h = ap (λ (d : ℕ). take (d - 1) (drop 1 (over (replicate 4 0) 0 (edges_of w down (a ∷ b ∷ c ∷ []))))) (sym e)
array_row w down (a ∷ b ∷ c ∷ x ∷ []) e h = ap (λ (d : ℕ). take (d - 1) (drop 1 (over (replicate 4 0) 0 (edges_of w down (a ∷ b ∷ c ∷ x ∷ []))))) (sym e)
array_row w down (a ∷ b ∷ c ∷ x ∷ y ∷ f) e h = absurd (omega arith)

-- a bit that is 0 moves nothing
none : (w x : ℕ) → x % 2 ≡ 0 → 0 + w * (x % 2) ≡ 0
none w x e = ap (λ (z : ℕ). 0 + w * z) e ∙ omega arith

-- the hash of a row in the array: the channels that are not used count as 0, which no bit of a row's number moves
pub array_hash : (w down : ℕ) (f : Frame) (r : ℕ) → length f ≤ 4 → r < 2 ^ (length f - 1) → row_hash (shifted w (drop 1 (over (replicate 4 0) 0 (edges_of w down f))) r) ≡ row_hash (shifted w (edges_of w down (drop 1 f)) r)
unfolding row_hash
array_hash w down [] r l h =
    let e : r ≡ 0 = omega arith in
    ap₂ ◌+◌ (ap₂ (λ (x y : ℕ). spread (x + 1) + spread (y + 65537)) (none w r (omega arith)) (none w (r / 2) (omega arith))) (ap (λ (x : ℕ). spread (x + 131073)) (none w (r / 2 / 2) (omega arith)))
array_hash w down (a ∷ []) r l h =
    let e : r ≡ 0 = omega arith in
    ap₂ ◌+◌ (ap₂ (λ (x y : ℕ). spread (x + 1) + spread (y + 65537)) (none w r (omega arith)) (none w (r / 2) (omega arith))) (ap (λ (x : ℕ). spread (x + 131073)) (none w (r / 2 / 2) (omega arith)))
array_hash w down (a ∷ b ∷ []) r l h =
    ap₂ (λ (x y : ℕ). spread (edge w (raise b - down) + w * (r % 2) + 1) + spread (x + 65537) + spread (y + 131073)) (none w (r / 2) (omega arith)) (none w (r / 2 / 2) (omega arith))
array_hash w down (a ∷ b ∷ c ∷ []) r l h =
    ap (λ (x : ℕ). spread (edge w (raise b - down) + w * (r % 2) + 1) + spread (edge w (raise c - down) + w * (r / 2 % 2) + 65537) + spread (x + 131073)) (none w (r / 2 / 2) (omega arith))
array_hash w down (a ∷ b ∷ c ∷ d ∷ []) r l h = refl
array_hash w down (a ∷ b ∷ c ∷ d ∷ x ∷ f) r l h = absurd (omega arith)
