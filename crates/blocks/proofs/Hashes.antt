-- The hash of a row from its parts, and those of all rows around a frame.
use mathlib.Core.Path.{◌≡◌, sym, ap, ap₂, ◌∙◌}
use mathlib.Core.List.{List, [], ◌∷◌, ◌++◌}
use Prim.Native.Nat.{ℕ, ◌+◌, ◌*◌, ◌/◌, ◌%◌, ◌<◌}
use native.Mathlib.Nat.{mod-lt}
use native.Mathlib.Omega.{arith}
use lib.ListN.{length, get_or, take, drop, set, length-set}
use Rattle.lists.specs.Lists.{numbers, Below}
use Rattle.std.proofs.lemmas.List.{take_more_set}
use Rattle.lists.specs.Buckets.{hashes}
use Rattle.lists.specs.ListLaws.{at_numbers, in_map}
use Rattle.lists.specs.OrderLaws.{below_at}
use Rattle.lists.proofs.PartLaws.{column_snoc}
use Rattle.lists.specs.Words.{column}
use Rattle.blocks.specs.Blocks.{shifted, spread, row_hash}

-- an array of four, its parts of channels 1 to 3
pub hash_is : (l : List ℕ) {a b c : ℕ} → a ≡ spread (get_or l 1 0 + 1) → b ≡ spread (get_or l 2 0 + 65537) → c ≡ spread (get_or l 3 0 + 131073) → a + b + c ≡ row_hash (drop 1 l)
unfolding row_hash
hash_is [] p q r = ap₂ ◌+◌ (ap₂ ◌+◌ p q) r
hash_is (x ∷ l) p q r = ap₂ ◌+◌ (ap₂ ◌+◌ p q) r

-- a channel's part of a row, by the row's bit
part_at : (w e s b : ℕ) {xs : List ℕ} → xs ≡ column (λ b. spread (e + w * b + s)) 2 → b < 2 → get_or xs b 0 ≡ spread (e + w * b + s)
part_at w e s b q h = ap (λ (l : List ℕ). get_or l b 0) q ∙ at_numbers (λ b. spread (e + w * b + s)) 0 2 b h

-- row m of an array of four
pub row_is : (w : ℕ) (l : List ℕ) → length l ≡ 4 → {a b c : List ℕ} → a ≡ column (λ b. spread (get_or l 1 0 + w * b + 1)) 2 → b ≡ column (λ b. spread (get_or l 2 0 + w * b + 65537)) 2 → c ≡ column (λ b. spread (get_or l 3 0 + w * b + 131073)) 2
    → (m : ℕ) {j : ℕ} → j ≡ m → get_or a (j % 2) 0 + get_or b (j / 2 % 2) 0 + get_or c (j / 4 % 2) 0 ≡ row_hash (shifted w (drop 1 l) m)
unfolding row_hash
row_is w [] h p q r m z = absurd (omega arith)
row_is w (x ∷ []) h p q r m z = absurd (omega arith)
row_is w (x ∷ e₁ ∷ []) h p q r m z = absurd (omega arith)
row_is w (x ∷ e₁ ∷ e₂ ∷ []) h p q r m z = absurd (omega arith)
row_is w (x ∷ e₁ ∷ e₂ ∷ e₃ ∷ []) h {a} {b} {c} p q r m z =
    let d : m / 4 ≡ m / 2 / 2 = omega arith in
    ap (λ (j : ℕ). get_or a (j % 2) 0 + get_or b (j / 2 % 2) 0 + get_or c (j / 4 % 2) 0) z
    ∙ ap₂ ◌+◌ (ap₂ ◌+◌ (part_at w e₁ 1 (m % 2) p (mod-lt m (omega arith))) (part_at w e₂ 65537 (m / 2 % 2) q (mod-lt (m / 2) (omega arith)))) (part_at w e₃ 131073 (m / 4 % 2) r (mod-lt (m / 4) (omega arith)) ∙ ap (λ (k : ℕ). spread (e₃ + w * (k % 2) + 131073)) d)
row_is w (x ∷ e₁ ∷ e₂ ∷ e₃ ∷ y ∷ l) h p q r m z = absurd (omega arith)

-- the next row after those that are worked out
pub row_next : (h : ℕ → ℕ) (xs : List ℕ) (m : ℕ) {y n : ℕ} → m < n → (length xs ≡ n) × (take m xs ≡ column h m) → y ≡ h m → (length (set xs m y) ≡ n) × (take (m + 1) (set xs m y) ≡ column h (m + 1))
row_next h xs m {y} b (l, e) q = (length-set xs m y ∙ l, take_more_set xs m y (omega (arith, l)) ∙ ap₂ (λ (ys : List ℕ) (z : ℕ). ys ++ (z ∷ [])) e q ∙ sym (column_snoc h m))

-- a part's place
pub part_small : (xs : List ℕ) → length xs ≡ 2 → Below hashes xs → (b : ℕ) → b < 2 → get_or xs b 0 < hashes
part_small xs l s b h = below_at hashes xs b s (omega (arith, l))

spread_below : (x : ℕ) → spread x < hashes
unfolding spread
spread_below x = mod-lt _ (omega arith)

pub rows_below : (f : ℕ → List ℕ) (n : ℕ) → Below (3 * hashes) (column (λ m. row_hash (f m)) n)
unfolding row_hash
rows_below f n x i =
    let y = in_map (λ m. row_hash (f m)) x (numbers n) i in
    let es = f y.0 in
    omega (arith, y.2, spread_below (get_or es 0 0 + 1), spread_below (get_or es 1 0 + 65537), spread_below (get_or es 2 0 + 131073))
