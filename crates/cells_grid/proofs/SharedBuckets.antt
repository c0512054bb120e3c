-- How many frames share their buckets: the sum of the squares is formed bucket by bucket, and fits.
use mathlib.Core.Path.{◌≡◌, refl, sym, ap, ap₂, subst, ◌∙◌}
use mathlib.Core.Bool.{true}
use mathlib.Core.List.{List, [], ◌∷◌}
use Prim.Native.Nat.{ℕ, ◌+◌, ◌-◌, ◌*◌, ◌<◌, ◌≤◌}
use native.Mathlib.Nat.{mul-le-mul, add-mul, mul-add}
use native.Mathlib.Omega.{arith}
use lib.Dec.{leb}
use lib.ListN.{get_or}
use Rattle.lists.specs.Lists.{numbers, total}
use Rattle.lists.specs.Sorting.{begin_in, start_of, Sorted}
use Rattle.lists.specs.CountLaws.{total_append}
use Rattle.lists.specs.OrderLaws.{numbers_snoc}
use Rattle.lists.proofs.PartLaws.{holds_at}
use Rattle.lists.proofs.SortLaws.{start_le, start_mono, begin_at, begin_first, begin_later}
use Rattle.cells_grid.specs.Pairs.{size_in, squares_in}

module _ (w : List ℕ) (e : ℕ) where
  squares_next : (b : ℕ) → squares_in w e (b + 1) ≡ squares_in w e b + size_in w e b * size_in w e b
  unfolding squares_in
  squares_next b =
      let f : ℕ → ℕ = λ b. size_in w e b * size_in w e b in
      ap (total f) (numbers_snoc b) ∙ total_append f (numbers b) (b ∷ []) ∙ ap (λ (x : ℕ). total f (numbers b) + x) (omega arith)

  -- a later bucket begins where the one before it ends
  begin_is : (b : ℕ) → 1 ≤ b → begin_in w e b ≡ get_or w (e + b - 1) 0
  begin_is b h =
      let z : e + (b - 1) ≡ e + b - 1 = omega arith in
      begin_later w e b (λ t. omega arith) ∙ ap (λ (x : ℕ). get_or w x 0) z

-- the buckets before b
pub record Shared (w : List ℕ) (e n sum b : ℕ) : Type 0 where
  pub some : 1 ≤ b
  pub high : b ≤ 8 * n
  pub squares : sum ≡ squares_in w e b
  pub low : sum ≤ get_or w (e + b - 1) 0 * get_or w (e + b - 1) 0
  pub most : get_or w (e + b - 1) 0 ≤ 4096

module _ {w : List ℕ} {e n : ℕ} (few : n ≤ 4096) (rising : (b : ℕ) → b < 8 * n → (begin_in w e b ≤ get_or w (e + b) 0) × (get_or w (e + b) 0 ≤ n)) where
  pub shared_start : 0 < n → {sum : ℕ} → sum ≡ get_or w e 0 * get_or w e 0 → Shared w e n sum 1
  unfolding squares_in size_in
  shared_start h {sum} q =
      let z : e + 1 - 1 ≡ e = omega arith in
      let y : e + 0 ≡ e = omega arith in
      let size : size_in w e 0 ≡ get_or w e 0 = omega (arith, begin_first w e 0 refl, ap (λ (x : ℕ). get_or w x 0) y) in
      record {
        some = omega arith;
        high = omega arith;
        squares = q ∙ sym (omega (arith, ap (λ (x : ℕ). x * x) size));
        low = subst (λ (x : ℕ). sum ≤ get_or w x 0 * get_or w x 0) (sym z) (omega (arith, q));
        most = omega (arith, ap (λ (x : ℕ). get_or w x 0) z, ap (λ (x : ℕ). get_or w x 0) y, (rising 0 (omega arith)).1);
      }

  module _ {sum b : ℕ} (I : Shared w e n sum b) (l : b < 8 * n) where
    abbrev begin : ℕ
    begin = get_or w (e + b - 1) 0

    abbrev end : ℕ
    end = get_or w (e + b) 0

    pub shared_low : get_or w (e + b - 1) 0 ≤ get_or w (e + b) 0
    shared_low = omega (arith, begin_is w e b I.some, (rising b l).0)

    size : end - begin ≡ size_in w e b
    unfolding size_in
    size = ap (λ (x : ℕ). end - x) (sym (begin_is w e b I.some))

    more : sum + (end - begin) * (end - begin) ≤ end * end
    more = go begin (end - begin) (omega (arith, shared_low)) I.low
      where
        go : (a d : ℕ) → a + d ≡ end → sum ≤ a * a → sum + d * d ≤ end * end
        go a d z k = subst (λ (x : ℕ). sum + d * d ≤ x * x) z (omega (arith, mul-add (a + d) a d, add-mul a d a, add-mul a d d))

    most : end ≤ 4096
    most = omega (arith, (rising b l).1)

    module _ {x : ℕ} (q : x ≡ (get_or w (e + b) 0 - get_or w (e + b - 1) 0) * (get_or w (e + b) 0 - get_or w (e + b - 1) 0)) where
      pub shared_fits : sum + x ≤ 16777216
      shared_fits = omega (arith, q, more, mul-le-mul {n₂ = 4096} {m₂ = 4096} most most)

      pub shared_next : Shared w e n (sum + x) (b + 1)
      shared_next =
          let z : e + (b + 1) - 1 ≡ e + b = omega arith in
          record {
            some = omega arith;
            high = omega arith;
            squares = ap₂ (λ (x y : ℕ). x + y) I.squares (q ∙ ap (λ (y : ℕ). y * y) size) ∙ sym (squares_next w e b);
            low = subst (λ (y : ℕ). sum + x ≤ get_or w y 0 * get_or w y 0) (sym z) (omega (arith, q, more));
            most = omega (arith, ap (λ (y : ℕ). get_or w y 0) z, most);
          }

pub shared_sum : {w : List ℕ} {e n sum b : ℕ} → Shared w e n sum b → sum ≤ 16777216
shared_sum I = omega (arith, I.low, mul-le-mul {n₂ = 4096} {m₂ = 4096} I.most I.most)

pub shared_end : {w : List ℕ} {e n sum b : ℕ} → Shared w e n sum b → 8 * n ≤ b → sum ≡ squares_in w e (8 * n)
shared_end {w} {e} {n} {b = b} I l =
    let z : b ≡ 8 * n = omega (arith, I.high) in
    I.squares ∙ ap (squares_in w e) z

-- no frames
pub shared_none : (w : List ℕ) (e n : ℕ) → n ≡ 0 → true ≡ leb (squares_in w e (8 * n)) (4 * n)
unfolding squares_in
shared_none w e n h = ap (λ (m : ℕ). leb (squares_in w e (8 * m)) (4 * m)) (sym h)

-- the ends of the sorted frames rise
pub ends_rise : {key : ℕ → ℕ} {n size e places : ℕ} {w : List ℕ} → Sorted key n size e places w → (b : ℕ) → b < size → (begin_in w e b ≤ get_or w (e + b) 0) × (get_or w (e + b) 0 ≤ n)
ends_rise {key} {n} {size} {e} {places} {w} S b h =
    let d = holds_at w e size (λ b. start_of key n (b + 1)) b S.ends h in
    (omega (arith, d, begin_at S b (omega arith), start_mono key n b (b + 1) (omega arith)), omega (arith, d, start_le key n (b + 1)))
