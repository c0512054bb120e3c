-- The stable partition of a list, by way of other words: its loop, and what is copied back after it.
use mathlib.Core.Path.{◌≡◌, refl, sym, ap, ap₂, ◌∙◌}
use mathlib.Core.Bool.{Bool, true, false, cond}
use mathlib.Core.List.{List, [], ◌∷◌, ◌++◌, append-nil}
use Prim.Native.Nat.{ℕ, ◌+◌, ◌-◌, ◌<◌, ◌≤◌}
use native.Mathlib.Omega.{arith}
use borrow.Rule.Slice.PartMut.{put_mid}
use lib.ListN.{length, take, get_or, set, length-append}
use Rattle.std.proofs.lemmas.List.{take_all, take_at}
use Rattle.lists.specs.Lists.{keep, lose, Below}
use Rattle.lists.specs.OrderLaws.{below_at}
use Rattle.lists.specs.Words.{over, part}
use Rattle.lists.specs.CountLaws.{keep_append, lose_append, parts_length}
use Rattle.lists.proofs.WordLaws.{over_length, over_nil, over_snoc, over_next, over_all, put_over}
use Rattle.lists.proofs.PartLaws.{part_length, part_snoc, get_above}

-- of the first i frames of xs₀, those that pass f come first in xs, and the others in ys
pub record Spread (f : ℕ → Bool) (xs₀ ys₀ xs ys : List ℕ) (kept lost i : ℕ) : Type 0 where
  pub fit : length xs₀ ≤ length ys₀
  pub high : i ≤ length xs₀
  pub front : xs ≡ over xs₀ 0 (keep f (part xs₀ 0 i))
  pub aside : ys ≡ over ys₀ 0 (lose f (part xs₀ 0 i))
  pub is_kept : kept ≡ length (keep f (part xs₀ 0 i))
  pub is_lost : lost ≡ length (lose f (part xs₀ 0 i))

pub spread_start : {f : ℕ → Bool} {xs ys : List ℕ} → length xs ≤ length ys → Spread f xs ys xs ys 0 0 0
spread_start {f} {xs} {ys} h = record { fit = h; high = omega arith; front = sym (over_nil xs 0); aside = sym (over_nil ys 0); is_kept = refl; is_lost = refl }

module _ {f : ℕ → Bool} {xs₀ ys₀ xs ys : List ℕ} {kept lost i : ℕ} (c : Spread f xs₀ ys₀ xs ys kept lost i) where
  abbrev K : List ℕ
  K = keep f (part xs₀ 0 i)

  abbrev L : List ℕ
  L = lose f (part xs₀ 0 i)

  pub spread_sum : kept + lost ≡ i
  spread_sum = omega (arith, c.is_kept, c.is_lost, parts_length f (part xs₀ 0 i), part_length xs₀ 0 i (omega (arith, c.high)))

  pub spread_lengths : (length xs ≡ length xs₀) × (length ys ≡ length ys₀)
  spread_lengths =
      (ap length c.front ∙ over_length xs₀ 0 K (omega (arith, spread_sum, c.is_kept, c.high)), ap length c.aside ∙ over_length ys₀ 0 L (omega (arith, spread_sum, c.is_lost, c.high, c.fit)))

  -- after the loop
  module _ (done : length xs₀ ≤ i) where
    all : part xs₀ 0 i ≡ xs₀
    all = take_all i xs₀ done

    pub spread_kept : kept ≡ length (keep f xs₀)
    spread_kept = c.is_kept ∙ ap (λ (z : List ℕ). length (keep f z)) all

    lost_length : length (lose f xs₀) ≡ lost
    lost_length = sym (c.is_lost ∙ ap (λ (z : List ℕ). length (lose f z)) all)

    sum : kept + lost ≡ length xs₀
    sum = omega (arith, spread_kept, lost_length, parts_length f xs₀)

    pub spread_fits : length (part xs kept (length xs - kept)) ≡ length (part ys 0 lost)
    spread_fits = omega (arith, sum, c.fit, spread_lengths, part_length xs kept (length xs - kept) (omega (arith, sum, spread_lengths)), part_length ys 0 lost (omega (arith, sum, c.fit, spread_lengths)))

    pub spread_end : (zs : List ℕ) → zs ≡ take lost ys → put_mid kept (length xs - kept) xs zs ≡ keep f xs₀ ++ lose f xs₀
    spread_end zs e =
        let K₀ : List ℕ = keep f xs₀ in
        let L₀ : List ℕ = lose f xs₀ in
        let z : zs ≡ L₀ = e ∙ ap (take lost) (c.aside ∙ ap (λ (z : List ℕ). over ys₀ 0 (lose f z)) all) ∙ take_at L₀ _ lost lost_length in
        put_over xs kept (length xs - kept) zs (ap length z ∙ omega (arith, lost_length, sum, spread_lengths))
        ∙ ap₂ (λ (p q : List ℕ). over p kept q) (c.front ∙ ap (λ (z : List ℕ). over xs₀ 0 (keep f z)) all) z
        ∙ over_next xs₀ 0 kept K₀ L₀ (omega (arith, spread_kept)) (omega (arith, lost_length, sum))
        ∙ over_all xs₀ (K₀ ++ L₀) (length-append K₀ L₀ ∙ parts_length f xs₀)

  -- in the loop
  module _ (more : i < length xs₀) where
    abbrev y : ℕ
    y = get_or xs₀ i 0

    -- the next frame is still in its place
    pub spread_read : get_or xs i 0 ≡ y
    spread_read = ap (λ (z : List ℕ). get_or z i 0) c.front ∙ get_above xs₀ 0 i K (omega (arith, spread_sum, c.is_kept)) (omega arith)

    pub spread_below : {n : ℕ} → Below n xs₀ → get_or xs i 0 < n
    spread_below {n} h = rw spread_read (below_at n xs₀ i h more)

    next : part xs₀ 0 (i + 1) ≡ part xs₀ 0 i ++ (y ∷ [])
    next = let e : 0 + i ≡ i = omega arith in rw e at (part_snoc xs₀ 0 i (omega arith))

    keep_next : {b : Bool} → f y ≡ b → keep f (part xs₀ 0 (i + 1)) ≡ K ++ cond b (y ∷ []) []
    keep_next e = ap (keep f) next ∙ keep_append f (part xs₀ 0 i) (y ∷ []) ∙ ap (λ (b : Bool). K ++ cond b (y ∷ []) []) e

    lose_next : {b : Bool} → f y ≡ b → lose f (part xs₀ 0 (i + 1)) ≡ L ++ cond b [] (y ∷ [])
    lose_next e = ap (lose f) next ∙ lose_append f (part xs₀ 0 i) (y ∷ []) ∙ ap (λ (b : Bool). L ++ cond b [] (y ∷ [])) e

    pub spread_keep : {z : ℕ} {b : Bool} → z ≡ get_or xs i 0 → b ≡ f z → b ≡ true → Spread f xs₀ ys₀ (set xs kept (get_or xs i 0)) ys (kept + 1) lost (i + 1)
    spread_keep r a t =
        let u : f y ≡ true = ap f (sym (r ∙ spread_read)) ∙ sym a ∙ t in
        let k : keep f (part xs₀ 0 (i + 1)) ≡ K ++ (y ∷ []) = keep_next u in
        let l : lose f (part xs₀ 0 (i + 1)) ≡ L = lose_next u ∙ append-nil L in
        record {
          fit = c.fit;
          high = omega arith;
          front = ap₂ (λ (z : List ℕ) (x : ℕ). set z kept x) c.front spread_read ∙ over_snoc xs₀ 0 kept K y (omega (arith, c.is_kept)) (omega (arith, spread_sum)) ∙ ap (over xs₀ 0) (sym k);
          aside = c.aside ∙ ap (over ys₀ 0) (sym l);
          is_kept = rw k (omega (arith, length-append K (y ∷ []), c.is_kept));
          is_lost = rw l c.is_lost;
        }

    pub spread_lose : {z : ℕ} {b : Bool} → z ≡ get_or xs i 0 → b ≡ f z → b ≡ false → Spread f xs₀ ys₀ xs (set ys lost (get_or xs i 0)) kept (lost + 1) (i + 1)
    spread_lose r a t =
        let u : f y ≡ false = ap f (sym (r ∙ spread_read)) ∙ sym a ∙ t in
        let k : keep f (part xs₀ 0 (i + 1)) ≡ K = keep_next u ∙ append-nil K in
        let l : lose f (part xs₀ 0 (i + 1)) ≡ L ++ (y ∷ []) = lose_next u in
        record {
          fit = c.fit;
          high = omega arith;
          front = c.front ∙ ap (over xs₀ 0) (sym k);
          aside = ap₂ (λ (z : List ℕ) (x : ℕ). set z lost x) c.aside spread_read ∙ over_snoc ys₀ 0 lost L y (omega (arith, c.is_lost)) (omega (arith, spread_sum, c.fit)) ∙ ap (over ys₀ 0) (sym l);
          is_kept = rw k c.is_kept;
          is_lost = rw l (omega (arith, length-append L (y ∷ []), c.is_lost));
        }
