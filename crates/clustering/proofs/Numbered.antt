-- Clusters are numbered in ascending order of cells: m so far, and the words of the cells before c hold their numbers.
use mathlib.Core.Path.{◌≡◌, refl, sym, ap, ◌∙◌}
use mathlib.Core.Bool.{Bool, true, false, cond}
use mathlib.Core.List.{List}
use Prim.Native.Nat.{ℕ, ◌+◌, ◌<◌, ◌≤◌}
use native.Mathlib.Omega.{arith}
use lib.ListN.{length, get_or, set}
use borrow.Author.Tests.{eq-eqb, ne_eqb}
use Rattle.lists.specs.Lists.{numbers, how_many, nonzero}
use Rattle.lists.specs.Words.{column}
use Rattle.lists.specs.ListLaws.{true_T, T_true, at_numbers, length_numbers}
use Rattle.lists.specs.OrderLaws.{many_snoc, kept_le}
use Rattle.lists.proofs.WordLaws.{over_all}
use Rattle.lists.proofs.PartLaws.{get_laid}
use Rattle.lists.proofs.LoopLaws.{Fill, fill_start, fill_step, fill_end}
use Rattle.clustering.specs.Numbering.{Led, leads, number_by}

-- which cells are core cells by the words on their trees, and the lowest cells that the words ls hold
abbrev pub core_in : List ℕ → ℕ → Bool
core_in ts c = nonzero (get_or ts c 0)

abbrev pub held_in : List ℕ → ℕ → ℕ
held_in ls c = get_or ls c 0

pub record Numbered (core : ℕ → Bool) (ls w : List ℕ) (k : ℕ) (v : List ℕ) (m c : ℕ) : Type 0 where
  pub size : length w ≡ k
  pub led : Led core (held_in ls) k
  pub fill : Fill (number_by core (held_in ls)) w 0 k v c
  pub count : m ≡ how_many (leads core (held_in ls)) (numbers c)

pub numbered_start : {core : ℕ → Bool} {ls w : List ℕ} {k : ℕ} → length w ≡ k → Led core (λ c. get_or ls c 0) k → Numbered core ls w k w 0 0
numbered_start e d = record { size = e; led = d; fill = fill_start (omega arith); count = refl }

module _ {core : ℕ → Bool} {ls w : List ℕ} {k : ℕ} {v : List ℕ} {m c : ℕ} (i : Numbered core ls w k v m c) where
  abbrev low : ℕ → ℕ
  low = held_in ls

  abbrev number : ℕ → ℕ
  number = number_by core low

  pub number_low : m ≤ c
  number_low = omega (arith, i.count, kept_le (leads core low) c)

  -- those of the cells before c hold their numbers
  there : (d : ℕ) → d < c → get_or v d 0 ≡ number d
  there d h =
      let z : 0 + d ≡ d = omega arith in
      ap (λ (x : ℕ). get_or v x 0) (sym z)
      ∙ ap (λ (z : List ℕ). get_or z (0 + d) 0) i.fill.work
      ∙ get_laid w 0 d (column number c) (omega (arith, length_numbers number c)) (omega arith)
      ∙ at_numbers number 0 c d h

  module _ (h : c < k) {b : Bool} (eb : b ≡ core c) where
    next : (x : ℕ) → x ≡ number c → {o : ℕ} → o ≡ m + cond (leads core low c) 1 0 → Numbered core ls w k (set v c x) o (c + 1)
    next x e f = record {
      size = i.size;
      led = i.led;
      fill = fill_step i.fill h x c (omega arith) e;
      count = f ∙ ap (λ (z : ℕ). z + cond (leads core low c) 1 0) i.count ∙ sym (many_snoc (leads core low) c);
    }

    pub number_none : b ≡ false → Numbered core ls w k (set v c 0) m (c + 1)
    unfolding number_by leads
    number_none s = next 0 (rw (sym eb ∙ s)) (rw (sym eb ∙ s) (omega arith))

    module _ (s : b ≡ true) {l : ℕ} (el : l ≡ get_or ls c 0) where
      core_here : core c ≡ true
      core_here = sym eb ∙ s

      pub lowest_low : l ≤ c
      lowest_low = omega (arith, el, i.led.lower c h (true_T core_here))

      pub number_own : l ≡ c → Numbered core ls w k (set v c m) (m + 1) (c + 1)
      unfolding number_by leads
      number_own e =
          let q : low c ≡ c = sym el ∙ e in
          next m (i.count ∙ sym (rw (core_here, q))) (sym (rw (core_here, eq-eqb (low c) c q)))

      pub number_other : (l ≡ c → ⊥) → Numbered core ls w k (set v c (get_or v l 0)) m (c + 1)
      unfolding number_by leads
      number_other n≢ =
          let z = i.led.itself c h (true_T core_here) in
          let less : low c < c = omega (arith, el, lowest_low, n≢) in
          let own : number (low c) ≡ number c = sym (rw (core_here) (sym (rw (T_true (core (low c)) z.0, z.1)))) in
          next (get_or v l 0)
          (ap (λ (x : ℕ). get_or v x 0) el ∙ there (low c) less ∙ own)
          (rw (core_here, ne_eqb (low c) c (λ e. omega arith)) (omega arith))

  pub numbered_end : k ≤ c → (m ≡ how_many (leads core low) (numbers k)) × (v ≡ column number k)
  numbered_end h =
      let e : c ≡ k = omega (arith, i.fill.high) in
      (i.count ∙ ap (λ (z : ℕ). how_many (leads core low) (numbers z)) e, fill_end i.fill h ∙ over_all w (column number k) (length_numbers number k ∙ sym i.size))
