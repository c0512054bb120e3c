-- Laws of numbering by lowest cells: it goes by what holds of the cells below k, so what words say of these may stand for the definitions.
use Rattle.std.specs.Prelude.{◌≡◌, Bool, ◌&&◌, ℕ, ◌<◌, ◌≤◌, T}
use Rattle.std.proofs.Math.Path.{refl, ap, ap₂}
use Rattle.std.proofs.Common.{sym, ◌∙◌, subst, arith}
use Rattle.std.proofs.Math.Bool.{true, false, cond}
use Rattle.std.proofs.Math.Dec.{eqb}
use Rattle.std.proofs.Math.ListN.{length}
use Rattle.lists.specs.Lists.{numbers, how_many}
use Rattle.lists.specs.ListLaws.{in_numbers, keep_same}
use Rattle.clustering.specs.Numbering.{Led, leads, number_by}

module _ {core is_core : ℕ → Bool} {lowest low : ℕ → ℕ} {k : ℕ} (eb : (c : ℕ) → c < k → core c ≡ is_core c) (el : (c : ℕ) → c < k → lowest c ≡ low c)
    (led : Led is_core low k) where
  pub led_same : Led core lowest k
  led_same = record {
    lower = λ c h t. omega (arith, el c h, led.lower c h (subst T (eb c h) t));
    itself = λ c h t.
        let t' = subst T (eb c h) t in
        let z = led.itself c h t' in
        let l : low c < k = omega (arith, led.lower c h t') in
        (subst T (sym (eb (low c) l) ∙ ap core (sym (el c h))) z.0, ap lowest (el c h) ∙ el (low c) l ∙ z.1 ∙ sym (el c h));
  }

  pub leads_same : (m : ℕ) → m ≤ k → how_many (leads core lowest) (numbers m) ≡ how_many (leads is_core low) (numbers m)
  unfolding leads
  leads_same m h =
      ap length (keep_same (leads core lowest) (leads is_core low) (numbers m)
      (λ c i. let l : c < k = omega (arith, in_numbers m c i) in ap₂ (λ (x : Bool) (y : ℕ). x && eqb y c) (eb c l) (el c l)))

  pub number_same : (c : ℕ) → c < k → number_by core lowest c ≡ number_by is_core low c
  unfolding number_by
  number_same c h =
      ap₂ (λ (x : Bool) (y : ℕ). cond x (how_many (leads core lowest) (numbers y)) 0) (eb c h) (el c h)
      ∙ go (is_core c) (led.lower c h)
    where
      go : (x : Bool) → (T x → low c ≤ c) → cond x (how_many (leads core lowest) (numbers (low c))) 0 ≡ cond x (how_many (leads is_core low) (numbers (low c))) 0
      go true f = leads_same (low c) (omega (arith, f tt))
      go false f = refl
