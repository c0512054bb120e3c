-- What changes nothing but the first m words, and clearing words.
use Rattle.std.specs.Prelude.{◌≡◌, refl, List, ◌++◌, ℕ, ◌+◌, ◌-◌, ◌≤◌, length, get_or, drop, replicate}
use Rattle.std.proofs.Common.{sym, ap, ◌∙◌, arith, drop-drop, get_or-drop}
use Rattle.std.proofs.lemmas.List.{length-replicate, get_or-replicate}
use Rattle.lists.specs.Words.{over, Clear}
use Rattle.lists.proofs.WordLaws.{over_length}
use Rattle.lists.proofs.PartLaws.{drop_above, get_laid}

-- w' is w but for its first m words
pub record Within (m : ℕ) (w w' : List ℕ) : Type 0 where
  pub size : length w' ≡ length w
  pub beyond : drop m w' ≡ drop m w

pub within_self : (m : ℕ) (w : List ℕ) → Within m w w
within_self m w = record { size = refl; beyond = refl }

module _ {m : ℕ} {w w' : List ℕ} (W : Within m w w') where
  pub within_join : {w'' : List ℕ} → Within m w' w'' → Within m w w''
  within_join W' = record { size = W'.size ∙ W.size; beyond = W'.beyond ∙ W.beyond }

  pub within_over : (a : ℕ) (us : List ℕ) → a + length us ≤ m → m ≤ length w → Within m w (over w' a us)
  within_over a us h l = record {
    size = over_length w' a us (omega (arith, W.size)) ∙ W.size;
    beyond = drop_above w' a us (omega (arith, W.size)) m h ∙ W.beyond;
  }

  pub within_more : (m' : ℕ) → m ≤ m' → Within m' w w'
  within_more m' h =
      let e : m + (m' - m) ≡ m' = omega arith in
      let split : (xs : List ℕ) → drop (m' - m) (drop m xs) ≡ drop m' xs = λ xs. drop-drop (m' - m) m xs ∙ ap (λ (k : ℕ). drop k xs) e in
      record { size = W.size; beyond = sym (split w') ∙ ap (drop (m' - m)) W.beyond ∙ split w }

  pub within_clear : (a n : ℕ) → m ≤ a → Clear w a n → Clear w' a n
  within_clear a n h c i l =
      let e : m + (a - m + i) ≡ a + i = omega arith in
      let read : (xs : List ℕ) → get_or (drop m xs) (a - m + i) 0 ≡ get_or xs (a + i) 0 = λ xs. get_or-drop m xs (a - m + i) 0 ∙ ap (λ (k : ℕ). get_or xs k 0) e in
      sym (read w') ∙ ap (λ (xs : List ℕ). get_or xs (a - m + i) 0) W.beyond ∙ read w ∙ c i l

  -- all that was changed is cleared
  pub within_cleared : over w' 0 (replicate m 0) ≡ over w 0 (replicate m 0)
  within_cleared =
      let Z : List ℕ = replicate m 0 in
      let e : 0 + length Z ≡ m = omega (arith, length-replicate {A = ℕ} m 0) in
      ap (λ (xs : List ℕ). Z ++ xs) (ap (λ (k : ℕ). drop k w') e ∙ W.beyond ∙ ap (λ (k : ℕ). drop k w) (sym e))

-- words made 0
pub made_clear : (w : List ℕ) (a n : ℕ) → a + n ≤ length w → Clear (over w a (replicate n 0)) a n
made_clear w a n h i l =
    let z = length-replicate {A = ℕ} n 0 in
    get_laid w a i (replicate n 0) (omega arith) (omega arith) ∙ get_or-replicate {A = ℕ} n i 0 0 l
