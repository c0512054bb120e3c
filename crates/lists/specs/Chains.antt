-- Chains, and their laws: the ends are of the chain, chains join, turn and carry over to wider steps.
use Rattle.std.specs.Prelude.{ℕ}

-- "A chain is a list of one or more core frames of the run, in any order; it joins its first and its last, so a frame alone joins itself."
pub data Chain (Core : ℕ → Type 0) (Step : ℕ → ℕ → Type 0) : ℕ → ℕ → Type 0 where
  alone : {p : ℕ} → Core p → Chain Core Step p p
  step : {p q r : ℕ} → Core p → Step p q → Chain Core Step q r → Chain Core Step p r

module _ {C : ℕ → Type 0} {S : ℕ → ℕ → Type 0} where
  pub chain_first : {p q : ℕ} → Chain C S p q → C p
  chain_first (alone c) = c
  chain_first (step c s t) = c

  pub chain_last : {p q : ℕ} → Chain C S p q → C q
  chain_last (alone c) = c
  chain_last (step c s t) = chain_last t

  pub chain_join : {p q r : ℕ} → Chain C S p q → Chain C S q r → Chain C S p r
  chain_join (alone c) t = t
  chain_join (step c s u) t = step c s (chain_join u t)

  pub chain_turn : ((p q : ℕ) → S p q → S q p) → {p q : ℕ} → Chain C S p q → Chain C S q p
  chain_turn f (alone c) = alone c
  chain_turn f (step {p} {q} c s t) = chain_join (chain_turn f t) (step (chain_first t) (f p q s) (alone c))

pub chain_map : {C D : ℕ → Type 0} {S R : ℕ → ℕ → Type 0} → ((p : ℕ) → C p → D p) → ((p q : ℕ) → S p q → R p q) → {p q : ℕ} → Chain C S p q → Chain D R p q
chain_map f g (alone {p} c) = alone (f p c)
chain_map f g (step {p} {q} c s t) = step (f p c) (g p q s) (chain_map f g t)
