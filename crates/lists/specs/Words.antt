-- Words in a slice. Definitions only.
use Rattle.std.specs.Prelude.{◌≡◌, ◌⊎◌, List, ◌++◌, map, ℕ, ◌+◌, ◌-◌, ◌<◌, ◌≤◌, length, take, drop, get_or}
use Rattle.lists.specs.Lists.{from, numbers}

module _ {A : Type 0} where
  -- xs with the words ws in place of its own from at on
  abbrev pub over : List A → ℕ → List A → List A
  over xs at ws = take at xs ++ ws ++ drop (at + length ws) xs

  -- the n words of xs from at on
  abbrev pub part : List A → ℕ → ℕ → List A
  part xs at n = take n (drop at xs)

  -- h of 0 to n - 1
  abbrev pub column : (ℕ → A) → ℕ → List A
  column h n = map h (numbers n)

-- j to n - 1: what is left of the numbers below n
abbrev pub rest : ℕ → ℕ → List ℕ
rest n j = from j (n - j)

-- the n words of xs from at on are 0
abbrev pub Clear : List ℕ → ℕ → ℕ → Type 0
Clear xs at n = (i : ℕ) → i < n → get_or xs (at + i) 0 ≡ 0

-- the m words from a on and the k words from b on lie apart
abbrev pub Apart : ℕ → ℕ → ℕ → ℕ → Type 0
Apart a m b k = (a + m ≤ b) ⊎ (b + k ≤ a)
