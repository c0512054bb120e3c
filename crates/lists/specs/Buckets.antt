-- Hash buckets as chains in words of a slice: numbers from 0 on, each in a bucket, the latest first. Definitions only.
use Rattle.std.specs.Prelude.{◌≡◌, Bool, cond, List, [], ◌∷◌, ℕ, zero, suc, ◌+◌, ◌*◌, ◌/◌, ◌%◌, ◌<◌, eqb, get_or}

-- one more than the greatest number below m that passes f, 0 where there is none
abbrev pub last_with : (ℕ → Bool) → ℕ → ℕ
last_with f zero = 0
last_with f (suc m) = let r = last_with f m in cond (f m) (suc m) r

-- hashes are below 2^32
abbrev pub hashes : ℕ
hashes = 4294967296

-- a hash of one more number e, after Fibonacci hashing: 1640531527 is near 2^32 × (1 − 1 / the golden ratio). The lowest digits of the product are dropped:
-- with them the hash would be a linear form in the numbers, and the cells of a grid would fall in few buckets.
unfoldable pub mix : ℕ → ℕ → ℕ
mix h e = (h + e) * 1640531527 / 64 % hashes

-- the hash h, gone on with the numbers of a list
abbrev pub hash_from : ℕ → List ℕ → ℕ
hash_from h [] = h
hash_from h (e ∷ es) = hash_from (mix h e) es

-- the hash of the numbers of a list
abbrev pub hash_of : List ℕ → ℕ
hash_of es = hash_from 0 es

-- which of n buckets the hash h falls in
unfoldable pub bucket : ℕ → ℕ → ℕ
bucket n h = h * n / hashes

-- whether a number is in bucket h
abbrev pub in_bucket : (ℕ → ℕ) → ℕ → ℕ → Bool
in_bucket bucket_of h c = eqb (bucket_of c) h

-- the words hold the numbers below m in n buckets: from `heads` on one more than the latest number of each bucket, from `nexts` on one more than the number before each in its bucket, 0 for none;
-- a number whose bucket is not below n is in none
pub record Bucketed (bucket_of : ℕ → ℕ) (n m heads nexts : ℕ) (w : List ℕ) : Type 0 where
  pub head : (h : ℕ) → h < n → get_or w (heads + h) 0 ≡ last_with (in_bucket bucket_of h) m
  pub next : (c : ℕ) → c < m → bucket_of c < n → get_or w (nexts + c) 0 ≡ last_with (in_bucket bucket_of (bucket_of c)) c
