-- Laws of the core frames among some places, by the first place.
use Rattle.std.specs.Prelude.{◌≡◌, Bool, true, cond, List, [], ◌∷◌, ℕ, ◌+◌, ◌-◌, ◌*◌, ◌<◌, eqb, length, get_or}
use Rattle.std.proofs.Common.{sym, arith}
use Rattle.lists.specs.Lists.{In}
use Rattle.lists.specs.Words.{part}
use Rattle.lists.specs.ListLaws.{true_T, keep_in, in_keep}
use Rattle.lists.proofs.PartLaws.{part_first}
use Rattle.core_cells.specs.Forest.{core_among}

pub among_none : (w : List ℕ) (n from : ℕ) → core_among w n from from ≡ []
unfolding core_among
among_none w n from =
    let e : from - from ≡ 0 = omega arith in
    rw e

pub among_first : (w : List ℕ) (n from to : ℕ) → from < to → 3 * n + from < length w → (b : Bool) → b ≡ eqb (get_or w (4 * n + get_or w (3 * n + from) 0) 0) 1
    → core_among w n from to ≡ cond b (get_or w (3 * n + from) 0 ∷ core_among w n (from + 1) to) (core_among w n (from + 1) to)
unfolding core_among
among_first w n from to h l b q =
    let m : to - from ≡ to - (from + 1) + 1 = omega arith in
    let a : 3 * n + from + 1 ≡ 3 * n + (from + 1) = omega arith in
    rw (m, part_first w (3 * n + from) (to - (from + 1)) l, a, ← q)

pub among_place : (w : List ℕ) (n from to x : ℕ) → In x (core_among w n from to) → In x (part w (3 * n + from) (to - from))
unfolding core_among
among_place w n from to x i = (in_keep (λ i. eqb (get_or w (4 * n + i) 0) 1) x (part w (3 * n + from) (to - from)) i).0

pub among_in : (w : List ℕ) (n from to x : ℕ) → In x (part w (3 * n + from) (to - from)) → true ≡ eqb (get_or w (4 * n + x) 0) 1 → In x (core_among w n from to)
unfolding core_among
among_in w n from to x i q = keep_in (λ i. eqb (get_or w (4 * n + i) 0) 1) x (part w (3 * n + from) (to - from)) i (true_T (sym q))
