-- The core frames of the paper (Gan and Tao) against those of module 3: each frame core here is core there, and which core frames of the paper's the lists can miss.
use Rattle.std.specs.Prelude.{◌≡◌, ◌↔◌, Bool, not, ◌&&◌, List, [], ◌∷◌, ℕ, ◌+◌, ◌*◌, ◌≤◌, ◌<◌, pos, leb}
use Rattle.std.proofs.Math.Path.{refl, ap}
use Rattle.std.proofs.Common.{sym, ◌∙◌, inl, inr, le_trans, lt_of_le_of_lt, mul-le-mul_right, eq-or-lt_of_le, arith, T_not}
use Rattle.std.proofs.Math.Bool.{true, false, cond}
use Rattle.std.proofs.Math.Nat.{lt_of_lt_of_le, not-le_of_lt, lt_irrefl}
use Rattle.std.proofs.Math.Dec.{T, not_T, leb→le, nleb→lt, le→leb}
use Rattle.std.proofs.Math.ListN.{length}
use Rattle.lists.specs.Lists.{numbers, keep, how_many}
use Rattle.lists.specs.ListLaws.{true_T, and_left, and_right, and_both, both_ways, T_or_not, nonzero_true, in_keep, some_in, keep_same, keep_more, in_numbers}
use Rattle.lists.specs.CountLaws.{total_plus, total_bool}
use Rattle.lists.specs.Words.{column}
use Rattle.ring.specs.Nat.{sq_lt_back}
use Rattle.hyperparams.specs.declared.ValidParams.{ValidParams}
use Rattle.hyperparams.specs.Params.{float, slack_at, valid_of, whole_tolerance, slack_power, appx_tolerance_of}
use Rattle.counting_tree.specs.Frames.{Frame}
use Rattle.counting_tree.specs.FramesIn.{squared_swap}
use Rattle.counting_tree.specs.Triangle.{squared_self, squared_triangle}
use Rattle.counting_tree.specs.Geometry.{Geometry, geometry_of, short, frame, N, near}
use Rattle.counting_tree.specs.Domain.{Domain}
use Rattle.counting_tree.specs.Sound.{cell_near, within_whole}
use Rattle.cells_grid.specs.Cells.{same_cell, members, first, listed, dense, neighbour, core}
use Rattle.cells_grid.proofs.CellLaws.{first_same, first_in, first_lowest}
use Rattle.appx_dbscan.specs.Transform.{transform_of}
use Rattle.appx_dbscan.specs.Small.{params, minus, valid_j, frames_j}
use Rattle.cells_grid.specs.Ready.{lawful}

module _ (v : ValidParams) (fs : List Frame) where
  -- frames i and j lie within t, by the sum of squared differences
  abbrev pub close : ℕ → ℕ → Bool
  close i j = leb (N v fs i j) (v.t * v.t)

  -- how many frames lie within t of frame i
  abbrev pub close_count : ℕ → ℕ
  close_count i = how_many (close i) (numbers (length fs))

  -- "Paper: a frame is core if at least `min_points` frames lie within t, itself counted."
  unfoldable pub paper_core : ℕ → Bool
  paper_core i = leb v.min_points (close_count i)

-- the run with lists of the bound factor × t × t
module _ (factor : ℕ) (v : ValidParams) (fs : List Frame) where
  abbrev g : Geometry
  g = geometry_of factor v fs

  -- how many frames of listed cells lie within t of frame i
  abbrev pub listed_count : ℕ → ℕ
  listed_count i = how_many (neighbour g i) (numbers (length fs))

  -- frame j lies within t of frame i, in a cell that is not on frame i's list; and how many do
  abbrev pub unlisted : ℕ → ℕ → Bool
  unlisted i j = not (listed g i j) && close v fs i j

  abbrev pub unlisted_count : ℕ → ℕ
  unlisted_count i = how_many (unlisted i) (numbers (length fs))

  -- what is known of such a frame j
  pub record Unlisted (i j : ℕ) : Type 0 where
    pub inside : j < length fs
    pub within_t : N v fs i j ≤ v.t * v.t
    pub not_listed : T (not (listed g i j))
    -- the first frames of the two cells lie beyond the bound of the lists
    pub firsts_far : factor * (v.t * v.t) < N v fs (first g i) (first g j)
    -- so frames i and j do not both lie near them: at distances of at most A and B, the way between the first frames over i and j is at most A + t + B
    pub aside : (A B : ℕ) → N v fs i (first g i) ≤ A * A → N v fs j (first g j) ≤ B * B → factor * (v.t * v.t) < (A + v.t + B) * (A + v.t + B)

  -- a core frame of the paper's that the lists miss
  pub record Missed (i : ℕ) : Type 0 where
    -- its cell holds fewer than `min_points` frames
    pub sparse : length (members g i) < v.min_points
    -- the listed cells hold fewer than `min_points` frames within t
    pub few : listed_count i < v.min_points
    -- those in cells that are not listed make up for what is wanting
    pub enough : v.min_points ≤ listed_count i + unlisted_count i
    -- one of them
    pub other : ℕ
    pub other_unlisted : Unlisted i other

  module _ (D : Domain v fs) where
    -- the squared length of a way over a frame
    way : (A B i j k : ℕ) → i < length fs → j < length fs → k < length fs → N v fs i j ≤ A * A → N v fs j k ≤ B * B → N v fs i k ≤ (A + B) * (A + B)
    way A B i j k h l m =
        squared_triangle A B (frame v fs i) (frame v fs j) (frame v fs k) (D.channels_are i h ∙ sym (D.channels_are j l)) (D.channels_are j l ∙ sym (D.channels_are k m))

    -- the first frame of a frame's cell, and N to it
    first_inside : (i : ℕ) → i < length fs → first g i < length fs
    unfolding geometry_of
    first_inside i h = (first_in g (lawful factor v fs) i h).0

    first_near : (i : ℕ) → i < length fs → N v fs i (first g i) ≤ v.t * v.t
    unfolding geometry_of
    first_near i h = let f = first_in g (lawful factor v fs) i h in cell_near v fs D i (first g i) h f.0 f.1

    pub unlisted_is : (i j : ℕ) → i < length fs → j < length fs → T (unlisted i j) → Unlisted i j
    unfolding listed geometry_of near
    unlisted_is i j h k u =
        let n = and_left (not (listed g i j)) (close v fs i j) u in
        let c = leb→le (N v fs i j) (v.t * v.t) (and_right (not (listed g i j)) (close v fs i j) u) in
        let far = nleb→lt (N v fs (first g i) (first g j)) (factor * (v.t * v.t)) n in
        record {
          inside = k;
          within_t = c;
          not_listed = n;
          firsts_far = far;
          aside = λ A B a b. lt_of_lt_of_le far
              (way (A + v.t) B (first g i) j (first g j) (first_inside i h) k (first_inside j k)
              (way A v.t (first g i) i j (first_inside i h) h k (rw (squared_swap (frame v fs i) (frame v fs (first g i))) at a) c) b);
        }

    -- ---- how many frames lie within t
    listed_count_lem : (i : ℕ) → i < length fs → listed_count i ≡ how_many (λ j. listed g i j && close v fs i j) (numbers (length fs))
    unfolding neighbour geometry_of
    listed_count_lem i h = ap length (keep_same (neighbour g i) (λ j. listed g i j && close v fs i j) (numbers (length fs))
        (λ j k. ap (λ (b : Bool). listed g i j && b) (within_whole v fs D i j h (in_numbers (length fs) j k))))

    -- each lies in a listed cell or in one that is not
    close_count_lem : (i : ℕ) → i < length fs → close_count v fs i ≡ listed_count i + unlisted_count i
    close_count_lem i h =
        let n = numbers (length fs) in
        let l = total_bool (λ j. listed g i j && close v fs i j) n in
        let s = total_plus (λ j. cond (close v fs i j) 1 0) (λ j. cond (listed g i j && close v fs i j) 1 0) (λ j. cond (unlisted i j) 1 0) n (λ j. one (listed g i j) (close v fs i j)) in
        omega (arith, total_bool (close v fs i) n, l, total_bool (unlisted i) n, s, listed_count_lem i h)
      where
        one : (a b : Bool) → cond b 1 0 ≡ cond (a && b) 1 0 + cond (not a && b) 1 0
        one true true = refl
        one true false = refl
        one false true = refl
        one false false = refl

    -- the frames of the own cell are among those of listed cells within t
    own_cell : (i : ℕ) → i < length fs → length (members g i) ≤ listed_count i
    unfolding members listed geometry_of near
    own_cell i h = rw (listed_count_lem i h) (keep_more (same_cell g i) (λ j. listed g i j && close v fs i j) (numbers (length fs)) (λ j k t.
        and_both (listed g i j) (close v fs i j)
        (rw (← first_same g (lawful factor v fs) i j h t, squared_self (frame v fs (first g i))) (le→leb 0 (factor * (v.t * v.t)) (omega arith)))
        (le→leb (N v fs i j) (v.t * v.t) (cell_near v fs D i j h (in_numbers (length fs) j k) t))))

    -- so the frames of a cell with at least `min_points` frames are core by the count as well
    core_count_lem : (i : ℕ) → i < length fs → core g i ≡ leb v.min_points (listed_count i)
    unfolding core dense geometry_of
    core_count_lem i h = go (dense g i) (λ t. le→leb v.min_points (listed_count i) (le_trans (leb→le v.min_points (length (members g i)) t) (own_cell i h)))
      where
        go : (b : Bool) {c : Bool} → (T b → T c) → cond b true c ≡ c
        go true f = both_ways true _ f (λ t. tt)
        go false f = refl

    -- ---- core here and core there
    -- "A frame core here is core there"
    pub core_paper : (i : ℕ) → i < length fs → T (core g i) → T (paper_core v fs i)
    unfolding paper_core
    core_paper i h c = le→leb v.min_points (close_count v fs i) (omega (arith, close_count_lem i h, leb→le v.min_points (listed_count i) (rw (core_count_lem i h) at c)))

    -- which core frames of the paper's the lists miss
    pub missed : (i : ℕ) → i < length fs → (T (paper_core v fs i) × T (not (core g i))) ↔ Missed i
    unfolding paper_core
    missed i h = (
      λ m. to m.0 m.1,
      λ m. (
        le→leb v.min_points (close_count v fs i) (omega (arith, close_count_lem i h, m.enough)),
        rw (core_count_lem i h) (not_T (leb v.min_points (listed_count i)) (λ t. not-le_of_lt m.few (leb→le v.min_points (listed_count i) t))),
      ),
    )
      where
        some_unlisted : 0 < unlisted_count i → (j : ℕ) × Unlisted i j
        some_unlisted l =
            let z = some_in (keep (unlisted i) (numbers (length fs))) (true_T (nonzero_true (unlisted_count i) (λ e. omega arith))) in
            let w = in_keep (unlisted i) z.0 (numbers (length fs)) z.1 in
            (z.0, unlisted_is i z.0 h (in_numbers (length fs) z.0 w.0) w.1)

        to : T (leb v.min_points (close_count v fs i)) → T (not (core g i)) → Missed i
        to p n =
            let few = nleb→lt v.min_points (listed_count i) (rw (core_count_lem i h) at n) in
            let all = leb→le v.min_points (close_count v fs i) p in
            let z = some_unlisted (omega (arith, close_count_lem i h)) in
            record { sparse = lt_of_le_of_lt (own_cell i h) few; few = few; enough = omega (arith, close_count_lem i h); other = z.0; other_unlisted = z.1 }

    pub unless_missed : (i : ℕ) → i < length fs → (Missed i → ⊥) → core g i ≡ paper_core v fs i
    unless_missed i h n = both_ways (core g i) (paper_core v fs i) (core_paper i h) (λ p. elim (T_or_not (core g i)) [ inl c ↦ c | inr k ↦ absurd (n ((missed i h).0 (p, k))) ])

    -- "the converse holds if all its frames within t lie in listed cells"
    pub paper_core_lem : (i : ℕ) → i < length fs → ((j : ℕ) → j < length fs → N v fs i j ≤ v.t * v.t → T (listed g i j)) → T (paper_core v fs i) → T (core g i)
    paper_core_lem i h all p = rw (unless_missed i h (λ m. let u = m.other_unlisted in T_not (listed g i m.other) u.not_listed (all m.other u.inside u.within_t))) p

    -- with a bound of 9 × t × t or more none is missed: the first frames of two cells with frames within t of each other lie within 3 × t
    pub wide_core : 9 ≤ factor → (i : ℕ) → i < length fs → core g i ≡ paper_core v fs i
    wide_core w i h = unless_missed i h (λ m. let u = m.other_unlisted in wide v.t (u.aside v.t v.t (first_near i h) (first_near m.other u.inside)))
      where
        wide : (t : ℕ) → factor * (t * t) < (t + t + t) * (t + t + t) → ⊥
        wide t l = let m : 9 * (t * t) ≤ factor * (t * t) = mul-le-mul_right (t * t) w in omega arith

-- ---- the lists of module 4, with the bound 4 × t × t
module _ (v : ValidParams) (fs : List Frame) (D : Domain v fs) where
  abbrev first4 : ℕ → ℕ
  first4 = first (geometry_of short v fs)

  module _ (i j : ℕ) (h : i < length fs) (u : Unlisted short v fs i j) where
    -- the distances of the two frames from the first frames of their cells exceed t together
    pub short_aside : (A B : ℕ) → N v fs i (first4 i) ≤ A * A → N v fs j (first4 j) ≤ B * B → v.t < A + B
    short_aside A B a b = go v.t (sq_lt_back (2 * v.t) (A + v.t + B) (rw (four v.t) at (u.aside A B a b)))
      where
        four : (t : ℕ) → 4 * (t * t) ≡ 2 * t * (2 * t)
        four t = omega arith

        go : (t : ℕ) → 2 * t < A + t + B → t < A + B
        go t l = omega arith

    -- so neither is the first frame of its cell
    pub short_later : (first4 i < i) × (first4 j < j)
    unfolding geometry_of
    short_later = (
      later i h (λ e. lt_irrefl v.t (omega (arith, short_aside 0 v.t (at_first i e) (first_near short v fs D j u.inside)))),
      later j u.inside (λ e. lt_irrefl v.t (omega (arith, short_aside v.t 0 (first_near short v fs D i h) (at_first j e)))),
    )
      where
        at_first : (k : ℕ) → first4 k ≡ k → N v fs k (first4 k) ≤ 0
        at_first k e = rw (e, squared_self (frame v fs k)) (omega arith)

        later : (k : ℕ) → k < length fs → (first4 k ≡ k → ⊥) → first4 k < k
        later k l n = elim (eq-or-lt_of_le (first_lowest (geometry_of short v fs) k k l ((lawful short v fs).same_self 0 k))) [ inl e ↦ absurd (n e) | inr m ↦ m ]

  -- the first frame of a cell is never missed, and so no frame alone in its cell
  pub first_core : (i : ℕ) → i < length fs → first4 i ≡ i → core (geometry_of short v fs) i ≡ paper_core v fs i
  first_core i h e = unless_missed short v fs D i h (λ m. lt_irrefl i (rw e at (short_later i m.other h m.other_unlisted).0))

-- ---- small sets
-- one channel, t = 2, min_points 3: the first frames −4 and 1 lie 5 apart, so the lists miss −3 and −1, and those of the bound 9 × t × t miss none
abbrev set_line : ValidParams
set_line = valid_of (params 1 3 (float 2) (slack_at 0))

abbrev frames_line : List Frame
frames_line = (minus 4 ∷ []) ∷ (minus 3 ∷ []) ∷ (pos 1 ∷ []) ∷ (minus 1 ∷ []) ∷ []

missed_line : (column (paper_core set_line frames_line) 4 ≡ false ∷ true ∷ false ∷ true ∷ [])
    × (column (core (geometry_of short set_line frames_line)) 4 ≡ false ∷ false ∷ false ∷ false ∷ [])
    × (column (core (geometry_of 9 set_line frames_line)) 4 ≡ false ∷ true ∷ false ∷ true ∷ [])
unfolding paper_core core geometry_of whole_tolerance
missed_line = (refl, refl, refl)

-- case (j) by lists of the bound 25 × t × t: one cluster
wide_j : transform_of (geometry_of 25 valid_j frames_j) ≡ record { labels = 0 ∷ 0 ∷ 0 ∷ 0 ∷ []; kinds = 2 ∷ 2 ∷ 2 ∷ 2 ∷ []; cluster_count = 1; core_count = 4 }
unfolding transform_of geometry_of whole_tolerance slack_power appx_tolerance_of
wide_j = refl
