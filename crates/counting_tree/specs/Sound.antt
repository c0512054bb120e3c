-- What the cells and demand 3 need of the geometry of a run: boxes are classes of frames, and each answer of a box test is right.
use Rattle.std.specs.Prelude.{◌≡◌, refl, ℕ, suc, ◌+◌, ◌*◌, ◌^◌, ◌≤◌, ◌<◌, ℤ, pos, negsuc, nat_abs, leb, length}
use Rattle.std.proofs.Common.{sym, ap₂, ◌∙◌, suc-le-suc, lt_of_mul-lt-mul_right, zero-lt-suc, one-add, arith, eqb→eq, pow_pos}
use Rattle.std.proofs.Math.Path.{ap, subst}
use mathlib.Core.List.{List, [], ◌∷◌, map}
use Rattle.std.proofs.Math.Nat.{pow-succ', suc_inj}
use Rattle.std.proofs.Math.Dec.{T, eqb_refl}
use Rattle.lists.specs.ListLaws.{and_left, and_right, and_both}
use Rattle.ring.proofs.Ring.{ringℕ, pow_mul, poly, done, ◌⊖◌}
use Rattle.ring.proofs.Order.{belowℕ, equalℕ, num, slackℕ, ◌⊞◌, ◌⊠◌, nil, diffℕ, ◌⊕◌, ◌⊙◌}
use Rattle.ieee754.specs.Value.{unit, mag}
use Rattle.hyperparams.specs.declared.ValidParams.{ValidParams}
use Rattle.hyperparams.specs.Params.{levels}
use Rattle.counting_tree.specs.Frames.{Frame, floats}
use Rattle.counting_tree.specs.FramesIn.{squared_swap}
use Rattle.counting_tree.specs.Grid.{centre, indexes, centres}
use Rattle.counting_tree.specs.Box.{intersection}
use Rattle.counting_tree.specs.Geometry.{same_int, same_ints, frame, N, side, same_box, within, box, near, Nearer, FarReach}
use Rattle.counting_tree.specs.WholeFrames.{Pair, no_channel, channel, cell_frames}
use Rattle.counting_tree.specs.WholeDistance.{within_frames}
use Rattle.counting_tree.specs.Answers.{disjoint_sound, covered_sound, last_sound}
use Rattle.counting_tree.specs.Settings.{extended, Settings}
use Rattle.counting_tree.specs.Domain.{Count, Counts, Domain}
use Rattle.counting_tree.specs.declared.IntersectionType.TheVariants.{Disjoint, FullyCovered, Intersecting}

-- ---- to share a box is to have the same indexes
pub same_int_lem : (x y : ℤ) → T (same_int x y) → x ≡ y
same_int_lem (pos a) (pos b) h = ap pos (eqb→eq a b h)
same_int_lem (pos a) (negsuc b) h = absurd h
same_int_lem (negsuc a) (pos b) h = absurd h
same_int_lem (negsuc a) (negsuc b) h = ap negsuc (eqb→eq a b h)

pub int_same : (x : ℤ) → T (same_int x x)
int_same (pos a) = eqb_refl a
int_same (negsuc a) = eqb_refl a

ints_same : (xs : List ℤ) → T (same_ints xs xs)
ints_same [] = tt
ints_same (x ∷ xs) = and_both (same_int x x) (same_ints xs xs) (int_same x) (ints_same xs)

pub same_ints_lem : (xs ys : List ℤ) → T (same_ints xs ys) → xs ≡ ys
same_ints_lem [] [] h = refl
same_ints_lem [] (y ∷ ys) h = absurd h
same_ints_lem (x ∷ xs) [] h = absurd h
same_ints_lem (x ∷ xs) (y ∷ ys) h = ap₂ ◌∷◌ (same_int_lem x y (and_left (same_int x y) (same_ints xs ys) h)) (same_ints_lem xs ys (and_right (same_int x y) (same_ints xs ys) h))

module _ (v : ValidParams) (fs : List Frame) where
  pub same_indexes : (l i j : ℕ) → T (same_box v fs l i j) → indexes (side v fs l) (frame v fs i) ≡ indexes (side v fs l) (frame v fs j)
  unfolding same_box
  same_indexes l i j h = same_ints_lem (indexes (side v fs l) (frame v fs i)) (indexes (side v fs l) (frame v fs j)) h

  pub indexes_same : (l i j : ℕ) → indexes (side v fs l) (frame v fs i) ≡ indexes (side v fs l) (frame v fs j) → T (same_box v fs l i j)
  unfolding same_box
  indexes_same l i j e = subst (λ (z : List ℤ). T (same_ints (indexes (side v fs l) (frame v fs i)) z)) e (ints_same (indexes (side v fs l) (frame v fs i)))

  pub same_self : (l i : ℕ) → T (same_box v fs l i i)
  same_self l i = indexes_same l i i refl

  pub same_turn : (l i j : ℕ) → T (same_box v fs l i j) → T (same_box v fs l j i)
  same_turn l i j h = indexes_same l j i (sym (same_indexes l i j h))

  pub same_join : (l i j k : ℕ) → T (same_box v fs l i j) → T (same_box v fs l j k) → T (same_box v fs l i k)
  same_join l i j k h m = indexes_same l i k (same_indexes l i j h ∙ same_indexes l j k m)

  pub near_turn : (factor c d : ℕ) → T (near v fs factor c d) → T (near v fs factor d c)
  unfolding near
  near_turn factor c d h = subst (λ (n : ℕ). T (leb n (factor * (v.t * v.t)))) (squared_swap (frame v fs c) (frame v fs d)) h

  -- equal indexes give equal boxes
  pub box_same : (q l i j : ℕ) → T (same_box v fs l i j) → box v fs q l i ≡ box v fs q l j
  unfolding box centres
  box_same q l i j h =
      ap (λ (z : List ℤ). intersection v.channels v.tolerance v.appx_tolerance (side v fs l) (map (centre (side v fs l)) z) (floats (frame v fs q))) (same_indexes l i j h)

  pub far_turn : (p q : ℕ) → FarReach v fs p q → FarReach v fs q p
  far_turn p q h = rw (squared_swap (frame v fs p) (frame v fs q)) at h

-- ---- two frames of the domain
pub count_small : (z : ℤ) → Count z → nat_abs z ≤ 2 ^ 15
count_small (pos n) h = omega arith
count_small (negsuc n) h = h

pub pair : (xs ys : Frame) → length xs ≡ length ys → Counts xs → Counts ys → Pair xs ys
pair [] [] e h k = no_channel
pair [] (y ∷ ys) e h k = absurd (omega arith)
pair (x ∷ xs) [] e h k = absurd (omega arith)
pair (x ∷ xs) (y ∷ ys) e h k = channel (count_small x (h 0 (zero-lt-suc (length xs)))) (count_small y (k 0 (zero-lt-suc (length ys)))) (pair xs ys (suc_inj e) (λ i l. h (suc i) (suc-le-suc l)) (λ i l. k (suc i) (suc-le-suc l)))

-- ---- from units to N
pub four_power : (s : ℕ) → 4 ^ s ≡ 2 ^ s * 2 ^ s
four_power s = sym (pow_mul 2 s 2) ∙ ringℕ (2 ^ s ∷ []) (search poly depth 30) done

-- N u² < E² + u², and a E = X u
in_reach : (N E a X u f : ℕ) → 0 < a → f ≡ a * a → a * E ≡ X * u → N * (u * u) < E * E + u * u → N * f < X * X + f
in_reach N E a X u f p q e h = lt_of_mul-lt-mul_right (u * u)
    (belowℕ (N ∷ E ∷ a ∷ X ∷ u ∷ f ∷ [])
    (num (a * a) ⊠ slackℕ h ⊞ slackℕ p ⊠ num (a + 1) ⊞ nil (pos (a * E + X * u) ⊙ diffℕ (sym e) ⊕ (pos (u * u) ⊖ pos (N * (u * u))) ⊙ diffℕ q)) (search poly depth 30) done)

-- N ≤ t²
cell_reach : (N t a f : ℕ) → 0 < a → f ≡ a * a → N ≤ t * t → N * f < t * (a + 1) * (t * (a + 1)) + f
cell_reach N t a f p q h =
    belowℕ (N ∷ t ∷ a ∷ f ∷ []) (num f ⊠ slackℕ h ⊞ slackℕ p ⊠ num (a + 1) ⊞ num (t * t * (2 * a + 1)) ⊞ nil ((pos 1 ⊖ pos (t * t)) ⊙ diffℕ q)) (search poly depth 30) done

-- at the last level l = 1 + s the extended tolerance is t + 2 t / 2 ^ l
last_scaled : (v : ValidParams) → Settings v → 2 ^ levels v.s * mag v.appx_tolerance ≡ 2 ^ levels v.s * mag v.tolerance + 2 * mag v.tolerance
last_scaled v S =
    go (2 ^ v.s) (2 ^ levels v.s) (mag v.appx_tolerance) v.t unit (ap (λ (n : ℕ). 2 ^ n) (one-add v.s) ∙ pow-succ' 2 v.s) S.scaled
    ∙ ap (λ (k : ℕ). 2 ^ levels v.s * k + 2 * k) (sym S.scale.is.mag_is)
  where
    go : (a b E t u : ℕ) → b ≡ 2 * a → a * E ≡ t * (a + 1) * u → b * E ≡ b * (t * u) + 2 * (t * u)
    go a b E t u e f = equalℕ (a ∷ b ∷ E ∷ t ∷ u ∷ []) ((pos E ⊖ pos (t * u)) ⊙ diffℕ e ⊕ pos 2 ⊙ diffℕ f) (search poly depth 30) done

module _ (v : ValidParams) (fs : List Frame) (D : Domain v fs) where
  frames_pair : (i j : ℕ) → i < length fs → j < length fs → Pair (frame v fs i) (frame v fs j)
  frames_pair i j h k = pair (frame v fs i) (frame v fs j) (D.channels_are i h ∙ sym (D.channels_are j k)) (D.counts i h) (D.counts j k)

  deep : (l : ℕ) → l ≤ levels v.s → l ≤ 11
  deep l h = let p = D.settings.power in omega arith

  -- a Disjoint box has no frame nearer than t under it
  pub disjoint : (q l x : ℕ) → q < length fs → x < length fs → l ≤ levels v.s → box v fs q l x ≡ Disjoint → Nearer v fs q x → ⊥
  unfolding box side
  disjoint q l x hq hx hl e =
      disjoint_sound D.settings.scale l (deep l hl) (frame v fs q) (frame v fs x) (frames_pair q x hq hx) (D.channels_are q hq) (D.channels_are x hx) v.appx_tolerance (extended D.settings) e

  -- a FullyCovered box has only frames within the far reach under it
  pub covered : (q l x : ℕ) → q < length fs → x < length fs → l ≤ levels v.s → box v fs q l x ≡ FullyCovered → FarReach v fs q x
  unfolding box side
  covered q l x hq hx hl e =
      in_reach (N v fs q x) (mag v.appx_tolerance) (2 ^ v.s) (v.t * (2 ^ v.s + 1)) unit (4 ^ v.s) (pow_pos v.s) (four_power v.s) D.settings.scaled
      (covered_sound D.settings.scale l (deep l hl) (frame v fs q) (frame v fs x) (frames_pair q x hq hx) (D.channels_are q hq) (D.channels_are x hx) v.appx_tolerance (extended D.settings) e)

  -- the last level is never Intersecting
  pub last : (q x : ℕ) → q < length fs → x < length fs → box v fs q (levels v.s) x ≡ Intersecting → ⊥
  unfolding box side
  last q x hq hx e =
      last_sound D.settings.scale (levels v.s) (deep (levels v.s) (omega arith)) (frame v fs q) (frame v fs x) (frames_pair q x hq hx) (D.channels_are q hq) (D.channels_are x hx) v.appx_tolerance (extended D.settings)
      (last_scaled v D.settings) e

  -- two frames of one cell never lie over t apart
  pub cell_near : (i j : ℕ) → i < length fs → j < length fs → T (same_box v fs 0 i j) → N v fs i j ≤ v.t * v.t
  unfolding side
  cell_near i j h k e = cell_frames D.settings.scale (frame v fs i) (frame v fs j) (frames_pair i j h k) (frames_pair j i k h) (same_indexes v fs 0 i j e) (D.channels_are i h)

  pub cell : (i j : ℕ) → i < length fs → j < length fs → T (same_box v fs 0 i j) → FarReach v fs i j
  cell i j h k e = cell_reach (N v fs i j) v.t (2 ^ v.s) (4 ^ v.s) (pow_pos v.s) (four_power v.s) (cell_near i j h k e)

  -- between frames "distance ≤ t" is "sum of squares ≤ t × t"
  pub within_whole : (i j : ℕ) → i < length fs → j < length fs → within v fs i j ≡ leb (N v fs i j) (v.t * v.t)
  unfolding within
  within_whole i j h k = within_frames D.settings.scale (frames_pair i j h k) (D.channels_are i h)
