-- A coordinate lies in the box of its index, but for 6 × 2 ^ -36: at any side.
use Rattle.std.specs.Prelude.{◌≡◌, ◌⊎◌, Bool, not, ◌&&◌, [], ◌∷◌, ℤ, pos, ◌+ℤ◌, nat_abs, ltb, Float}
use Rattle.std.proofs.Math.Path.{refl, ap, subst}
use Rattle.std.proofs.Common.{sym, ◌∙◌, true≢false, le_trans, le_of_eq, lt_of_le_of_lt, mul-le-mul, mul-le-mul_right, mul-pos, add_assoc, le_of_mul-le-mul_right, lt_of_mul-lt-mul_right, div-mul-le_self, zero-add, add-zero, zero-mul, le_of_lt, le→leb, lt→ltb, lit≤}
use Rattle.std.proofs.Math.Logic.{inl, inr}
use Rattle.std.proofs.Math.Bool.{true, false}
use Prim.Native.Nat.{ℕ, zero, suc, ◌+◌, ◌-◌, ◌*◌, ◌/◌, ◌^◌, ◌≤◌, ◌<◌}
use Rattle.std.proofs.Math.Nat.{lt-div-mul-add}
use native.Mathlib.Omega.{arith}
use Rattle.std.proofs.Math.IntN.{negsuc, neg_ℤ}
use Rattle.std.proofs.Math.Dec.{T, leb→le, ltb→lt, nltb→le, nleb→lt}
use Rattle.std.specs.Float.{nan, inf, fin}
use Rattle.std.specs.Float.Ieee.{binary64, up, down, add, sub, mul, div, neg, lt, le, of_int, unlike, round}
use Rattle.std.specs.Float.Ieee.Fits.{down_pos, and_l, and_r}
use Rattle.ring.proofs.Ring.{poly, done}
use Rattle.ring.proofs.Order.{belowℕ, num, slackℕ, ◌⊞◌, ◌⊠◌, nil, diffℕ}
use Rattle.ieee754.specs.Value.{unit, unit_pos, tiny, unit_tiny, tiny_large, mag, sign, Good, Is, Close, close_twice, Rounded}
use Rattle.ieee754.specs.Ops.{plus, minus, plus_pos, minus_pos, plus_neg, minus_neg, neg_good, neg_parts, near_units, mul_near, div_near, sub_pos, add_neg}
use Rattle.ieee754.specs.Compare.{lt_is, le_is}
use Rattle.ieee754.specs.Exact.{of_int_pos, of_int_neg}
use Rattle.ieee754.specs.Abs.{box, close_abs}
use Rattle.ieee754.specs.Ceil.{ceil}
use Rattle.hyperparams.specs.Params.{float}
use Rattle.counting_tree.specs.Radius.{unlike_false, Side, Half, rep_half, half_is}
use Rattle.counting_tree.specs.Distance.{gap, gap_is}
use Rattle.counting_tree.specs.Grid.{half, index_at, index, centre}

-- ---- the ceiling
up_to : (a c i : ℕ) → 0 < c → i ≡ (a + (c - 1)) / c → (a ≤ i * c) × (i * c ≤ a + c)
up_to a c i p e =
    let x : i * c ≤ a + (c - 1) = subst (λ (n : ℕ). n * c ≤ a + (c - 1)) (sym e) (div-mul-le_self (a + (c - 1)) c) in
    let y : a + (c - 1) < i * c + c = subst (λ (n : ℕ). a + (c - 1) < n * c + c) (sym e) (lt-div-mul-add p) in
    go (i * c) x y
  where
    go : (n : ℕ) → n ≤ a + (c - 1) → a + (c - 1) < n + c → (a ≤ n) × (n ≤ a + c)
    go n x y = omega arith

pub ceil_pos : (y : Float) → Good y → sign y ≡ false → (i : ℕ) × (ceil y ≡ pos i) × (mag y ≤ i * unit) × (i * unit ≤ mag y + unit)
unfolding ceil Good sign
ceil_pos nan g s = absurd g
ceil_pos (inf t) g s = absurd g
ceil_pos (fin true m e) g s = absurd (true≢false s)
ceil_pos (fin false m e) g s =
    let a = m * up e in
    let c = down e in
    let i = (a + (c - 1)) / c in
    let u = up_to a c i (down_pos e) refl in
    (i, refl, le_of_mul-le-mul_right {k = c} (one a c i unit (mag (fin false m e)) g u.0) (down_pos e), le_of_mul-le-mul_right {k = c} (other a c i unit (mag (fin false m e)) g u.1) (down_pos e))
  where
    one : (a c i u M : ℕ) → a * u ≡ M * c → a ≤ i * c → M * c ≤ i * u * c
    one a c i u M g h = omega (arith, mul-le-mul_right u h)

    other : (a c i u M : ℕ) → a * u ≡ M * c → i * c ≤ a + c → i * u * c ≤ (M + u) * c
    other a c i u M g h = omega (arith, mul-le-mul_right u h)

pub ceil_neg : (y : Float) → Good y → sign y ≡ true → (j : ℕ) × (ceil y ≡ neg_ℤ (pos j)) × (mag y ≤ suc j * unit) × (suc j * unit ≤ mag y + unit)
unfolding ceil Good sign
ceil_neg nan g s = absurd g
ceil_neg (inf t) g s = absurd g
ceil_neg (fin false m e) g s = absurd (true≢false (sym s))
ceil_neg (fin true m e) g s =
    let a = m * up e in
    let c = down e in
    let j = a / c in
    (j, refl, le_of_mul-le-mul_right {k = c} (one a c j unit (mag (fin true m e)) g (lt-div-mul-add (down_pos e))) (down_pos e), le_of_mul-le-mul_right {k = c} (other a c j unit (mag (fin true m e)) g (div-mul-le_self a c)) (down_pos e))
  where
    one : (a c j u M : ℕ) → a * u ≡ M * c → a < j * c + c → M * c ≤ suc j * u * c
    one a c j u M g h = omega (arith, mul-le-mul_right u (le_of_lt h))

    other : (a c j u M : ℕ) → a * u ≡ M * c → j * c ≤ a → suc j * u * c ≤ (M + u) * c
    other a c j u M g h = omega (arith, mul-le-mul_right u h)

-- ---- from a rounded difference to Indexed: z is c - half or c + half, of size C - H before rounding
module _ (side : Float) (s : Side side) (H : ℕ) (e : mag side ≡ 2 * H) (C : ℕ) (c : C ≤ 2 ^ 16 * unit) (o : H ≤ C) where
  D_is : (t : Bool) (z : Float) → z ≡ round binary64 t (C - H) unit → Rounded z t (C - H) 1
  D_is t z h = subst (λ (w : Float). Rounded w t (C - H) 1) (sym h) (near_units t (C - H) (le_trans (small C H unit c) (mul-le-mul_right unit (lit≤ tt))))
    where
      small : (C H u : ℕ) → C ≤ 2 ^ 16 * u → C - H ≤ 2 ^ 16 * u
      small C H u h = omega arith

  D_near : (d : ℕ) → Close d (C - H) 1 → (C ≤ d + H + tiny) × (d + H ≤ C + tiny)
  D_near d k = go (close_abs d (C - H) 1 tiny (room (C - H) C unit tiny unit_tiny tiny_large (sub_le C H) c) k)
    where
      sub_le : (C H : ℕ) → C - H ≤ C
      sub_le C H = omega arith

      room : (n C u t : ℕ) → u ≡ 2 ^ 36 * t → 2 ^ 60 ≤ t → n ≤ C → C ≤ 2 ^ 16 * u → n + 2 ^ 52 * 1 ≤ 2 ^ 53 * t
      room n C u t e l a b = omega arith

      go : (d * 1 ≤ C - H + tiny) × (C - H ≤ d * 1 + tiny) → (C ≤ d + H + tiny) × (d + H ≤ C + tiny)
      go w = shape C H d tiny o w.0 w.1
        where
          shape : (C H d t : ℕ) → H ≤ C → d * 1 ≤ C - H + t → C - H ≤ d * 1 + t → (C ≤ d + H + t) × (d + H ≤ C + t)
          shape C H d t o a b = omega arith

  quotient_ok : (d : ℕ) → d + H ≤ C + tiny → d ≤ 2 ^ 100 * mag side
  quotient_ok d h = belowℕ (d ∷ H ∷ C ∷ unit ∷ tiny ∷ mag side ∷ [])
      (slackℕ h ⊞ slackℕ c ⊞ num (2 ^ 16 + 1) ⊠ slackℕ s.low ⊞ num (H + (2 ^ 36 - 1) * tiny + (2 ^ 100 - (2 ^ 16 + 1) * 2 ^ 13) * mag side) ⊞ nil (diffℕ unit_tiny)) (search poly depth 30) done

-- the index is small
index_small : (Y S d u i : ℕ) → 0 < u → Close Y (d * u) S → d ≤ 2 ^ 17 * u → S ≤ 2 ^ 16 * u → u ≤ 2 ^ 13 * S → i * u ≤ Y + u → i ≤ 2 ^ 40
index_small Y S d u i p c b h l n = le_of_mul-le-mul_right {k = u * u}
    (belowℕ (Y ∷ S ∷ d ∷ u ∷ i ∷ [])
    (num u ⊠ slackℕ n ⊞ num Y ⊠ slackℕ l ⊞ num (2 ^ 13) ⊠ (slackℕ (close_twice Y (d * u) S c) ⊞ slackℕ h) ⊞ num (2 ^ 14 * u) ⊠ slackℕ b ⊞ num (2 ^ 29 * u) ⊠ slackℕ p
    ⊞ num ((2 ^ 40 - 2 ^ 31 - 2 ^ 29 - 1) * (u * u))) (search poly depth 30) done) (mul-pos p p)

d_small : (d H C u t : ℕ) → u ≡ 2 ^ 36 * t → d + H ≤ C + t → C ≤ 2 ^ 16 * u → d ≤ 2 ^ 17 * u
d_small d H C u t e h c = omega arith

-- the centre of the box with the index i, in size
pub record Centred (x side : Float) (n : ℕ) : Type 0 where
  pub good : Good (mul binary64 x side)
  pub sign_is : sign (mul binary64 x side) ≡ sign x
  pub close : Close (mag (mul binary64 x side)) (n * unit * mag side) unit

wide : (u : ℕ) → 2 ^ 40 * u * (2 ^ 16 * u) ≤ 2 ^ 100 * u * u
wide u = belowℕ (u ∷ []) (num ((2 ^ 100 - 2 ^ 56) * (u * u))) (search poly depth 30) done

centred : (x side : Float) (t : Bool) (n : ℕ) → n ≤ 2 ^ 40 → Is x t (n * unit) → Side side → Centred x side n
centred x side t n b x_is s =
    let m = mul_near x side x_is.good s.good (le_trans (le_of_eq (ap (λ (k : ℕ). k * mag side) x_is.mag_is)) (le_trans (mul-le-mul (mul-le-mul_right unit b) s.high) (wide unit))) in
    record {
      good = m.good;
      sign_is = m.sign_is ∙ ap (unlike (sign x)) s.sign_is ∙ unlike_false (sign x);
      close = subst (λ (k : ℕ). Close (mag (mul binary64 x side)) (k * mag side) unit) x_is.mag_is m.close;
    }

-- what the steps give, but for the index and the centre
pub record Quotient (side : Float) (H C : ℕ) (t : Bool) (z : Float) : Type 0 where
  pub good : Good (div binary64 z side)
  pub sign_is : sign (div binary64 z side) ≡ t
  pub under : C ≤ mag z + H + tiny
  pub over : mag z + H ≤ C + tiny
  pub close : Close (mag (div binary64 z side)) (mag z * unit) (mag side)

pub side_pos : (side : Float) → Side side → 0 < mag side
side_pos side s = go (mag side) unit unit_pos s.low
  where
    go : (S u : ℕ) → 0 < u → u ≤ 2 ^ 13 * S → 0 < S
    go S u p l = omega arith

quotient : (side : Float) (s : Side side) (H : ℕ) → mag side ≡ 2 * H → (C : ℕ) → C ≤ 2 ^ 16 * unit → H ≤ C → (t : Bool) (z : Float) → z ≡ round binary64 t (C - H) unit → Quotient side H C t z
quotient side s H e C c o t z h =
    let d = D_is side s H e C c o t z h in
    let n = D_near side s H e C c o (mag z) d.close in
    let q = div_near z side d.good s.good (side_pos side s) (quotient_ok side s H e C c o (mag z) n.1) in
    record {
      good = q.good;
      sign_is = q.sign_is ∙ ap (unlike (sign z)) s.sign_is ∙ unlike_false (sign z) ∙ d.sign_is;
      under = n.0;
      over = n.1;
      close = q.close;
    }

-- ---- the box around it, by sizes
boxed : (side : Float) (s : Side side) (H : ℕ) → mag side ≡ 2 * H → (C : ℕ) → C ≤ 2 ^ 16 * unit → (t : Bool) (z : Float) → Quotient side H C t z
    → (n : ℕ) → mag (div binary64 z side) ≤ n * unit → n * unit ≤ mag (div binary64 z side) + unit → (x : Float) → Centred x side n
    → (C ≤ mag (mul binary64 x side) + H + 6 * tiny) × (mag (mul binary64 x side) ≤ C + H + 6 * tiny)
boxed side s H e C c t z q n a b x m = box C H (mag side) (mag z) (mag (div binary64 z side)) (mag (mul binary64 x side)) n
    (record { coordinate = c; side = s.high; half = e; under = q.under; over = q.over; quotient = q.close; above = a; near = b; centre = m.close })

-- ---- gaps by sizes
gap_pos : (x y : Float) → sign x ≡ false → sign y ≡ false → (n : ℕ) → mag x ≤ mag y + n → mag y ≤ mag x + n → gap x y ≤ n
gap_pos x y s t n a b = go (plus x) (minus x) (plus y) (minus y) (mag x) (mag y) (gap x y) (plus_pos x s) (minus_pos x s) (plus_pos y t) (minus_pos y t) a b (gap_is x y)
  where
    go : (px mx py my X Y g : ℕ) → px ≡ X → mx ≡ 0 → py ≡ Y → my ≡ 0 → X ≤ Y + n → Y ≤ X + n → (px + my ≡ mx + py + g) ⊎ (mx + py ≡ px + my + g) → g ≤ n
    go px mx py my X Y g a b c d i j (inl h) = omega arith
    go px mx py my X Y g a b c d i j (inr h) = omega arith

gap_neg : (x y : Float) → sign x ≡ true → sign y ≡ true → (n : ℕ) → mag x ≤ mag y + n → mag y ≤ mag x + n → gap x y ≤ n
gap_neg x y s t n a b = go (plus x) (minus x) (plus y) (minus y) (mag x) (mag y) (gap x y) (plus_neg x s) (minus_neg x s) (plus_neg y t) (minus_neg y t) a b (gap_is x y)
  where
    go : (px mx py my X Y g : ℕ) → px ≡ 0 → mx ≡ X → py ≡ 0 → my ≡ Y → X ≤ Y + n → Y ≤ X + n → (px + my ≡ mx + py + g) ⊎ (mx + py ≡ px + my + g) → g ≤ n
    go px mx py my X Y g a b c d i j (inl h) = omega arith
    go px mx py my X Y g a b c d i j (inr h) = omega arith

-- ---- the three cases
pub record InBox (c side : Float) (H : ℕ) (i : ℤ) : Type 0 where
  pub good : Good (centre side i)
  pub near : gap c (centre side i) ≤ H + 6 * tiny

no_size : (M S u : ℕ) → 0 < u → Close M (0 * u * S) u → M ≡ 0
no_size M S u p c = let k : M < 1 = lt_of_mul-lt-mul_right u (omega arith) in omega arith

middle : (pc mc pC mC ph mh pn mn g H t : ℕ) → pn ≡ mh → mn ≡ ph → ph ≡ H → mh ≡ 0 → pC ≡ 0 → mC ≡ 0 → pn + mc ≤ pc + mn → pc + mh < ph + mc → (pc + mC ≡ mc + pC + g) ⊎ (mc + pC ≡ pc + mC + g) → g ≤ H + 6 * t
middle pc mc pC mC ph mh pn mn g H t a b c d e f i j (inl k) = omega arith
middle pc mc pC mC ph mh pn mn g H t a b c d e f i j (inr k) = omega arith

module _ (side : Float) (s : Side side) (h : Float) (H : ℕ) (e : mag side ≡ 2 * H) (h_is : Is h false H) where
  above_box : (c : Float) → Good c → sign c ≡ false → mag c ≤ 2 ^ 16 * unit → H ≤ mag c → InBox c side H (ceil (div binary64 (sub binary64 c h) side))
  unfolding centre
  above_box c g t b o =
      let z = sub binary64 c h in
      let z-is : z ≡ round binary64 false (mag c - H) unit = sub_pos c h g h_is.good t h_is.sign_is (le_trans (le_of_eq h_is.mag_is) o) ∙ ap (λ (n : ℕ). round binary64 false (mag c - n) unit) h_is.mag_is in
      let q = quotient side s H e (mag c) b o false z z-is in
      let i = ceil_pos (div binary64 z side) q.good q.sign_is in
      let n = i.0 in
      let small = index_small (mag (div binary64 z side)) (mag side) (mag z) unit n unit_pos q.close (d_small (mag z) H (mag c) unit tiny unit_tiny q.over b) s.high s.low i.3 in
      let x = of_int_pos n (le_trans small (lit≤ tt)) in
      let m = centred (of_int binary64 (pos n)) side false n small x s in
      let k = boxed side s H e (mag c) b false z q n i.2 i.3 (of_int binary64 (pos n)) m in
      subst (λ (w : ℤ). InBox c side H w) (sym i.1)
      (record {
        good = m.good;
        near = gap_pos c (mul binary64 (of_int binary64 (pos n)) side) t (m.sign_is ∙ x.sign_is) (H + 6 * tiny)
            (le_trans k.0 (le_of_eq (add_assoc (mag (mul binary64 (of_int binary64 (pos n)) side)) H (6 * tiny)))) (le_trans k.1 (le_of_eq (add_assoc (mag c) H (6 * tiny))));
      })

  below_box : (c : Float) → Good c → sign c ≡ true → mag c ≤ 2 ^ 16 * unit → H < mag c → InBox c side H (negsuc 0 +ℤ ceil (div binary64 (add binary64 c h) side))
  unfolding centre
  below_box c g t b o =
      let z = add binary64 c h in
      let z-is : z ≡ round binary64 true (mag c - H) unit = add_neg c h g h_is.good t h_is.sign_is (lt_of_le_of_lt (le_of_eq h_is.mag_is) o) ∙ ap (λ (n : ℕ). round binary64 true (mag c - n) unit) h_is.mag_is in
      let q = quotient side s H e (mag c) b (le_of_lt o) true z z-is in
      let i = ceil_neg (div binary64 z side) q.good q.sign_is in
      let n = i.0 in
      let small = index_small (mag (div binary64 z side)) (mag side) (mag z) unit (suc n) unit_pos q.close (d_small (mag z) H (mag c) unit tiny unit_tiny q.over b) s.high s.low i.3 in
      let x = of_int_neg n (le_trans small (lit≤ tt)) in
      let m = centred (of_int binary64 (negsuc n)) side true (suc n) small x s in
      let k = boxed side s H e (mag c) b true z q (suc n) i.2 i.3 (of_int binary64 (negsuc n)) m in
      subst (λ (w : ℤ). InBox c side H w) (sym (ap (λ (w : ℤ). negsuc 0 +ℤ w) i.1 ∙ less n))
      (record {
        good = m.good;
        near = gap_neg c (mul binary64 (of_int binary64 (negsuc n)) side) t (m.sign_is ∙ x.sign_is) (H + 6 * tiny)
            (le_trans k.0 (le_of_eq (add_assoc (mag (mul binary64 (of_int binary64 (negsuc n)) side)) H (6 * tiny)))) (le_trans k.1 (le_of_eq (add_assoc (mag c) H (6 * tiny))));
      })
    where
      less : (n : ℕ) → negsuc 0 +ℤ neg_ℤ (pos n) ≡ negsuc n
      less zero = refl
      less (suc n) = ap (λ (k : ℕ). negsuc (suc k)) (zero-add n)

  -- -half ≤ c < half: the index is 0, and so is the centre
  middle_box : (c : Float) → Good c → T (le (neg h) c && lt c h) → InBox c side H (pos 0)
  unfolding centre
  middle_box c g t =
      let x = of_int_pos 0 (lit≤ tt) in
      let m = centred (float 0) side false 0 (lit≤ tt) x s in
      let np = neg_parts h h_is.good in
      let a : plus (neg h) + minus c ≤ plus c + minus (neg h) = leb→le (plus (neg h) + minus c) (plus c + minus (neg h)) (subst T (le_is (neg h) c (neg_good h h_is.good) g) (and_l (le (neg h) c) (lt c h) t)) in
      let b : plus c + minus h < plus h + minus c = ltb→lt (plus c + minus h) (plus h + minus c) (subst T (lt_is c h g h_is.good) (and_r (le (neg h) c) (lt c h) t)) in
      let C = mul binary64 (float 0) side in
      let z = no_size (mag C) (mag side) unit unit_pos m.close in
      record {
        good = m.good;
        near = middle (plus c) (minus c) (plus C) (minus C) (plus h) (minus h) (plus (neg h)) (minus (neg h)) (gap c C) H tiny np.0 np.1 (plus_pos h h_is.sign_is ∙ h_is.mag_is) (minus_pos h h_is.sign_is) (plus_pos C (m.sign_is ∙ x.sign_is) ∙ z) (minus_pos C (m.sign_is ∙ x.sign_is)) a b (gap_is c C);
      }

-- ---- the index of a whole coordinate
not_and : (a b : Bool) → T a → T (not (a && b)) → T (not b)
not_and true b t n = n
not_and false b t n = absurd t

not_and' : (a b : Bool) → T b → T (not (a && b)) → T (not a)
not_and' true true t n = n
not_and' false b t n = tt
not_and' true false t n = absurd t

clash : (a : Bool) → T a → T (not a) → ⊥
clash true t n = n
clash false t n = t

split : {A : Type 0} (b : Bool) → (T b → A) → (T (not b) → A) → A
split true f g = f tt
split false f g = g tt

unfoldable pub index_by : Bool → Bool → Float → Float → Float → ℤ
index_by true b side h c = pos 0
index_by false true side h c = ceil (div binary64 (sub binary64 c h) side)
index_by false false side h c = negsuc 0 +ℤ ceil (div binary64 (add binary64 c h) side)

by_is : (a b : Bool) (side h c : Float)
    → elim a as (λ (x : Bool). ℤ) [
      | true ↦ pos 0
      | false ↦ elim b as (λ (x : Bool). ℤ) [
        | true ↦ ceil (div binary64 (sub binary64 c h) side)
        | false ↦ negsuc 0 +ℤ ceil (div binary64 (add binary64 c h) side)
      ]
    ] ≡ index_by a b side h c
unfolding index_by
by_is true b side h c = refl
by_is false true side h c = refl
by_is false false side h c = refl

pub index_by_lem : (side h c : Float) → index_at side h c ≡ index_by (le (neg h) c && lt c h) (lt (float 0) c) side h c
unfolding index_at
index_by_lem side h c = by_is (le (neg h) c && lt c h) (lt (float 0) c) side h c

module _ (side : Float) (s : Side side) (h : Float) (H : ℕ) (e : mag side ≡ 2 * H) (h_is : Is h false H) where
  half_pos : 0 < H
  half_pos = go (mag side) H unit unit_pos s.low e
    where
      go : (S H u : ℕ) → 0 < u → u ≤ 2 ^ 13 * S → S ≡ 2 * H → 0 < H
      go S H u p l e = omega arith

  lt_half : (c : Float) → Good c → T (not (lt c h)) → H + minus c ≤ plus c
  lt_half c g t =
      let b = nltb→le (plus c + minus h) (plus h + minus c) (subst (λ (q : Bool). T (not q)) (lt_is c h g h_is.good) t) in
      go (plus c) (minus c) (plus h) (minus h) (plus_pos h h_is.sign_is ∙ h_is.mag_is) (minus_pos h h_is.sign_is) b
    where
      go : (pc mc ph mh : ℕ) → ph ≡ H → mh ≡ 0 → ph + mc ≤ pc + mh → H + mc ≤ pc
      go pc mc ph mh a b k = omega arith

  half_lt : (c : Float) → Good c → plus c < H + minus c → T (lt c h)
  half_lt c g k =
      subst T (sym (lt_is c h g h_is.good)) (lt→ltb (plus c + minus h) (plus h + minus c) (go (plus c) (minus c) (plus h) (minus h) (plus_pos h h_is.sign_is ∙ h_is.mag_is) (minus_pos h h_is.sign_is) k))
    where
      go : (pc mc ph mh : ℕ) → ph ≡ H → mh ≡ 0 → pc < H + mc → pc + mh < ph + mc
      go pc mc ph mh a b k = omega arith

  le_half : (c : Float) → Good c → minus c ≤ plus c + H → T (le (neg h) c)
  le_half c g k =
      let n = neg_parts h h_is.good in
      subst T (sym (le_is (neg h) c (neg_good h h_is.good) g)) (le→leb (plus (neg h) + minus c) (plus c + minus (neg h)) (go (plus c) (minus c) (plus h) (minus h) (plus (neg h)) (minus (neg h)) n.0 n.1 (plus_pos h h_is.sign_is ∙ h_is.mag_is) (minus_pos h h_is.sign_is) k))
    where
      go : (pc mc ph mh pn mn : ℕ) → pn ≡ mh → mn ≡ ph → ph ≡ H → mh ≡ 0 → mc ≤ pc + H → pn + mc ≤ pc + mn
      go pc mc ph mh pn mn i j a b k = omega arith

  half_le : (c : Float) → Good c → T (not (le (neg h) c)) → plus c + H < minus c
  half_le c g t =
      let n = neg_parts h h_is.good in
      let b = nleb→lt (plus (neg h) + minus c) (plus c + minus (neg h)) (subst (λ (q : Bool). T (not q)) (le_is (neg h) c (neg_good h h_is.good) g) t) in
      go (plus c) (minus c) (plus h) (minus h) (plus (neg h)) (minus (neg h)) n.0 n.1 (plus_pos h h_is.sign_is ∙ h_is.mag_is) (minus_pos h h_is.sign_is) b
    where
      go : (pc mc ph mh pn mn : ℕ) → pn ≡ mh → mn ≡ ph → ph ≡ H → mh ≡ 0 → pc + mn < pn + mc → pc + H < mc
      go pc mc ph mh pn mn i j a b k = omega arith

  zero_is : Is (float 0) false (0 * unit)
  zero_is = of_int_pos 0 (lit≤ tt)

  -- 0 < c
  lt_zero : (c : Float) → Good c → lt (float 0) c ≡ ltb (minus c) (plus c)
  lt_zero c g =
      let z = zero_is in
      let p = plus_pos (float 0) z.sign_is ∙ z.mag_is ∙ zero-mul unit in
      let m = minus_pos (float 0) z.sign_is in
      lt_is (float 0) c z.good g ∙ ap (λ (n : ℕ). ltb (n + minus c) (plus c + minus (float 0))) p ∙ ap (λ (n : ℕ). ltb (0 + minus c) (plus c + n)) m ∙ ap (λ (n : ℕ). ltb n (plus c + 0)) (zero-add (minus c)) ∙ ap (λ (n : ℕ). ltb (minus c) n) (add-zero (plus c))

  by_box_lem : (c : Float) → Good c → mag c ≤ 2 ^ 16 * unit → (sign c ≡ false) ⊎ (sign c ≡ true) → (a b : Bool) → a ≡ (le (neg h) c && lt c h) → b ≡ lt (float 0) c → InBox c side H (index_by a b side h c)
  unfolding index_by
  by_box_lem c g m t true b i j = middle_box side s h H e h_is c g (subst T i tt)
  by_box_lem c g m (inl t) false true i j =
      let p = plus_pos c t in
      let q = minus_pos c t in
      let f : T (not (lt c h)) = not_and (le (neg h) c) (lt c h) (le_half c g (omega arith)) (subst (λ (w : Bool). T (not w)) i tt) in
      above_box side s h H e h_is c g t m (omega (arith, lt_half c g f))
  by_box_lem c g m (inr t) false true i j =
      let k : minus c < plus c = ltb→lt (minus c) (plus c) (subst T (j ∙ lt_zero c g) tt) in
      absurd (none_below (minus c) (plus c) (plus_neg c t) k)
    where
      none_below : (a b : ℕ) → b ≡ 0 → a < b → ⊥
      none_below a b h k = omega arith
  by_box_lem c g m (inl t) false false i j =
      let k : plus c ≤ minus c = nltb→le (minus c) (plus c) (subst (λ (w : Bool). T (not w)) (j ∙ lt_zero c g) tt) in
      let q = minus_pos c t in
      let o = half_pos in
      absurd (clash (lt c h) (half_lt c g (omega arith)) (not_and (le (neg h) c) (lt c h) (le_half c g (omega arith)) (subst (λ (w : Bool). T (not w)) i tt)))
  by_box_lem c g m (inr t) false false i j =
      let p = plus_neg c t in
      let q = minus_neg c t in
      let o = half_pos in
      let f : T (not (le (neg h) c)) = not_and' (le (neg h) c) (lt c h) (half_lt c g (omega arith)) (subst (λ (w : Bool). T (not w)) i tt) in
      below_box side s h H e h_is c g t m (omega (arith, half_le c g f))

  at_box : (c : Float) → Good c → mag c ≤ 2 ^ 16 * unit → InBox c side H (index_at side h c)
  unfolding index_at
  at_box c g m =
      subst (λ (w : ℤ). InBox c side H w) (sym (by_is (le (neg h) c && lt c h) (lt (float 0) c) side h c))
      (by_box_lem c g m (signs (sign c)) (le (neg h) c && lt c h) (lt (float 0) c) refl refl)
    where
      signs : (b : Bool) → (b ≡ false) ⊎ (b ≡ true)
      signs true = inr refl
      signs false = inl refl

pub half_side : (side : Float) → Side side → (h : Half (mag side)) → Is (half side) false h.part
unfolding half
half_side side s h =
    let i = half_is side s.good h (go h.part (mag side) unit h.twice s.high) in
    record { good = i.good; mag_is = i.mag_is; sign_is = i.sign_is ∙ s.sign_is }
  where
    go : (p m u : ℕ) → m ≡ 2 * p → m ≤ 2 ^ 16 * u → p ≤ 2 ^ 100 * u
    go p m u a b = omega arith

pub coordinate_is : (c : ℤ) → nat_abs c ≤ 2 ^ 15 → Good (of_int binary64 c) × (mag (of_int binary64 c) ≤ 2 ^ 16 * unit)
coordinate_is (pos n) b = let i = of_int_pos n (le_trans b (lit≤ tt)) in (i.good, le_trans (le_of_eq i.mag_is) (mul-le-mul_right unit (le_trans b (lit≤ tt))))
coordinate_is (negsuc n) b = let i = of_int_neg n (le_trans b (lit≤ tt)) in (i.good, le_trans (le_of_eq i.mag_is) (mul-le-mul_right unit (le_trans b (lit≤ tt))))

pub side_half : (side : Float) → Side side → Half (mag side)
side_half side s = rep_half (mag side) s.rep (go (mag side) unit tiny unit_tiny tiny_large s.low)
  where
    go : (S u t : ℕ) → u ≡ 2 ^ 36 * t → 2 ^ 60 ≤ t → u ≤ 2 ^ 13 * S → 2 ^ 53 ≤ S
    go S u t e l h = omega arith

-- the box lemma: |c - centre| ≤ side / 2 + 6 * 2 ^ -36, at any side
pub index_box : (side : Float) (s : Side side) (c : ℤ) → nat_abs c ≤ 2 ^ 15 → InBox (of_int binary64 c) side (side_half side s).part (index side c)
unfolding index
index_box side s c b =
    let h = side_half side s in
    let k = coordinate_is c b in
    at_box side s (half side) h.part h.twice (half_side side s h) (of_int binary64 c) k.0 k.1
