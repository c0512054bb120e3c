-- A partition held as each cell's leader, whichever leader a union keeps; and where it keeps the lower one, each core cell ends with the lowest cell of its cluster.
use Rattle.std.specs.Prelude.{◌≡◌, ◌⊎◌, ◌↔◌, Bool, not, ◌||◌, cond, List, T, leb}
use Rattle.std.proofs.Math.Path.{refl}
use Rattle.std.proofs.Common.{sym, ap, ◌∙◌, subst, inl, inr, le_of_lt, arith, leb→le, eqb→eq}
use Rattle.std.proofs.Math.Bool.{true, false}
use Prim.Native.Nat.{ℕ, ◌≤◌, min}
use Rattle.std.proofs.Math.Nat.{le_refl, min-eq_left, min-eq_right}
use Rattle.std.proofs.Math.Dec.{eqb, nleb→lt, eqb_refl}
use Rattle.lists.specs.Lists.{In}
use Rattle.lists.specs.ListLaws.{T_or_not, or_cases, or_one, or_two, cond_true}
use Rattle.counting_tree.specs.Geometry.{Geometry}
use Rattle.cells_grid.specs.Cells.{cells, list, core_cell}
use Rattle.cells_grid.specs.Lawful.{Lawful}
use Rattle.clustering.proofs.Leaders.{Leads}
use Rattle.clustering.specs.AnyOrder.{OneAfter, Partition, outer_rec, touches_by, united, Children}
use Rattle.clustering.proofs.AnyOrderLaws.{loop_sound, loop_complete}

-- ---- cells are in one set if they have one leader
pub equal : {a b : ℕ} → a ≡ b → T (eqb a b)
equal {b} e = rw e (eqb_refl b)

-- a union gives both sets the leader k
abbrev pub unite_leaders : ℕ → ℕ → ℕ → (ℕ → ℕ) → ℕ → ℕ
unite_leaders k c d l x = cond (eqb (l x) (l c) || eqb (l x) (l d)) k (l x)

module _ (c d : ℕ) (l : ℕ → ℕ) where
  -- x is in one of the two sets
  abbrev Side : ℕ → Type 0
  Side x = (l x ≡ l c) ⊎ (l x ≡ l d)

  side : (x : ℕ) → T (eqb (l x) (l c) || eqb (l x) (l d)) → Side x
  side x t = elim (or_cases (eqb (l x) (l c)) (eqb (l x) (l d)) t) [ inl h ↦ inl (eqb→eq (l x) (l c) h) | inr h ↦ inr (eqb→eq (l x) (l d) h) ]

  in_side : (k x : ℕ) → Side x → unite_leaders k c d l x ≡ k
  in_side k x h =
      cond_true (eqb (l x) (l c) || eqb (l x) (l d)) k (l x)
      (elim h [ inl e ↦ or_one (eqb (l x) (l c)) (eqb (l x) (l d)) (equal e) | inr e ↦ or_two (eqb (l x) (l c)) (eqb (l x) (l d)) (equal e) ])

  sides : (x y : ℕ) → Side x → Side y → OneAfter (λ x y. eqb (l x) (l y)) c d x y
  sides x y (inl p) (inl q) = inl (equal (p ∙ sym q))
  sides x y (inl p) (inr q) = inr (inl (equal p, equal (sym q)))
  sides x y (inr p) (inl q) = inr (inr (equal p, equal (sym q)))
  sides x y (inr p) (inr q) = inl (equal (p ∙ sym q))

  pub leaders_join : (k : ℕ) → unite_leaders k c d l c ≡ unite_leaders k c d l d
  leaders_join k = in_side k c (inl refl) ∙ sym (in_side k d (inr refl))

  -- where k is the leader of either
  module _ (k : ℕ) (either : (k ≡ l c) ⊎ (k ≡ l d)) where
    pub leaders_only : (x y : ℕ) → unite_leaders k c d l x ≡ unite_leaders k c d l y → OneAfter (λ x y. eqb (l x) (l y)) c d x y
    leaders_only x y e = go (eqb (l x) (l c) || eqb (l x) (l d)) (eqb (l y) (l c) || eqb (l y) (l d)) (side x) (side y) e
      where
        kept : (z : ℕ) → l z ≡ k → Side z
        kept z e = elim either [ inl p ↦ inl (e ∙ p) | inr p ↦ inr (e ∙ p) ]

        go : (a b : Bool) → (T a → Side x) → (T b → Side y) → cond a k (l x) ≡ cond b k (l y) → OneAfter (λ x y. eqb (l x) (l y)) c d x y
        go true true f g e = sides x y (f tt) (g tt)
        go true false f g e = sides x y (f tt) (kept y (sym e))
        go false true f g e = sides x y (kept x e) (g tt)
        go false false f g e = inl (equal e)

-- so whichever leader is kept, by the cells and all leaders, it is a partition
abbrev pub leader_partition : (pick : ℕ → ℕ → (ℕ → ℕ) → ℕ) → ((c d : ℕ) (l : ℕ → ℕ) → (pick c d l ≡ l c) ⊎ (pick c d l ≡ l d)) → Partition
leader_partition pick either = record {
  State = ℕ → ℕ;
  same = λ l x y. eqb (l x) (l y);
  unite = λ c d l. unite_leaders (pick c d l) c d l;
  start = λ x. x;
  start_apart = eqb→eq;
  same_self = λ l x. eqb_refl (l x);
  same_turn = λ l x y t. equal (sym (eqb→eq (l x) (l y) t));
  same_join = λ l x y z s t. equal (eqb→eq (l x) (l y) s ∙ eqb→eq (l y) (l z) t);
  unite_joins = λ c d l. equal (leaders_join c d l (pick c d l));
  unite_keeps = λ c d l x y t. equal (ap (λ (z : ℕ). cond (eqb z (l c) || eqb z (l d)) (pick c d l) z) (eqb→eq (l x) (l y) t));
  unite_only = λ c d l x y t. leaders_only c d l (pick c d l) (either c d l) x y (eqb→eq (unite_leaders (pick c d l) c d l x) (unite_leaders (pick c d l) c d l y) t);
}

-- ---- the lower leader: "each cell has a leader whose number is never larger; following leaders ends at the set's lowest cell"
pub lower_either : (a b : ℕ) → (min a b ≡ a) ⊎ (min a b ≡ b)
lower_either a b = elim (T_or_not (leb a b)) [ inl h ↦ inl (min-eq_left (leb→le a b h)) | inr h ↦ inr (min-eq_right (le_of_lt (nleb→lt a b h))) ]

abbrev pub lower_leaders : Partition
lower_leaders = leader_partition (λ c d l. min (l c) (l d)) (λ c d l. lower_either (l c) (l d))

-- leaders are no larger, and lead themselves
pub record Lowest (l : ℕ → ℕ) : Type 0 where
  pub lower : (x : ℕ) → l x ≤ x
  pub itself : (x : ℕ) → l (l x) ≡ l x

pub unite_lowest : (c d : ℕ) (l : ℕ → ℕ) → Lowest l → Lowest (unite_leaders (min (l c) (l d)) c d l)
unite_lowest c d l w = record { lower = lower; itself = itself }
  where
    lower : (x : ℕ) → unite_leaders (min (l c) (l d)) c d l x ≤ x
    lower x = go (eqb (l x) (l c) || eqb (l x) (l d)) (side c d l x)
      where
        go : (b : Bool) → (T b → Side c d l x) → cond b (min (l c) (l d)) (l x) ≤ x
        go true f = elim (f tt) [ inl e ↦ omega (arith, w.lower x, e) | inr e ↦ omega (arith, w.lower x, e) ]
        go false f = w.lower x

    kept : Side c d l (min (l c) (l d))
    kept = elim (lower_either (l c) (l d)) [ inl e ↦ inl (ap l e ∙ w.itself c) | inr e ↦ inr (ap l e ∙ w.itself d) ]

    itself : (x : ℕ) → unite_leaders (min (l c) (l d)) c d l (unite_leaders (min (l c) (l d)) c d l x) ≡ unite_leaders (min (l c) (l d)) c d l x
    itself x = go (eqb (l x) (l c) || eqb (l x) (l d)) refl
      where
        go : (b : Bool) → (eqb (l x) (l c) || eqb (l x) (l d)) ≡ b → unite_leaders (min (l c) (l d)) c d l (cond b (min (l c) (l d)) (l x)) ≡ cond b (min (l c) (l d)) (l x)
        go true e = in_side c d l (min (l c) (l d)) (min (l c) (l d)) kept
        go false e = rw (w.itself x, e)

-- the loop that keeps the lower leader
module _ (g : Geometry) (L : Lawful g) (children : ℕ → ℕ → List ℕ → List (List ℕ)) (kids : Children g children) (order : List ℕ) (lists : ℕ → List ℕ) where
  pub united_lowest : Lowest (united g lower_leaders children order lists)
  unfolding united
  united_lowest =
      outer_rec lower_leaders (core_cell g) (touches_by g children) Lowest lists order (λ c d i h j l w. go c d l w (not (core_cell g d) || eqb (l c) (l d)) (touches_by g children c d))
      (λ x. x) (record { lower = λ x. le_refl x; itself = λ x. refl })
    where
      go : (c d : ℕ) (l : ℕ → ℕ) → Lowest l → (a b : Bool) → Lowest (cond a l (cond b (unite_leaders (min (l c) (l d)) c d l) l))
      go c d l w true b = w
      go c d l w false true = unite_lowest c d l w
      go c d l w false false = w

  -- each core cell leads to the lowest cell of its cluster
  pub united_leads : ((c : ℕ) → In c order ↔ In c (cells g)) → ((c d : ℕ) → In d (lists c) ↔ In d (list g c)) → Leads g (united g lower_leaders children order lists)
  united_leads cells_in lists-in =
      let l = united g lower_leaders children order lists in
      let w = united_lowest in
      record {
        joins = λ c i. loop_sound g L lower_leaders children kids order lists (λ c. (cells_in c).0) (λ c d. (lists-in c d).0) c (l c) i (equal (sym (w.itself c)));
        lowest = λ c d t. subst (λ (x : ℕ). x ≤ d) (sym (eqb→eq (l c) (l d) (loop_complete g L lower_leaders children kids order lists cells_in lists-in t))) (w.lower d);
      }
