-- What whole numbers say of a frame's path: a frame nearer than t reaches, and one that reaches lies within the far reach.
use Rattle.std.specs.Prelude.{◌≡◌, true, List, [], ◌∷◌, ℤ, length, get_or}
use Rattle.std.proofs.Math.Path.{refl}
use Rattle.std.proofs.Common.{sym, ◌∙◌, subst, zero-add, add-zero, arith}
use Prim.Native.Nat.{ℕ, zero, suc, ◌+◌, ◌≤◌, ◌<◌}
use Rattle.std.proofs.Math.Dec.{T}
use Rattle.hyperparams.specs.declared.ValidParams.{ValidParams}
use Rattle.counting_tree.specs.declared.IntersectionType.{IntersectionType}
use Rattle.counting_tree.specs.declared.IntersectionType.TheVariants.{Disjoint, FullyCovered, Intersecting}
use Rattle.counting_tree.specs.Frames.{Frame, frames_in}
use Rattle.counting_tree.specs.FramesIn.{frame_length}
use Rattle.counting_tree.specs.Geometry.{geometry_of, frame, side, box, Nearer, FarReach}
use Rattle.counting_tree.specs.Settings.{Settings}
use Rattle.counting_tree.specs.Domain.{Counts, Domain}
use Rattle.counting_tree.specs.Ready.{geometry_at, Ready}
use Rattle.counting_tree.specs.Paths.{on_box, reaches}
use Rattle.counting_tree.specs.Sound.{disjoint, covered, last}

-- ---- by what the boxes on the path say, of `levels` levels below the root
module _ (box : ℕ → ℕ → IntersectionType) (levels x : ℕ) where
  pub far_path : {Far : Type 0} → ((l : ℕ) → l ≤ levels → box l x ≡ FullyCovered → Far) → (box levels x ≡ Intersecting → ⊥)
      → (k l : ℕ) → k + l ≡ levels → T (reaches box k l x) → Far
  unfolding reaches
  far_path {Far} covers ends zero l e t = go (box l x) refl t
    where
      go : (v : IntersectionType) → box l x ≡ v → T (on_box v true) → Far
      go Disjoint p t = absurd t
      go FullyCovered p t = covers l (omega arith) p
      go Intersecting p t = absurd (ends (subst (λ (n : ℕ). box n x ≡ Intersecting) (sym (zero-add l) ∙ e) p))
  far_path {Far} covers ends (suc k) l e t = go (box l x) refl (far_path covers ends k (suc l) (omega arith)) t
    where
      go : (v : IntersectionType) → box l x ≡ v → (T (reaches box k (suc l) x) → Far) → T (on_box v (reaches box k (suc l) x)) → Far
      go Disjoint p r t = absurd t
      go FullyCovered p r t = covers l (omega arith) p
      go Intersecting p r t = r t

  pub near_path : ((l : ℕ) → l ≤ levels → box l x ≡ Disjoint → ⊥) → (k l : ℕ) → k + l ≡ levels → T (reaches box k l x)
  unfolding reaches
  near_path meets zero l e = go (box l x) refl
    where
      go : (v : IntersectionType) → box l x ≡ v → T (on_box v true)
      go Disjoint p = meets l (omega arith) p
      go FullyCovered p = tt
      go Intersecting p = tt
  near_path meets (suc k) l e = go (box l x) refl (near_path meets k (suc l) (omega arith))
    where
      go : (v : IntersectionType) → box l x ≡ v → T (reaches box k (suc l) x) → T (on_box v (reaches box k (suc l) x))
      go Disjoint p r = meets l (omega arith) p
      go FullyCovered p r = tt
      go Intersecting p r = r

-- ---- two frames of counts, among any others
pair_domain : {v : ValidParams} {a b : Frame} → Settings v → length a ≡ v.channels → length b ≡ v.channels → Counts a → Counts b → Domain v (a ∷ b ∷ [])
pair_domain {v} {a} {b} s p q c d = record { settings = s; channels_are = lengths; counts = counts }
  where
    lengths : (i : ℕ) → i < 2 → length (get_or (a ∷ b ∷ []) i []) ≡ v.channels
    lengths zero h = p
    lengths (suc zero) h = q
    lengths (suc (suc i)) h = absurd (omega arith)

    counts : (i : ℕ) → i < 2 → Counts (get_or (a ∷ b ∷ []) i [])
    counts zero h = c
    counts (suc zero) h = d
    counts (suc (suc i)) h = absurd (omega arith)

module _ {ps : List ℤ} {v : ValidParams} {n : ℕ} (r : Ready ps v n) (q x : ℕ) (hq : q < n) (hx : x < n)
    (cq : Counts (frame v (frames_in n v.channels ps) q)) (cx : Counts (frame v (frames_in n v.channels ps) x)) where
  abbrev two : List Frame
  two = frame v (frames_in n v.channels ps) q ∷ frame v (frames_in n v.channels ps) x ∷ []

  domain : Domain v two
  domain = pair_domain r.settings (frame_length n v.channels ps q r.room hq) (frame_length n v.channels ps x r.room hx) cq cx

  pub near_reaches : Nearer v (frames_in n v.channels ps) q x → T (reaches ((geometry_at v n ps).box q) (geometry_at v n ps).levels 0 x)
  unfolding geometry_of box side
  near_reaches h =
      near_path ((geometry_at v n ps).box q) (geometry_at v n ps).levels x (λ l k e. disjoint v two domain 0 l 1 (omega arith) (omega arith) k e h)
      (geometry_at v n ps).levels 0 (add-zero (geometry_at v n ps).levels)

  pub reaches_far : T (reaches ((geometry_at v n ps).box q) (geometry_at v n ps).levels 0 x) → FarReach v (frames_in n v.channels ps) q x
  unfolding geometry_of box side
  reaches_far t =
      far_path ((geometry_at v n ps).box q) (geometry_at v n ps).levels x (λ l k e. covered v two domain 0 l 1 (omega arith) (omega arith) k e) (λ e. last v two domain 0 1 (omega arith) (omega arith) e)
      (geometry_at v n ps).levels 0 (add-zero (geometry_at v n ps).levels) t
