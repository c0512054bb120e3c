-- The first n frames of lent points under accepted settings: what the functions on them ask, their geometry, and that every accepted run has it.
use Rattle.std.specs.Prelude.{◌≡◌, List, ℕ, ◌+◌, ◌*◌, ◌/◌, ◌≤◌, ◌<◌, ℤ, length, Ok}
use Rattle.std.proofs.Math.Path.{refl}
use Rattle.std.proofs.Common.{sym, subst, div-add-mod', mul-le-mul, arith}
use Rattle.hyperparams.specs.declared.Params.{Params}
use Rattle.hyperparams.specs.declared.ValidParams.{ValidParams}
use Rattle.hyperparams.specs.Params.{max_frames, checked_of}
use Rattle.hyperparams.specs.Accepted.{accepted}
use Rattle.counting_tree.specs.Frames.{frames_in}
use Rattle.counting_tree.specs.FramesIn.{frames_length}
use Rattle.counting_tree.specs.Geometry.{Geometry, geometry_of, short, frame}
use Rattle.std.proofs.Props.{props}
use Rattle.counting_tree.specs.Settings.{Settings, Settings_prop, settings_in}
use Rattle.counting_tree.specs.Domain.{Counts, Domain, domain_in}

-- the geometry of the first n frames
abbrev pub geometry_at : ValidParams → ℕ → List ℤ → Geometry
geometry_at v n ps = geometry_of short v (frames_in n v.channels ps)

pub record Ready (ps : List ℤ) (v : ValidParams) (n : ℕ) : Type 0 where
  pub settings : Settings v
  pub least : 2 ≤ v.min_points
  pub few : n ≤ max_frames
  pub room : n * v.channels ≤ length ps

pub Ready_prop : (ps : List ℤ) (v : ValidParams) (n : ℕ) → IsProp (Ready ps v n)
Ready_prop ps v n = Prim.hlevel (props, Settings_prop)

module _ (v : ValidParams) (n : ℕ) (ps : List ℤ) where
  pub at_frames : (geometry_at v n ps).frames ≡ n
  unfolding geometry_of
  at_frames = frames_length n v.channels ps

  pub at_least : (geometry_at v n ps).least ≡ v.min_points
  unfolding geometry_of
  at_least = refl

  pub at_levels : (geometry_at v n ps).levels ≡ 1 + v.s
  unfolding geometry_of
  at_levels = refl

-- t is at most 65,535
pub square_fits : {ps : List ℤ} {v : ValidParams} {n : ℕ} → Ready ps v n → v.t * v.t ≤ 4294836225
square_fits r = mul-le-mul {n₂ = 65535} {m₂ = 65535} r.settings.scale.high r.settings.scale.high

-- every accepted run
pub ready_of : (p : Params) (ps : List ℤ) (labels kinds work : ℕ) {v : ValidParams} → checked_of p (length ps) labels kinds work ≡ Ok v → Ready ps v (length ps / v.channels)
ready_of p ps labels kinds work {v} e =
    let a = accepted p (length ps) labels kinds work e in
    record {
      settings = settings_in a;
      least = subst (λ (w : ValidParams). 2 ≤ w.min_points) (sym a.settings) a.two_points;
      few = subst (λ (w : ValidParams). length ps / w.channels ≤ max_frames) (sym a.settings) a.few_frames;
      room = omega (arith, div-add-mod' (length ps) v.channels);
    }

pub ready_domain : {ps : List ℤ} {v : ValidParams} {n : ℕ} → Ready ps v n → Counts ps → Domain v (frames_in n v.channels ps)
ready_domain {ps} {v} {n} r c = domain_in ps n r.settings r.room c

-- frame i is a frame of counts
pub ready_counts : {ps : List ℤ} {v : ValidParams} {n : ℕ} → Ready ps v n → Counts ps → (i : ℕ) → i < n → Counts (frame v (frames_in n v.channels ps) i)
ready_counts {ps} {v} {n} r c i h = (ready_domain r c).counts i (subst (λ (m : ℕ). i < m) (sym (frames_length n v.channels ps)) h)
