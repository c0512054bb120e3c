-- Document 01, "Domain": what the theorems ask of settings and frames, and that every accepted run has it.
use Rattle.std.specs.Prelude.{◌≡◌, List, [], ℕ, ◌+◌, ◌*◌, ◌/◌, ◌^◌, ◌≤◌, ◌<◌, ℤ, pos, length, get_or, drop, Ok}
use Rattle.std.proofs.Common.{sym, ap, ◌∙◌, subst, div-add-mod', arith, get_or-take, get_or-drop}
use Rattle.std.specs.Int.Signed.{mag}
use Rattle.hyperparams.specs.declared.Params.{Params}
use Rattle.hyperparams.specs.declared.ValidParams.{ValidParams}
use Rattle.hyperparams.specs.Params.{checked_of}
use Rattle.hyperparams.specs.Accepted.{accepted}
use Rattle.counting_tree.specs.Frames.{Frame, frames_in, frames_of}
use Rattle.counting_tree.specs.FramesIn.{frames_length, frame_at, frame_inside, frame_length}
use Rattle.counting_tree.specs.Settings.{Settings, settings_in}

-- "each a signed 16-bit count": −2 ^ 15 ≤ z < 2 ^ 15
abbrev pub Count : ℤ → Type 0
Count z = mag z < 2 ^ 15

abbrev pub Counts : List ℤ → Type 0
Counts zs = (k : ℕ) → k < length zs → Count (get_or zs k (pos 0))

pub record Domain (v : ValidParams) (fs : List Frame) : Type 0 where
  pub settings : Settings v
  pub channels_are : (i : ℕ) → i < length fs → length (get_or fs i []) ≡ v.channels
  pub counts : (i : ℕ) → i < length fs → Counts (get_or fs i [])

-- frame i is a frame of counts where its places in the points hold counts
pub frame_counts : (n d : ℕ) (ps : List ℤ) (i : ℕ) → n * d ≤ length ps → i < n → ((j : ℕ) → j < d → Count (get_or ps (i * d + j) (pos 0))) → Counts (get_or (frames_in n d ps) i [])
frame_counts n d ps i h k c j l =
    let m : j < d = subst (λ (w : ℕ). j < w) (frame_length n d ps i h k) l in
    subst Count (sym (ap (λ (f : Frame). get_or f j (pos 0)) (frame_at n d ps i k) ∙ get_or-take d (drop (i * d) ps) j (pos 0) m ∙ get_or-drop (i * d) ps j (pos 0))) (c j m)

-- n frames of points
pub domain_in : (ps : List ℤ) {v : ValidParams} (n : ℕ) → Settings v → n * v.channels ≤ length ps → Counts ps → Domain v (frames_in n v.channels ps)
domain_in ps {v} n s h c = record {
  settings = s;
  channels_are = λ i k. frame_length n v.channels ps i h (below i k);
  counts = λ i k. frame_counts n v.channels ps i h (below i k) (λ j m. c (i * v.channels + j) (omega (arith, frame_inside n v.channels (length ps) i h (below i k))));
}
  where
    below : (i : ℕ) → i < length (frames_in n v.channels ps) → i < n
    below i k = subst (λ (m : ℕ). i < m) (frames_length n v.channels ps) k

-- every accepted run
pub domain_of : (p : Params) (ps : List ℤ) (labels kinds work : ℕ) {v : ValidParams} → checked_of p (length ps) labels kinds work ≡ Ok v → Counts ps → Domain v (frames_of v.channels ps)
unfolding frames_of
domain_of p ps labels kinds work {v} e c = domain_in ps (length ps / v.channels) (settings_in (accepted p (length ps) labels kinds work e)) (omega (arith, div-add-mod' (length ps) v.channels)) c
