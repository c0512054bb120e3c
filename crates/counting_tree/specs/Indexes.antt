-- Boxes by their side: frames that have the indexes of another share its box, and the side of a level.
use Rattle.std.specs.Prelude.{◌≡◌, Bool, List, ℕ, ◌+◌, ◌≤◌, ◌<◌, ℤ, pos, length, take, replicate, Float}
use Rattle.std.proofs.Common.{sym, subst, ◌∙◌, add-one, arith}
use Rattle.std.proofs.Math.Path.{ap}
use Rattle.std.proofs.lemmas.List.{length-map}
use Rattle.lists.proofs.PartLaws.{part_same}
use Rattle.hyperparams.specs.declared.ValidParams.{ValidParams}
use Rattle.hyperparams.specs.Params.{levels}
use Rattle.counting_tree.specs.Frames.{Frame, frames_in}
use Rattle.counting_tree.specs.FramesIn.{frame_length}
use Rattle.counting_tree.specs.Grid.{half, side_at, index, centre, indexes, centres}
use Rattle.counting_tree.specs.Geometry.{geometry_of, frame, side, same_ints, same_at, same_box, box_at, box}
use Rattle.counting_tree.specs.Arrays.{placed}
use Rattle.counting_tree.specs.Radius.{Side}
use Rattle.counting_tree.specs.Sides.{level_side}
use Rattle.counting_tree.specs.Ready.{Ready, geometry_at}

pub indexes_length : (x : Float) (zs : Frame) → length (indexes x zs) ≡ length zs
unfolding indexes
indexes_length x zs = length-map zs (index x)

pub centres_length : (x : Float) (zs : Frame) → length (centres x zs) ≡ length zs
unfolding centres
centres_length x zs = length-map (indexes x zs) (centre x) ∙ indexes_length x zs

-- the first channels of an array are what was placed in it
pub placed_first : (d : ℕ) (zs : List ℤ) → length zs ≡ d → take d (placed zs) ≡ zs
unfolding placed
placed_first d zs e = part_same (replicate 4 (pos 0)) 0 d zs (omega arith) e

-- frame j has the indexes of frame i exactly if they agree
pub has_same : {ps : List ℤ} {v : ValidParams} {n : ℕ} → Ready ps v n → (x : Float) (i j : ℕ) → i < n → (at : List ℤ) → at ≡ placed (indexes x (frame v (frames_in n v.channels ps) i)) → (t : Bool)
    → t ≡ same_ints (take v.channels at) (indexes x (frame v (frames_in n v.channels ps) j)) → t ≡ same_at v (frames_in n v.channels ps) x i j
has_same {ps} {v} {n} r x i j h at f t g =
    let d = v.channels in
    let fs = frames_in n d ps in
    g ∙ ap (λ (zs : List ℤ). same_ints zs (indexes x (frame v fs j)))
    (ap (take d) f ∙ placed_first d (indexes x (frame v fs i)) (indexes_length x (frame v fs i) ∙ frame_length n d ps i r.room h))

module _ {ps : List ℤ} {v : ValidParams} {n : ℕ} (r : Ready ps v n) (l : ℕ) (x : Float) (e : x ≡ side_at v.channels v.tolerance l) where
  -- the side of a level can be asked for indexes
  pub ready_side : l ≤ levels v.s → Side x
  ready_side h = let p = r.settings.power in subst Side (sym e) (level_side r.settings.scale l (omega arith))

  -- frames share a box of the level exactly if their indexes agree at its side
  pub same_level : same_at v (frames_in n v.channels ps) x ≡ (geometry_at v n ps).same l
  unfolding geometry_of same_box side
  same_level = ap (same_at v (frames_in n v.channels ps)) e

  pub box_level : (q i : ℕ) → box_at v (frames_in n v.channels ps) x q i ≡ (geometry_at v n ps).box q l i
  unfolding geometry_of box side
  box_level q i = ap (λ (y : Float). box_at v (frames_in n v.channels ps) y q i) e

  -- frame j has the indexes of frame i exactly if both share a box of the level
  pub same_indexes : (i j : ℕ) → i < n → (at : List ℤ) → at ≡ placed (indexes x (frame v (frames_in n v.channels ps) i)) → (t : Bool)
      → t ≡ same_ints (take v.channels at) (indexes x (frame v (frames_in n v.channels ps) j)) → t ≡ (geometry_at v n ps).same l i j
  same_indexes i j h at f t g = has_same r x i j h at f t g ∙ ap (λ (s : ℕ → ℕ → Bool). s i j) same_level

-- a side of some level of the trees
pub record LevelSide (v : ValidParams) (x : Float) : Type 0 where
  pub level : ℕ
  pub depth : level ≤ levels v.s
  pub is : x ≡ side_at v.channels v.tolerance level

pub some_side : {ps : List ℤ} {v : ValidParams} {n : ℕ} → Ready ps v n → {x : Float} → LevelSide v x → Side x
some_side r {x} L = ready_side r L.level x L.is L.depth

-- the next level's side is half as long
pub next_side : (d : ℕ) (t : Float) (l : ℕ) (x y : Float) → x ≡ side_at d t l → y ≡ half x → y ≡ side_at d t (l + 1)
unfolding side_at
next_side d t l x y e f = f ∙ ap half e ∙ ap (side_at d t) (sym (add-one l))
