-- One lent slice in regions: the slices that it is cut into, and the whole put together again once words are laid in the region of four words a frame.
use mathlib.Core.Path.{◌≡◌, refl, sym, ap, ap₂, ◌∙◌}
use mathlib.Core.List.{List, [], ◌∷◌, ◌++◌}
use Prim.Native.Nat.{ℕ, ◌+◌, ◌*◌, ◌≤◌}
use native.Mathlib.Omega.{arith}
use lib.ListN.{length, take, drop, replicate, length-append, length-replicate}
use lib.Seq.{drop-append-add, take-append-add}
use Rattle.std.proofs.Common.{append_assoc}
use Rattle.std.proofs.lemmas.List.{drop-append-le, take-append-le}
use Rattle.lists.specs.Words.{over}
use Rattle.lists.proofs.WordLaws.{over_length, over_apart}

-- words laid in the front of a list, and in its back
pub over_front : (xs ys : List ℕ) (a : ℕ) (ws : List ℕ) → a + length ws ≤ length xs → over xs a ws ++ ys ≡ over (xs ++ ys) a ws
over_front xs ys a ws h =
    append_assoc (take a xs ++ ws) (drop (a + length ws) xs) ys
    ∙ ap₂ (λ (p r : List ℕ). p ++ ws ++ r) (sym (take-append-le a xs ys (omega arith))) (sym (drop-append-le (a + length ws) xs ys h))

pub over_back : (xs ys : List ℕ) (a b : ℕ) (ws : List ℕ) → b ≡ length xs + a → xs ++ over ys a ws ≡ over (xs ++ ys) b ws
over_back xs ys a b ws e =
    let d : b + length ws ≡ length xs + (a + length ws) = omega arith in
    sym (append_assoc xs (take a ys ++ ws) (drop (a + length ws) ys))
    ∙ ap (λ (z : List ℕ). z ++ drop (a + length ws) ys) (sym (append_assoc xs (take a ys) ws))
    ∙ ap₂ (λ (p r : List ℕ). p ++ ws ++ r)
    (sym (ap (λ (i : ℕ). take i (xs ++ ys)) e ∙ take-append-add xs ys a))
    (sym (ap (λ (i : ℕ). drop i (xs ++ ys)) d ∙ drop-append-add xs ys (a + length ws)))

-- what is laid: where in the region, where in the whole, and the words
abbrev pub Layers : Type 0
Layers = List (ℕ × ℕ × List ℕ)

-- all of it in the region, and in the whole
abbrev pub in_region : Layers → List ℕ → List ℕ
in_region [] w = w
in_region ((a, b, ws) ∷ ls) w = in_region ls (over w a ws)

abbrev pub in_whole : Layers → List ℕ → List ℕ
in_whole [] w = w
in_whole ((a, b, ws) ∷ ls) w = in_whole ls (over w b ws)

-- the region begins at 6n in the whole, and all of it lies within 4n words
abbrev pub Fit : ℕ → Layers → Type 0
Fit n [] = Unit {0}
Fit n ((a, b, ws) ∷ ls) = (b ≡ 6 * n + a) × (a + length ws ≤ 4 * n) × Fit n ls

module _ (n : ℕ) where
  region_length : (ls : Layers) → Fit n ls → (w : List ℕ) → 4 * n ≤ length w → length (in_region ls w) ≡ length w
  region_length [] f w h = refl
  region_length ((a, b, ws) ∷ ls) f w h =
      let e : length (over w a ws) ≡ length w = over_length w a ws (omega (arith, f.1)) in
      region_length ls f.2 (over w a ws) (omega arith) ∙ e

  -- laid in the region, put back between what stands before and after it
  put_back : (G R : List ℕ) → length G ≡ 6 * n → (ls : Layers) → Fit n ls → (w : List ℕ) → 4 * n ≤ length w → G ++ (in_region ls w ++ R) ≡ in_whole ls (G ++ (w ++ R))
  put_back G R g [] f w h = refl
  put_back G R g ((a, b, ws) ∷ ls) f w h =
      let e : length (over w a ws) ≡ length w = over_length w a ws (omega (arith, f.1)) in
      put_back G R g ls f.2 (over w a ws) (omega arith)
      ∙ ap (in_whole ls) (ap (λ (z : List ℕ). G ++ z) (over_front w R a ws (omega (arith, f.1))) ∙ over_back G (w ++ R) a b ws (omega (arith, f.0)))

  -- words cleared after the region, before or after those are laid
  clear_first : (Z : List ℕ) (ls : Layers) → Fit n ls → (w : List ℕ) → 10 * n + length Z ≤ length w → over (in_whole ls w) (10 * n) Z ≡ in_whole ls (over w (10 * n) Z)
  clear_first Z [] f w h = refl
  clear_first Z ((a, b, ws) ∷ ls) f w h =
      let e : length (over w b ws) ≡ length w = over_length w b ws (omega (arith, f.0, f.1)) in
      clear_first Z ls f.2 (over w b ws) (omega arith)
      ∙ ap (in_whole ls) (over_apart w b (10 * n) ws Z (omega (arith, f.0, f.1)) (omega arith))

-- ---- the whole w in parts: the words up to 6n, four words a frame, those of the sorted cells, one word a frame, and the others
pub record Parts (n : ℕ) (w G W S X N : List ℕ) : Type 0 where
  pub whole : w ≡ G ++ (W ++ (S ++ (X ++ N)))
  pub front : length G ≡ 6 * n
  pub words : length W ≡ 4 * n
  pub sorted : length S ≡ 5 * n
  pub list : length X ≡ n

pub parts : {n : ℕ} {w G W S X N R R₁ R₂ : List ℕ} → w ≡ G ++ R → R ≡ W ++ R₁ → R₁ ≡ S ++ R₂ → R₂ ≡ X ++ N → length G ≡ 6 * n → length W ≡ 4 * n → length S ≡ 5 * n → length X ≡ n → Parts n w G W S X N
parts {n} {w} {G} {W} {S} e e₁ e₂ e₃ g h s x = record {
  whole = e ∙ ap (λ (z : List ℕ). G ++ z) (e₁ ∙ ap (λ (z : List ℕ). W ++ z) (e₂ ∙ ap (λ (z : List ℕ). S ++ z) e₃));
  front = g;
  words = h;
  sorted = s;
  list = x;
}

module _ {n : ℕ} {w G W S X N : List ℕ} (p : Parts n w G W S X N) where
  total : length w ≡ 16 * n + length N
  total = ap length p.whole ∙ omega (arith, length-append G (W ++ (S ++ (X ++ N))), length-append W (S ++ (X ++ N)), length-append S (X ++ N), length-append X N, p.front, p.words, p.sorted, p.list)

  abbrev zeros : List ℕ
  zeros = replicate (5 * n) 0

  -- the whole, put together with layers laid in the region, and the words of the sorted cells cleared
  pub together : (ls : Layers) → Fit n ls → {W' X' F : List ℕ} → W' ≡ in_region ls W → X' ≡ X → F ≡ over (G ++ (W' ++ (S ++ (X' ++ N)))) (10 * n) zeros → F ≡ in_whole ls (over w (10 * n) zeros)
  together ls f e x eF =
      eF
      ∙ ap₂ (λ (y z : List ℕ). over (G ++ (y ++ (S ++ (z ++ N)))) (10 * n) zeros) e x
      ∙ ap (λ (z : List ℕ). over z (10 * n) zeros) (put_back n G (S ++ (X ++ N)) p.front ls f W (omega (arith, p.words)) ∙ ap (in_whole ls) (sym p.whole))
      ∙ clear_first n zeros ls f w (omega (arith, total, length-replicate {A = ℕ} (5 * n) 0))
