-- Laws of runs: an element is followed by as many of its like as its run says; the runs of a list, made from the end on; marked cells and their runs.
use Rattle.std.specs.Prelude.{◌≡◌, refl, Bool, true, false, cond, List, [], ◌∷◌, map, ℕ, zero, suc, ◌+◌, ◌<◌, ◌≤◌, eqb, length, get_or}
use Rattle.std.proofs.Common.{sym, ap, ◌∙◌, subst, arith, zero-add, eqb→eq}
use Rattle.std.proofs.Math.ListN.{length-map}
use Rattle.lists.specs.ListLaws.{true_T, at_map}
use Rattle.cells_grid.specs.Listing.{MarkedRuns, Marked}
use Rattle.clustering.specs.Runs.{leading, runs_of}

pub runs_length : (xs : List ℕ) → length (runs_of xs) ≡ length xs
runs_length [] = refl
runs_length (x ∷ xs) = ap suc (runs_length xs)

-- the first of them are x
leading_same : (x : ℕ) (ys : List ℕ) (j : ℕ) → j ≤ leading x ys → get_or (x ∷ ys) j 0 ≡ x
leading_same x ys zero h = refl
leading_same x [] (suc j) h = absurd (omega arith)
leading_same x (y ∷ ys) (suc j) h = go (eqb x y) refl h (leading_same x ys j)
  where
    go : (b : Bool) → eqb x y ≡ b → suc j ≤ cond b (suc (leading x ys)) 0 → (j ≤ leading x ys → get_or (x ∷ ys) j 0 ≡ x) → get_or (y ∷ ys) j 0 ≡ x
    go true e k f = ap (λ (z : ℕ). get_or (z ∷ ys) j 0) (sym (eqb→eq x y (true_T e))) ∙ f (omega arith)
    go false e k f = absurd (omega arith)

-- the elements of a run are the same
pub runs_same : (xs : List ℕ) (p j : ℕ) → j ≤ get_or (runs_of xs) p 0 → get_or xs (p + j) 0 ≡ get_or xs p 0
runs_same [] p j h = refl
runs_same (x ∷ xs) zero j h = ap (λ (i : ℕ). get_or (x ∷ xs) i 0) (zero-add j) ∙ leading_same x xs j h
runs_same (x ∷ xs) (suc p) j h =
    let e : suc p + j ≡ suc (p + j) = omega arith in
    ap (λ (i : ℕ). get_or (x ∷ xs) i 0) e ∙ runs_same xs p j h

-- how many are y once x stands before them, where r of them are x
pub leading_more : (xs : List ℕ) (x r : ℕ) → leading x xs ≡ r → (y : ℕ) → leading y (x ∷ xs) ≡ cond (eqb y x) (r + 1) 0
leading_more xs x r h y = go (eqb y x) refl
  where
    go : (b : Bool) → eqb y x ≡ b → cond b (suc (leading y xs)) 0 ≡ cond b (r + 1) 0
    go true e = let f = eqb→eq y x (true_T e) in omega (arith, h, ap (λ (z : ℕ). leading z xs) f)
    go false e = refl

-- ---- marked cells: the sorted cells zs, with a mark for each cell, and their runs
module _ (zs ms : List ℕ) where
  mark_at : (p : ℕ) → p < length zs → get_or (map (λ c. get_or ms c 0) zs) p 0 ≡ get_or ms (get_or zs p 0) 0
  mark_at = at_map (λ c. get_or ms c 0) 0 0 zs

  -- a cell with the mark is followed by as many with it as its run says
  pub marked_runs : (mark : ℕ) → MarkedRuns zs ms (runs_of (map (λ c. get_or ms c 0) zs)) mark
  marked_runs mark p j h m l =
      sym (mark_at (p + j) h) ∙ runs_same (map (λ c. get_or ms c 0) zs) p j l ∙ mark_at p (omega arith) ∙ m

  pub marked : length ms ≡ length zs → {rs : List ℕ} → rs ≡ runs_of (map (λ c. get_or ms c 0) zs) → Marked zs ms rs
  marked e {rs} er = record {
    marks = e;
    runs = ap length er ∙ runs_length (map (λ c. get_or ms c 0) zs) ∙ length-map zs (λ c. get_or ms c 0);
    all = λ mark. subst (λ (ys : List ℕ). MarkedRuns zs ms ys mark) (sym er) (marked_runs mark);
  }
