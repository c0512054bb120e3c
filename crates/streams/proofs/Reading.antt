-- What a read leaves of a list: the bytes before its place, then what it gave.
use Rattle.std.proofs.Common.{◌≡◌, ℕ, ◌+◌, ◌≤◌, List, ◌++◌, length, take, drop, ap, ◌∙◌, le_refl, drop_at, length-take-le}
use Rattle.std.proofs.Math.Seq.{take-add, take-append-le}
use Rattle.std.proofs.lemmas.Slice.{take-put_mid_below}
use borrow.Rule.Slice.PartMut.{put_mid, post_of}

-- a read at place a of xs that gave k bytes, ys being what it left there
pub take_put_mid_more : (a room k : ℕ) (xs ys : List ℕ) → a ≤ length xs → k ≤ length ys → take (a + k) (put_mid a room xs ys) ≡ take a xs ++ take k ys
take_put_mid_more a room k xs ys within fits =
    let after = post_of a room xs in
    take-add a k (put_mid a room xs ys)
    ∙ ap (λ l. l ++ take k (drop a (put_mid a room xs ys))) (take-put_mid_below a room xs ys a (le_refl a) within)
    ∙ ap (λ l. take a xs ++ take k l) (drop_at (take a xs) (ys ++ after) a (length-take-le a xs within))
    ∙ ap (λ l. take a xs ++ l) (take-append-le k ys after fits)
