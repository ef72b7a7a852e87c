-- The elements of a list of which a part was written.
use Rattle.std.proofs.Common.{◌≡◌, ℕ, ◌+◌, ◌-◌, ◌<◌, ◌≤◌, List, ◌++◌, length, get_or, take, ap, ◌∙◌, arith, length-take-le}
use Rattle.std.proofs.lemmas.List.{get_or_append_left, get_or-append_right, get_or-take}
use borrow.Rule.Slice.PartMut.{put_mid, post_of}

-- before the part they stay
pub part-before : {X : Type 0} (a k : ℕ) (xs ys : List X) (i : ℕ) (d : X) → i < a → a ≤ length xs → get_or (put_mid a k xs ys) i d ≡ get_or xs i d
part-before a k xs ys i d l room =
    let e = length-take-le a xs room in
    get_or_append_left (take a xs) (ys ++ post_of a k xs) d i (omega arith) ∙ get_or-take a xs i d l

-- and in it they are those of what was written
pub part-within : {X : Type 0} (a k : ℕ) (xs ys : List X) (j : ℕ) (d : X) → j < length ys → a ≤ length xs → get_or (put_mid a k xs ys) (a + j) d ≡ get_or ys j d
part-within a k xs ys j d l room =
    let at : a + j - a ≡ j = omega arith in
    get_or-append_right (take a xs) (ys ++ post_of a k xs) a (a + j) d (length-take-le a xs room) (omega arith)
    ∙ ap (λ i. get_or (ys ++ post_of a k xs) i d) at
    ∙ get_or_append_left ys (post_of a k xs) d j l
