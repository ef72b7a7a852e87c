-- What a vector holds after writes through its slice.
use Rattle.std.proofs.Common.{◌≡◌, ℕ, ◌-◌, [], ◌∷◌, ◌++◌, List, length, length-append, get_or, take, drop, sym, ap, ◌∙◌, arith, Vec, Global}
use Rattle.std.proofs.Math.Seq.{take-append_seam, get_or-append_seam}

pub written : {X : Type 0} (v : Vec X Global) (ws : List X) → length ws ≡ length v.items → take v.len (ws ++ drop (length ws) v.items) ≡ ws
written v ws e =
    let ok = v.ok in
    let size : length ws ≡ v.len = omega arith in
    ap (λ n. take n (ws ++ drop (length ws) v.items)) (sym size) ∙ take-append_seam ws (drop (length ws) v.items)

pub last-push : {X : Type 0} (d : X) (xs : List X) (v : X) → get_or (xs ++ v ∷ []) (length (xs ++ v ∷ []) - 1) d ≡ v
last-push d xs v = ap (λ n. get_or (xs ++ v ∷ []) n d) (let e = length-append xs (v ∷ []) in let q : length (xs ++ v ∷ []) - 1 ≡ length xs = omega arith in q)
    ∙ get_or-append_seam xs v [] d

pub last-split : {X : Type 0} (d : X) (xs ys : List X) (v : X) → xs ≡ ys ++ v ∷ [] → get_or xs (length xs - 1) d ≡ v
last-split d xs ys v e = ap (λ zs. get_or zs (length zs - 1) d) e ∙ last-push d ys v

-- what was read at the last place of a list is what was pushed last
pub last-read : {X : Type 0} (xs ys : List X) (v got : X) (n : ℕ) → n ≡ length xs → got ≡ get_or xs (n - 1) got → xs ≡ ys ++ v ∷ [] → got ≡ v
last-read xs ys v got n e is split = is ∙ ap (λ (m : ℕ). get_or xs (m - 1) got) e ∙ last-split got xs ys v split
