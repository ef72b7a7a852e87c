-- Laws of lists of bytes, for the calls that read and write them.
use Rattle.std.proofs.Common.{◌≡◌, ℕ, ◌-◌, ◌≤◌, List, ◌++◌, length, take, drop, sym, ap, ◌∙◌, length-drop}
use Rattle.std.proofs.Math.Seq.{take-append_seam, take-length}
use Rattle.std.proofs.lemmas.List.{take-append-drop, length-take-le}

-- the first k elements of a list that begins with k elements
pub take_front : (k : ℕ) (xs ys : List ℕ) → k ≡ length xs → take k (xs ++ ys) ≡ xs
take_front k xs ys h = rw h (take-append_seam xs ys)

-- a buffer that begins with the first n bytes left, and these bytes no longer left
pub consumes_front : (n : ℕ) (left into rest : List ℕ) → n ≤ length left → into ≡ take n left ++ rest → left ≡ take n into ++ drop n left
consumes_front n left into rest h e =
    let front : take n into ≡ take n left = ap (take n) e ∙ take_front n (take n left) rest (sym (length-take-le n left h)) in
    sym (ap (λ (l : List ℕ). l ++ drop n left) front ∙ take-append-drop n left)

-- a slice to the end
pub rest_of : (at : ℕ) (text : List ℕ) → take (length text - at) (drop at text) ≡ drop at text
rest_of at text = rw (← length-drop at text) (take-length (drop at text))
