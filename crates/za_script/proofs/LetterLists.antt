-- What holds of each letter of a list.
use Rattle.std.proofs.Common.{◌≡◌, ℕ, ◌<◌, List, length, get_or, sym, subst, arith}
use Rattle.std.proofs.lemmas.List.{get_or-map, length-map}
use Rattle.std.specs.List.{All}
use Rattle.za_alpha.specs.declared.word.Letter.{Letter}
use Rattle.za_alpha.specs.Letters.{numbers}

-- from each letter to each number
pub all-letters : (P : ℕ → Type 0) (xs : List Letter) (e : Letter) → ((k : ℕ) → k < length xs → P (get_or xs k e).0) → All P (numbers xs)
all-letters P xs e h k d l =
    let same = length-map xs (λ (a : Letter). a.0) in
    let within : k < length xs = omega arith in
    subst P (sym (get_or-map (λ (a : Letter). a.0) xs k e d within)) (h k within)

-- from each number to each letter
pub letter-all : (P : ℕ → Type 0) (xs : List Letter) (e : Letter) (k : ℕ) → k < length xs → All P (numbers xs) → P (get_or xs k e).0
letter-all P xs e k l h =
    let same = length-map xs (λ (a : Letter). a.0) in
    subst P (get_or-map (λ (a : Letter). a.0) xs k e 0 l) (h k 0 (omega arith))

-- what holds of each number of a script holds of the letter at a place
pub letter-of : (P : ℕ → Type 0) (script : List ℕ) (xs : List Letter) (e : Letter) (k : ℕ) → numbers xs ≡ script → k < length xs → All P script →
    P (get_or xs k e).0
letter-of P script xs e k same l h = letter-all P xs e k l (subst (All P) (sym same) h)
