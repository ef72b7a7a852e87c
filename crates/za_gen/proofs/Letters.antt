-- Letters one after another.
use Rattle.std.proofs.Common.{◌≡◌, ℕ, ◌+◌, ◌<◌, List, [], ◌∷◌, ◌++◌, length, take, get_or, cond, ap, ◌∙◌, arith}
use Rattle.std.proofs.lemmas.List.{take_more}
use Rattle.std.proofs.lemmas.List.Elements.{filter-append}
use Rattle.za_alpha.specs.declared.word.Letter.{Letter}
use Rattle.za_alpha.specs.Words.{has, projection}
use Rattle.za_alpha.specs.Letters.{numbers}
use Rattle.za_alpha.proofs.Projections.{number-at, numbers-length}

abbrev pub no_letter : Letter
no_letter = record { 0 = 0 }

pub letters-step : (letters : List Letter) (i : ℕ) → i < length letters →
    take (i + 1) (numbers letters) ≡ take i (numbers letters) ++ (get_or letters i no_letter).0 ∷ []
letters-step letters i l =
    let n = numbers-length letters in
    let long : i < length (numbers letters) = omega arith in
    take_more (numbers letters) i 0 long ∙ ap (λ x. take i (numbers letters) ++ x ∷ []) (number-at letters i no_letter l)

pub seen-more : (loc : ℕ → List ℕ) (p : ℕ) (w : List ℕ) (a : ℕ) → projection loc p (w ++ a ∷ []) ≡ projection loc p w ++ cond (has (loc a) p) (a ∷ []) []
seen-more loc p w a = filter-append (λ b. has (loc b) p) w (a ∷ [])
