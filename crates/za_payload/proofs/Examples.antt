-- The definitions computed on small words.
use Rattle.std.proofs.Common.{◌≡◌, ℕ, zero, suc, List, [], ◌∷◌, Option, Some, None, map, refl}
use Rattle.std.specs.List.{range_with_len}
use Rattle.za_payload.specs.Knowledge.{news}

-- what each process knows of each
abbrev all_news : (ℕ → List ℕ) → ℕ → (ℕ → List ℕ) → List ℕ → List (List (Option ℕ))
all_news loc processes readings w =
    let range = range_with_len 0 processes in map (λ p. map (news loc processes readings w p) range) range

-- the letters a of process 0, b of process 1, and c of both
abbrev loc_two : ℕ → List ℕ
loc_two zero = 0 ∷ []
loc_two (suc zero) = 1 ∷ []
loc_two (suc (suc a)) = 0 ∷ 1 ∷ []

abbrev readings_two : ℕ → List ℕ
readings_two zero = 10 ∷ 20 ∷ 30 ∷ []
readings_two (suc p) = 5 ∷ []

-- after a b c a
news_of_two : all_news loc_two 2 readings_two (0 ∷ 1 ∷ 2 ∷ 0 ∷ []) ≡ (Some 30 ∷ Some 20 ∷ []) ∷ (Some 20 ∷ Some 20 ∷ []) ∷ []
news_of_two = refl

-- the letters c of 1 and 2, d of 1 and 3, e of 0 and 3, f of 0 and 2
abbrev loc_four : ℕ → List ℕ
loc_four zero = 1 ∷ 2 ∷ []
loc_four (suc zero) = 1 ∷ 3 ∷ []
loc_four (suc (suc zero)) = 0 ∷ 3 ∷ []
loc_four (suc (suc (suc a))) = 0 ∷ 2 ∷ []

abbrev readings_four : ℕ → List ℕ
readings_four zero = 1 ∷ 2 ∷ []
readings_four (suc zero) = 3 ∷ 4 ∷ []
readings_four (suc (suc zero)) = 5 ∷ []
readings_four (suc (suc (suc p))) = 6 ∷ []

-- after e d c f
news_of_four :
    all_news loc_four 4 readings_four (2 ∷ 1 ∷ 0 ∷ 3 ∷ [])
    ≡ (Some 2 ∷ Some 4 ∷ Some 2 ∷ Some 3 ∷ [])
    ∷ (Some 1 ∷ Some 4 ∷ Some 4 ∷ Some 3 ∷ [])
    ∷ (Some 2 ∷ Some 4 ∷ Some 2 ∷ Some 3 ∷ [])
    ∷ (Some 1 ∷ Some 3 ∷ None ∷ Some 3 ∷ [])
    ∷ []
news_of_four = refl
