-- Plain expressions and their words (Kleene 1956). An occurrence is a place of the text where a letter
-- stands; the places count from 1. `letter p` is the letter that stands at place p.
use Rattle.std.specs.Prelude.{ℕ, zero, suc, Bool, true, false, ◌&&◌, ◌||◌, ◌==◌, List, [], ◌∷◌, length}

pub data Plain : Type 0 where
  One : Plain
  Occurrence : (place : ℕ) → Plain
  Sequence : (left right : Plain) → Plain
  Or : (left right : Plain) → Plain
  Star : (inner : Plain) → Plain

abbrev pub is_empty : List ℕ → Bool
is_empty [] = true
is_empty (a ∷ w) = false

-- whether the word is this one letter
abbrev pub is_letter : ℕ → List ℕ → Bool
is_letter a [] = false
is_letter a (b ∷ w) = b == a && is_empty w

-- whether the word is one that passes p, and then one that passes q
abbrev pub cut : (List ℕ → Bool) → (List ℕ → Bool) → List ℕ → Bool
cut p q [] = p [] && q []
cut p q (a ∷ w) = (p [] && q (a ∷ w)) || cut (λ u. p (a ∷ u)) q w

-- whether the word is at most n words that pass p, none of them empty
abbrev pub repeats : (List ℕ → Bool) → ℕ → List ℕ → Bool
repeats p n [] = true
repeats p zero (a ∷ w) = false
repeats p (suc n) (a ∷ w) = cut (λ u. p (a ∷ u)) (λ v. repeats p n v) w

-- whether the word is in the expression's meaning
abbrev pub matches : (ℕ → ℕ) → Plain → List ℕ → Bool
matches letter One w = is_empty w
matches letter (Occurrence p) w = is_letter (letter p) w
matches letter (Sequence a b) w = cut (λ u. matches letter a u) (λ v. matches letter b v) w
matches letter (Or a b) w = matches letter a w || matches letter b w
matches letter (Star a) w = repeats (λ u. matches letter a u) (length w) w
