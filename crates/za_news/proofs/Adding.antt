-- Lists of numbers, one number more.
use Rattle.std.proofs.Common.{◌≡◌, ℕ, ◌<◌, ◌==◌, cond, inl, inr, List, [], ◌∷◌, ◌++◌, length, set, sym, ap, ◌∙◌, append-nil, append_assoc}
use Rattle.std.proofs.lemmas.Bool.{cases_Bool}
use Rattle.std.proofs.lemmas.Bool.Decides.{eqb_tells}
use Rattle.std.proofs.lemmas.Grind.{get_or-set_at}
use Rattle.std.proofs.lemmas.List.{get_or-set_other}
use Rattle.za_news.specs.Readings.{list_of}

-- a list that is longer at one place
pub added_at : (xs ys : List (List ℕ)) (p n : ℕ) → p < length xs → ys ≡ set xs p (list_of xs p ++ n ∷ [])
    → (q : ℕ) → list_of ys q ≡ list_of xs q ++ cond (q == p) (n ∷ []) []
added_at xs ys p n within e q =
    ap (λ l. list_of l q) e ∙ elim (eqb_tells q p) [
      | inl s ↦
          get_or-set_at xs p q (list_of xs p ++ n ∷ []) [] s.1 within ∙ ap (λ r. list_of xs r ++ n ∷ []) (sym s.1)
          ∙ ap (λ b. list_of xs q ++ cond b (n ∷ []) []) (sym s.0)
      | inr s ↦
          get_or-set_other xs p q (list_of xs p ++ n ∷ []) [] s.1 ∙ sym (append-nil (list_of xs q))
          ∙ ap (λ b. list_of xs q ++ cond b (n ∷ []) []) (sym s.0)
    ]

-- numbers after a number, where they are asked for
pub number_first : (old mid : List ℕ) (asked : _) (n : ℕ) (ns : List ℕ) → mid ≡ old ++ cond asked (n ∷ []) []
    → mid ++ cond asked ns [] ≡ old ++ cond asked (n ∷ ns) []
number_first old mid asked n ns e =
    ap (λ xs. xs ++ cond asked ns []) e ∙ elim (cases_Bool asked) [
      | inl t ↦ rw t (append_assoc old (n ∷ []) ns)
      | inr f ↦ rw f (append_assoc old [] [])
    ]
