-- Projections step by step.
use Rattle.std.proofs.Common.{◌≡◌, ℕ, ◌+◌, ◌<◌, ◌≤◌, true, false, List, [], ◌∷◌, length, get_or, drop, refl, sym, ap, subst, ◌∙◌, arith, IsTrue, inl, inr, ◌↔◌}
use Rattle.std.proofs.Common.{add-one, drop-cons}
use Rattle.std.proofs.lemmas.Bool.{cases_Bool}
use Rattle.std.proofs.lemmas.List.{get_or-map, length-map}
use Rattle.std.proofs.lemmas.List.Elements.{All-get_or, All-head, All-tail}
use Rattle.std.proofs.Math.ListN.{drop_of_length-le}
use Rattle.za_alpha.specs.declared.word.Letter.{Letter}
use Rattle.za_alpha.specs.Words.{has, IsAlphabet, IsWord, projection}
use Rattle.za_alpha.specs.Letters.{numbers}
use Rattle.za_alpha.proofs.Swaps.{seen-take, seen-skip}

-- the number of the letter at a place
pub number-at : (letters : List Letter) (i : ℕ) (d : Letter) → i < length letters → get_or (numbers letters) i 0 ≡ (get_or letters i d).0
number-at letters i d h = get_or-map (λ (l : Letter). l.0) letters i d 0 h

-- the letter at a place of a word is one of the alphabet's
pub letter-within : (m : ℕ) (letters : List Letter) (i : ℕ) (d : Letter) → IsWord m (numbers letters) → i < length letters → (get_or letters i d).0 < m
letter-within m letters i d word h =
    let long : i < length (numbers letters) = omega (arith, length-map letters (λ (l : Letter). l.0)) in
    let P : ℕ → Type 0 = λ a. a < m in
    subst P (number-at letters i d h) (All-get_or P (numbers letters) i 0 long word)

pub numbers-length : (letters : List Letter) → length (numbers letters) ≡ length letters
numbers-length letters = length-map letters (λ (l : Letter). l.0)

pub drop-step : (w : List ℕ) (i : ℕ) → i < length w → drop i w ≡ get_or w i 0 ∷ drop (i + 1) w
drop-step w i h = rw (add-one, drop-cons w i 0) refl

module _ (loc : ℕ → List ℕ) where
  -- the projection of what is left at a letter of the process, and at another
  pub projection-take : (p : ℕ) (w : List ℕ) (i : ℕ) → i < length w → has (loc (get_or w i 0)) p ≡ true →
      projection loc p (drop i w) ≡ get_or w i 0 ∷ projection loc p (drop (i + 1) w)
  projection-take p w i h t = ap (projection loc p) (drop-step w i h) ∙ seen-take loc p (get_or w i 0) (drop (i + 1) w) t

  pub projection-skip : (p : ℕ) (w : List ℕ) (i : ℕ) → i < length w → has (loc (get_or w i 0)) p ≡ false →
      projection loc p (drop i w) ≡ projection loc p (drop (i + 1) w)
  projection-skip p w i h f = ap (projection loc p) (drop-step w i h) ∙ seen-skip loc p (get_or w i 0) (drop (i + 1) w) f

  -- at the end nothing is left
  pub projection-end : (p : ℕ) (w : List ℕ) (i : ℕ) → length w ≤ i → projection loc p (drop i w) ≡ []
  projection-end p w i h = ap (projection loc p) (drop_of_length-le w h)

  -- a process outside of the alphabet sees nothing
  pub projection-outside : (letters processes p : ℕ) (w : List ℕ) → IsAlphabet loc letters processes → IsWord letters w → processes ≤ p →
      projection loc p w ≡ []
  projection-outside letters processes p [] alphabet word far = refl
  projection-outside letters processes p (a ∷ w) alphabet word far =
      let P : ℕ → Type 0 = λ b. b < letters in
      elim (cases_Bool (has (loc a) p)) [
        | inl t ↦ absurd (let low : p < processes = alphabet.below a p (All-head P a w word) t in omega arith)
        | inr f ↦ seen-skip loc p a w f ∙ projection-outside letters processes p w alphabet (All-tail P a w word) far
      ]

  -- two projections that begin with a letter each are equal exactly if the letters are and the rests
  pub projections-step : (p : ℕ) (u v : List ℕ) (i j : ℕ) → i < length u → j < length v → has (loc (get_or u i 0)) p ≡ true →
      has (loc (get_or v j 0)) p ≡ true → get_or u i 0 ≡ get_or v j 0 →
      (projection loc p (drop i u) ≡ projection loc p (drop j v)) ↔ (projection loc p (drop (i + 1) u) ≡ projection loc p (drop (j + 1) v))
  projections-step p u v i j hi hj ti tj e =
      let pu = projection-take p u i hi ti in
      let pv = projection-take p v j hj tj in (
        (λ same. let k : get_or u i 0 ∷ projection loc p (drop (i + 1) u) ≡ get_or v j 0 ∷ projection loc p (drop (j + 1) v) = sym pu ∙ same ∙ pv in cc),
        (λ rest. pu ∙ cons-same e rest ∙ sym pv),
      )
    where
      cons-same : {a b : ℕ} {x y : List ℕ} → a ≡ b → x ≡ y → (a ∷ x) ≡ (b ∷ y)
      cons-same e f = cc

  -- two projections that begin with different letters differ
  pub projections-differ : (p : ℕ) (u v : List ℕ) (i j : ℕ) → i < length u → j < length v → has (loc (get_or u i 0)) p ≡ true →
      has (loc (get_or v j 0)) p ≡ true →
      projection loc p (drop i u) ≡ projection loc p (drop j v) → get_or u i 0 ≡ get_or v j 0
  projections-differ p u v i j hi hj ti tj same =
      let k : get_or u i 0 ∷ projection loc p (drop (i + 1) u) ≡ get_or v j 0 ∷ projection loc p (drop (j + 1) v) = sym (projection-take p u i hi ti) ∙ same
      ∙ projection-take p v j hj tj in cc

  -- a projection that is at an end equals one that is not
  pub projections-end : (p : ℕ) (u v : List ℕ) (i j : ℕ) → length u ≤ i → j < length v → has (loc (get_or v j 0)) p ≡ true →
      projection loc p (drop i u) ≡ projection loc p (drop j v) → IsTrue false
  projections-end p u v i j hi hj tj same =
      let k : [] ≡ get_or v j 0 ∷ projection loc p (drop (j + 1) v) = sym (projection-end p u i hi) ∙ same ∙ projection-take p v j hj tj in cc
