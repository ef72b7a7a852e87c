-- The letters of a word that some process takes part in: the others change no projection.
use Rattle.std.proofs.Common.{◌≡◌, ℕ, ◌<◌, Bool, true, false, inl, inr, List, [], ◌∷◌, filter, refl, sym, ap, subst, ◌∙◌}
use Rattle.std.specs.List.{All}
use Rattle.std.proofs.lemmas.Bool.{cases_Bool, cond-true, cond-false}
use Rattle.std.proofs.lemmas.List.Elements.{All-nil, All-head, All-tail, All-cons}
use Rattle.za_alpha.specs.Words.{has, IsWord, projection, AreEquivalent}
use Rattle.za_alpha.proofs.Swaps.{seen-take, seen-skip}
use Rattle.za_order.proofs.Sets.{has-here}

abbrev pub is_some : List ℕ → Bool
is_some [] = false
is_some (x ∷ xs) = true

-- a list with a process has one, and one without has none
pub some-has : (xs : List ℕ) → is_some xs ≡ true → (p : ℕ) × (has xs p ≡ true)
some-has [] h = cc
some-has (x ∷ xs) h = (x, has-here x x xs refl)

pub none-has : (xs : List ℕ) (p : ℕ) → is_some xs ≡ false → has xs p ≡ false
none-has [] p h = refl
none-has (x ∷ xs) p h = cc

pub no-claim : (w : List ℕ) → All (λ (a : ℕ). Unit {0}) w
no-claim [] = All-nil (λ (a : ℕ). Unit {0})
no-claim (a ∷ w) = All-cons (λ (a : ℕ). Unit {0}) a w tt (no-claim w)

module _ (loc : ℕ → List ℕ) where
  abbrev pub seen : List ℕ → List ℕ
  seen w = filter (λ a. is_some (loc a)) w

  pub seen-on : (a : ℕ) (w : List ℕ) → is_some (loc a) ≡ true → seen (a ∷ w) ≡ a ∷ seen w
  seen-on a w h = cond-true (is_some (loc a)) (a ∷ seen w) (seen w) h

  pub seen-off : (a : ℕ) (w : List ℕ) → is_some (loc a) ≡ false → seen (a ∷ w) ≡ seen w
  seen-off a w h = cond-false (is_some (loc a)) (a ∷ seen w) (seen w) h

  pub seen-equivalent : (w : List ℕ) → AreEquivalent loc w (seen w)
  seen-equivalent [] p = refl
  seen-equivalent (a ∷ w) p =
      let rest = seen-equivalent w p in
      elim (cases_Bool (is_some (loc a))) [
        | inl t ↦
            elim (cases_Bool (has (loc a) p)) [
              | inl h ↦ seen-take loc p a w h ∙ ap (λ v. a ∷ v) rest ∙ sym (seen-take loc p a (seen w) h)
              | inr h ↦ seen-skip loc p a w h ∙ rest ∙ sym (seen-skip loc p a (seen w) h)
            ]
            ∙ ap (projection loc p) (sym (seen-on a w t))
        | inr f ↦ seen-skip loc p a w (none-has (loc a) p f) ∙ rest ∙ ap (projection loc p) (sym (seen-off a w f))
      ]

  -- what holds of each letter of the word, and of each with a process, holds of each of these
  pub seen-all : (P Q : ℕ → Type 0) → ((a : ℕ) → P a → is_some (loc a) ≡ true → Q a) → (w : List ℕ) → All P w → All Q (seen w)
  seen-all P Q h [] k = All-nil Q
  seen-all P Q h (a ∷ w) k =
      let rest = seen-all P Q h w (All-tail P a w k) in
      elim (cases_Bool (is_some (loc a))) [
        | inl t ↦ subst (λ v. All Q v) (sym (seen-on a w t)) (All-cons Q a (seen w) (h a (All-head P a w k) t) rest)
        | inr f ↦ subst (λ v. All Q v) (sym (seen-off a w f)) rest
      ]

  pub seen-word : (letters : ℕ) (w : List ℕ) → IsWord letters w → IsWord letters (seen w)
  seen-word letters w word = seen-all (λ a. a < letters) (λ a. a < letters) (λ a l t. l) w word

-- each list has a process, if none other than 0
abbrev pub or_zero : List ℕ → List ℕ
or_zero [] = 0 ∷ []
or_zero (x ∷ xs) = x ∷ xs

pub or_zero-has : (xs : List ℕ) → (p : ℕ) × (has (or_zero xs) p ≡ true)
or_zero-has [] = (0, refl)
or_zero-has (x ∷ xs) = (x, has-here x x xs refl)

pub or_zero-same : (xs : List ℕ) → is_some xs ≡ true → or_zero xs ≡ xs
or_zero-same [] h = cc
or_zero-same (x ∷ xs) h = refl

pub is-some : (xs : List ℕ) (p : ℕ) → has xs p ≡ true → is_some xs ≡ true
is-some [] p h = cc
is-some (x ∷ xs) p h = refl
