-- Numbers tell which entries are shared.
use Rattle.std.proofs.Common.{◌≡◌, ℕ, Bool, true, false, not, ◌&&◌, ◌==◌, inl, inr, List, length, map, Option, Some, None, option_and_then, sym, ap, ◌∙◌, arith}
use Rattle.std.proofs.Common.{eqb-true, eq-eqb, ne_eqb}
use Rattle.std.specs.List.{range_with_len, list_any}
use Rattle.std.specs.Option.{option_map_or}
use Rattle.std.proofs.lemmas.Bool.{and_left, not_from_false}
use Rattle.za_alpha.specs.Words.{has, IsAlphabet, IsWord}
use Rattle.za_order.specs.Views.{participants}
use Rattle.za_order.specs.Entries.{primary, last_in_past, secondary}
use Rattle.za_order.specs.Labels.{number}
use Rattle.za_order.specs.Locals.{Ids, ids, is_event}
use Rattle.za_order.proofs.Options.{option-cases, is_event-some, some-is_event}
use Rattle.za_order.proofs.Sets.{same-test, has-map}
use Rattle.za_order.proofs.Ranges.{any-same}
use Rattle.za_order.proofs.Processes.{primary-secondary}
use Rattle.za_order.proofs.Numbers.{number-some, numbers_tell_apart}

module _ (loc : ℕ → List ℕ) (letters n : ℕ) (w : List ℕ) (alphabet : IsAlphabet loc letters n) (word : IsWord letters w) where
  abbrev who : ℕ → List ℕ
  who = participants loc w

  abbrev known : ℕ → Ids
  known = ids loc n w (length w)

  abbrev range : List ℕ
  range = range_with_len 0 n

  -- the primary entries are secondary ones
  as-secondary : (p q : ℕ) → secondary who (length w) p q q ≡ primary who (length w) p q
  as-secondary p q = elim (option-cases (primary who (length w) p q)) [
    | inl none ↦ ap (λ o. option_and_then (λ e. last_in_past who e q) o) none ∙ sym none
    | inr one ↦ primary-secondary who (length w) p q one.0 one.1 ∙ sym one.1
  ]

  -- a number stands among those of entries that it tells apart exactly if its event is one of them
  found : (entries : ℕ → Option ℕ) (o : Option ℕ) (e : ℕ) → o ≡ Some e → ((t : ℕ) → number loc n w (entries t) ≡ number loc n w o → entries t ≡ o) →
      has (map (λ t. number loc n w (entries t)) range) (number loc n w o) ≡ list_any (λ t. is_event (entries t) e) range
  found entries o e is tells =
      has-map (λ t. number loc n w (entries t)) range (number loc n w o)
      ∙ any-same (λ t. number loc n w (entries t) == number loc n w o) (λ t. is_event (entries t) e) n
      (λ t k. same-test (number loc n w (entries t) == number loc n w o) (is_event (entries t) e)
      (λ h. some-is_event (entries t) e (tells t (eqb-true (number loc n w (entries t)) (number loc n w o) h) ∙ is))
      (λ h. eq-eqb (number loc n w (entries t)) (number loc n w o) (ap (number loc n w) (is_event-some (entries t) e h ∙ sym is))))

  -- so the number of a primary entry of x among those of the primary entries of y
  pub found-primary : (x y s e : ℕ) → primary who (length w) x s ≡ Some e →
      has (map (known y).primary range) ((known x).primary s) ≡ list_any (λ t. is_event (primary who (length w) y t) e) range
  found-primary x y s e is =
      found (λ t. primary who (length w) y t) (primary who (length w) x s) e is
      (λ t k. sym (as-secondary y t)
      ∙ numbers_tell_apart loc letters n w (length w) y t t x s s alphabet word (omega arith)
      (ap (number loc n w) (as-secondary y t) ∙ k ∙ sym (ap (number loc n w) (as-secondary x s)))
      ∙ as-secondary x s)

  -- and among those of the secondary entries of b for r
  pub found-secondary : (x b r s e : ℕ) → primary who (length w) x s ≡ Some e →
      has (map ((known b).secondary r) range) ((known x).primary s) ≡ list_any (λ t. is_event (secondary who (length w) b r t) e) range
  found-secondary x b r s e is =
      found (λ t. secondary who (length w) b r t) (primary who (length w) x s) e is
      (λ t k.
      numbers_tell_apart loc letters n w (length w) b r t x s s alphabet word (omega arith) (k ∙ sym (ap (number loc n w) (as-secondary x s)))
      ∙ as-secondary x s)

  -- an entry that is an event has a number
  some-number : (o : Option ℕ) (e : ℕ) → o ≡ Some e → not (number loc n w o == 0) ≡ true
  some-number o e is = not_from_false (number loc n w o == 0) (ne_eqb (number loc n w o) 0 (λ z. number-some loc n w e (sym (ap (number loc n w) is) ∙ z)))

  -- and one that is none has none
  pub no-number : (o : Option ℕ) (b : Bool) → o ≡ None → (not (number loc n w o == 0) && b) ≡ false
  no-number o b none = and_left (not (number loc n w o == 0)) b (ap (λ o. not (number loc n w o == 0)) none)

  -- what by numbers is shared is shared
  pub shared : (o : Option ℕ) (b : Bool) (test : ℕ → Bool) → ((e : ℕ) → o ≡ Some e → b ≡ test e) →
      (not (number loc n w o == 0) && b) ≡ option_map_or test o false
  shared o b test h = elim (option-cases o) [
    | inl none ↦ no-number o b none ∙ sym (ap (λ o. option_map_or test o false) none)
    | inr one ↦ ap (λ c. c && b) (some-number o one.0 one.1) ∙ h one.0 one.1 ∙ sym (ap (λ o. option_map_or test o false) one.1)
  ]
