-- An expression has a table, or more values than a table has states: what the program finds in loops is found by recursion on a number.
use Rattle.std.proofs.Common.{◌≡◌, ◌≢◌, ℕ, zero, suc, ◌+◌, ◌<◌, ◌≤◌, ◌⊎◌, inl, inr, List, [], ◌∷◌, ◌++◌, length, map, slice_index, refl, subst, arith}
use Rattle.std.proofs.Common.{length-append}
use Rattle.std.proofs.lemmas.Bool.{cases_eq, cases_lt}
use Rattle.za_alpha.specs.Alphabet.{DistributedAlphabet, IsDistributed}
use Rattle.za_dfa.specs.Limits.{most_states}
use Rattle.za_dfa.specs.Automata.{Automaton}
use Rattle.za_dfa.specs.Tables.{CompleteDfa, table_with}
use Rattle.za_min.proofs.Existence.{first_of}
use Rattle.za_expression.specs.declared.sign.Sign.{Sign}
use Rattle.za_expression.specs.Forms.{Form}
use Rattle.za_expression.specs.Grammar.{IsForm}
use Rattle.za_expression.specs.Values.{HasMoreValues}
use Rattle.za_form.specs.Automata.{IsValueDfa}
use Rattle.za_form.specs.Expressions.{letter_at}
use Rattle.za_form.specs.Private.Numbers.{form_of, positions_of}
use Rattle.za_form.specs.Private.Searching.{HasSearched, HasSearchedAll}
use Rattle.za_form.proofs.Searches.{entered, left_out, search_row, search_start}
use Rattle.za_form.proofs.Sets.{form_is}
use Rattle.za_form.proofs.Values.{no_more, value_dfa}

module _ (signs : List Sign) (letters : ℕ) (h : IsForm 1 signs (form_of signs)) where
  abbrev d : Automaton
  d = positions_of signs letters

  abbrev TooMany : Type 0
  TooMany = HasMoreValues (letter_at signs) (form_of signs) letters most_states

  -- the letters below a of place i are done
  record AreDone (i a : ℕ) : Type 0 where
    states : List ℕ
    targets : List ℕ
    found : HasSearched d i a states targets
    within : i < length states

  -- one letter more
  enter : (i a : ℕ) (states targets : List ℕ) → HasSearched d i a states targets → i < length states → a < letters → TooMany ⊎ AreDone i (a + 1)
  enter i a states targets s il al =
      let value : ℕ = d.step (slice_index states i) a in
      elim (first_of (λ k. slice_index states k ≡ value) (λ k. slice_index states k ≢ value) (length states) (λ k. cases_eq (slice_index states k) value)) [
        | inl k ↦ inr (record {
          states = states;
          targets = targets ++ k.0 ∷ [];
          found = entered d i a s.0 states targets (targets ++ k.0 ∷ []) value k.0 s.1 il al refl refl states
              (inl (record { same = refl; within = k.1; there = k.2 }));
          within = il;
        })
        | inr none ↦ elim (cases_lt (length states) most_states) [
          | inl room ↦ inr (record {
            states = states ++ value ∷ [];
            targets = targets ++ length states ∷ [];
            found = entered d i a s.0 states targets (targets ++ length states ∷ []) value (length states) s.1 il al refl refl (states ++ value ∷ [])
                (inr (record { nowhere = none; room = room; more = refl; last = refl }));
            within = let long = length-append states (value ∷ []) in omega arith;
          })
          | inr full ↦ let few = s.1.few in
              inl (left_out signs letters i a states targets value h s il al refl (record { nowhere = none; full = omega arith }))
        ]
      ]

  -- all letters of a place, from a on
  row : (more a i : ℕ) (states targets : List ℕ) → a + more ≡ letters → HasSearched d i a states targets → i < length states → TooMany ⊎ AreDone i letters
  row zero a i states targets e s il =
      let same : a ≡ letters = omega arith in
      inr (record { states = states; targets = targets; found = subst (λ b. HasSearched d i b states targets) same s; within = il })
  row (suc more) a i states targets e s il = elim (enter i a states targets s il (omega arith)) [
    | inl wide ↦ inl wide
    | inr r ↦ row more (a + 1) i r.states r.targets (omega arith) r.found r.within
  ]

  -- all letters of all places
  record AreAllDone : Type 0 where
    states : List ℕ
    targets : List ℕ
    found : HasSearchedAll d states targets

  -- place after place, of which there are no more than states
  places : (fuel i : ℕ) (states targets : List ℕ) → most_states < i + fuel → HasSearched d i 0 states targets → i ≤ length states → TooMany ⊎ AreAllDone
  places zero i states targets f s il = let few = s.1.few in absurd (omega arith)
  places (suc fuel) i states targets f s il = elim (cases_lt i (length states)) [
    | inr ge ↦
        let same : i ≡ length states = omega arith in
        inr (record { states = states; targets = targets; found = subst (λ j. HasSearched d j 0 states targets) same s })
    | inl less ↦ elim (row letters 0 i states targets (omega arith) s less) [
      | inl wide ↦ inl wide
      | inr r ↦ let within = r.within in
          places fuel (i + 1) r.states r.targets (omega arith) (search_row d i r.states r.targets r.found) (omega arith)
    ]
  ]

  values_found : TooMany ⊎ AreAllDone
  values_found =
      places (suc most_states) 0 (1 ∷ []) [] (omega arith) (search_start d (1 ∷ []) [] refl refl) (omega arith)

  few_values : TooMany ⊎ (¬ TooMany)
  few_values = elim values_found [
    | inl wide ↦ inl wide
    | inr all ↦ inr (no_more signs letters h all.found.0 all.states all.targets all.found.1)
  ]

own_form : (signs : List Sign) (f : Form) → IsForm 1 signs f → IsForm 1 signs (form_of signs)
own_form signs f h = rw (form_is signs f h) h

-- the values of words over so many letters are more than a table has states, or not
pub more_or_few : (signs : List Sign) (letters : ℕ) (f : Form) → IsForm 1 signs f →
    HasMoreValues (letter_at signs) f letters most_states ⊎ (¬ HasMoreValues (letter_at signs) f letters most_states)
more_or_few signs letters f h =
    let P : Form → Type 0 = λ g. HasMoreValues (letter_at signs) g letters most_states ⊎ (¬ HasMoreValues (letter_at signs) g letters most_states) in
    subst P (form_is signs f h) (few_values signs letters (own_form signs f h))

-- where they aren't, there is the table
pub some_table : (alphabet : DistributedAlphabet) (signs : List Sign) (f : Form) → IsDistributed alphabet → IsForm 1 signs f →
    ¬ HasMoreValues (letter_at signs) f (length alphabet.letters) most_states → (dfa : CompleteDfa) × IsValueDfa alphabet signs dfa
some_table alphabet signs f whole h few =
    let letters : ℕ = length alphabet.letters in
    let own = own_form signs f h in
    elim (values_found signs letters own) [
      | inl wide ↦ absurd (few (subst (λ g. HasMoreValues (letter_at signs) g letters most_states) (form_is signs f h) wide))
      | inr all ↦
          let accepting = map (λ m. (positions_of signs letters).accepts m) all.states in (
            table_with alphabet 0 accepting all.targets,
            value_dfa signs letters own all.found.0 all.states all.targets all.found.1 alphabet whole refl accepting refl,
          )
    ]
