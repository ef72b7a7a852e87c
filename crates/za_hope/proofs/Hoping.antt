-- The hope of scripts, by any word that is equivalent to the weave.
use Rattle.std.specs.Prelude.{◌↔◌, is_some}
use Rattle.std.proofs.Common.{◌≡◌, ℕ, ◌<◌, true, false, List, ◌++◌, Option, Some, None, refl, sym, ap, subst, ◌∙◌, append_assoc}
use Rattle.std.proofs.lemmas.List.Elements.{filter-append, All-append}
use Rattle.za_alpha.specs.Words.{has, IsWord, projection, AreEquivalent}
use Rattle.za_alpha.specs.Alphabet.{loc_of}
use Rattle.za_dfa.specs.Automata.{Automaton, walk, is_accepted, IsTraceClosed}
use Rattle.za_dfa.specs.Tables.{automaton_of}
use Rattle.za_dfa.proofs.Diamonds.{walk-below}
use Rattle.za_dfa.proofs.TableLemmas.{total_of_complete}
use Rattle.za_min.specs.declared.live.Hope.{Hope}
use Rattle.za_min.specs.declared.live.Hope.TheVariants.{Alive, Dead}
use Rattle.za_min.specs.Live.{CanStillBeAccepted}
use Rattle.za_min.proofs.Spreading.{alive_states_continue_words}
use Rattle.za_script.specs.declared.answer.Answer.{Answer}
use Rattle.za_script.specs.declared.answer.Answer.TheVariants.{Accept, Reject, Stuck}
use Rattle.za_script.specs.Scripts.{weave}
use Rattle.za_script.specs.Rests.{rests}
use Rattle.za_script.proofs.Confluence.{weave_is_maximal, maximal-one}
use Rattle.za_script.proofs.GoingOn.{rest_is_one_trace}
use Rattle.za_script.proofs.Alike.{same-before, accepted-after}
use Rattle.za_hope.specs.Hopes.{CanBeSaved, GoesWith}
use Rattle.za_hope.specs.Laws.{HopeIsOfTheState, HopeIsOfTheLanguage, HopesAreOne, HopesExist, RestHasTheHope}
use Rattle.za_hope.proofs.Marking.{hope_exists}

-- equivalent words stay so with the same word after them
same-behind : (loc : ℕ → List ℕ) (u v w : List ℕ) → AreEquivalent loc u v → AreEquivalent loc (u ++ w) (v ++ w)
same-behind loc u v w e p =
    filter-append (λ a. has (loc a) p) u w ∙ ap (λ x. x ++ projection loc p w) (e p) ∙ sym (filter-append (λ a. has (loc a) p) v w)

-- what goes with an answer goes with it still where more holds
pub goes-map : (P Q : Hope → Type 0) (answer : Answer) (hope : Option Hope) → ((h : Hope) → P h → Q h) → GoesWith P answer hope → GoesWith Q answer hope
goes-map P Q Accept hope f x = x
goes-map P Q Reject hope f x = x
goes-map P Q Stuck None f x = absurd x
goes-map P Q Stuck (Some h) f x = f h x

-- a hope goes with stuck, and with no other answer
pub hope-exactly : (P : Hope → Type 0) (answer : Answer) (hope : Option Hope) → GoesWith P answer hope → ((is_some hope ≡ true) ↔ (answer ≡ Stuck))
hope-exactly P Accept hope x = (λ t. absurd (let both : true ≡ false = sym t ∙ ap is_some x in cc), λ e. absurd (cc))
hope-exactly P Reject hope x = (λ t. absurd (let both : true ≡ false = sym t ∙ ap is_some x in cc), λ e. absurd (cc))
hope-exactly P Stuck None x = absurd x
hope-exactly P Stuck (Some h) x = (λ t. refl, λ e. refl)

module _ (loc : ℕ → List ℕ) (processes : ℕ) (d : Automaton) (scripts : ℕ → List ℕ) (w : List ℕ) (word : IsWord d.letters w)
    (same : AreEquivalent loc w (weave loc d.letters processes scripts)) where
  -- of a word that is equivalent to the weave: where it can still be accepted, the scripts can be saved
  saved-from : CanStillBeAccepted d w → CanBeSaved loc processes d scripts
  saved-from more = (w, word, same, more)

  -- and for a trace-closed language the other way round
  saved-to : IsTraceClosed loc d → CanBeSaved loc processes d scripts → CanStillBeAccepted d w
  saved-to closed h =
      let u = h.0 in
      let v = h.3.0 in
      let P : ℕ → Type 0 = λ a. a < d.letters in (
        v,
        h.3.1,
        closed (w ++ v) (u ++ v) (All-append P w v word h.3.1) (All-append P u v h.1 h.3.1) (same-behind loc w u v (λ p. same p ∙ sym (h.2 p))) ∙ h.3.2,
      )

pub hope_is_of_the_state : HopeIsOfTheState
hope_is_of_the_state loc processes d scripts w Alive al closed full =
    let same = maximal-one loc d.letters processes scripts w al full in
    let on = alive_states_continue_words d w in
    (λ h. on.0 (saved-to loc processes d scripts w full.fits.word same closed h), λ h. saved-from loc processes d scripts w full.fits.word same (on.1 h))
hope_is_of_the_state loc processes d scripts w Dead al closed full =
    let same = maximal-one loc d.letters processes scripts w al full in
    let on = alive_states_continue_words d w in (
      λ none alive. none (saved-from loc processes d scripts w full.fits.word same (on.1 alive)),
      λ none saved. none (on.0 (saved-to loc processes d scripts w full.fits.word same closed saved)),
    )

-- whether scripts can be saved depends on the language alone
saved-moves : (loc : ℕ → List ℕ) (processes : ℕ) (d e : Automaton) (scripts : ℕ → List ℕ) → d.letters ≡ e.letters →
    ((w : List ℕ) → IsWord d.letters w → is_accepted d w ≡ is_accepted e w) → CanBeSaved loc processes d scripts → CanBeSaved loc processes e scripts
saved-moves loc processes d e scripts letters same h =
    let u = h.0 in
    let v = h.3.0 in
    let joined = All-append (λ a. a < d.letters) u v h.1 h.3.1 in (
      u,
      subst (λ m. IsWord m u) letters h.1,
      subst (λ m. AreEquivalent loc u (weave loc m processes scripts)) letters h.2,
      (v, subst (λ m. IsWord m v) letters h.3.1, sym (same (u ++ v) joined) ∙ h.3.2),
    )

pub hope_is_of_the_language : HopeIsOfTheLanguage
hope_is_of_the_language loc processes d e scripts Alive letters same h = saved-moves loc processes d e scripts letters same h
hope_is_of_the_language loc processes d e scripts Dead letters same h =
    λ saved. h (saved-moves loc processes e d scripts (sym letters) (λ w word. sym (same w (subst (λ m. IsWord m w) (sym letters) word))) saved)

pub hopes_are_one : HopesAreOne
hopes_are_one loc processes d scripts Accept g h x y = x ∙ sym y
hopes_are_one loc processes d scripts Reject g h x y = x ∙ sym y
hopes_are_one loc processes d scripts Stuck None h x y = absurd x
hopes_are_one loc processes d scripts Stuck (Some g) None x y = absurd y
hopes_are_one loc processes d scripts Stuck (Some Alive) (Some Alive) x y = refl
hopes_are_one loc processes d scripts Stuck (Some Alive) (Some Dead) x y = absurd (y x)
hopes_are_one loc processes d scripts Stuck (Some Dead) (Some Alive) x y = absurd (x y)
hopes_are_one loc processes d scripts Stuck (Some Dead) (Some Dead) x y = refl

pub hopes_exist : HopesExist
hopes_exist d scripts Accept whole closed = (None, refl)
hopes_exist d scripts Reject whole closed = (None, refl)
hopes_exist d scripts Stuck whole closed =
    let loc = loc_of d.alphabet in
    let a = automaton_of d in
    let located = whole.distributed.located in
    let w : List ℕ = weave loc a.letters d.alphabet.processes scripts in
    let full = weave_is_maximal loc a.letters d.alphabet.processes scripts located in
    let q : ℕ = walk a.step a.start w in
    let hope = hope_exists d q whole (walk-below a (total_of_complete d whole) a.start w whole.starts full.fits.word) in
    (Some hope.0, (hope_is_of_the_state loc d.alphabet.processes a scripts w hope.0 located closed full).1 hope.1)

pub rest_has_the_hope : RestHasTheHope
rest_has_the_hope loc processes d scripts w al closed f =
    let v : List ℕ = weave loc d.letters processes (rests loc scripts w) in
    let P : ℕ → Type 0 = λ a. a < d.letters in
    let trace = rest_is_one_trace loc d.letters processes scripts w al f in
    let rest_word : IsWord d.letters v = (weave_is_maximal loc d.letters processes (rests loc scripts w) al).fits.word in
    let joined : IsWord d.letters (w ++ v) = All-append P w v f.word rest_word in (
      λ h.
          let u = h.0 in
          let x = h.3.0 in (
            w ++ u,
            All-append P w u f.word h.1,
            λ p. same-before loc w u v h.2 p ∙ trace p,
            (x, h.3.1, ap (is_accepted d) (append_assoc w u x) ∙ sym (accepted-after d w (u ++ x)) ∙ h.3.2),
          ),
      λ h.
          let more = saved-to loc processes d scripts (w ++ v) joined trace closed h in
          let x = more.0 in
          (v, rest_word, λ p. refl, (x, more.1, accepted-after d w (v ++ x) ∙ ap (is_accepted d) (sym (append_assoc w v x)) ∙ more.2)),
    )
