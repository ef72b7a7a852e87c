-- What is left of a job answers as the job does.
use Rattle.std.proofs.Common.{◌≡◌, ℕ, ◌<◌, List, ◌++◌, length, drop, sym, ap, ◌∙◌}
use Rattle.std.proofs.lemmas.List.Elements.{filter-append, All-append}
use Rattle.std.proofs.Math.Seq.{drop-append_seam}
use Rattle.za_alpha.specs.Words.{has, IsAlphabet, IsWord, projection, AreEquivalent}
use Rattle.za_dfa.specs.Automata.{Automaton, is_accepted, IsTraceClosed}
use Rattle.za_dfa.proofs.Diamonds.{walk-append}
use Rattle.za_script.specs.declared.answer.Answer.TheVariants.{Accept, Reject, Stuck}
use Rattle.za_script.specs.Scripts.{weave, Fits, Weaves}
use Rattle.za_script.proofs.Confluence.{weave_is_maximal, weave_decides}
use Rattle.za_script.proofs.Answers.{accept_is_of_the_weave, reject_is_of_the_weave, stuck_is_of_the_weave}
use Rattle.za_script.specs.Rests.{rests, after}
use Rattle.za_script.specs.RestLaws.{RestIsClosed, RestHasTheAnswer}
use Rattle.za_script.proofs.GoingOn.{script-parts, rest_is_one_trace}

-- equivalent words stay so with the same word before them
pub same-before : (loc : ℕ → List ℕ) (w u v : List ℕ) → AreEquivalent loc u v → AreEquivalent loc (w ++ u) (w ++ v)
same-before loc w u v e p =
    filter-append (λ a. has (loc a) p) w u ∙ ap (λ x. projection loc p w ++ x) (e p) ∙ sym (filter-append (λ a. has (loc a) p) w v)

-- what is accepted after a word
pub accepted-after : (d : Automaton) (w v : List ℕ) → is_accepted (after d w) v ≡ is_accepted d (w ++ v)
accepted-after d w v = ap d.accepts (sym (walk-append d.step d.start w v))

pub rest_is_closed : RestIsClosed
rest_is_closed loc d w hw closed u v hu hv e =
    let P : ℕ → Type 0 = λ a. a < d.letters in
    accepted-after d w u ∙ closed (w ++ u) (w ++ v) (All-append P w u hw hu) (All-append P w v hw hv) (same-before loc w u v e) ∙ sym (accepted-after d w v)

pub weaves-join : (loc : ℕ → List ℕ) (letters : ℕ) (scripts : ℕ → List ℕ) (w v : List ℕ) → Fits loc letters scripts w →
    Weaves loc letters (rests loc scripts w) v → Weaves loc letters scripts (w ++ v)
weaves-join loc letters scripts w v f k =
    record {
      word = All-append (λ a. a < letters) w v f.word k.word;
      whole = λ p. filter-append (λ a. has (loc a) p) w v ∙ ap (λ x. projection loc p w ++ x) (k.whole p) ∙ script-parts loc letters scripts w f p;
    }

pub weaves-split : (loc : ℕ → List ℕ) (letters : ℕ) (scripts : ℕ → List ℕ) (w v : List ℕ) → IsWord letters v → Weaves loc letters scripts (w ++ v) →
    Weaves loc letters (rests loc scripts w) v
weaves-split loc letters scripts w v hv k =
    record {
      word = hv;
      whole = λ p.
          sym (drop-append_seam (projection loc p w) (projection loc p v))
          ∙ ap (drop (length (projection loc p w))) (sym (filter-append (λ a. has (loc a) p) w v) ∙ k.whole p);
    }

module _ (loc : ℕ → List ℕ) (processes : ℕ) (d : Automaton) (scripts : ℕ → List ℕ) (w : List ℕ) (al : IsAlphabet loc d.letters processes)
    (closed : IsTraceClosed loc d) (f : Fits loc d.letters scripts w) where
  pub rest-word : IsWord d.letters (weave loc d.letters processes (rests loc scripts w))
  rest-word = (weave_is_maximal loc d.letters processes (rests loc scripts w) al).fits.word

  pub joined-word : IsWord d.letters (w ++ weave loc d.letters processes (rests loc scripts w))
  joined-word = All-append (λ a. a < d.letters) w (weave loc d.letters processes (rests loc scripts w)) f.word rest-word

  -- the rest's weave uses up the rests exactly if the weave uses up the scripts
  pub up : Weaves loc d.letters (rests loc scripts w) (weave loc d.letters processes (rests loc scripts w)) →
      Weaves loc d.letters scripts (weave loc d.letters processes scripts)
  up k =
      let v = weave loc d.letters processes (rests loc scripts w) in
      weave_decides loc d.letters processes scripts (w ++ v) al (weaves-join loc d.letters scripts w v f k)

  pub down : Weaves loc d.letters scripts (weave loc d.letters processes scripts) →
      Weaves loc d.letters (rests loc scripts w) (weave loc d.letters processes (rests loc scripts w))
  down k =
      let v = weave loc d.letters processes (rests loc scripts w) in
      weaves-split loc d.letters scripts w v rest-word
      (record { word = joined-word; whole = λ p. rest_is_one_trace loc d.letters processes scripts w al f p ∙ k.whole p })

  -- and they are accepted alike
  pub alike : is_accepted (after d w) (weave loc d.letters processes (rests loc scripts w)) ≡ is_accepted d (weave loc d.letters processes scripts)
  alike =
      let v = weave loc d.letters processes (rests loc scripts w) in
      accepted-after d w v
      ∙ closed (w ++ v) (weave loc d.letters processes scripts) joined-word (weave_is_maximal loc d.letters processes scripts al).fits.word
      (rest_is_one_trace loc d.letters processes scripts w al f)

pub rest_has_the_answer : RestHasTheAnswer
rest_has_the_answer loc processes d scripts w Accept al closed f =
    let a = accept_is_of_the_weave loc processes (after d w) (rests loc scripts w) al (rest_is_closed loc d w f.word closed) in
    let b = accept_is_of_the_weave loc processes d scripts al closed in
    let same = alike loc processes d scripts w al closed f in (
      λ h. let k = a.0 h in b.1 (up loc processes d scripts w al closed f k.0, sym same ∙ k.1),
      λ h. let k = b.0 h in a.1 (down loc processes d scripts w al closed f k.0, same ∙ k.1),
    )
rest_has_the_answer loc processes d scripts w Reject al closed f =
    let a = reject_is_of_the_weave loc processes (after d w) (rests loc scripts w) al (rest_is_closed loc d w f.word closed) in
    let b = reject_is_of_the_weave loc processes d scripts al closed in
    let same = alike loc processes d scripts w al closed f in (
      λ h. let k = a.0 h in b.1 (up loc processes d scripts w al closed f k.0, sym same ∙ k.1),
      λ h. let k = b.0 h in a.1 (down loc processes d scripts w al closed f k.0, same ∙ k.1),
    )
rest_has_the_answer loc processes d scripts w Stuck al closed f =
    let a = stuck_is_of_the_weave loc processes (after d w) (rests loc scripts w) al in
    let b = stuck_is_of_the_weave loc processes d scripts al in (
      λ h. b.1 (λ k. a.0 h (down loc processes d scripts w al closed f k)),
      λ h. a.1 (λ k. b.0 h (up loc processes d scripts w al closed f k)),
    )
