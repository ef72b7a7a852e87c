-- The answer to scripts is that of the weave alone.
use Rattle.std.proofs.Common.{◌≡◌, ℕ, Bool, true, false, List, refl, sym, ◌∙◌}
use Rattle.std.specs.Prelude.{if◌then◌else◌}
use Rattle.za_dfa.specs.Automata.{Automaton, is_accepted, IsTraceClosed}
use Rattle.za_script.specs.Scripts.{weave, Weaves}
use Rattle.za_script.specs.declared.answer.Answer.TheVariants.{Accept, Reject, Stuck}
use Rattle.za_script.specs.Answer.{IsAnswer}
use Rattle.za_script.specs.Laws.{AcceptIsOfTheWeave, RejectIsOfTheWeave, StuckIsOfTheWeave, MaximalWordsHaveTheAnswer}
use Rattle.za_script.proofs.Confluence.{weave_decides, maximal_words_weave}

-- words that weave the same scripts are accepted alike
weave-alike : (loc : ℕ → List ℕ) (d : Automaton) (scripts : ℕ → List ℕ) (u v : List ℕ) → IsTraceClosed loc d → Weaves loc d.letters scripts u →
    Weaves loc d.letters scripts v →
    is_accepted d u ≡ is_accepted d v
weave-alike loc d scripts u v closed ku kv = closed u v ku.word kv.word (λ p. ku.whole p ∙ sym (kv.whole p))

pub accept_is_of_the_weave : AcceptIsOfTheWeave
accept_is_of_the_weave loc processes d scripts al closed =
    let w = weave loc d.letters processes scripts in (
      λ h. let k = weave_decides loc d.letters processes scripts h.0 al h.1 in (k, weave-alike loc d scripts w h.0 closed k h.1 ∙ h.2),
      λ h. (w, h.0, h.1),
    )

pub reject_is_of_the_weave : RejectIsOfTheWeave
reject_is_of_the_weave loc processes d scripts al closed =
    let w = weave loc d.letters processes scripts in (
      λ h. let k = weave_decides loc d.letters processes scripts h.0.0 al h.0.1 in (k, h.1 w k),
      λ h. ((w, h.0), λ u k. weave-alike loc d scripts u w closed k h.0 ∙ h.1),
    )

pub stuck_is_of_the_weave : StuckIsOfTheWeave
stuck_is_of_the_weave loc processes d scripts al =
    (λ h k. h (weave loc d.letters processes scripts) k, λ h w k. h (weave_decides loc d.letters processes scripts w al k))

-- by whether the word weaves the scripts, and is accepted
answer-by : (loc : ℕ → List ℕ) (d : Automaton) (scripts : ℕ → List ℕ) (w : List ℕ) → IsTraceClosed loc d → (whole accepted : Bool) →
    is_accepted d w ≡ accepted →
    (whole ≡ true → Weaves loc d.letters scripts w) → ((v : List ℕ) → Weaves loc d.letters scripts v → whole ≡ true) →
    IsAnswer loc d scripts (if whole then (if accepted then Accept else Reject) else Stuck)
answer-by loc d scripts w closed true true e up down = (w, up refl, e)
answer-by loc d scripts w closed true false e up down = ((w, up refl), λ v k. weave-alike loc d scripts v w closed k (up refl) ∙ e)
answer-by loc d scripts w closed false accepted e up down = λ v k. let z : false ≡ true = down v k in cc

pub maximal_words_have_the_answer : MaximalWordsHaveTheAnswer
maximal_words_have_the_answer loc processes d scripts woven al closed full used =
    answer-by loc d scripts woven.word closed woven.whole (is_accepted d woven.word) refl used.0
    (λ v k. used.1 (maximal_words_weave loc d.letters processes scripts woven.word al (weave_decides loc d.letters processes scripts v al k) full))
