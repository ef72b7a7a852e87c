-- What is left of a job after the first events of its weave goes on as the job does.
use Rattle.std.proofs.Common.{◌≡◌, ◌↔◌, ◌∙◌, ap, sym, subst, ℕ, ◌<◌, ◌+◌, List, ◌++◌, Option, refl, length}
use Rattle.std.proofs.lemmas.List.Elements.{All-append}
use Rattle.za_alpha.specs.Words.{IsWord, projection}
use Rattle.za_alpha.specs.Alphabet.{DistributedAlphabet, loc_of}
use Rattle.za_dfa.specs.Automata.{Automaton}
use Rattle.za_dfa.specs.Tables.{CompleteDfa, automaton_of}
use Rattle.za_dfa.specs.Partials.{completion}
use Rattle.za_min.specs.Minimal.{HaveSameLanguage}
use Rattle.za_min.specs.declared.live.Hope.{Hope}
use Rattle.za_min.specs.declared.live.Hope.TheVariants.{Alive, Dead}
use Rattle.za_script.specs.declared.answer.Answer.{Answer}
use Rattle.za_script.specs.declared.answer.Answer.TheVariants.{Accept, Reject, Stuck}
use Rattle.za_script.specs.Answer.{IsAnswer}
use Rattle.za_script.specs.Scripts.{weave, Fits, Weaves}
use Rattle.za_script.specs.ScriptLists.{script_of}
use Rattle.za_script.specs.Woven.{weave_of}
use Rattle.za_script.specs.Rests.{rests, rest_of, after}
use Rattle.za_script.proofs.GoingOn.{cuts_fit, cuts_weave_on, counts_add_up}
use Rattle.za_script.proofs.Alike.{accepted-after, rest_has_the_answer}
use Rattle.za_script.proofs.RestLists.{scripts-rest}
use Rattle.za_hope.specs.Hopes.{IsHopeOf, IsHopeFor}
use Rattle.za_hope.proofs.Hoping.{goes-map, hope_is_of_the_language, rest_has_the_hope}
use Rattle.za_lang.specs.Jobs.{JobData, IsJob}
use Rattle.za_freeze.specs.Frozen.{woven_of, cut_word, after_word, IsAutomatonOf}
use Rattle.za_freeze.specs.Laws.{RestsWeaveOn, RestsCountOn, RestsAnswerAlike, RestsHopeAlike}

-- the answer depends on the language alone
pub answer-moves : (loc : ℕ → List ℕ) (d e : Automaton) (scripts : ℕ → List ℕ) (a : Answer) → d.letters ≡ e.letters → HaveSameLanguage d e →
    IsAnswer loc d scripts a → IsAnswer loc e scripts a
answer-moves loc d e scripts Accept l s h = (h.0, subst (λ m. Weaves loc m scripts h.0) l h.1, sym (s h.0 h.1.word) ∙ h.2)
answer-moves loc d e scripts Reject l s h =
    ((h.0.0, subst (λ m. Weaves loc m scripts h.0.0) l h.0.1), λ w v. let u = subst (λ m. Weaves loc m scripts w) (sym l) v in sym (s w u.word) ∙ h.1 w u)
answer-moves loc d e scripts Stuck l s h = λ w v. h w (subst (λ m. Weaves loc m scripts w) (sym l) v)

-- automata of one language have one language after a word
after-same : (d e : Automaton) (w : List ℕ) → IsWord d.letters w → HaveSameLanguage d e → HaveSameLanguage (after d w) (after e w)
after-same d e w word same v h = accepted-after d w v ∙ same (w ++ v) (All-append (λ a. a < d.letters) w v word h) ∙ sym (accepted-after e w v)

turned : (d e : Automaton) → d.letters ≡ e.letters → HaveSameLanguage d e → HaveSameLanguage e d
turned d e l same w h = sym (same w (subst (λ m. IsWord m w) (sym l) h))

module _ (job : JobData) (k : ℕ) (whole : IsJob job) where
  abbrev loc : ℕ → List ℕ
  loc = loc_of job.lang.alphabet

  abbrev letters : ℕ
  letters = length job.lang.alphabet.letters

  abbrev n : ℕ
  n = job.lang.alphabet.processes

  abbrev scripts : ℕ → List ℕ
  scripts = script_of job.scripts

  abbrev w : List ℕ
  w = cut_word job k

  abbrev left : ℕ → List ℕ
  left = script_of (rest_of job.lang.alphabet job.scripts w)

  left-is : left ≡ rests loc scripts w
  left-is = scripts-rest job.lang.alphabet job.scripts w

  fits : Fits loc letters scripts w
  fits = cuts_fit loc letters n scripts k whole.lang.distributed.located

  pub weaves-on : woven_of job ≡ w ++ weave_of job.lang.alphabet (rest_of job.lang.alphabet job.scripts w)
  weaves-on = cuts_weave_on loc letters n scripts k whole.lang.distributed.located ∙ ap (λ (f : ℕ → List ℕ). w ++ weave loc letters n f) (sym left-is)

  pub counts-on : (p : ℕ) → length (projection loc p w) + length (projection loc p (weave_of job.lang.alphabet (rest_of job.lang.alphabet job.scripts w))) ≡
      length (projection loc p (woven_of job))
  counts-on p =
      ap (λ (f : ℕ → List ℕ). length (projection loc p w) + length (projection loc p (weave loc letters n f))) left-is
      ∙ counts_add_up loc letters n scripts w p whole.lang.distributed.located fits

  module _ (d : CompleteDfa) (au : IsAutomatonOf job d) where
    abbrev given : Automaton
    given = automaton_of (completion job.lang)

    abbrev own : Automaton
    own = automaton_of d

    same-letters : own.letters ≡ given.letters
    same-letters = ap (λ (a : DistributedAlphabet). length a.letters) au.minimal.alphabet

    started : automaton_of (after_word d w) ≡ after own w
    started = refl

    word : IsWord own.letters w
    word = subst (λ m. IsWord m w) (sym same-letters) fits.word

    same : HaveSameLanguage (after own w) (after given w)
    same = after-same own given w word au.minimal.language

    back : HaveSameLanguage (after given w) (after own w)
    back = turned (after own w) (after given w) same-letters same

    pub answer-alike : (a : Answer) → IsAnswer loc (automaton_of (after_word d w)) left a ↔ IsAnswer loc given scripts a
    answer-alike a =
        let rest = rest_has_the_answer loc n given scripts w a whole.lang.distributed.located au.closed fits in (
          λ h.
              rest.0 (answer-moves loc (after own w) (after given w) (rests loc scripts w) a same-letters same
              (subst (λ (f : ℕ → List ℕ). IsAnswer loc (after own w) f a) left-is h)),
          λ h.
              subst (λ (f : ℕ → List ℕ). IsAnswer loc (after own w) f a) (sym left-is)
              (answer-moves loc (after given w) (after own w) (rests loc scripts w) a (sym same-letters) back (rest.1 h)),
        )

    hope-down : (h : Hope) → IsHopeOf loc n (after given w) (rests loc scripts w) h → IsHopeOf loc n given scripts h
    hope-down Alive k = (rest_has_the_hope loc n given scripts w whole.lang.distributed.located au.closed fits).0 k
    hope-down Dead k = λ s. k ((rest_has_the_hope loc n given scripts w whole.lang.distributed.located au.closed fits).1 s)

    hope-up : (h : Hope) → IsHopeOf loc n given scripts h → IsHopeOf loc n (after given w) (rests loc scripts w) h
    hope-up Alive k = (rest_has_the_hope loc n given scripts w whole.lang.distributed.located au.closed fits).1 k
    hope-up Dead k = λ s. k ((rest_has_the_hope loc n given scripts w whole.lang.distributed.located au.closed fits).0 s)

    pub hope-alike : (a : Answer) (hope : Option Hope) → IsHopeFor loc n (automaton_of (after_word d w)) left a hope ↔ IsHopeFor loc n given scripts a hope
    hope-alike a hope = (
      λ h.
          goes-map (IsHopeOf loc n (after own w) left) (IsHopeOf loc n given scripts) a hope
          (λ x k. hope-down x (hope_is_of_the_language loc n (after own w) (after given w) (rests loc scripts w) x same-letters same
          (subst (λ (f : ℕ → List ℕ). IsHopeOf loc n (after own w) f x) left-is k))) h,
      λ h.
          goes-map (IsHopeOf loc n given scripts) (IsHopeOf loc n (after own w) left) a hope
          (λ x k. subst (λ (f : ℕ → List ℕ). IsHopeOf loc n (after own w) f x) (sym left-is)
          (hope_is_of_the_language loc n (after given w) (after own w) (rests loc scripts w) x (sym same-letters) back (hope-up x k))) h,
    )

pub rests_weave_on : RestsWeaveOn
rests_weave_on job k whole = weaves-on job k whole

pub rests_count_on : RestsCountOn
rests_count_on job k p whole = counts-on job k whole p

pub rests_answer_alike : RestsAnswerAlike
rests_answer_alike job d k answer whole au = answer-alike job k whole d au answer

pub rests_hope_alike : RestsHopeAlike
rests_hope_alike job d k answer hope whole au = hope-alike job k whole d au answer hope
