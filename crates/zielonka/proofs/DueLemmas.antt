-- What is due, by what the layers below answer.
use Rattle.std.proofs.Common.{◌≡◌, ℕ, ◌↔◌, inl, inr, true, false, List, [], length, Result, Ok, Err, sym, ap, subst, ◌∙◌, arith}
use Rattle.std.specs.Prelude.{Bool, IsTrue, IfOk, Option}
use Rattle.std.proofs.lemmas.Bool.{cases_Bool}
use Rattle.std.proofs.lemmas.List.{get_or_past}
use Rattle.za_alpha.specs.Words.{IsWord, IsAlphabet, AreEquivalent}
use Rattle.za_alpha.specs.Alphabet.{DistributedAlphabet, loc_of}
use Rattle.za_dfa.specs.Automata.{Automaton, walk, IsTraceClosed}
use Rattle.za_dfa.specs.Tables.{CompleteDfa, automaton_of, step_of}
use Rattle.za_min.specs.declared.live.Hope.{Hope}
use Rattle.za_min.specs.Live.{IsHope}
use Rattle.za_min.specs.Minimal.{HaveSameLanguage, IsMinimalOf}
use Rattle.za_lang.specs.Jobs.{JobData, IsJob}
use Rattle.za_report.specs.Texts.{answer_text}
use Rattle.za_script.specs.declared.answer.Answer.{Answer}
use Rattle.za_script.specs.declared.answer.Answer.TheVariants.{Stuck}
use Rattle.za_script.specs.Scripts.{FitsMaximally, Weaves}
use Rattle.za_script.specs.ScriptLists.{script_of, FitAlphabet}
use Rattle.za_script.specs.Woven.{WovenWord, weave_of}
use Rattle.za_script.specs.Answer.{IsAnswer}
use Rattle.za_script.proofs.Answers.{stuck_is_of_the_weave}
use Rattle.za_script.proofs.Confluence.{weave_is_maximal}
use Rattle.za_hope.specs.Hopes.{IsHopeOf, IsHopeFor, GoesWith}
use Rattle.za_hope.proofs.Hoping.{goes-map, hope_is_of_the_state, hope_is_of_the_language}
use Rattle.za_hope.specs.Jobs.{HasHope}
use Rattle.za_freeze.proofs.RestOfJobs.{answer-moves}
use Rattle.za_machine.specs.Machine.{IsMachine}
use Rattle.za_machine.proofs.States.{reached_maximal, reached_weave}
use Rattle.za_table.specs.Tables.{Given, machine_of}
use Rattle.za_table.specs.Ends.{EndedState, IsEnded, HasAnswer, answer_in}
use Rattle.zielonka.specs.Output.{given, woven_of}
use Rattle.zielonka.specs.Shown.{IsClosed, IsRunOf, IsHopeIn, TellsAnswer, answer_text_of}
use Rattle.zielonka.proofs.OneOutput.{answer-one}

-- what holds of each value holds of the one in an Ok
pub ok_map : {T E : Type 0} (r : Result T E) (P Q : T → Type 0) → ((x : T) → P x → Q x) → IfOk r P → IfOk r Q
ok_map (Ok x) P Q f p = f x p
ok_map (Err e) P Q f p = p

-- and what holds of both
pub ok_and : {T E : Type 0} (r : Result T E) (P Q : T → Type 0) → IfOk r P → IfOk r Q → IfOk r (λ x. P x × Q x)
ok_and (Ok x) P Q p q = (p, q)
ok_and (Err e) P Q p q = p

-- the answer of a minimal automaton is that of the automaton as given
run-answers : (d g : CompleteDfa) (scripts : ℕ → List ℕ) (a : Answer) → d.alphabet ≡ g.alphabet → HaveSameLanguage (automaton_of d) (automaton_of g) →
    IsAnswer (loc_of d.alphabet) (automaton_of d) scripts a → IsAnswer (loc_of g.alphabet) (automaton_of g) scripts a
run-answers d g scripts a e same h =
    answer-moves (loc_of g.alphabet) (automaton_of d) (automaton_of g) scripts a (ap (λ (k : DistributedAlphabet). length k.letters) e) same
    (subst (λ (k : DistributedAlphabet). IsAnswer (loc_of k) (automaton_of d) scripts a) e h)

-- a run on a minimal automaton and the scripts of a job is one of the job
pub run-is : (job : JobData) (d : CompleteDfa) (run : EndedState) → IsMinimalOf d (given job) → run.given ≡ record { dfa = d; scripts = job.scripts } →
    IsEnded run → HasAnswer run → IsRunOf job run
run-is job d run minimal e over right = record {
  minimal = subst (λ (g : Given). IsMinimalOf g.dfa (given job)) (sym e) minimal;
  scripts = ap (λ (g : Given). g.scripts) e;
  over = over;
  answer = run-answers d (given job) (script_of job.scripts) (answer_in run) minimal.alphabet minimal.language
      (subst (λ (g : Given). IsAnswer (loc_of g.dfa.alphabet) (automaton_of g.dfa) (script_of g.scripts) (answer_in run)) e right);
}

-- what is not so is false
not-true : (b : Bool) → (b ≡ true → ⊥) → b ≡ false
not-true b h = elim (cases_Bool b) [ inl t ↦ absurd (h t) | inr f ↦ f ]

-- the answer to the scripts of a job is stuck exactly where the weave doesn't use them up
pub stuck-exactly : (job : JobData) → IsJob job → (woven : WovenWord) → woven.word ≡ woven_of job →
    (IsTrue woven.whole ↔ Weaves (loc_of job.lang.alphabet) (length job.lang.alphabet.letters) (script_of job.scripts) woven.word) →
    (answer : Answer) → IsAnswer (loc_of job.lang.alphabet) (automaton_of (given job)) (script_of job.scripts) answer →
    ((answer ≡ Stuck) ↔ (woven.whole ≡ false))
stuck-exactly job fine woven word used answer right =
    let loc = loc_of job.lang.alphabet in
    let d = automaton_of (given job) in
    let scripts = script_of job.scripts in
    let law = stuck_is_of_the_weave loc job.lang.alphabet.processes d scripts fine.lang.distributed.located in
    let whole = subst (λ w. IsTrue woven.whole ↔ Weaves loc (length job.lang.alphabet.letters) scripts w) word used in (
      λ e. not-true woven.whole (λ t. law.0 (subst (IsAnswer loc d scripts) e right) (whole.0 t)),
      λ f. answer-one loc d scripts answer Stuck right (law.1 (λ v. let t = whole.1 v in let both : true ≡ false = sym t ∙ f in absurd (cc))),
    )

-- the text of an answer is that of its run
text-of-run : (job : JobData) (hope : Option Hope) (cache : ℕ) (text : List ℕ) (run : EndedState) → IsRunOf job run →
    text ≡ answer_text job.naming.names job.lang.alphabet job.scripts (woven_of job) (answer_in run) hope cache →
    text ≡ answer_text_of job.naming.names run hope cache
text-of-run job hope cache text run of e =
    e ∙ ap (λ (a : DistributedAlphabet). answer_text job.naming.names a job.scripts (weave_of a job.scripts) (answer_in run) hope cache)
    (sym of.minimal.alphabet)
    ∙ ap (λ (s : List (List ℕ)). answer_text job.naming.names run.given.dfa.alphabet s (weave_of run.given.dfa.alphabet s) (answer_in run) hope cache)
    (sym of.scripts)

-- the woven word is one over the letters of a minimal automaton
pub woven-word : (job : JobData) (d : CompleteDfa) → IsJob job → IsMinimalOf d (given job) → IsWord (length d.alphabet.letters) (woven_of job)
woven-word job d fine minimal =
    let loc = loc_of job.lang.alphabet in
    let m : ℕ = length job.lang.alphabet.letters in
    subst (λ (k : DistributedAlphabet). IsWord (length k.letters) (woven_of job)) (sym minimal.alphabet)
    (weave_is_maximal loc m job.lang.alphabet.processes (script_of job.scripts) fine.lang.distributed.located).fits.word

-- the hope that goes with an answer is that of the state of a minimal automaton after the woven word
pub hope-is : (job : JobData) (d : CompleteDfa) → IsJob job → IsClosed job → IsMinimalOf d (given job) → (answer : Answer) (hope : Option Hope) →
    GoesWith (IsHope (automaton_of d) (walk (step_of d) d.start (woven_of job))) answer hope → HasHope job answer hope
hope-is job d fine closed minimal answer hope goes =
    let loc = loc_of job.lang.alphabet in
    let n : ℕ = job.lang.alphabet.processes in
    let a : Automaton = automaton_of d in
    let g : Automaton = automaton_of (given job) in
    let scripts = script_of job.scripts in
    let w : List ℕ = woven_of job in
    let letters : a.letters ≡ g.letters = ap (λ (k : DistributedAlphabet). length k.letters) minimal.alphabet in
    let located : IsAlphabet loc g.letters n = fine.lang.distributed.located in
    let full : FitsMaximally loc a.letters scripts w =
    subst (λ m. FitsMaximally loc m scripts w) (sym letters) (weave_is_maximal loc g.letters n scripts located) in
    let also : IsTraceClosed loc a = λ u v hu hv e. minimal.language u hu
    ∙ closed u v (subst (λ m. IsWord m u) letters hu) (subst (λ m. IsWord m v) letters hv) e ∙ sym (minimal.language v hv) in
    goes-map (IsHope a (walk a.step a.start w)) (IsHopeOf loc n g scripts) answer hope
    (λ h there. hope_is_of_the_language loc n a g scripts h letters minimal.language
    ((hope_is_of_the_state loc n a scripts w h (subst (λ m. IsAlphabet loc m n) (sym letters) located) also full).1 there)) goes

-- and the hope of a job's run
hope-of-run : (job : JobData) (run : EndedState) → IsRunOf job run → (hope : Option Hope) → HasHope job (answer_in run) hope → IsHopeIn run hope
hope-of-run job run of hope goes =
    let d : CompleteDfa = run.given.dfa in
    let a : Automaton = automaton_of d in
    let g : Automaton = automaton_of (given job) in
    let n : ℕ = job.lang.alphabet.processes in
    let loc = loc_of job.lang.alphabet in
    let answer : Answer = answer_in run in
    let letters : g.letters ≡ a.letters = ap (λ (k : DistributedAlphabet). length k.letters) (sym of.minimal.alphabet) in
    let same : HaveSameLanguage g a = λ w h. sym (of.minimal.language w (subst (λ m. IsWord m w) letters h)) in
    subst (λ (k : DistributedAlphabet). IsHopeFor (loc_of k) k.processes a (script_of run.given.scripts) answer hope) (sym of.minimal.alphabet)
    (subst (λ (s : List (List ℕ)). IsHopeFor loc n a (script_of s) answer hope) (sym of.scripts)
    (goes-map (IsHopeOf loc n g (script_of job.scripts)) (IsHopeOf loc n a (script_of job.scripts)) answer hope
    (λ h. hope_is_of_the_language loc n g a (script_of job.scripts) h letters same) goes))

-- so the text of a job's answer and hope tells those of its run
pub tells-run : (job : JobData) (answer : Answer) (hope : Option Hope) (cache : ℕ) (text : List ℕ) (run : EndedState) → IsRunOf job run →
    answer ≡ answer_in run → HasHope job answer hope →
    text ≡ answer_text job.naming.names job.lang.alphabet job.scripts (woven_of job) answer hope cache → TellsAnswer job.naming.names run cache text
tells-run job answer hope cache text run of same goes e = (
  hope,
  hope-of-run job run of hope (subst (λ (k : Answer). HasHope job k hope) same goes),
  text-of-run job hope cache text run of
      (e ∙ ap (λ (k : Answer). answer_text job.naming.names job.lang.alphabet job.scripts (woven_of job) k hope cache) same),
)

-- a run of a job is over the job's alphabet and scripts, so the order in which its letters were fired is one of the job
module _ (job : JobData) (run : EndedState) (fine : IsJob job) (of : IsRunOf job run) where
  same : run.given.dfa.alphabet ≡ job.lang.alphabet
  same = of.minimal.alphabet

  machine : IsMachine (machine_of run.given)
  machine =
      let fit : FitAlphabet run.given.dfa.alphabet run.given.scripts = subst (λ (s : List (List ℕ)). FitAlphabet run.given.dfa.alphabet s) (sym of.scripts)
      (subst (λ (b : DistributedAlphabet). FitAlphabet b job.scripts) (sym same) fine.fit) in
      record {
        alphabet = subst (λ (b : DistributedAlphabet). IsAlphabet (loc_of b) (length b.letters) b.processes) (sym same) fine.lang.distributed.located;
        beyond = λ p h. get_or_past run.given.scripts p [] (let e = fit.processes in omega arith);
      }

  -- it is equivalent to the weave
  pub run-weaves : AreEquivalent (loc_of job.lang.alphabet) run.state.journal (woven_of job)
  run-weaves =
      let woven : AreEquivalent (loc_of run.given.dfa.alphabet) run.state.journal (weave_of run.given.dfa.alphabet run.given.scripts) =
      reached_weave (machine_of run.given) run.state machine of.over.reached of.over.over in
      subst (λ (b : DistributedAlphabet). AreEquivalent (loc_of b) run.state.journal (weave_of b job.scripts)) same
      (subst (λ (s : List (List ℕ)). AreEquivalent (loc_of run.given.dfa.alphabet) run.state.journal (weave_of run.given.dfa.alphabet s)) of.scripts woven)

  -- and fits the scripts maximally
  pub run-maximal : FitsMaximally (loc_of job.lang.alphabet) (length job.lang.alphabet.letters) (script_of job.scripts) run.state.journal
  run-maximal =
      let fits = reached_maximal (machine_of run.given) run.state machine of.over.reached of.over.over in
      subst (λ (b : DistributedAlphabet). FitsMaximally (loc_of b) (length b.letters) (script_of job.scripts) run.state.journal) same
      (subst (λ (s : List (List ℕ)). FitsMaximally (loc_of run.given.dfa.alphabet) (length run.given.dfa.alphabet.letters) (script_of s) run.state.journal)
      of.scripts fits)
