-- What is left of a job, and its runs, by what the layers below say.
use Rattle.std.proofs.Common.{◌≡◌, ◌∙◌, ap, sym, subst, ℕ, List, [], ◌++◌, Option, length, arith}
use Rattle.std.proofs.lemmas.List.{get_or_past}
use Rattle.za_alpha.specs.Words.{IsWord, IsAlphabet, AreEquivalent}
use Rattle.za_alpha.specs.Alphabet.{DistributedAlphabet, loc_of}
use Rattle.za_dfa.specs.Automata.{walk}
use Rattle.za_dfa.specs.Tables.{CompleteDfa, automaton_of, step_of}
use Rattle.za_dfa.proofs.Diamonds.{walk-append}
use Rattle.za_min.specs.declared.live.Hope.{Hope}
use Rattle.za_min.specs.declared.live.Hope.TheVariants.{Alive, Dead}
use Rattle.za_min.specs.Live.{IsHope}
use Rattle.za_hope.specs.Hopes.{IsHopeFor, GoesWith}
use Rattle.za_hope.specs.Jobs.{HasHope}
use Rattle.za_hope.proofs.Hoping.{goes-map}
use Rattle.za_lang.specs.Jobs.{JobData, IsJob}
use Rattle.za_script.specs.declared.answer.Answer.{Answer}
use Rattle.za_script.specs.Answer.{IsAnswer}
use Rattle.za_script.specs.ScriptLists.{script_of, FitAlphabet}
use Rattle.za_script.specs.Woven.{weave_of}
use Rattle.za_script.proofs.Confluence.{weave_is_maximal}
use Rattle.za_script.proofs.RestLists.{rest-fits}
use Rattle.za_machine.specs.Machine.{IsMachine}
use Rattle.za_machine.proofs.States.{reached_weave}
use Rattle.za_table.specs.Tables.{machine_of}
use Rattle.za_table.specs.Ends.{EndedState, answer_in}
use Rattle.za_freeze.specs.Frozen.{woven_of, cut_word, after_word, IsThawed}
use Rattle.za_freeze.specs.Laws.{scripts_left}
use Rattle.za_freeze.proofs.RestOfJobs.{rests_weave_on, rests_answer_alike, rests_hope_alike}
use Rattle.zielonka.specs.Output.{given}
use Rattle.zielonka.specs.Shown.{IsRestOf, IsHopeIn}
use Rattle.zielonka.proofs.DueLemmas.{hope-is}

-- where an automaton starts is nothing to the hope at a state
hope-of-start : (d : CompleteDfa) (w : List ℕ) (q : ℕ) (h : Hope) → IsHope (automaton_of (after_word d w)) q h → IsHope (automaton_of d) q h
hope-of-start d w q Alive k = k
hope-of-start d w q Dead k = k

module _ (bytes : List ℕ) (job : JobData) (closed : CompleteDfa) (rest : List (List ℕ)) (fine : IsJob job) (left : IsThawed bytes job closed rest) where
  abbrev w : List ℕ
  w = cut_word job left.cut

  abbrev d : CompleteDfa
  d = left.dfa

  -- it is over the alphabet of the job
  pub rest-alphabet : closed.alphabet ≡ job.lang.alphabet
  rest-alphabet = ap (λ (e : CompleteDfa). e.alphabet) left.started ∙ left.automaton.minimal.alphabet

  -- what is left of the scripts fits it
  pub rest-fit : FitAlphabet closed.alphabet rest
  rest-fit =
      subst (λ (a : DistributedAlphabet). FitAlphabet a rest) (sym rest-alphabet)
      (subst (λ (s : List (List ℕ)). FitAlphabet job.lang.alphabet s) (sym left.rest) (rest-fits job.lang.alphabet job.scripts w fine.fit))

  -- the weave is a word over its letters
  pub rest-word : IsWord (length closed.alphabet.letters) (weave_of closed.alphabet rest)
  rest-word =
      let alphabet = job.lang.alphabet in
      subst (λ (a : DistributedAlphabet). IsWord (length a.letters) (weave_of a rest)) (sym rest-alphabet)
      (weave_is_maximal (loc_of alphabet) (length alphabet.letters) alphabet.processes (script_of rest) fine.lang.distributed.located).fits.word

  -- and leads to where the weave of the job leads
  rest-leads : walk (step_of closed) closed.start (weave_of closed.alphabet rest) ≡ walk (step_of d) d.start (woven_of job)
  rest-leads =
      let alphabet = job.lang.alphabet in
      let v : List ℕ = weave_of alphabet rest in
      let on : woven_of job ≡ w ++ v = rests_weave_on job left.cut fine ∙ ap (λ (s : List (List ℕ)). w ++ weave_of alphabet s) (sym left.rest) in
      ap (λ (a : DistributedAlphabet). walk (step_of closed) closed.start (weave_of a rest)) rest-alphabet
      ∙ ap (λ (e : CompleteDfa). walk (step_of e) e.start v) left.started
      ∙ sym (walk-append (step_of d) d.start w v) ∙ ap (walk (step_of d) d.start) (sym on)

  -- so the hope there is that of the job
  pub rest-hope : (answer : Answer) (hope : Option Hope) →
      GoesWith (IsHope (automaton_of closed) (walk (step_of closed) closed.start (weave_of closed.alphabet rest))) answer hope → HasHope job answer hope
  rest-hope answer hope goes =
      let q : ℕ = walk (step_of d) d.start (woven_of job) in
      let there = subst (λ r. GoesWith (IsHope (automaton_of closed) r) answer hope) rest-leads goes in
      let started = subst (λ (e : CompleteDfa). GoesWith (IsHope (automaton_of e) q) answer hope) left.started there in
      hope-is job d fine left.automaton.closed left.automaton.minimal answer hope
      (goes-map (IsHope (automaton_of (after_word d w)) q) (IsHope (automaton_of d) q) answer hope (λ h k. hope-of-start d w q h k) started)

module _ (bytes : List ℕ) (job : JobData) (run : EndedState) (fine : IsJob job) (of : IsRestOf bytes job run) where
  abbrev start : CompleteDfa
  start = after_word of.thawed.dfa (cut_word job of.thawed.cut)

  abbrev left : List (List ℕ)
  left = scripts_left job of.thawed.cut

  abbrev loc : ℕ → List ℕ
  loc = loc_of job.lang.alphabet

  same : run.given.dfa.alphabet ≡ job.lang.alphabet
  same = rest-alphabet bytes job run.given.dfa run.given.scripts fine of.thawed

  -- the answer of the run is that of the job
  pub rest-answers : IsAnswer loc (automaton_of (given job)) (script_of job.scripts) (answer_in run)
  rest-answers =
      let a : Answer = answer_in run in
      let own : IsAnswer loc (automaton_of run.given.dfa) (script_of run.given.scripts) a =
      subst (λ (b : DistributedAlphabet). IsAnswer (loc_of b) (automaton_of run.given.dfa) (script_of run.given.scripts) a) same of.answer in
      (rests_answer_alike job of.thawed.dfa of.thawed.cut a fine of.thawed.automaton).0
      (subst (λ (s : List (List ℕ)). IsAnswer loc (automaton_of start) (script_of s) a) of.thawed.rest
      (subst (λ (e : CompleteDfa). IsAnswer loc (automaton_of e) (script_of run.given.scripts) a) of.thawed.started own))

  -- and the hope of the job is that of the run
  pub rest-hopes : (hope : Option Hope) → HasHope job (answer_in run) hope → IsHopeIn run hope
  rest-hopes hope goes =
      let a : Answer = answer_in run in
      let n : ℕ = job.lang.alphabet.processes in
      let own : IsHopeFor loc n (automaton_of start) (script_of left) a hope =
      (rests_hope_alike job of.thawed.dfa of.thawed.cut a hope fine of.thawed.automaton).1 goes in
      subst (λ (b : DistributedAlphabet). IsHopeFor (loc_of b) b.processes (automaton_of run.given.dfa) (script_of run.given.scripts) a hope) (sym same)
      (subst (λ (e : CompleteDfa). IsHopeFor loc n (automaton_of e) (script_of run.given.scripts) a hope) (sym of.thawed.started)
      (subst (λ (s : List (List ℕ)). IsHopeFor loc n (automaton_of start) (script_of s) a hope) (sym of.thawed.rest) own))

  -- what it fired is equivalent to the weave of what was left
  pub rest-weaves : AreEquivalent loc run.state.journal (weave_of job.lang.alphabet run.given.scripts)
  rest-weaves =
      let fit : FitAlphabet run.given.dfa.alphabet run.given.scripts = rest-fit bytes job run.given.dfa run.given.scripts fine of.thawed in
      let machine : IsMachine (machine_of run.given) = record {
        alphabet = subst (λ (b : DistributedAlphabet). IsAlphabet (loc_of b) (length b.letters) b.processes) (sym same) fine.lang.distributed.located;
        beyond = λ p h. get_or_past run.given.scripts p [] (let e = fit.processes in omega arith);
      } in
      subst (λ (b : DistributedAlphabet). AreEquivalent (loc_of b) run.state.journal (weave_of b run.given.scripts)) same
      (reached_weave (machine_of run.given) run.state machine of.over.reached of.over.over)
