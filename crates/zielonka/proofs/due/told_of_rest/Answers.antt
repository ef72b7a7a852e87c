use Rattle.std.proofs.Common.{◌↔◌, ℕ, List, length, sym, ap, subst, ◌∙◌}
use Rattle.std.specs.Prelude.{IsTrue}
use Rattle.za_alpha.specs.Alphabet.{DistributedAlphabet, loc_of}
use Rattle.za_dfa.specs.Tables.{automaton_of}
use Rattle.za_hope.specs.Jobs.{HasHope}
use Rattle.za_lang.specs.Answers.{data_of}
use Rattle.za_script.specs.declared.answer.Answer.{Answer}
use Rattle.za_script.specs.Scripts.{Weaves}
use Rattle.za_script.specs.ScriptLists.{script_of}
use Rattle.za_script.specs.Answer.{IsAnswer}
use Rattle.za_script.specs.Woven.{IsWeave}
use Rattle.za_report.specs.Texts.{answer_text}
use Rattle.za_query.specs.declared.query.Said.{Said}
use Rattle.zielonka.specs.declared.request.Command.TheVariants.{Solo}
use Rattle.zielonka.specs.Output.{IsAnswered, Ran, Thawed, given, woven_of, status_of}
use Rattle.zielonka.specs.Shown.{IsRestOf, TellsWhole}
use Rattle.zielonka.proofs.DueLemmas.{ok_map, ok_and, stuck-exactly}
use Rattle.zielonka.proofs.RestLemmas.{rest-answers, rest-hopes}
use Rattle.zielonka.proofs.due.told_of_rest.Goals as goal
use Rattle.zielonka.proofs.due.told_of_rest.Goals.{After-answer-answer, In_ok-whole}

-- the run is one of what is left of the job
rest-is : (c : After-answer-answer) → IsRestOf c.requires.rest.0 (data_of c.args.it.now.job) c.args.run.now
rest-is c = c.requires.run c.requires.rest.0 c.requires.rest.1

-- its answer is that of the automaton as given to the scripts
right-is : (c : After-answer-answer) → let job = data_of c.args.it.now.job in
    IsAnswer (loc_of job.lang.alphabet) (automaton_of (given job)) (script_of job.scripts) c.answer-answer.result
right-is c =
    let job = data_of c.args.it.now.job in
    subst (IsAnswer (loc_of job.lang.alphabet) (automaton_of (given job)) (script_of job.scripts)) (sym c.answer-answer.ensures.value)
    (rest-answers c.requires.rest.0 job c.args.run.now c.requires.rest.1.job (rest-is c))

weave-is : (c : In_ok-whole) → IsWeave (data_of c.args.it.now.job).lang.alphabet (data_of c.args.it.now.job).scripts c.in_ok-whole.whole
weave-is c =
    subst (λ (a : DistributedAlphabet). IsWeave a c.args.it.now.job.scripts c.in_ok-whole.whole) c.alphabet.ensures c.in_ok-whole.ensures.weave

pub answered-requires-clause-weave : goal.answered-requires-clause-weave
answered-requires-clause-weave c = weave-is (goal.at.answered-requires-clause-weave c).In_ok-whole

pub answered-requires-clause-stuck : goal.answered-requires-clause-stuck
answered-requires-clause-stuck c =
    let at = goal.at.answered-requires-clause-stuck c in
    let job = data_of c.args.it.now.job in
    let woven = c.in_ok-whole.whole in
    let used : IsTrue woven.whole ↔ Weaves (loc_of job.lang.alphabet) (length job.lang.alphabet.letters) (script_of job.scripts) woven.word =
    subst (λ (a : DistributedAlphabet). IsTrue woven.whole ↔ Weaves (loc_of a) (length a.letters) (script_of job.scripts) woven.word) c.alphabet.ensures
    c.in_ok-whole.ensures.whole in
    stuck-exactly job c.requires.rest.1.job woven (weave-is at.In_ok-whole).word used c.answer-answer.result (right-is at.After-answer-answer)

pub returns-clause-answered : goal.returns-clause-answered
returns-clause-answered c =
    let k = (goal.at.returns-clause-answered c).After-answer-answer in
    let job = data_of c.args.it.now.job in
    let answer = c.answer-answer.result in
    let hope = c.in_ok-hope.hope in
    ok_map c.answered.result _ _
    (λ (said : Said) h claim. Thawed said.status said.text.items
    (subst (λ s. IsAnswered job claim (Solo 0) s said.text.items) (sym h.0)
    (subst (λ (t : List ℕ). IsAnswered job claim (Solo 0) (status_of answer) t) (sym h.1) (Ran 0 answer hope (right-is k) c.in_ok-hope.ensures))))
    (ok_and c.answered.result _ _ c.answered.ensures.status c.answered.ensures.text)

pub returns-clause-made : goal.returns-clause-made
returns-clause-made c =
    let k = (goal.at.returns-clause-made c).After-answer-answer in
    let job = data_of c.args.it.now.job in
    let run = c.args.run.now in
    let hope = c.in_ok-hope.hope in
    let same = c.answer-answer.ensures.value in
    ok_map c.answered.result _ (λ (said : Said). TellsWhole job run said.text.items)
    (λ (said : Said) text. (
      hope,
      rest-hopes c.requires.rest.0 job run c.requires.rest.1.job (rest-is k) hope (subst (λ (a : Answer). HasHope job a hope) same c.in_ok-hope.ensures),
      text ∙ ap (λ (a : Answer). answer_text job.naming.names job.lang.alphabet job.scripts (woven_of job) a hope 0) same,
    ))
    c.answered.ensures.text
