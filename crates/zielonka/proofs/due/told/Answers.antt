use Rattle.std.proofs.Common.{◌↔◌, ℕ, List, length, sym, subst}
use Rattle.std.specs.Prelude.{IsTrue}
use Rattle.za_alpha.specs.Alphabet.{DistributedAlphabet, loc_of}
use Rattle.za_dfa.specs.Tables.{automaton_of}
use Rattle.za_lang.specs.Answers.{data_of}
use Rattle.za_script.specs.Scripts.{Weaves}
use Rattle.za_script.specs.ScriptLists.{script_of}
use Rattle.za_script.specs.Answer.{IsAnswer}
use Rattle.za_script.specs.Woven.{IsWeave}
use Rattle.za_query.specs.declared.query.Said.{Said}
use Rattle.zielonka.specs.declared.request.Command.TheVariants.{Solo}
use Rattle.zielonka.specs.Output.{IsAnswered, Ran, given, status_of}
use Rattle.zielonka.specs.Shown.{TellsAnswer}
use Rattle.zielonka.proofs.DueLemmas.{ok_map, ok_and, stuck-exactly, tells-run}
use Rattle.zielonka.proofs.due.told.Goals as goal
use Rattle.zielonka.proofs.due.told.Goals.{After-answer-answer}

-- the answer of the run is that of the automaton as given to the scripts
right-is : (c : After-answer-answer) → let job = data_of c.args.it.now.job in
    IsAnswer (loc_of job.lang.alphabet) (automaton_of (given job)) (script_of job.scripts) c.answer-answer.result
right-is c =
    let job = data_of c.args.it.now.job in
    subst (IsAnswer (loc_of job.lang.alphabet) (automaton_of (given job)) (script_of job.scripts)) (sym c.answer-answer.ensures.value) c.requires.run.answer

weave-is : (c : After-answer-answer) → IsWeave (data_of c.args.it.now.job).lang.alphabet (data_of c.args.it.now.job).scripts c.in_ok-woven.woven
weave-is c =
    subst (λ (a : DistributedAlphabet). IsWeave a c.args.it.now.job.scripts c.in_ok-woven.woven) c.alphabet.ensures c.in_ok-woven.ensures.weave

pub hope_with-requires-clause-woven : goal.hope_with-requires-clause-woven
hope_with-requires-clause-woven c = (weave-is (goal.at.hope_with-requires-clause-woven c).After-answer-answer).word

pub answered-requires-clause-weave : goal.answered-requires-clause-weave
answered-requires-clause-weave c = weave-is (goal.at.answered-requires-clause-weave c).After-answer-answer

pub answered-requires-clause-stuck : goal.answered-requires-clause-stuck
answered-requires-clause-stuck c =
    let k = (goal.at.answered-requires-clause-stuck c).After-answer-answer in
    let job = data_of c.args.it.now.job in
    let woven = c.in_ok-woven.woven in
    let used : IsTrue woven.whole ↔ Weaves (loc_of job.lang.alphabet) (length job.lang.alphabet.letters) (script_of job.scripts) woven.word =
    subst (λ (a : DistributedAlphabet). IsTrue woven.whole ↔ Weaves (loc_of a) (length a.letters) (script_of job.scripts) woven.word) c.alphabet.ensures
    c.in_ok-woven.ensures.whole in
    stuck-exactly job c.requires.job.job woven (weave-is k).word used c.answer-answer.result (right-is k)

pub returns-clause-answered : goal.returns-clause-answered
returns-clause-answered c =
    let k = (goal.at.returns-clause-answered c).After-answer-answer in
    let job = data_of c.args.it.now.job in
    let cache = c.args.cache in
    let answer = c.answer-answer.result in
    let hope = c.in_ok-hope.hope in
    ok_map c.answered.result _ _
    (λ (said : Said) h claim. subst (λ s. IsAnswered job claim (Solo cache) s said.text.items) (sym h.0)
    (subst (λ (t : List ℕ). IsAnswered job claim (Solo cache) (status_of answer) t) (sym h.1) (Ran cache answer hope (right-is k) c.in_ok-hope.ensures)))
    (ok_and c.answered.result _ _ c.answered.ensures.status c.answered.ensures.text)

pub returns-clause-made : goal.returns-clause-made
returns-clause-made c =
    let job = data_of c.args.it.now.job in
    ok_map c.answered.result _ (λ (said : Said). TellsAnswer job.naming.names c.args.run.now c.args.cache said.text.items)
    (λ (said : Said) text. tells-run job c.answer-answer.result c.in_ok-hope.hope c.args.cache said.text.items c.args.run.now c.requires.run
    c.answer-answer.ensures.value c.in_ok-hope.ensures text)
    c.answered.ensures.text
