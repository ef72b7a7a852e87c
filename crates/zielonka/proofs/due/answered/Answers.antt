use Rattle.std.proofs.Common.{sym, ap, subst, ◌∙◌}
use Rattle.za_alpha.specs.Alphabet.{DistributedAlphabet, loc_of}
use Rattle.za_dfa.specs.Tables.{automaton_of}
use Rattle.za_lang.specs.Answers.{data_of}
use Rattle.za_script.specs.ScriptLists.{script_of}
use Rattle.za_script.specs.Woven.{IsWeave}
use Rattle.za_hope.specs.Hopes.{IsHopeOf}
use Rattle.za_hope.proofs.Hoping.{hope-exactly}
use Rattle.za_report.specs.Texts.{answer_text}
use Rattle.zielonka.specs.Output.{given}
use Rattle.zielonka.proofs.due.answered.Goals as goal

pub answer_text-requires-clause-woven : goal.answer_text-requires-clause-woven
answer_text-requires-clause-woven c =
    subst (λ (a : DistributedAlphabet). IsWeave a c.args.job.now.scripts c.args.woven.now) (sym c.alphabet.ensures) c.requires.weave

pub answer_text-requires-clause-hope : goal.answer_text-requires-clause-hope
answer_text-requires-clause-hope c =
    let job = data_of c.args.job.now in
    hope-exactly (IsHopeOf (loc_of job.lang.alphabet) job.lang.alphabet.processes (automaton_of (given job)) (script_of job.scripts))
    c.args.answer c.args.hope c.requires.hope

pub returns-clause-text : goal.returns-clause-text
returns-clause-text c =
    let job = data_of c.args.job.now in
    let answer = c.args.answer in
    let hope = c.args.hope in
    let cache = c.args.cache in
    let word = c.args.woven.now.word in
    c.in_ok-text.ensures ∙ ap (λ ns. answer_text ns c.alphabet.result.now job.scripts word answer hope cache) c.names.ensures.value
    ∙ ap (λ (a : DistributedAlphabet). answer_text job.naming.names a job.scripts word answer hope cache) c.alphabet.ensures
    ∙ ap (λ w. answer_text job.naming.names job.lang.alphabet job.scripts w answer hope cache) c.requires.weave.word
